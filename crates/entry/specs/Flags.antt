-- Laws of Bool for an order that goes step by step.
use Rattle.std.specs.Prelude.{◌≡◌, refl, Bool, true, false, ◌&&◌, ◌||◌}

-- Two steps of an order are one step: each is "less, or equal and what the rest says".
pub two_steps : (l e m f r : Bool) → (l || (e && (m || (f && r)))) ≡ ((l || (e && m)) || ((e && f) && r))
two_steps true e m f r = refl
two_steps false true m f r = refl
two_steps false false m f r = refl

-- The last step has no rest that is less.
pub last_step : (l e : Bool) → (l || (e && false)) ≡ l
last_step true e = refl
last_step false true = refl
last_step false false = refl
