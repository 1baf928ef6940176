-- One value a seat, in a table of 64 places.
use Rattle.std.specs.Prelude.{ℕ, cond, List, ltb, get_or, set}

-- Value k; past the 64th what stands for none.
unfoldable pub value_at : {A : Type 0} → List A → ℕ → A → A
value_at t k none = cond (ltb k 64) (get_or t k none) none

-- The table with x as value k; past the 64th nothing changes.
unfoldable pub with_value : {A : Type 0} → List A → ℕ → A → List A
with_value t k x = cond (ltb k 64) (set t k x) t
