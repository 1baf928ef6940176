-- Choosing the larger of two numbers.
use Rattle.std.specs.Prelude.{ℕ, ◌≤◌, ◌≡◌, refl, Bool, true, false, cond, ltb}
use Rattle.std.proofs.Common.{arith, ltb-true, ltb-false}

abbrev pub larger : ℕ → ℕ → ℕ
larger a b = cond (ltb a b) b a

-- It is at least each of the two, and no more than any number that is.
pub larger_bounds : (a b : ℕ) → (a ≤ larger a b) × (b ≤ larger a b) × ((c : ℕ) → a ≤ c → b ≤ c → larger a b ≤ c)
larger_bounds a b = go (ltb a b) refl
  where
    go : (t : Bool) → ltb a b ≡ t → (a ≤ cond t b a) × (b ≤ cond t b a) × ((c : ℕ) → a ≤ c → b ≤ c → cond t b a ≤ c)
    go true e = let h = ltb-true a b e in (omega arith, omega arith, λ c p q. q)
    go false e = let h = ltb-false a b e in (omega arith, omega arith, λ c p q. p)
