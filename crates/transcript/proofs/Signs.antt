-- A number with its sign, as the code takes it apart.
use Prim.Native.Nat.{ℕ, ◌<◌, ◌^◌}
use mathlib.Core.Path.{◌≡◌, refl, sym, ap, ◌∙◌, subst}
use mathlib.Core.Bool.{true, false}
use mathlib.Core.List.{◌∷◌}
use native.Mathlib.Omega.{arith}
use lib.Dec.{T}
use lib.IntN.{ℤ, pos, negsuc, nat_abs}
use lib.Signed.{mag, non_neg, lt_z}
use mir.Syntax.{w32, w64}
use mir.Val.{Fits, SFits, to_z, of_z}
use mir.Facts.{to_z-of_z}
use borrow.Author.Tests.{ltb-true}
use Rattle.base.specs.Tests.{true≢false}
use Rattle.text.specs.Digits.{decimal}
use Rattle.messages.specs.Lines.{dash}
use Rattle.transcript.specs.Printed.{signed}

-- m is −(n + 1).
record Below (m : ℤ) : Type 0 where
  pub n : ℕ
  pub is : m ≡ negsuc n

below : (m : ℤ) → lt_z m (pos 0) ≡ true → Below m
below (pos n) h = absurd (omega (arith, ltb-true n 0 h))
below (negsuc n) h = record { n = n; is = refl }

-- m is n.
record Counted (m : ℤ) : Type 0 where
  pub n : ℕ
  pub is : m ≡ pos n

counted : (m : ℤ) → lt_z m (pos 0) ≡ false → Counted m
counted (pos n) h = record { n = n; is = refl }
counted (negsuc n) h = true≢false h

module _ (m : ℤ) (f : SFits w32 m) where
  -- m as it is passed.
  abbrev seen : ℤ
  seen = to_z w32 (of_z w32 m)

  seen_is : seen ≡ m
  seen_is = to_z-of_z f

  module _ (neg : lt_z seen (pos 0) ≡ true) where
    here : Below m
    here = below m (ap (λ (z : ℤ). lt_z z (pos 0)) (sym seen_is) ∙ neg)

    pub below_zero : dash ∷ decimal (nat_abs seen) ≡ signed m
    unfolding signed
    below_zero = ap (λ (z : ℤ). dash ∷ decimal (nat_abs z)) (seen_is ∙ here.is) ∙ sym (ap signed here.is)

  module _ (neg : lt_z seen (pos 0) ≡ false) where
    there : Counted m
    there = counted m (ap (λ (z : ℤ). lt_z z (pos 0)) (sym seen_is) ∙ neg)

    pub seen_fits : T (non_neg seen) × Fits w64 (nat_abs seen)
    seen_fits =
        let small : there.n < 2 ^ 31 = subst (λ (z : ℤ). mag z < 2 ^ 31) there.is f.sfits in
        subst (λ (z : ℤ). T (non_neg z) × Fits w64 (nat_abs z)) (sym (seen_is ∙ there.is)) (tt, record { fits = omega arith })

    pub no_sign : decimal (nat_abs seen) ≡ signed m
    unfolding signed
    no_sign = ap (λ (z : ℤ). decimal (nat_abs z)) (seen_is ∙ there.is) ∙ sym (ap signed there.is)
