-- The mask of all seats below n, as the code makes it, and comparing with it.
use Prim.Native.Nat.{ℕ, ◌*◌, ◌-◌, ◌%◌, ◌^◌, ◌≤◌, ◌<◌}
use mathlib.Core.Path.{◌≡◌, refl, sym, ap, ◌∙◌}
use mathlib.Core.Bool.{Bool, true, false}
use native.Mathlib.Omega.{arith}
use native.Mathlib.Nat.{lt_of_lt_of_le}
use lib.Dec.{leb, ltb, lit<}
use lib.Pow.{pow_mono, shl_exact}
use borrow.Author.Tests.{leb-true, leb-false, lt-ltb, le-ltb, le-leb}
use Rattle.seats.specs.Mask.{mask, packed, rows_of, within}
use Rattle.seats.specs.Marks.{full_is, rows_is, rows_past}

pub all_below : (n : ℕ) → n < 64 → (1 * 2 ^ n) % 2 ^ 64 - 1 ≡ mask (λ k. true) (rows_of n)
all_below n h =
    let shift : (1 * 2 ^ n) % 2 ^ 64 ≡ 1 * 2 ^ n = shl_exact 1 n 64 (lit< tt) (omega arith) in
    let all : (1 * 2 ^ n) % 2 ^ 64 - 1 ≡ mask (λ k. true) n = omega (arith, shift, full_is 0 n) in
    all ∙ sym (ap (mask (λ k. true)) (rows_is n (omega arith)))

pub all_there_are : (n : ℕ) → 64 ≤ n → 0xffffffffffffffff ≡ mask (λ k. true) (rows_of n)
unfolding packed
all_there_are n h = sym (ap (mask (λ k. true)) (rows_past n h))

-- A number of 64 bits is at most the mask of all seats below n exactly if it is below the n-th power.
pub at_most : (m n a : ℕ) → m < 2 ^ 64 → a ≡ mask (λ k. true) (rows_of n) → leb m a ≡ within m n
at_most m n a h e = ap (leb m) e ∙ by (leb n 64) refl
  where
    by : (b : Bool) → leb n 64 ≡ b → leb m (mask (λ k. true) (rows_of n)) ≡ ltb m (2 ^ n)
    by true e = ap (λ x. leb m (mask (λ k. true) x)) (rows_is n (leb-true n 64 e)) ∙ go (leb m (mask (λ k. true) n)) refl
      where
        go : (t : Bool) → leb m (mask (λ k. true) n) ≡ t → leb m (mask (λ k. true) n) ≡ ltb m (2 ^ n)
        go true q = q ∙ sym (lt-ltb m (2 ^ n) (omega (arith, leb-true m (mask (λ k. true) n) q, full_is 0 n)))
        go false q = q ∙ sym (le-ltb m (2 ^ n) (omega (arith, leb-false m (mask (λ k. true) n) q, full_is 0 n)))
    by false e =
        let past = leb-false n 64 e in
        ap (leb m) (ap (mask (λ k. true)) (rows_past n (omega arith))) ∙ le-leb m (mask (λ k. true) 64) (omega (arith, full_is 0 64))
        ∙ sym (lt-ltb m (2 ^ n) (lt_of_lt_of_le h (pow_mono (let z : 64 ≤ n = omega arith in z))))
