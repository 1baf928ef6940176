-- A row that half of the seats have: no other is had by more.
use Prim.Native.Nat.{ℕ, zero, suc, ◌+◌, ◌*◌, ◌≤◌}
use mathlib.Core.Bool.{Bool, true, false, ◌&&◌, ◌||◌}
use mathlib.Core.Path.{◌≡◌, refl, sym, ap, ap₂, ◌∙◌}
use mathlib.Core.Logic.{inl, inr}
use native.Mathlib.Omega.{arith}
use native.Mathlib.Numerals.{add-one}
use native.Mathlib.Nat.{le_antisymm}
use lib.Dec.{leb}
use mir.Val.{bool_byte}
use borrow.Author.Tests.{leb-true, leb-false}
use Rattle.base.specs.Tests.{and_l, and_r, and_true, is_true, same_test}
use Rattle.seats.specs.Seats.{b2n, count}
use Rattle.seats.specs.Count.{count_le, count_ext, count_some, count_union}
use Rattle.seats.specs.Mask.{rows_of}
use Rattle.acks.specs.declared.AckRow.{AckRow}
use Rattle.acks.specs.declared.Acks.{Acks}
use Rattle.acks.specs.Acks.{row_of, is_filled, shares, is_sharer, sharing, most}
use Rattle.acks.specs.RowLaws.{shares_eq}
use Rattle.acks.specs.MostLaws.{sharer_is, most_all, most_reached, most_rows}

-- ---- a loop that goes up: count += test(k) as u32
pub count_none : (p : ℕ → Bool) → 0 ≡ count p 0
unfolding count
count_none p = refl

pub count_step : (p : ℕ → Bool) (k c : ℕ) (b : Bool) → c ≡ count p k → b ≡ p k → c + bool_byte b ≡ count p (k + 1)
unfolding count
count_step p k c b e h = ap₂ (λ x y. x + bool_byte y) e h ∙ go (p k) ∙ sym (ap (count p) (add-one k))
  where
    go : (b : Bool) → count p k + bool_byte b ≡ b2n b + count p k
    go true = omega arith
    go false = omega arith

-- The seats that have rows are no more than there are seats.
rows_few : (n : ℕ) → rows_of n ≤ n
rows_few n = go (leb n 64) refl
  where
    go : (b : Bool) → leb n 64 ≡ b → rows_of n ≤ n
    go true e = rw e (omega arith)
    go false e = rw e (omega (arith, leb-false n 64 e))

module _ (n : ℕ) (row : ℕ → AckRow) (a : AckRow) where
  -- Whoever has a filled row shares it.
  alike_sharing : is_filled a ≡ true → sharing n row a ≡ count (λ k. shares (row k) a) n
  unfolding sharing
  alike_sharing f = count_ext (is_sharer row a) (λ k. shares (row k) a) n (λ k l.
      same_test (is_sharer row a k) (shares (row k) a)
      (λ h. (and_true (is_filled (row k)) (shares (row k) a) h).1)
      (λ h. ap₂ ◌&&◌ (ap is_filled (shares_eq (row k) a (is_true (shares (row k) a) h)) ∙ f) h))

  -- Two groups are one, or have no seat in common.
  not_more : n ≤ 2 * sharing n row a → (b : AckRow) → sharing n row b ≤ sharing n row a
  unfolding sharing
  not_more h b = go (count (λ k. is_sharer row b k && is_sharer row a k) n) refl
    where
      go : (s : ℕ) → count (λ k. is_sharer row b k && is_sharer row a k) n ≡ s → sharing n row b ≤ sharing n row a
      go zero e = omega (arith, count_union (is_sharer row b) (is_sharer row a) n, count_le (λ k. is_sharer row b k || is_sharer row a k) n)
      go (suc s) e =
          let j = count_some (λ k. is_sharer row b k && is_sharer row a k) n (omega arith) in
          let of-b = sharer_is row b j.0 (and_l (is_sharer row b j.0) (is_sharer row a j.0) j.2) in
          let of-a = sharer_is row a j.0 (and_r (is_sharer row b j.0) (is_sharer row a j.0) j.2) in
          omega (arith, ap (sharing n row) (sym of-b.1 ∙ of-a.1))

  pub most_half : is_filled a ≡ true → n ≤ 2 * count (λ k. shares (row k) a) n → count (λ k. shares (row k) a) n ≡ most n row
  most_half f h =
      let e = alike_sharing f in
      sym e ∙ le_antisymm (most_all n row a) (elim (most_reached n row) [
        | inl z ↦ omega arith
        | inr r ↦ omega (arith, r.3, not_more (omega arith) (row r.0))
      ])

-- How the code tells it, of a table.
pub half_is : (n : ℕ) (t : Acks) (a : AckRow) (g : ℕ) → g ≡ count (λ k. shares (row_of t k) a) (rows_of n) → (is_filled a && leb n (2 * g)) ≡ true → g ≡ most n (row_of t)
half_is n t a g e h =
    let b = and_true (is_filled a) (leb n (2 * g)) h in
    let half = leb-true n (2 * g) b.1 in
    e ∙ most_half (rows_of n) (row_of t) a b.0 (omega (arith, rows_few n)) ∙ most_rows n t
