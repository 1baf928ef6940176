-- What `most` is: no view and entry is shared by more filled rows, and some filled row's is shared by as many.
use Prim.Native.Nat.{ℕ, zero, suc, ◌≤◌, ◌<◌}
use Rattle.std.specs.Prelude.{◌≡◌, false, ◌&&◌, ◌⊎◌, T}
use Rattle.std.proofs.Math.Path.{refl, sym, ap, ap₂}
use Rattle.std.proofs.Common.{◌∙◌}
use Rattle.std.proofs.Math.Bool.{Bool, cond}
use Rattle.std.proofs.Math.Logic.{inl, inr}
use native.Mathlib.Omega.{arith}
use Rattle.std.specs.Int.Count.{ones}
use Rattle.base.specs.Tests.{and_l, and_r, true_is, false_is, T-dec, true≢false}
use Rattle.seats.specs.Count.{count_le, count_some, highest_ext, highest_reached, le_highest}
use Rattle.seats.specs.Mask.{rows_of, seats_in}
use Rattle.seats.specs.Marks.{marks_mask, marks_count, marks_seats, rows_le}
use Rattle.acks.specs.declared.AckRow.{AckRow}
use Rattle.acks.specs.declared.Acks.{Acks}
use Rattle.acks.specs.Acks.{row_of, is_filled, shares, is_sharer, sharers, sharing, most}
use Rattle.seats.specs.Past.{mask_past, count_past, highest_past}
use Rattle.acks.specs.RowLaws.{row_past, shares_eq}

-- What a sharer's row is.
pub sharer_is : (row : ℕ → AckRow) (a : AckRow) (k : ℕ) → T (is_sharer row a k) → T (is_filled (row k)) × (row k ≡ a)
sharer_is row a k t = (and_l (is_filled (row k)) (shares (row k) a) t, shares_eq (row k) a (and_r (is_filled (row k)) (shares (row k) a) t))

module _ (n : ℕ) (row : ℕ → AckRow) where
  -- The count of ones of the sharers' mask is how many share.
  pub sharers_count : (a : AckRow) → ones (sharers n row a) ≡ sharing n row a
  unfolding sharing
  sharers_count a = marks_count (marks_mask n (is_sharer row a))

  -- Where any row shares, some filled row is this very row.
  pub sharing_some : (a : AckRow) → 0 < sharing n row a → (k : ℕ) × (k < n) × T (is_filled (row k)) × (row k ≡ a)
  unfolding sharing
  sharing_some a h =
      let s = count_some (is_sharer row a) n h in
      let is = sharer_is row a s.0 s.2 in
      (s.0, s.1, is.0, is.1)

  -- An empty row has no sharers.
  pub sharing_empty : (a : AckRow) → is_filled a ≡ false → sharing n row a ≡ 0
  sharing_empty a f = go (sharing n row a) refl
    where
      go : (s : ℕ) → sharing n row a ≡ s → s ≡ 0
      go zero e = refl
      go (suc s) e =
          let r = sharing_some a (omega arith) in
          true≢false (sym (true_is (is_filled (row r.0)) r.2) ∙ ap is_filled r.3 ∙ f)

  -- No view and entry has more.
  pub most_all : (a : AckRow) → sharing n row a ≤ most n row
  unfolding most
  most_all a = go (sharing n row a) refl
    where
      go : (s : ℕ) → sharing n row a ≡ s → s ≤ most n row
      go zero e = omega arith
      go (suc s) e =
          let r = sharing_some a (omega arith) in
          let here = ap₂ (λ b x. cond b (sharing n row x) 0) (true_is (is_filled (row r.0)) r.2) r.3 ∙ e in
          omega (arith, here, le_highest (λ k. cond (is_filled (row k)) (sharing n row (row k)) 0) n r.0 r.1)

  -- It is 0, or a filled row's view and entry has as many.
  pub most_reached : (most n row ≡ 0) ⊎ ((k : ℕ) × (k < n) × T (is_filled (row k)) × (sharing n row (row k) ≡ most n row))
  unfolding most
  most_reached = elim (highest_reached (λ k. cond (is_filled (row k)) (sharing n row (row k)) 0) n) [
    | inl z ↦ inl z
    | inr r ↦
        let count_of : Bool → ℕ = λ b. cond b (sharing n row (row r.0)) 0 in
        elim (T-dec (is_filled (row r.0))) [
          | inl t ↦ inr (r.0, r.1, t, sym (ap count_of (true_is (is_filled (row r.0)) t)) ∙ r.2)
          | inr t ↦ inl (sym r.2 ∙ ap count_of (false_is (is_filled (row r.0)) t))
        ]
  ]

  pub most_le : most n row ≤ n
  unfolding sharing
  most_le = elim most_reached [ inl z ↦ omega arith | inr r ↦ omega (arith, r.3, count_le (is_sharer row (row r.0)) n) ]

-- No row of a table past the 64th is filled: the seats below n are those whose rows are in the table.
module _ (n : ℕ) (t : Acks) where
  past : (k : ℕ) → 64 ≤ k → is_filled (row_of t k) ≡ false
  past k h = ap is_filled (row_past t k h)

  no_sharer : (a : AckRow) (k : ℕ) → 64 ≤ k → is_sharer (row_of t) a k ≡ false
  no_sharer a k h = ap (λ b. b && shares (row_of t k) a) (past k h)

  pub sharers_rows : (a : AckRow) → sharers (rows_of n) (row_of t) a ≡ sharers n (row_of t) a
  sharers_rows a = mask_past (is_sharer (row_of t) a) n (no_sharer a)

  pub sharing_rows : (a : AckRow) → sharing (rows_of n) (row_of t) a ≡ sharing n (row_of t) a
  unfolding sharing
  sharing_rows a = count_past (is_sharer (row_of t) a) n (no_sharer a)

  -- However many seats are asked for, the mask's distinct seats are how many share.
  pub sharers_seats : (a : AckRow) → seats_in (sharers n (row_of t) a) ≡ sharing n (row_of t) a
  unfolding sharing
  sharers_seats a = ap seats_in (sym (sharers_rows a)) ∙ marks_seats (rows_le n) (marks_mask (rows_of n) (is_sharer (row_of t) a)) ∙ sharing_rows a

  pub most_rows : most (rows_of n) (row_of t) ≡ most n (row_of t)
  unfolding most
  most_rows = highest_past (of (rows_of n)) n (λ k h. ap (λ b. cond b (sharing (rows_of n) (row_of t) (row_of t k)) 0) (past k h))
      ∙ highest_ext (of (rows_of n)) (of n) n (λ k h. ap (λ x. cond (is_filled (row_of t k)) x 0) (sharing_rows (row_of t k)))
    where
      of : ℕ → ℕ → ℕ
      of m k = cond (is_filled (row_of t k)) (sharing m (row_of t) (row_of t k)) 0

  pub most_rows_le : most n (row_of t) ≤ 64
  most_rows_le = omega (arith, most_rows, most_le (rows_of n) (row_of t), rows_le n)
