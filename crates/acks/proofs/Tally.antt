-- Counting the groups of filled rows one by one: what is known while some are left.
use Prim.Native.Nat.{ℕ, zero, suc, ◌<◌, ◌≤◌, ◌^◌}
use mathlib.Core.Bool.{Bool, true, false, not, ◌&&◌}
use mathlib.Core.Path.{◌≡◌, refl, sym, ap, ap₂, ◌∙◌, subst}
use mathlib.Core.Logic.{inl, inr}
use native.Mathlib.Omega.{arith}
use native.Mathlib.Nat.{lt_of_lt_of_le, le_antisymm}
use lib.Pow.{pow_mono}
use lib.Count.{ones, ones_in, count_trailing_zeros}
use Rattle.base.specs.Choosing.{larger, larger_bounds}
use Rattle.base.specs.Tests.{and_i, is_true, true_is, but_not, not_but}
use Rattle.seats.specs.Count.{count_mono}
use Rattle.seats.specs.Mask.{bit, mask, without}
use Rattle.seats.specs.Bits.{ones_count, without_at}
use Rattle.seats.specs.Marks.{packed_lt, mask_at, without_lt, without_less, marks_lowest}
use Rattle.acks.specs.declared.AckRow.{AckRow}
use Rattle.acks.specs.Acks.{is_filled, shares, is_sharer, sharers, sharing, most}
use Rattle.acks.specs.RowLaws.{shares_refl}
use Rattle.acks.specs.MostLaws.{sharer_is, sharers_count, sharing_empty, most_all, most_reached}

module _ (n : ℕ) (row : ℕ → AckRow) where
  -- The seats of `left` have filled rows, in whole groups; no group outside it is larger than `best`.
  pub record Tallied (left best : ℕ) : Type 0 where
    pub within : left < 2 ^ n
    pub filled : (k : ℕ) → k < n → bit left k ≡ true → is_filled (row k) ≡ true
    pub whole : (j k : ℕ) → j < n → k < n → bit left j ≡ true → row k ≡ row j → bit left k ≡ true
    pub counted : (k : ℕ) → k < n → bit left k ≡ false → sharing n row (row k) ≤ best
    pub reached : best ≤ most n row

module _ (n : ℕ) (row : ℕ → AckRow) (le : n ≤ 64) where
  pub tally_begin : (left : ℕ) → left ≡ mask (λ k. is_filled (row k)) n → Tallied n row left 0
  tally_begin left e =
      let at : (k : ℕ) → k < n → bit left k ≡ is_filled (row k) = λ k h. ap (λ m. bit m k) e ∙ mask_at (λ j. is_filled (row j)) n k h in
      record {
        within = subst (λ m. m < 2 ^ n) (sym e) (packed_lt (λ j. is_filled (row j)) 0 n);
        filled = λ k h b. sym (at k h) ∙ b;
        whole = λ j k hj hk b s. at k hk ∙ ap is_filled s ∙ sym (at j hj) ∙ b;
        counted = λ k h b. omega (arith, sharing_empty n row (row k) (sym (at k h) ∙ b));
        reached = omega arith;
      }

  module _ (left best : ℕ) (t : Tallied n row left best) where
    -- Nothing left can be larger.
    pub tally_end : ones left ≤ best → best ≡ most n row
    unfolding sharing
    tally_end h = le_antisymm t.reached (elim (most_reached n row) [ inl z ↦ omega arith | inr r ↦ omega (arith, r.3, each r.0 r.1 (bit left r.0) refl) ])
      where
        each : (k : ℕ) → k < n → (b : Bool) → bit left k ≡ b → sharing n row (row k) ≤ best
        each k l false e = t.counted k l e
        each k l true e =
            let group = count_mono (is_sharer row (row k)) (bit left) n
            (λ j i s. is_true (bit left j) (t.whole k j l i e (sharer_is row (row k) j s).1)) in
            omega (arith, group, ones_count n left t.within)

    -- A seat of those left, and its whole group.
    module _ (h : best < ones left) where
      some_left : 0 < left
      unfolding ones ones_in
      some_left = go left refl
        where
          go : (m : ℕ) → left ≡ m → 0 < m
          go zero e = let z : ones left ≡ 0 = ap ones e in absurd (omega arith)
          go (suc m) e = omega arith

      lowest : (count_trailing_zeros 64 left < n) × (bit left (count_trailing_zeros 64 left) ≡ true)
      lowest = marks_lowest n left (bit left) le (record { below = t.within; at = λ k l. refl }) some_left

      pub seat_low : count_trailing_zeros 64 left < 64
      seat_low = omega (arith, lowest.0)

      module _ (i group : ℕ) (ei : i ≡ count_trailing_zeros 64 left) (eg : group ≡ sharers n row (row i)) where
        below : i < n
        below = omega (arith, lowest.0)

        on : bit left i ≡ true
        on = ap (bit left) ei ∙ lowest.1

        group_at : (k : ℕ) → k < n → bit group k ≡ is_sharer row (row i) k
        group_at k l = ap (λ m. bit m k) eg ∙ mask_at (is_sharer row (row i)) n k l

        group_lt : group < 2 ^ n
        group_lt = subst (λ m. m < 2 ^ n) (sym eg) (packed_lt (is_sharer row (row i)) 0 n)

        own : bit group i ≡ true
        own = group_at i below ∙ true_is (is_sharer row (row i) i)
            (and_i (is_filled (row i)) (shares (row i) (row i)) (is_true (is_filled (row i)) (t.filled i below on)) (shares_refl (row i)))

        pub tally_less : ones (without left group) < ones left
        tally_less =
            let fits = pow_mono le in
            without_less left group i (lt_of_lt_of_le t.within fits) (lt_of_lt_of_le group_lt fits) (omega (arith, below)) on own

        size_is : ones group ≡ sharing n row (row i)
        size_is = ap ones eg ∙ sharers_count n row (row i)

        pub tally_step : Tallied n row (without left group) (larger best (ones group))
        tally_step =
            let b = larger_bounds best (ones group) in
            record {
              within = without_lt left group n t.within group_lt;
              filled = λ k l e. t.filled k l (rest k e).0;
              whole = λ j k hj hk e s.
                  without_at left group k
                  ∙ ap₂ (λ x y. x && not y) (t.whole j k hj hk (rest j e).0 s)
                  (group_at k hk ∙ ap (λ r. is_filled r && shares r (row i)) s ∙ sym (group_at j hj) ∙ (rest j e).1);
              counted = λ k l e. more k l e (bit left k) refl;
              reached = b.2 (most n row) t.reached (subst (λ m. m ≤ most n row) (sym size_is) (most_all n row (row i)));
            }
          where
            rest : (k : ℕ) → bit (without left group) k ≡ true → (bit left k ≡ true) × (bit group k ≡ false)
            rest k e = but_not (bit left k) (bit group k) (sym (without_at left group k) ∙ e)

            more : (k : ℕ) → k < n → bit (without left group) k ≡ false → (b : Bool) → bit left k ≡ b → sharing n row (row k) ≤ larger best (ones group)
            more k l e false f = omega (arith, t.counted k l f, (larger_bounds best (ones group)).0)
            more k l e true f =
                let g = not_but (bit left k) (bit group k) (sym (without_at left group k) ∙ e) f in
                let s = sharer_is row (row i) k (is_true (is_sharer row (row i) k) (sym (group_at k l) ∙ g)) in
                omega (arith, ap (sharing n row) s.1, size_is, (larger_bounds best (ones group)).1)
