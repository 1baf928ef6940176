-- What the code's masks make of each of the five steps, over any rows.
use Prim.Native.Nat.{ℕ, zero, suc, ◌≤◌, ◌<◌}
use mathlib.Core.Bool.{Bool, true, false, not, ◌&&◌, cond}
use mathlib.Core.Logic.{◌⊎◌, inl, inr}
use Rattle.std.specs.Prelude.{Option, None, Some}
use mathlib.Core.Path.{◌≡◌, refl, sym, ap, ap₂, ◌∙◌}
use native.Mathlib.Omega.{arith}
use native.Mathlib.Decide.{ℕ_discrete}
use lib.Dec.{T, eqb, ltb, leb}
use lib.Count.{count_trailing_zeros}
use borrow.Author.Tests.{eq-eqb, ne_eqb, lt-ltb, le-ltb}
use Rattle.base.specs.Tests.{is_true, is_false}
use Rattle.entry.specs.declared.Entry.{Entry}
use Rattle.entry.specs.Entry.{same}
use Rattle.seats.specs.Seats.{count, some_seat, highest}
use Rattle.seats.specs.Count.{count_ext, count_mono, count_pos, highest_ext, highest_reached, le_highest}
use Rattle.seats.specs.Sizes.{quorum}
use Rattle.seats.specs.Mask.{bit, mask, seats_in}
use Rattle.seats.specs.Marks.{Marks, marks_seats, seats_none, marks_mask, marks_lowest, marks_pos}
use Rattle.votes.specs.declared.Vote.{Vote}
use Rattle.votes.specs.declared.Choice.{Choice}
use Rattle.votes.specs.Selection.{smallest, forced_to, selection, is_cast, is_at, top_view, two_at, is_other, other_at, rows_for, after_two, at_top, entry_of, support}
use Rattle.votes.specs.Smallest.{smallest_ext, smallest_some, smallest_no}
use Rattle.votes.proofs.Pairs.{two_alike}

positive : (m : ℕ) → (m ≡ 0 → ⊥) → 0 < m
positive zero h = absurd (h refl)
positive (suc m) h = omega arith

module _ (n f : ℕ) (has : ℕ → Bool) (vote : ℕ → Vote) where
  -- Behind step 1: enough rows, and those of them that are cast.
  pub record Counted : Type 0 where
    pub rows : ℕ
    pub these : Marks n rows has
    pub enough : quorum n f ≤ seats_in rows
    pub votes : ℕ
    pub cast : Marks n votes (is_cast n f has vote)

  -- Behind step 2: some are cast, w is their highest view, and these are at w.
  pub record Topped : Type 0 where
    pub counted : Counted
    pub some : counted.votes ≡ 0 → ⊥
    pub w : ℕ
    pub highest_is : w ≡ highest (λ k. cond (bit counted.votes k) (vote k).view.0 0) n
    pub top : ℕ
    pub at_top_lem : Marks n top (is_at n f has vote w)

module _ (n f : ℕ) (has : ℕ → Bool) (vote : ℕ → Vote) (room : n ≤ 64) where
  abbrev entry : ℕ → Entry
  entry = entry_of n f has vote

  abbrev view : ℕ → ℕ
  view k = (vote k).view.0

  -- 1: fewer than n − f rows, counted by a mask of at least those.
  pub waits_few : (m : ℕ) (p : ℕ → Bool) → Marks n m p → ((k : ℕ) → T (has k) → T (p k)) → seats_in m < quorum n f → Choice.Wait ≡ selection n f has vote
  unfolding selection
  waits_few m p a h l =
      let few : count has n < quorum n f = omega (arith, marks_seats room a, count_mono has p n (λ k i. h k)) in
      sym (ap (λ b. cond b Choice.Wait (cond (eqb (count (is_cast n f has vote) n) 0) Choice.Free (at_top n f has vote (top_view n f has vote)))) (lt-ltb (count has n) (quorum n f) few))

  past_1 : Counted n f has vote → selection n f has vote ≡ cond (eqb (count (is_cast n f has vote) n) 0) Choice.Free (at_top n f has vote (top_view n f has vote))
  unfolding selection
  past_1 c =
      ap (λ b. cond b Choice.Wait (cond (eqb (count (is_cast n f has vote) n) 0) Choice.Free (at_top n f has vote (top_view n f has vote))))
      (le-ltb (count has n) (quorum n f) (omega (arith, c.enough, marks_seats room c.these)))

  -- 2: all nil.
  pub frees : (c : Counted n f has vote) → c.votes ≡ 0 → Choice.Free ≡ selection n f has vote
  frees c z =
      sym (past_1 c ∙ ap (λ b. cond b Choice.Free (at_top n f has vote (top_view n f has vote))) (eq-eqb _ _ (sym (marks_seats room c.cast) ∙ ap seats_in z ∙ seats_none)))

  module _ (t : Topped n f has vote) where
    -- Some row is cast.
    first_cast : (count_trailing_zeros 64 t.counted.votes < n) × (is_cast n f has vote (count_trailing_zeros 64 t.counted.votes) ≡ true)
    first_cast = marks_lowest n t.counted.votes (is_cast n f has vote) room t.counted.cast (positive t.counted.votes t.some)

    w_is : top_view n f has vote ≡ t.w
    unfolding top_view
    w_is = highest_ext _ _ n (λ k l. ap (λ b. cond b (view k) 0) (sym (t.counted.cast.at k l))) ∙ sym t.highest_is

    past_2 : selection n f has vote ≡ at_top n f has vote t.w
    past_2 =
        let some = count_pos (is_cast n f has vote) n (count_trailing_zeros 64 t.counted.votes) first_cast.0 (is_true _ first_cast.1) in
        past_1 t.counted
        ∙ ap (λ b. cond b Choice.Free (at_top n f has vote (top_view n f has vote))) (ne_eqb (count (is_cast n f has vote) n) 0 (λ z. omega arith))
        ∙ ap (at_top n f has vote) w_is

    -- Some row is at w.
    some_top : (k : ℕ) × (k < n) × (is_at n f has vote t.w k ≡ true)
    some_top = go (highest_reached seen n)
      where
        seen : ℕ → ℕ
        seen k = cond (bit t.counted.votes k) (view k) 0

        at : (k : ℕ) → k < n → bit t.counted.votes k ≡ true → view k ≡ t.w → is_at n f has vote t.w k ≡ true
        at k l b e = ap₂ ◌&&◌ (sym (t.counted.cast.at k l) ∙ b) (eq-eqb _ _ e)

        -- A highest view of 0 is that of every cast row.
        at_zero : t.w ≡ 0 → (k : ℕ) × (k < n) × (is_at n f has vote t.w k ≡ true)
        at_zero z =
            let k = count_trailing_zeros 64 t.counted.votes in
            let b : bit t.counted.votes k ≡ true = t.counted.cast.at k first_cast.0 ∙ first_cast.1 in
            let h = le_highest seen n k first_cast.0 in
            let q : seen k ≡ view k = ap (λ x. cond x (view k) 0) b in
            let e = t.highest_is in
            (k, first_cast.0, at k first_cast.0 b (omega arith))

        reached : (b : Bool) (x : ℕ) → (t.w ≡ 0 → ⊥) → cond b x 0 ≡ t.w → (b ≡ true) × (x ≡ t.w)
        reached true x ne e = (refl, e)
        reached false x ne e = absurd (ne (sym e))

        go : (highest seen n ≡ 0) ⊎ ((k : ℕ) × (k < n) × (seen k ≡ highest seen n)) → (k : ℕ) × (k < n) × (is_at n f has vote t.w k ≡ true)
        go (inl z) = at_zero (t.highest_is ∙ z)
        go (inr r) = elim (ℕ_discrete t.w 0) [
          | yes z ↦ at_zero z
          | no z ↦
              let q = reached (bit t.counted.votes r.0) (view r.0) z (r.2 ∙ sym t.highest_is) in
              (r.0, r.1, at r.0 r.1 q.0 q.1)
        ]

    first_top : (count_trailing_zeros 64 t.top < n) × (is_at n f has vote t.w (count_trailing_zeros 64 t.top) ≡ true)
    first_top =
        marks_lowest n t.top (is_at n f has vote t.w) room t.at_top_lem
        (marks_pos n t.top some_top.0 (is_at n f has vote t.w) t.at_top_lem some_top.1 some_top.2)

    pub first_low : count_trailing_zeros 64 t.top < n
    first_low = first_top.0

    -- The code's answer to whether two rows at w differ.
    module _ (b : Bool) (eb : b ≡ some_seat (λ j. some_seat (λ k. (bit t.top j && bit t.top k) && not (same (entry j) (entry k))) n) n) where
      b_is : b ≡ two_at n f has vote t.w
      unfolding two_at
      b_is =
          eb
          ∙ ap (ltb 0) (count_ext _ _ n (λ j i. ap (ltb 0) (count_ext _ _ n (λ k l. ap₂ (λ x y. (x && y) && not (same (entry j) (entry k))) (t.at_top_lem.at j i) (t.at_top_lem.at k l)))))

      alike : b ≡ false → (k : ℕ) → k < n → T (is_at n f has vote t.w k) → entry k ≡ entry (count_trailing_zeros 64 t.top)
      unfolding two_at
      alike e k l s =
          two_alike n (is_at n f has vote t.w) entry (is_false _ (sym b_is ∙ e)) k (count_trailing_zeros 64 t.top) l first_top.0 s (is_true _ first_top.1)

      -- 3: one entry only at w.
      pub forces : b ≡ false → Choice.Forced (entry (count_trailing_zeros 64 t.top)) ≡ selection n f has vote
      unfolding at_top
      forces e =
          sym
          (past_2
          ∙ ap (λ x. cond x (after_two n f has vote t.w) (forced_to (smallest (is_at n f has vote t.w) entry n))) (sym b_is ∙ e)
          ∙ ap forced_to (the_one (smallest (is_at n f has vote t.w) entry n) refl))
        where
          the_one : (o : Option Entry) → smallest (is_at n f has vote t.w) entry n ≡ o → smallest (is_at n f has vote t.w) entry n ≡ Some (entry (count_trailing_zeros 64 t.top))
          the_one None q = absurd (smallest_no (is_at n f has vote t.w) entry n q (count_trailing_zeros 64 t.top) first_top.0 (is_true _ first_top.1))
          the_one (Some x) q =
              let r = smallest_some (is_at n f has vote t.w) entry n x q in
              q ∙ ap Some (sym r.3 ∙ alike e r.0 r.1 r.2)

      module _ (e : b ≡ true) (others : ℕ) (mo : Marks n others (is_other n f has vote t.w)) where
        past_3 : selection n f has vote ≡ after_two n f has vote t.w
        unfolding at_top
        past_3 = past_2 ∙ ap (λ x. cond x (after_two n f has vote t.w) (forced_to (smallest (is_at n f has vote t.w) entry n))) (sym b_is ∙ e)

        abbrev backed : ℕ → Bool
        backed k = other_at n f has vote t.w k && leb (support f) (rows_for n f has vote t.w (entry k))

        -- 4: fewer than n − f rows of seats other than w's leader.
        pub waits_others : seats_in others < quorum n f → Choice.Wait ≡ selection n f has vote
        unfolding after_two
        waits_others h =
            sym
            (past_3
            ∙ ap (λ x. cond x Choice.Wait (forced_to (smallest backed entry n))) (lt-ltb (count (is_other n f has vote t.w) n) (quorum n f) (omega (arith, marks_seats room mo))))

        -- 5: the smallest entry that 2f of them are for.
        pub settles : quorum n f ≤ seats_in others → (left : ℕ) → Marks n left (other_at n f has vote t.w) → (o : Option Entry)
            → o ≡ smallest (λ k. bit left k && leb (support f) (seats_in (mask (λ j. bit left j && same (entry j) (entry k)) n))) entry n
            → forced_to o ≡ selection n f has vote
        unfolding after_two rows_for
        settles h left ml o eo =
            sym
            (past_3
            ∙ ap (λ x. cond x Choice.Wait (forced_to (smallest backed entry n))) (le-ltb (count (is_other n f has vote t.w) n) (quorum n f) (omega (arith, marks_seats room mo)))
            ∙ ap forced_to (sym (eo ∙ smallest_ext _ _ entry entry n (λ k l. ap₂ (λ x y. x && leb (support f) y) (ml.at k l) (backing (entry k))) (λ k l s. refl))))
          where
            backing : (y : Entry) → seats_in (mask (λ j. bit left j && same (entry j) y) n) ≡ rows_for n f has vote t.w y
            backing y =
                marks_seats room (marks_mask n (λ j. bit left j && same (entry j) y)) ∙ count_ext _ _ n (λ j l. ap (λ x. x && same (entry j) y) (ml.at j l))
