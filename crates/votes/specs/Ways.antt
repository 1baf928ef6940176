-- How the selection comes to its answer: four ways leave an entry open.
use Prim.Native.Nat.{ℕ, zero, suc, ◌-◌, ◌≤◌, ◌<◌}
use Rattle.std.specs.Prelude.{◌≡◌, refl, Bool, true, false, not, ◌&&◌, eqb, leb, ltb}
use Rattle.std.proofs.Math.Path.{subst}
use Rattle.std.proofs.Math.Bool.{cond}
use Rattle.std.proofs.Math.Logic.{inl, inr}
use Rattle.std.specs.Prelude.{Option, None, Some}
use Rattle.std.proofs.Common.{arith, eqb→eq, leb→le}
use Rattle.std.proofs.Math.Decide.{ℕ_discrete, dec_lt}
use Rattle.std.proofs.Math.Dec.{T, T_not, not_T, eqb_refl, nltb→le, nleb→lt}
use Rattle.base.specs.Tests.{and_l, and_r, and_i, T-dec}
use Rattle.entry.specs.declared.Entry.{Entry}
use Rattle.entry.specs.Entry.{same}
use Rattle.entry.specs.Laws.{same_eq, same_refl}
use Rattle.seats.specs.Seats.{count, some_seat}
use Rattle.seats.specs.Sizes.{quorum}
use Rattle.seats.specs.Count.{count_pos, count_some, some_seat_lem, seat_that, highest_le, le_highest}
use Rattle.votes.specs.declared.Vote.{Vote}
use Rattle.votes.specs.declared.Choice.{Choice}
use Rattle.votes.specs.Selection.{smallest, forced_to, is_cast, top_view, is_at, two_at, is_other, other_at, rows_for, after_two, at_top, selection, support}
use Rattle.votes.specs.Smallest.{smallest_some, smallest_no}

-- A row at w for x.
pub record RowFor (n : ℕ) (has : ℕ → Bool) (vote : ℕ → Vote) (w : ℕ) (x : Entry) : Type 0 where
  pub seat : ℕ
  pub inside : seat < n
  pub filled : T (has seat)
  pub cast : T (vote seat).cast
  pub at : (vote seat).view.0 ≡ w
  pub is : (vote seat).entry ≡ x

-- Two rows at w have different entries.
pub record Twice (n : ℕ) (has : ℕ → Bool) (vote : ℕ → Vote) (w : ℕ) : Type 0 where
  pub x : Entry
  pub y : Entry
  pub for_x : RowFor n has vote w x
  pub for_y : RowFor n has vote w y
  pub differ : x ≡ y → ⊥

-- The answer at a highest view w, and how it is come to.
pub data Way (n f : ℕ) (has : ℕ → Bool) (vote : ℕ → Vote) (w : ℕ) : Choice → Type 0 where
  waits : Way n f has vote w Choice.Wait
  -- "All nil: free."
  blank : quorum n f ≤ count has n → ((k : ℕ) → k < n → T (has k) → T (vote k).cast → ⊥) → Way n f has vote w Choice.Free
  -- "One entry only at w: forced to it."
  alone : quorum n f ≤ count has n → (x : Entry) → RowFor n has vote w x → ((y : Entry) → RowFor n has vote w y → y ≡ x)
      → Way n f has vote w (Choice.Forced x)
  -- "if some entry has at least 2f rows at w, forced to it"
  forced : quorum n f ≤ count has n → Twice n has vote w → (x : Entry) → RowFor n has vote w x → support f ≤ rows_for n f has vote w x
      → Way n f has vote w (Choice.Forced x)
  -- "Else free."
  free : quorum n f ≤ count has n → Twice n has vote w → quorum n f ≤ count (is_other n f has vote w) n
      → ((k : ℕ) → k < n → T (other_at n f has vote w k) → rows_for n f has vote w (vote k).entry < support f) → Way n f has vote w Choice.Free

-- ---- a claim of what a test, or the search for the smallest entry, decides
by_test : (P : Choice → Type 0) (b : Bool) (c d : Choice) → (T b → P c) → (T (not b) → P d) → P (cond b c d)
by_test P true c d h k = h tt
by_test P false c d h k = k tt

by_smallest : (P : Choice → Type 0) (p : ℕ → Bool) (e : ℕ → Entry) (n : ℕ) → (((k : ℕ) → k < n → T (p k) → ⊥) → P Choice.Free)
    → ((k : ℕ) → k < n → T (p k) → P (Choice.Forced (e k))) → P (forced_to (smallest p e n))
by_smallest P p e n h g = go (smallest p e n) refl
  where
    go : (o : Option Entry) → smallest p e n ≡ o → P (forced_to o)
    go None i = h (smallest_no p e n i)
    go (Some x) i = let r = smallest_some p e n x i in subst (λ y. P (Choice.Forced y)) r.3 (g r.0 r.1 r.2)

cond_at : (P : ℕ → Type 0) (b : Bool) (x : ℕ) → (T b → P x) → P 0 → P (cond b x 0)
cond_at P true x h z = h tt
cond_at P false x h z = z

cond_on : (b : Bool) (x : ℕ) → T b → cond b x 0 ≡ x
cond_on true x t = refl
cond_on false x t = absurd t

pos : (m : ℕ) → T (not (eqb m 0)) → 0 < m
pos zero t = absurd t
pos (suc m) t = omega arith

module _ (n f : ℕ) (has : ℕ → Bool) (vote : ℕ → Vote) where
  abbrev cast : ℕ → Bool
  cast = is_cast n f has vote

  abbrev at : ℕ → ℕ → Bool
  at = is_at n f has vote

  abbrev other : ℕ → ℕ → Bool
  other = other_at n f has vote

  abbrev top : ℕ
  top = top_view n f has vote

  -- ---- rows at a view
  pub row_at : (w k : ℕ) → k < n → T (is_at n f has vote w k) → RowFor n has vote w (vote k).entry
  row_at w k l t =
      let c = and_l (cast k) _ t in
      record {
        seat = k;
        inside = l;
        filled = and_l (has k) (vote k).cast c;
        cast = and_r (has k) (vote k).cast c;
        at = eqb→eq (vote k).view.0 w (and_r (cast k) _ t);
        is = refl;
      }

  pub at_row : (w : ℕ) (x : Entry) (r : RowFor n has vote w x) → T (is_at n f has vote w r.seat)
  at_row w x r =
      and_i (cast r.seat) _ (and_i (has r.seat) _ r.filled r.cast)
      (subst (λ u. T (eqb (vote r.seat).view.0 u)) r.at (eqb_refl (vote r.seat).view.0))

  abbrev apart : ℕ → ℕ → ℕ → Bool
  apart w j k = (at w j && at w k) && not (same (vote j).entry (vote k).entry)

  two_at_lem : (w : ℕ) → T (two_at n f has vote w) → Twice n has vote w
  unfolding two_at
  two_at_lem w t =
      let a = seat_that (λ j. some_seat (apart w j) n) n t in
      let b = seat_that (apart w a.0) n a.2 in
      let i = a.0 in
      let j = b.0 in
      let both = and_l (at w i && at w j) _ b.2 in
      record {
        x = (vote i).entry;
        y = (vote j).entry;
        for_x = row_at w i a.1 (and_l (at w i) (at w j) both);
        for_y = row_at w j b.1 (and_r (at w i) (at w j) both);
        differ = λ e. T_not (same (vote i).entry (vote j).entry) (and_r (at w i && at w j) _ b.2)
            (subst (λ y. T (same (vote i).entry y)) e (same_refl (vote i).entry));
      }

  one_at : (w : ℕ) → T (not (two_at n f has vote w)) → (x y : Entry) → RowFor n has vote w x → RowFor n has vote w y → x ≡ y
  unfolding two_at
  one_at w t x y r s = elim (T-dec (same (vote i).entry (vote j).entry)) [
    | inl e ↦ let e' = same_eq (vote i).entry (vote j).entry e in let p = r.is in let q = s.is in cc
    | inr d ↦
        let both = and_i (at w i && at w j) _ (and_i (at w i) (at w j) (at_row w x r) (at_row w y s)) d in
        let inner = some_seat_lem (apart w i) n j s.inside both in
        absurd (T_not (two_at n f has vote w) t (some_seat_lem (λ j. some_seat (apart w j) n) n i r.inside inner))
  ]
    where
      i : ℕ
      i = r.seat

      j : ℕ
      j = s.seat

  -- If the rows' entries have fewer than 2f rows each, so has every entry.
  pub few_for : (w : ℕ) → ((k : ℕ) → k < n → T (other_at n f has vote w k) → rows_for n f has vote w (vote k).entry < support f) → 1 ≤ f
      → (y : Entry) → rows_for n f has vote w y < support f
  unfolding rows_for
  few_for w h p y = elim (dec_lt (rows_for n f has vote w y) (support f)) [
    | yes l ↦ l
    | no l ↦
        let s = count_some (λ k. other w k && same (vote k).entry y) n (omega arith) in
        let e = same_eq (vote s.0).entry y (and_r (other w s.0) _ s.2) in
        subst (λ z. rows_for n f has vote w z < support f) e (h s.0 s.1 (and_l (other w s.0) _ s.2))
  ]

  -- ---- the highest view: no row that is not nil has a higher one, and one of them has it
  pub top_le : (k : ℕ) → k < n → T (is_cast n f has vote k) → (vote k).view.0 ≤ top_view n f has vote
  unfolding top_view
  top_le k l t = omega (arith, le_highest (λ k. cond (cast k) (vote k).view.0 0) n k l, cond_on (cast k) (vote k).view.0 t)

  top_row : (k : ℕ) → k < n → T (cast k) → ((j : ℕ) → j < n → T (at top j) → ⊥) → ⊥
  unfolding top_view
  top_row k l t no_row = omega (arith, less k l t, highest_le (λ j. cond (cast j) (vote j).view.0 0) n (top - 1) bound)
    where
      less : (j : ℕ) → j < n → T (cast j) → (vote j).view.0 < top
      less j m c = elim (ℕ_discrete (vote j).view.0 top) [
        | yes e ↦ absurd (no_row j m (and_i (cast j) _ c (subst (λ u. T (eqb (vote j).view.0 u)) e (eqb_refl (vote j).view.0))))
        | no e ↦ omega (arith, top_le j m c)
      ]

      bound : (j : ℕ) → j < n → cond (cast j) (vote j).view.0 0 ≤ top - 1
      bound j m = cond_at (λ x. x ≤ top - 1) (cast j) (vote j).view.0 (λ c. omega (arith, less j m c)) (omega arith)

  -- ---- the selection
  abbrev W : Choice → Type 0
  W = Way n f has vote top

  abbrev heavy : ℕ → Bool
  heavy k = leb (support f) (rows_for n f has vote top (vote k).entry)

  after_way : quorum n f ≤ count has n → Twice n has vote top → W (after_two n f has vote top)
  unfolding after_two
  after_way enough two =
      by_test W (ltb (count (is_other n f has vote top) n) (quorum n f)) Choice.Wait _ (λ s. waits)
      (λ s. by_smallest W (λ k. other top k && heavy k) (λ k. (vote k).entry) n (none_heavy s) a_heavy)
    where
      none_heavy : T (not (ltb (count (is_other n f has vote top) n) (quorum n f))) → ((k : ℕ) → k < n → T (other top k && heavy k) → ⊥) → W Choice.Free
      none_heavy s no_row = free enough two (nltb→le (count (is_other n f has vote top) n) (quorum n f) s)
          (λ k l o. nleb→lt (support f) _ (not_T (heavy k) (λ b. no_row k l (and_i (other top k) (heavy k) o b))))

      a_heavy : (k : ℕ) → k < n → T (other top k && heavy k) → W (Choice.Forced (vote k).entry)
      a_heavy k l t =
          let r = row_at top k l (and_l (at top k) _ (and_l (other top k) (heavy k) t)) in
          forced enough two (vote k).entry r (leb→le (support f) _ (and_r (other top k) (heavy k) t))

  top_way : quorum n f ≤ count has n → (k : ℕ) → k < n → T (cast k) → W (at_top n f has vote top)
  unfolding at_top
  top_way enough k l c =
      by_test W (two_at n f has vote top) _ _ (λ two. after_way enough (two_at_lem top two)) (λ one.
      by_smallest W (at top) (λ k. (vote k).entry) n (λ no_row. absurd (top_row k l c no_row)) (λ j m t.
      let r = row_at top j m t in alone enough (vote j).entry r (λ y s. one_at top one y (vote j).entry s r)))

  pub selection_way : Way n f has vote (top_view n f has vote) (selection n f has vote)
  unfolding selection
  selection_way =
      by_test W (ltb (count has n) (quorum n f)) Choice.Wait _ (λ t. waits)
      (λ t. by_test W (eqb (count cast n) 0) Choice.Free _ (all_nil (enough t)) (some_cast (enough t)))
    where
      enough : T (not (ltb (count has n) (quorum n f))) → quorum n f ≤ count has n
      enough t = nltb→le (count has n) (quorum n f) t

      all_nil : quorum n f ≤ count has n → T (eqb (count cast n) 0) → W Choice.Free
      all_nil e z =
          let none-cast = eqb→eq (count cast n) 0 z in
          blank e (λ k l r c. omega (arith, count_pos cast n k l (and_i (has k) (vote k).cast r c)))

      some_cast : quorum n f ≤ count has n → T (not (eqb (count cast n) 0)) → W (at_top n f has vote top)
      some_cast e z = let s = count_some cast n (pos (count cast n) z) in top_way e s.0 s.1 s.2

  -- What the selection is forced to is the entry of some row at the highest view.
  pub forced_row : (x : Entry) → selection n f has vote ≡ Choice.Forced x → RowFor n has vote (top_view n f has vote) x
  forced_row x h = go (selection n f has vote) h selection_way
    where
      go : (c : Choice) → c ≡ Choice.Forced x → Way n f has vote top c → RowFor n has vote top x
      go c e waits = absurd (let z : ◌≡◌ {A = ℕ} 0 1 = cc in omega arith)
      go c e (blank m b) = absurd (let z : ◌≡◌ {A = ℕ} 0 1 = cc in omega arith)
      go c e (alone m y r o) = let q : y ≡ x = cc in subst (RowFor n has vote top) q r
      go c e (forced m t y r s) = let q : y ≡ x = cc in subst (RowFor n has vote top) q r
      go c e (free m t s r) = absurd (let z : ◌≡◌ {A = ℕ} 0 1 = cc in omega arith)
