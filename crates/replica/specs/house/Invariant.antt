-- What holds of the seats of a run, and what a step must be to keep it.
use Rattle.std.specs.Prelude.{ℕ, ◌≤◌, ◌<◌, ◌≡◌, refl, Bool, true, false, cond, List, [], ◌++◌, ◌⊎◌, T, eqb, length, Option as Maybe, None, Some}
use Rattle.std.proofs.Common.{sym, subst₂, inl, inr, arith, eqb-true}
use Rattle.std.proofs.Math.Path.{subst}
use Rattle.std.proofs.Math.Option.{Option, none, some}
use Rattle.std.proofs.Math.Decide.{ℕ_discrete}
use Rattle.base.specs.Tests.{and_l, and_r}
use Rattle.entry.specs.declared.Entry.{Entry}
use Rattle.entry.specs.Table.{table_seats, table_words}
use Rattle.seats.specs.declared.View.{View}
use Rattle.seats.specs.Seats.{count}
use Rattle.seats.specs.Sizes.{quorum}
use Rattle.acks.specs.declared.AckRow.{AckRow}
use Rattle.acks.specs.declared.Acks.{Acks}
use Rattle.acks.specs.Acks.{row_of, with_row, is_filled, shares, is_sharer, sharing}
use Rattle.acks.specs.RowLaws.{row_same, row_other, shares_eq}
use Rattle.votes.specs.declared.Row.{Row}
use Rattle.votes.specs.History.{Safe}
use Rattle.messages.specs.declared.Message.{Message}
use Rattle.replica.specs.declared.Replica.{Replica}
use Rattle.replica.specs.declared.Step.{Step}
use Rattle.replica.specs.house.Claims.{Statement, proposes, acknowledges, votes, asks, confirms, Claim, said}
use Rattle.replica.specs.house.Runs.{Member, sending, reporting, after, Members, placed, Among, all_said, sent_by, Said, Correct}
use Rattle.replica.specs.house.Kept.{Kept}
use Rattle.replica.specs.house.ClaimLaws.{among_behind, Each, each_or}
use Rattle.replica.specs.house.Histories.{view_of, history_of}

-- ---- a seat goes on: its view does not fall, it withdraws nothing, and it acknowledges nothing in a view that it has left
pub record Grows (a b : Option Member) : Type 0 where
  pub up : view_of a ≤ view_of b
  pub keep : (c : Claim) → Among c (all_said (sent_by a)) → Among c (all_said (sent_by b))
  pub old : (k : ℕ) (w : View) (e : Entry) → w.0 < view_of a
      → Among (k, acknowledges w e) (all_said (sent_by b)) → Among (k, acknowledges w e) (all_said (sent_by a))

-- What holds of the new member, and of every seat as it was, holds of every seat.
pub placed_all : (h : Members) (k : ℕ) (m : Member) (P : ℕ → Option Member → Type 0) → P k (some m) → ((j : ℕ) → P j (h j))
    → (j : ℕ) → P j (placed h k m j)
placed_all h k m P a b j = go (eqb j k) refl
  where
    go : (t : Bool) → eqb j k ≡ t → P j (cond t (some m) (h j))
    go true e = subst (λ i. P i (some m)) (sym (eqb-true j k e)) a
    go false e = b j

-- The other seats go on by standing still.
placed_grows : (h : Members) (k : ℕ) (m : Member) → Grows (h k) (some m) → (j : ℕ) → Grows (h j) (placed h k m j)
placed_grows h k m g = placed_all h k m (λ j o. Grows (h j) o) g (λ j. record { up = omega arith; keep = λ c a. a; old = λ k w e l a. a })

-- ---- what a step says
abbrev pub told_by : Maybe Message → List Claim
told_by None = []
told_by (Some m) = said m

-- It comes before what was said.
sent_said : (s : Replica) (x : Maybe Message) (xs : List (Message × List Row)) → all_said (sending s x ++ xs) ≡ told_by x ++ all_said xs
sent_said s None xs = refl
sent_said s (Some m) xs = refl

-- So nothing is taken back.
pub said_still : (m : Member) (t : Step) (c : Claim) → Among c (all_said m.sent) → Among c (all_said (after m t).sent)
said_still m t c a = subst (Among c) (sym (sent_said t.next t.sent m.sent)) (among_behind c (told_by t.sent) (all_said m.sent) a)

-- Said in the view of s, an acknowledgement is of no view before.
abbrev pub Timely : Replica → Statement → Type 0
Timely s (proposes v e) = Unit {0}
Timely s (acknowledges v e) = s.view.0 ≤ v.0
Timely s (votes v x) = Unit {0}
Timely s (asks v e) = Unit {0}
Timely s (confirms v e) = Unit {0}

module _ (n f : ℕ) (faulty : ℕ → Bool) where
  -- n − f seats or more, of which the correct ones acknowledged e in one view.
  pub record Quorum (h : Members) (e : Entry) : Type 0 where
    pub view : View
    pub seats : ℕ → Bool
    pub many : quorum n f ≤ count seats n
    pub acked : (k : ℕ) → Correct n faulty k → T (seats k) → Said h (k, acknowledges view e)

  -- An entry that is acknowledged or confirmed is safe.
  abbrev pub Backed : Members → Statement → Type 0
  Backed h (proposes v e) = Unit {0}
  Backed h (acknowledges v e) = Safe n f faulty (history_of h) v.0 e
  Backed h (votes v x) = Unit {0}
  Backed h (asks v e) = Unit {0}
  Backed h (confirms v e) = Safe n f faulty (history_of h) v.0 e

  -- A filled acknowledgement row of a correct seat is that seat's word.
  abbrev pub RowsSaid : Members → Acks → Type 0
  RowsSaid h t = (j : ℕ) → Correct n faulty j → T (is_filled (row_of t j)) → Said h (j, acknowledges (row_of t j).view (row_of t j).entry)

  -- ---- the invariant: of one member, of a seat, of all seats
  pub record Fine (h : Members) (k : ℕ) (m : Member) : Type 0 where
    pub kept : Kept n f k m
    pub rows : RowsSaid h m.replica.acks
    pub backed : (c : Claim) → Among c (all_said m.sent) → Backed h c.1
    pub decided : (e : Entry) → Among e m.reports → Quorum h e

  abbrev pub FineAt : Members → ℕ → Option Member → Type 0
  FineAt h k none = Unit {0}
  FineAt h k (some m) = Fine h k m

  abbrev pub Holds : Members → Type 0
  Holds h = (k : ℕ) → FineAt h k (h k)

  module _ (h : Members) (holds : Holds h) where
    -- What holds of a seat that has not begun, and of a fine member, holds of every seat.
    pub by_seat : (P : Option Member → Type 0) (k : ℕ) → P none → ((m : Member) → Fine h k m → P (some m)) → P (h k)
    by_seat P k a b = go (h k) (holds k)
      where
        go : (o : Option Member) → FineAt h k o → P o
        go none x = a
        go (some m) x = b m x

    pub said_backed : (c : Claim) → Said h c → Backed h c.1
    said_backed c = by_seat (λ o. Among c (all_said (sent_by o)) → Backed h c.1) c.0 (λ a. absurd a) (λ m x. x.backed c)

  -- ---- it is kept where the seats go on
  module _ (h g : Members) (on : (k : ℕ) → Grows (h k) (g k)) where
    -- The seats that make an entry dead in w have left w, so they still did not acknowledge it there.
    safe_on : (v : ℕ) (x : Entry) → Safe n f faulty (history_of h) v x → Safe n f faulty (history_of g) v x
    safe_on v x s w y p l d =
        let dead = s w y p l d in
        record {
          blocks = dead.blocks;
          many = dead.many;
          correct = dead.correct;
          left = λ k m t. omega (arith, dead.left k m t, (on k).up);
          silent = λ k m t a. dead.silent k m t ((on k).old k (record { 0 = w }) y (dead.left k m t) a);
        }

    backed_on : (c : Statement) → Backed h c → Backed g c
    backed_on (proposes v e) b = tt
    backed_on (acknowledges v e) b = safe_on v.0 e b
    backed_on (votes v x) b = tt
    backed_on (asks v e) b = tt
    backed_on (confirms v e) b = safe_on v.0 e b

    quorum_on : (e : Entry) → Quorum h e → Quorum g e
    quorum_on e q = record { view = q.view; seats = q.seats; many = q.many; acked = λ k o t. (on k).keep _ (q.acked k o t) }

    fine_on : (k : ℕ) (o : Option Member) → FineAt h k o → FineAt g k o
    fine_on k none x = tt
    fine_on k (some m) x = record {
      kept = x.kept;
      rows = λ j o t. (on j).keep _ (x.rows j o t);
      backed = λ c a. backed_on c.1 (x.backed c a);
      decided = λ e a. quorum_on e (x.decided e a);
    }

  -- One seat goes on to a member that is fine beside the seats as they were.
  pub put : (h : Members) (k : ℕ) (m : Member) → Holds h → Grows (h k) (some m) → Fine h k m → Holds (placed h k m)
  put h k m i g x j = fine_on h (placed h k m) (placed_grows h k m g) j (placed h k m j) (placed_all h k m (FineAt h) x i j)

  -- ---- acknowledgement rows
  module _ (h : Members) where
    -- The row written is its seat's own word.
    pub rows_with : (t : Acks) (k : ℕ) (r : AckRow) → k < 64 → length t.entries ≡ table_words → length t.views ≡ table_seats
        → RowsSaid h t → (Correct n faulty k → Said h (k, acknowledges r.view r.entry)) → RowsSaid h (with_row t k r)
    rows_with t k r l e v i own j o = elim (ℕ_discrete j k) [
      | yes q ↦ λ b.
          let same = subst (λ j. row_of (with_row t k r) j ≡ r) (sym q) (row_same t k r l e v) in
          subst₂ (λ j z. Said h (j, acknowledges z.view z.entry)) (sym q) (sym same) (own (subst (Correct n faulty) q o))
      | no q ↦ subst (λ z. T (is_filled z) → Said h (j, acknowledges z.view z.entry)) (sym (row_other t j k r q)) (i j o)
    ]

    -- Rows that share a view and entry are seats that acknowledged it.
    pub rows_quorum : (t : Acks) (r : AckRow) → RowsSaid h t → quorum n f ≤ sharing n (row_of t) r → Quorum h r.entry
    unfolding sharing
    rows_quorum t r i l = record {
      view = r.view;
      seats = is_sharer (row_of t) r;
      many = l;
      acked = λ j o b.
          let row = row_of t j in
          subst (λ z. Said h (j, acknowledges z.view z.entry)) (shares_eq row r (and_r (is_filled row) (shares row r) b))
          (i j o (and_l (is_filled row) (shares row r) b));
    }

  -- ---- a step of s that keeps it
  pub record Fair (h : Members) (s : Replica) (t : Step) : Type 0 where
    pub up : s.view.0 ≤ t.next.view.0
    pub rows : RowsSaid h t.next.acks
    pub says : Each (λ c. Timely s c.1 × Backed h c.1) (told_by t.sent)
    pub reports : Each (Quorum h) (reporting t.decided)

  module _ (h : Members) (m : Member) (t : Step) (fair : Fair h m.replica t) where
    -- What is said after it is new, so timely and safe, or old.
    said_after : (c : Claim) → Among c (all_said (after m t).sent) → (Timely m.replica c.1 × Backed h c.1) ⊎ Among c (all_said m.sent)
    said_after c a = each_or _ c (told_by t.sent) (all_said m.sent) fair.says (subst (Among c) (sent_said t.next t.sent m.sent) a)

    pub fair_grows : Grows (some m) (some (after m t))
    fair_grows = record {
      up = fair.up;
      keep = said_still m t;
      old = λ k w e l a. elim (said_after (k, acknowledges w e) a) [ inl b ↦ absurd (omega (arith, b.0)) | inr b ↦ b ];
    }

    pub fair_fine : (k : ℕ) → Fine h k m → Kept n f k (after m t) → Fine h k (after m t)
    fair_fine k x i = record {
      kept = i;
      rows = fair.rows;
      backed = λ c a. elim (said_after c a) [ inl b ↦ b.1 | inr b ↦ x.backed c b ];
      decided = λ e a. elim (each_or (Quorum h) e (reporting t.decided) m.reports fair.reports a) [ inl b ↦ b | inr b ↦ x.decided e b ];
    }
