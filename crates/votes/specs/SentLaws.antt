-- What a leader sends is taken by everybody of its view.
use Prim.Native.Nat.{ℕ, zero, suc, ◌+◌, ◌≤◌, ◌<◌}
use Rattle.std.specs.Prelude.{Bool, true, false, not, ◌&&◌, ◌||◌, cond, ◌≡◌, refl, T, eqb, length}
use mathlib.Core.List.{List}
use Rattle.std.proofs.Common.{sym, ap₂, ◌∙◌, subst, arith, eqb-true, eq-eqb, ne_eqb, lt-ltb, le-ltb}
use Rattle.std.proofs.Math.Path.{ap}
use Rattle.std.proofs.Math.Decide.{ℕ_discrete}
use Rattle.base.specs.RefusalLaws.{Clear}
use Rattle.base.specs.Tests.{and_r, true_is, is_false}
use Rattle.entry.specs.declared.Entry.{Entry}
use Rattle.entry.specs.Entry.{well_formed}
use Rattle.seats.specs.declared.View.{View}
use Rattle.seats.specs.Seats.{count}
use Rattle.seats.specs.Sizes.{quorum}
use Rattle.seats.specs.Mask.{bit}
use Rattle.votes.specs.declared.Vote.{Vote}
use Rattle.votes.specs.declared.Row.{Row}
use Rattle.votes.specs.declared.VoteRows.{VoteRows}
use Rattle.std.specs.Prelude.{None, Some}
use Rattle.votes.specs.declared.Choice.{Choice}
use Rattle.votes.specs.Vote.{valid}
use Rattle.votes.specs.VoteLaws.{valid_formed}
use Rattle.votes.specs.Selection.{selection}
use Rattle.votes.specs.SelectionExt.{SameVote, selection_ext}
use Rattle.votes.specs.Ways.{Way, waits, blank, alone, forced, free, selection_way, forced_row}
use Rattle.votes.specs.Rows.{vote_at, has_row, has_seat, vote_of}
use Rattle.votes.specs.Gather.{rising_above}
use Rattle.votes.specs.Request.{unfit, allows, row_refusals, row_at, row_sent, row_list, sent_from, rows_sent}
use Rattle.votes.specs.RequestLaws.{sends, sent_fits, sent_counts, sent_sound}

-- ---- the rows sent, by seat
module _ (n f : ℕ) (v : View) (t : VoteRows) where
  -- Seat k's row before the others, if it is sent.
  abbrev before : ℕ → List Row → Bool → List Row
  before k rs b = row_list (cond b (Some (row_at v t (record { 0 = k }))) None) rs

  -- A seat that was looked at has a row in the list where its row counts.
  sent_has : (k d j : ℕ) → k ≤ j → j < k + d → has_seat (sent_from n f v t k d) j ≡ sends n f v t j
  unfolding row_sent row_at
  sent_has k zero j low high = absurd (omega arith)
  sent_has k (suc d) j low high = elim (ℕ_discrete k j) [
    | yes e ↦
        let rest = rising_above n (k + 1) later j (sent_fits n f v t (suc k) d (k + 1) (omega arith)).0 (omega arith) in
        here (sends n f v t k) (eq-eqb k j e) rest ∙ ap (sends n f v t) e
    | no e ↦ past (sends n f v t k) (ne_eqb k j e) ∙ sent_has (suc k) d j (omega arith) (omega arith)
  ]
    where
      later : List Row
      later = sent_from n f v t (suc k) d

      here : (b : Bool) → eqb k j ≡ true → has_seat later j ≡ false → has_seat (before k later b) j ≡ b
      here true e rest = ap (λ c. c || has_seat later j) e
      here false e rest = rest

      past : (b : Bool) → eqb k j ≡ false → has_seat (before k later b) j ≡ has_seat later j
      past true e = ap (λ c. c || has_seat later j) e
      past false e = refl

  -- A row of the list has its seat's vote.
  sent_vote : (k d j : ℕ) → T (has_seat (sent_from n f v t k d) j) → vote_of (sent_from n f v t k d) j ≡ vote_at t.votes j
  unfolding row_sent row_at
  sent_vote k zero j h = absurd h
  sent_vote k (suc d) j h = go (sends n f v t k) h (sent_vote (suc k) d j)
    where
      later : List Row
      later = sent_from n f v t (suc k) d

      Rest : Type 0
      Rest = T (has_seat later j) → vote_of later j ≡ vote_at t.votes j

      here : (c : Bool) → eqb k j ≡ c → T (c || has_seat later j) → Rest → cond c (vote_at t.votes k) (vote_of later j) ≡ vote_at t.votes j
      here true e h rest = ap (vote_at t.votes) (eqb-true k j e)
      here false e h rest = rest h

      go : (b : Bool) → T (has_seat (before k later b) j) → Rest → vote_of (before k later b) j ≡ vote_at t.votes j
      go true h rest = here (eqb k j) refl h rest
      go false h rest = rest h

-- So a request's reader selects as its leader did.
pub sent_chooses : (n f : ℕ) (v : View) (t : VoteRows)
    → selection n f (has_seat (rows_sent n f v t)) (vote_of (rows_sent n f v t)) ≡ selection n f (has_row n f v t) (vote_at t.votes)
unfolding rows_sent
sent_chooses n f v t = selection_ext n f _ (has_row n f v t) _ (vote_at t.votes) has vote
  where
    rows : List Row
    rows = rows_sent n f v t

    has : (k : ℕ) → k < n → has_seat rows k ≡ has_row n f v t k
    has k l = sent_has n f v t 0 n k (omega arith) (omega arith) ∙ ap (λ b. b && has_row n f v t k) (lt-ltb k n l)

    vote : (k : ℕ) → k < n → T (has_seat rows k) → SameVote (vote_of rows k) (vote_at t.votes k)
    vote k l h =
        let same = sent_vote n f v t 0 n k h in
        record { cast = ap (λ x. x.cast) same; view = λ c. ap (λ x. x.view.0) same; entry = λ c. ap (λ x. x.entry) same }

-- ---- what the selection leaves open

-- Where it does not wait there are rows enough.
allowed_enough : (n f : ℕ) (has : ℕ → Bool) (vote : ℕ → Vote) (e : Entry) → T (allows (selection n f has vote) e) → quorum n f ≤ count has n
allowed_enough n f has vote e h = go (selection n f has vote) (selection_way n f has vote) h
  where
    go : {w : ℕ} (c : Choice) → Way n f has vote w c → T (allows c e) → quorum n f ≤ count has n
    go c waits h = absurd h
    go c (blank m b) h = m
    go c (alone m x r o) h = m
    go c (forced m t x r s) h = m
    go c (free m t s r) h = m

-- The request that a leader sends is not refused for its rows.
pub sent_clear : (n f : ℕ) (v : View) (t : VoteRows) (e : Entry)
    → T (allows (selection n f (has_row n f v t) (vote_at t.votes)) e) → Clear (row_refusals n f v (rows_sent n f v t) e)
sent_clear n f v t e h =
    let enough : quorum n f ≤ length rows = omega (arith, sent_counts n f v t, allowed_enough n f (has_row n f v t) (vote_at t.votes) e h) in
    let fit : unfit n f v rows ≡ false = ap₂ ◌||◌ (le-ltb (length rows) (quorum n f) enough) (sent_sound n f v t) in
    let leaves = true_is (allows c e) (subst (λ d. T (allows d e)) (sym (sent_chooses n f v t)) h) in
    (is_false (unfit n f v rows) fit, (is_false (not (allows c e)) (ap not leaves), tt))
  where
    rows : List Row
    rows = rows_sent n f v t

    c : Choice
    c = selection n f (has_seat rows) (vote_of rows)

-- A forced entry stands in a valid row.
pub forced_formed : (n f : ℕ) (v : View) (t : VoteRows) (e : Entry)
    → selection n f (has_row n f v t) (vote_at t.votes) ≡ Choice.Forced e → T (well_formed e)
unfolding has_row
forced_formed n f v t e h =
    let r = forced_row n f (has_row n f v t) (vote_at t.votes) e h in
    let fine = and_r (bit t.filled r.seat) (valid n f v (vote_at t.votes r.seat)) r.filled in
    subst (λ x. T (well_formed x)) r.is (valid_formed n f v (vote_at t.votes r.seat) fine r.cast)
