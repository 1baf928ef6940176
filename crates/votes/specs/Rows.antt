-- Rows of votes: the leader's table, by seat, and the rows of a request, in a list.
use Rattle.std.specs.Prelude.{ℕ, ◌+◌, Bool, true, false, not, ◌&&◌, ◌||◌, cond, List, [], ◌∷◌, ◌++◌, Result, Ok, Err, eqb, leb, ltb, length, get_or, set, replicate}
use Rattle.base.specs.declared.refusal.Refusal.{Refusal}
use Rattle.base.specs.Refusal.{Refusals, first, number, judged}
use Rattle.entry.specs.Entry.{zero_entry}
use Rattle.entry.specs.Table.{table_words, entry_at, with_entry}
use Rattle.seats.specs.declared.View.{View}
use Rattle.seats.specs.Sizes.{size_refusals}
use Rattle.seats.specs.Mask.{bit, with_seat, put_seat}
use Rattle.votes.specs.declared.Vote.{Vote}
use Rattle.votes.specs.declared.Votes.{Votes}
use Rattle.votes.specs.declared.Row.{Row}
use Rattle.votes.specs.declared.VoteRows.{VoteRows}
use Rattle.votes.specs.declared.Rows.{Rows}
use Rattle.votes.specs.declared.Choice.{Choice}
use Rattle.votes.specs.Vote.{valid}
use Rattle.votes.specs.Selection.{selection}

-- ---- by seat

abbrev pub votes_of : ℕ → ℕ → List ℕ → List ℕ → List ℕ → Votes
votes_of c w es ms vs = record { cast = c; verified = w; entries = es; masks = ms; views = vs }

abbrev pub table_of : ℕ → Votes → VoteRows
table_of fs t = record { filled = fs; votes = t }

-- Vote k of 64.
unfoldable pub vote_at : Votes → ℕ → Vote
vote_at t k = record {
  entry = entry_at t.entries k;
  mask = get_or t.masks k 0;
  view = record { 0 = get_or t.views k 0 };
  cast = bit t.cast k;
  verified = bit t.verified k;
}

-- Seat k's row is filled, and valid for view v: "vote rows that are not valid, count as empty".
unfoldable pub has_row : ℕ → ℕ → View → VoteRows → ℕ → Bool
has_row n f v t k = bit t.filled k && valid n f v (vote_at t.votes k)

-- "the selection answers 1 or 2 for a bad n or f, 5 for view 0"
abbrev pub call_refusals : ℕ → ℕ → View → Refusals
call_refusals n f v = size_refusals n f ++ ((5, eqb v.0 0) ∷ [])

abbrev pub call_number : ℕ → ℕ → View → ℕ
call_number n f v = first (call_refusals n f v)

-- What is answered where a call is judged: the refusal, or what comes behind it.
abbrev pub answered : Result (Unit {0}) Refusal → Result Choice Refusal → Result Choice Refusal
answered (Ok x) s = s
answered (Err why) s = Err why

-- 01's number of an answer: "0 means taken", here that there is a choice.
abbrev pub number_of : Result Choice Refusal → ℕ
number_of (Ok c) = 0
number_of (Err why) = number why

-- The selection over the leader's table.
unfoldable pub chosen : ℕ → ℕ → View → VoteRows → Result Choice Refusal
chosen n f v t = answered (judged (call_refusals n f v)) (Ok (selection n f (has_row n f v t) (vote_at t.votes)))

-- A table with no row.
abbrev pub no_votes : VoteRows
no_votes = table_of 0 (votes_of 0 0 (replicate table_words 0) (replicate 64 0) (replicate 64 0))

-- "V vote: fills the sender's row." There is no row past the 64th.
unfoldable pub with_vote : VoteRows → ℕ → Vote → VoteRows
with_vote t k x =
    cond (ltb k 64)
    (table_of (with_seat t.filled k)
    (votes_of (put_seat t.votes.cast k x.cast) (put_seat t.votes.verified k x.verified)
    (with_entry t.votes.entries k x.entry) (set t.votes.masks k x.mask) (set t.votes.views k x.view.0)))
    t

-- ---- as a list

-- Some row is seat k's.
abbrev pub has_seat : List Row → ℕ → Bool
has_seat [] k = false
has_seat (r ∷ rs) k = eqb r.seat.0 k || has_seat rs k

abbrev pub zero_vote : Vote
zero_vote = record { entry = zero_entry; mask = 0; view = record { 0 = 0 }; cast = false; verified = false }

-- Its vote, of the first such row.
abbrev pub vote_of : List Row → ℕ → Vote
vote_of [] k = zero_vote
vote_of (r ∷ rs) k = cond (eqb r.seat.0 k) r.vote (vote_of rs k)

-- The lowest seat that the next row may have.
abbrev pub follower : Row → ℕ
follower r = r.seat.0 + 1

-- "seats .. strictly rising" and "below n", from seat s on
abbrev pub rising : ℕ → ℕ → List Row → Bool
rising n s [] = true
rising n s (r ∷ rs) = (leb s r.seat.0 && ltb r.seat.0 n) && rising n (follower r) rs

-- "a row with mark `-`, another view or an invalid vote" is not sound
unfoldable pub sound : ℕ → ℕ → View → Row → Bool
sound n f v r = r.verified && (eqb r.view.0 v.0 && valid n f v r.vote)

abbrev pub all_sound : ℕ → ℕ → View → List Row → Bool
all_sound n f v [] = true
all_sound n f v (r ∷ rs) = sound n f v r && all_sound n f v rs

-- 15's conditions: "more than n, seats not strictly rising or not below n, or a row with mark `-`, another view or an
-- invalid vote". "too few rows there are a wait"
abbrev pub broken : ℕ → ℕ → View → List Row → Bool
broken n f v rows = ltb n (length rows) || (not (rising n 0 rows) || not (all_sound n f v rows))

-- "Called by itself, the selection answers 1 or 2 for a bad n or f, 5 for view 0, and 15 for a table that breaks 15's
-- conditions on rows".
abbrev pub rows_refusals : ℕ → ℕ → View → Bool → Refusals
rows_refusals n f v breaks = call_refusals n f v ++ ((15, breaks) ∷ [])

abbrev pub rows_number : ℕ → ℕ → View → Bool → ℕ
rows_number n f v breaks = first (rows_refusals n f v breaks)

unfoldable pub selected : ℕ → ℕ → View → List Row → Result Choice Refusal
selected n f v rows = answered (judged (rows_refusals n f v (broken n f v rows))) (Ok (selection n f (has_seat rows) (vote_of rows)))

-- ---- the same, gathered one row after the other

unfoldable pub no_rows : ℕ → ℕ → View → Rows
no_rows n f v = record { view = v; next = 0; n = n; f = f; broken = false; table = no_votes }

unfoldable pub added : Rows → Row → Rows
added t r = record {
  view = t.view;
  next = follower r;
  n = t.n;
  f = t.f;
  broken = t.broken || not ((leb t.next r.seat.0 && ltb r.seat.0 t.n) && sound t.n t.f t.view r);
  table = with_vote t.table r.seat.0 r.vote;
}

abbrev pub gathered : Rows → List Row → Rows
gathered t [] = t
gathered t (r ∷ rs) = gathered (added t r) rs

unfoldable pub selected_from : Rows → Result Choice Refusal
selected_from t =
    answered (judged (rows_refusals t.n t.f t.view t.broken))
    (Ok (selection t.n t.f (bit t.table.filled) (vote_at t.table.votes)))
