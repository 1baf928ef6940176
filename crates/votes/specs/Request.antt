-- 01's 15 and 16: what a request's rows must be, over the list of them, and over rows gathered one after the other.
use Rattle.std.specs.Prelude.{ℕ, zero, suc, Bool, true, false, not, ◌&&◌, ◌||◌, cond, List, [], ◌∷◌, Option, None, Some, Result, Ok, Err, eqb, ltb, length}
use Rattle.base.specs.declared.refusal.Refusal.{Refusal}
use Rattle.base.specs.Refusal.{Refusals}
use Rattle.entry.specs.declared.Entry.{Entry}
use Rattle.entry.specs.Entry.{same}
use Rattle.seats.specs.declared.Seat.{Seat}
use Rattle.seats.specs.declared.View.{View}
use Rattle.seats.specs.Seats.{count}
use Rattle.seats.specs.Sizes.{quorum}
use Rattle.seats.specs.Mask.{bit}
use Rattle.votes.specs.declared.Row.{Row}
use Rattle.votes.specs.declared.Rows.{Rows}
use Rattle.votes.specs.declared.VoteRows.{VoteRows}
use Rattle.votes.specs.declared.Choice.{Choice}
use Rattle.votes.specs.Selection.{selection}
use Rattle.votes.specs.Rows.{vote_at, has_row, has_seat, vote_of, broken, number_of, selected_from}

-- 15: "fewer than n − f rows, more than n, seats not strictly rising or not below n, or a row with mark `-`, another view or an
-- invalid vote"
abbrev pub unfit : ℕ → ℕ → View → List Row → Bool
unfit n f v rows = ltb (length rows) (quorum n f) || broken n f v rows

-- 16: "the selection waits, or is forced to another entry"
abbrev pub allows : Choice → Entry → Bool
allows Choice.Wait e = false
allows Choice.Free e = true
allows (Choice.Forced x) e = same x e

abbrev pub row_refusals : ℕ → ℕ → View → List Row → Entry → Refusals
row_refusals n f v rows e =
    (15, unfit n f v rows)
    ∷ (16, not (allows (selection n f (has_seat rows) (vote_of rows)) e))
    ∷ []

-- ---- the same of gathered rows

-- Rows are gathered for n, f and a view. Those of another house or view are not this request's.
abbrev pub gathered_for : Rows → ℕ → ℕ → View → Bool
gathered_for t n f v = (eqb t.n n && eqb t.f f) && eqb t.view.0 v.0

abbrev pub too_few : Rows → Bool
too_few t = ltb (count (bit t.table.filled) t.n) (quorum t.n t.f)

abbrev pub allowed : Result Choice Refusal → Entry → Bool
allowed (Ok c) e = allows c e
allowed (Err why) e = false

unfoldable pub gathered_refusals : Rows → ℕ → ℕ → View → Entry → Refusals
gathered_refusals t n f v e =
    (15, not (gathered_for t n f v) || (too_few t || not (eqb (number_of (selected_from t)) 0)))
    ∷ (16, not (allowed (selected_from t) e))
    ∷ []

-- ---- the rows that a leader sends: "Q with all filled rows in seat order"

-- A seat's row as the request has it. A row was taken with mark `+`.
unfoldable pub row_at : View → VoteRows → Seat → Row
row_at v t s = record { seat = s; verified = true; view = v; vote = vote_at t.votes s.0 }

unfoldable pub row_sent : ℕ → ℕ → View → VoteRows → Seat → Option Row
row_sent n f v t s = cond (ltb s.0 n && has_row n f v t s.0) (Some (row_at v t s)) None

abbrev pub row_list : Option Row → List Row → List Row
row_list None rows = rows
row_list (Some r) rows = r ∷ rows

-- Those of seats k, k + 1, .., d of them looked at.
abbrev pub sent_from : ℕ → ℕ → View → VoteRows → ℕ → ℕ → List Row
sent_from n f v t k zero = []
sent_from n f v t k (suc d) = row_list (row_sent n f v t (record { 0 = k })) (sent_from n f v t (suc k) d)

unfoldable pub rows_sent : ℕ → ℕ → View → VoteRows → List Row
rows_sent n f v t = sent_from n f v t 0 n
