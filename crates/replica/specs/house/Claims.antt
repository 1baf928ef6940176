-- What an event asserts of the seats, by its verified marks and mask bits.
use Rattle.std.specs.Prelude.{ℕ, zero, suc, ◌&&◌, cond, List, [], ◌∷◌, ◌++◌, leb}
use Rattle.entry.specs.declared.Entry.{Entry}
use Rattle.seats.specs.declared.View.{View}
use Rattle.seats.specs.Seats.{leader}
use Rattle.seats.specs.Mask.{bit}
use Rattle.votes.specs.declared.Vote.{Vote}
use Rattle.votes.specs.declared.Row.{Row}
use Rattle.messages.specs.declared.Head.{Head}
use Rattle.messages.specs.declared.Message.{Message}
use Rattle.messages.specs.declared.Message.TheVariants.{Start, Enter, Propose, Acknowledge, Cast, Ask, Confirm}
use Rattle.messages.specs.Lines.{row_head, tidy_vote}

-- What a seat says under its mark, "kind, view and entry; in V, view and the whole vote".
pub data Statement : Type 0 where
  proposes : View → Entry → Statement
  acknowledges : View → Entry → Statement
  votes : View → Vote → Statement
  asks : View → Entry → Statement
  confirms : View → Entry → Statement

-- Seat k said this.
abbrev pub Claim : Type 0
Claim = ℕ × Statement

-- "the whole vote": nil is nil, whatever stands beside it. "Unused fields do not count."
abbrev pub whole : Vote → Vote
whole x = tidy_vote x.cast x

-- ---- the mark of a message: "A message's mark speaks for its sender"
abbrev pub marked : Head → Statement → List Claim
marked h x = cond h.verified ((h.seat.0, x) ∷ []) []

-- ".. and covers kind, view and entry; in V, view and the whole vote; in P and Q not the mask or the rows."
abbrev pub said : Message → List Claim
said Start = []
said (Enter v) = []
said (Propose p) = marked p.head (proposes p.head.view p.entry)
said (Acknowledge a) = marked a.head (acknowledges a.head.view a.entry)
said (Cast r) = marked (row_head r) (votes r.view (whole r.vote))
said (Ask q) = marked q.head (asks q.head.view q.entry)
said (Confirm c) = marked c.head (confirms c.head.view c.entry)

-- ---- "A mask bit covers that seat's C for that view and entry." Of the n seats: a bit at or above n is nobody's.
abbrev pub signed : ℕ → View → Entry → ℕ → List Claim
signed zero v e mask = []
signed (suc k) v e mask = cond (bit mask k) ((k, confirms v e) ∷ []) [] ++ signed k v e mask

-- ---- "The mark inside a vote speaks for the leader of u and covers P, u and entry." There is no view 0, and nobody leads it.
abbrev pub led : ℕ → Vote → List Claim
led n x = cond (x.verified && leb 1 x.view.0) ((leader x.view.0 n, proposes x.view x.entry) ∷ []) []

-- A vote that is not nil asserts both, whatever the mark of the V around it.
abbrev pub inside : ℕ → Vote → List Claim
inside n x = cond x.cast (led n x ++ signed n x.view x.entry x.mask) []

-- A V by itself, and as a row of a Q.
abbrev pub in_row : ℕ → Row → List Claim
in_row n r = said (Cast r) ++ inside n r.vote

abbrev pub in_rows : ℕ → List Row → List Claim
in_rows n [] = []
in_rows n (r ∷ rs) = in_row n r ++ in_rows n rs

-- ---- all of it. The rows are a Q's: beside another message they do not count. Agreement does not need what the marks of P, C and Q
-- themselves assert, and `delivery` only those of P and C: they stay because the demand has them.
abbrev pub claims : ℕ → Message → List Row → List Claim
claims n Start rows = []
claims n (Enter v) rows = []
claims n (Propose p) rows = said (Propose p) ++ signed n p.head.view p.entry p.mask
claims n (Acknowledge a) rows = said (Acknowledge a)
claims n (Cast r) rows = in_row n r
claims n (Ask q) rows = said (Ask q) ++ in_rows n rows
claims n (Confirm c) rows = said (Confirm c)
