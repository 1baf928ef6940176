-- The reader as a function of the line, field by field. Nobody need believe it: `reads` in RoundTrip.antt says that its answer
-- is the one that `Reads` in Lines.antt asks for.
use Rattle.std.specs.Prelude.{ℕ, Bool, true, false, cond, List, eqb, Option, Some, None}
use Rattle.std.specs.Bool.{then_some}
use Rattle.text.specs.Digits.{◌>>=◌, decimal_of, hex_of, letter_of}
use Rattle.text.specs.Fields.{field_at, behind, end_behind, over}
use Rattle.entry.specs.Hex.{entry_field}
use Rattle.entry.specs.declared.Entry.{Entry}
use Rattle.votes.specs.declared.Vote.{Vote}
use Rattle.votes.specs.declared.Row.{Row}
use Rattle.messages.specs.declared.Head.{Head}
use Rattle.messages.specs.declared.Assent.{Assent}
use Rattle.messages.specs.declared.Message.{Message}
use Rattle.messages.specs.declared.Message.TheVariants.{Start, Enter, Propose, Acknowledge, Cast, Ask, Confirm}
use Rattle.messages.specs.Lines.{plus, dash, top_seat, top_view, top_count, nil_vote}
use Rattle.messages.specs.Lines.{start_kind, enter_kind, propose_kind, acknowledge_kind, cast_kind, ask_kind, confirm_kind}

-- ---- the field behind the tab at place e, as `read` reads it, and where it ends
abbrev pub read_at : {A : Type 0} → (List ℕ → Option A) → List ℕ → ℕ → Option (A × ℕ)
read_at read t e = do
  x ← read (behind t e)
  Some (x, end_behind t e)

abbrev pub number_at : List ℕ → ℕ → ℕ → Option (ℕ × ℕ)
number_at t e max = read_at (decimal_of max) t e

abbrev pub hex_at : List ℕ → ℕ → Option (ℕ × ℕ)
hex_at t e = read_at hex_of t e

abbrev pub entry_at : List ℕ → ℕ → Option (Entry × ℕ)
entry_at t e = read_at entry_field t e

abbrev pub letter_at : List ℕ → ℕ → Option (ℕ × ℕ)
letter_at t e = read_at letter_of t e

-- Where the dash ends, if the field is one.
unfoldable pub dash_at : List ℕ → ℕ → Option ℕ
dash_at t e = do
  d ← letter_at t e
  then_some (eqb d.0 dash) d.1

abbrev pub mark_of : ℕ → Option Bool
mark_of x = cond (eqb x plus) (Some true) (cond (eqb x dash) (Some false) None)

-- ---- the fields behind the kind, which ends at place e
unfoldable pub head_at : List ℕ → ℕ → Option (Head × ℕ)
head_at t e = do
  s ← number_at t e top_seat
  m ← letter_at t s.1
  verified ← mark_of m.0
  v ← number_at t m.1 top_view
  Some (record { seat = record { 0 = s.0 }; verified = verified; view = record { 0 = v.0 } }, v.1)

unfoldable pub enter_at : List ℕ → ℕ → Option Message
enter_at t e = do
  v ← number_at t e top_view
  then_some (over t v.1) (Enter (record { 0 = v.0 }))

unfoldable pub assent_at : List ℕ → ℕ → Option Assent
assent_at t e = do
  h ← head_at t e
  x ← entry_at t h.1
  then_some (over t x.1) (record { head = h.0; entry = x.0 })

unfoldable pub propose_at : List ℕ → ℕ → Option Message
propose_at t e = do
  h ← head_at t e
  x ← entry_at t h.1
  m ← hex_at t x.1
  then_some (over t m.1) (Propose (record { head = h.0; entry = x.0; mask = m.0 }))

unfoldable pub ask_at : List ℕ → ℕ → Option Message
ask_at t e = do
  h ← head_at t e
  x ← entry_at t h.1
  c ← number_at t x.1 top_count
  then_some (over t c.1) (Ask (record { head = h.0; entry = x.0; count = c.0 }))

abbrev pub row_with : Head → Vote → Row
row_with h x = record { seat = h.seat; verified = h.verified; view = h.view; vote = x }

unfoldable pub nil_at : List ℕ → Head → ℕ → Option Message
nil_at t h e = then_some (over t e) (Cast (row_with h nil_vote))

unfoldable pub vote_at : List ℕ → Head → ℕ → Option Message
vote_at t h e = do
  u ← number_at t e top_view
  x ← entry_at t u.1
  c ← hex_at t x.1
  m ← letter_at t c.1
  verified ← mark_of m.0
  let vote : Vote = record { entry = x.0; mask = c.0; view = record { 0 = u.0 }; cast = true; verified = verified }
  then_some (over t m.1) (Cast (row_with h vote))

-- Behind a head: a nil vote where a dash ends there, else one that is cast.
abbrev pub row_at : List ℕ → Head × ℕ → Option ℕ → Option Message
row_at t h (Some e) = nil_at t h.0 e
row_at t h None = vote_at t h.0 h.1

unfoldable pub cast_at : List ℕ → ℕ → Option Message
cast_at t e = do
  h ← head_at t e
  row_at t h (dash_at t h.1)

-- ---- the line, by its kind
abbrev pub acknowledge_at : List ℕ → ℕ → Option Message
acknowledge_at t e = do
  a ← assent_at t e
  Some (Acknowledge a)

abbrev pub confirm_at : List ℕ → ℕ → Option Message
confirm_at t e = do
  c ← assent_at t e
  Some (Confirm c)

unfoldable pub message_at : List ℕ → ℕ → ℕ → Option Message
message_at t e k =
    cond (eqb k acknowledge_kind) (acknowledge_at t e)
    (cond (eqb k cast_kind) (cast_at t e)
    (cond (eqb k propose_kind) (propose_at t e)
    (cond (eqb k confirm_kind) (confirm_at t e)
    (cond (eqb k ask_kind) (ask_at t e)
    (cond (eqb k enter_kind) (enter_at t e)
    (cond (eqb k start_kind) (then_some (over t e) Start)
    None))))))

-- The kind is the first field, one byte.
unfoldable pub read_line : List ℕ → Option Message
read_line l = do
  k ← letter_of (field_at l 0)
  message_at l 1 k
