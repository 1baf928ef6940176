-- 01, "Numbers of refusal": the table, event by event, in its own order. "Where several apply, the lowest is given."
use Rattle.std.specs.Prelude.{ℕ, Bool, not, ◌&&◌, [], ◌∷◌, ◌++◌, eqb, leb, ltb}
use Rattle.base.specs.Refusal.{Refusals}
use Rattle.entry.specs.declared.Entry.{Entry}
use Rattle.entry.specs.Entry.{well_formed, same}
use Rattle.seats.specs.declared.Seat.{Seat}
use Rattle.seats.specs.declared.View.{View}
use Rattle.seats.specs.Seats.{leader}
use Rattle.seats.specs.Sizes.{size_refusals}
use Rattle.seats.specs.Mask.{bit}
use Rattle.seats.specs.Certificate.{good_certificate}
use Rattle.votes.specs.declared.Vote.{Vote}
use Rattle.votes.specs.declared.Row.{Row}
use Rattle.votes.specs.Vote.{valid}
use Rattle.messages.specs.declared.Head.{Head}
use Rattle.messages.specs.declared.Assent.{Assent}
use Rattle.messages.specs.declared.Proposal.{Proposal}
use Rattle.messages.specs.declared.Request.{Request}
use Rattle.messages.specs.Lines.{row_head}
use Rattle.replica.specs.declared.Stage.{Stage}

-- What of a replica the table asks most.
pub record Standing : Type 0 where
  pub n : ℕ
  pub f : ℕ
  pub seat : Seat
  pub stage : Stage
  pub view : View

-- ---- "a stage: idle, collecting, asking, proposed"
abbrev pub idle : ℕ
idle = 0

abbrev pub collecting : ℕ
collecting = 1

abbrev pub asking : ℕ
asking = 2

abbrev pub proposed : ℕ
proposed = 3

abbrev pub is_stage : ℕ → Standing → Bool
is_stage k w = eqb w.stage.0 k

-- ---- the tests that several events share
abbrev pub is_view : View → ℕ → Bool
is_view v k = eqb v.0 k

-- "sender is n or more"
abbrev pub outside : Standing → Seat → Bool
outside w s = leb w.n s.0

-- "not the current view"
abbrev pub elsewhere : Standing → View → Bool
elsewhere w v = not (is_view v w.view.0)

-- A seat leads a view: it is "seat v mod n".
abbrev pub leads : ℕ → View → Seat → Bool
leads n v s = eqb (leader v.0 n) s.0

-- "sender does not lead the view", and "this seat does not"
abbrev pub not_led : Standing → View → Seat → Bool
not_led w v s = not (leads w.n v s)

-- ---- the table

-- "setup: n outside 4 to 64", "f is 0 or above the table", "own seat is n or more", "own entry not well formed"
abbrev pub setup_refusals : ℕ → ℕ → Seat → Entry → Refusals
setup_refusals n f s own = size_refusals n f ++ ((3, leb n s.0) ∷ (4, not (well_formed own)) ∷ [])

-- 5 to 7, of a message's head.
abbrev pub head_refusals : Standing → Head → Refusals → Refusals
head_refusals w h later = (5, is_view h.view 0) ∷ (6, outside w h.seat) ∷ (7, not h.verified) ∷ later

-- S
abbrev pub start_refusals : Standing → Refusals
start_refusals w =
    (8, not (is_view w.view 1))
    ∷ (9, not_led w w.view w.seat)
    ∷ (12, is_stage proposed w)
    ∷ []

-- E
abbrev pub enter_refusals : Standing → View → Refusals
enter_refusals w v =
    (5, is_view v 0)
    ∷ (8, leb v.0 w.view.0)
    ∷ []

-- P, beside the replica's vote
abbrev pub propose_refusals : Standing → Vote → Proposal → Refusals
propose_refusals w vote p =
    head_refusals w p.head (
    (8, elsewhere w p.head.view)
    ∷ (9, not_led w p.head.view p.head.seat)
    ∷ (10, not (well_formed p.entry))
    ∷ (11, not (good_certificate w.n w.f p.head.view p.mask))
    ∷ (12, vote.cast && is_view vote.view p.head.view.0)
    ∷ [])

-- A, beside the view of the sender's row, which is 0 where the row is empty
abbrev pub acknowledge_refusals : Standing → View → Assent → Refusals
acknowledge_refusals w row a =
    head_refusals w a.head (
    (10, not (well_formed a.entry))
    ∷ (12, is_view row a.head.view.0)
    ∷ (17, ltb a.head.view.0 row.0)
    ∷ [])

-- V, where the sender's row is filled or not
abbrev pub cast_refusals : Standing → Bool → Row → Refusals
cast_refusals w filled r =
    head_refusals w (row_head r) (
    (8, elsewhere w r.view)
    ∷ (9, not_led w r.view w.seat)
    ∷ (12, filled)
    ∷ (13, not (is_stage collecting w))
    ∷ (14, not (valid w.n w.f r.view r.vote))
    ∷ [])

-- Q, before its rows are looked at
abbrev pub ask_refusals : Standing → Request → Refusals
ask_refusals w q =
    head_refusals w q.head (
    (8, elsewhere w q.head.view)
    ∷ (9, not_led w q.head.view q.head.seat)
    ∷ (10, not (well_formed q.entry))
    ∷ (13, is_view q.head.view 1)
    ∷ [])

-- C, beside the seats that have confirmed, and the entry chosen
abbrev pub confirm_refusals : Standing → ℕ → Entry → Assent → Refusals
confirm_refusals w confirmed chosen c =
    head_refusals w c.head (
    (8, elsewhere w c.head.view)
    ∷ (9, not_led w c.head.view w.seat)
    ∷ (10, not (well_formed c.entry))
    ∷ (12, bit confirmed c.head.seat.0)
    ∷ (13, not (is_stage asking w))
    ∷ (18, not (same c.entry chosen))
    ∷ [])
