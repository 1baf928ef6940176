-- How long what is printed is at most.
use Prim.Native.Nat.{ℕ, ◌+◌, ◌≤◌}
use mathlib.Core.Path.{◌≡◌}
use mathlib.Core.Bool.{Bool, true, false}
use mathlib.Core.List.{[]}
use native.Mathlib.Omega.{arith}
use lib.Dec.{lit≤}
use lib.ListN.{length}
use Rattle.text.specs.Digits.{width}
use Rattle.text.specs.Fields.{tabbed}
use Rattle.text.specs.DecimalLaws.{width_le}
use Rattle.entry.specs.Hex.{entry_digits}
use Rattle.votes.specs.declared.Vote.{Vote}
use Rattle.messages.specs.declared.Head.{Head}
use Rattle.messages.specs.declared.Message.{Message}
use Rattle.messages.specs.declared.Message.TheVariants.{Start, Enter, Propose, Acknowledge, Cast, Ask, Confirm}
use Rattle.messages.specs.Lengths.{number_takes, head_takes, vote_takes, line_takes}
use Rattle.messages.specs.Lengths.{proposal_takes, assent_takes, row_takes, request_takes}
use Rattle.messages.specs.Lines.{head, vote, row_head, fields, line}
use Rattle.transcript.specs.Rooms.{line_room}

-- What put a decimal has put twenty digits at most.
pub digits_few : (r v : ℕ) → r ≡ width v → r ≤ 20
digits_few r v e = omega (arith, e, width_le v)

-- ---- a line of any message, whatever its numbers
head_short : (h : Head) → length (tabbed (head h [])) ≤ 44
head_short h = omega (arith, head_takes h [], width_le h.seat.0, width_le h.view.0)

vote_short : (cast : Bool) (x : Vote) → length (tabbed (vote cast x)) ≤ entry_digits + 41
vote_short true x = omega (arith, vote_takes x, width_le x.view.0)
vote_short false x = lit≤ tt

fields_short : (m : Message) → length (tabbed (fields m)) ≤ entry_digits + 85
fields_short Start = lit≤ tt
fields_short (Enter v) = omega (arith, number_takes v.0 [], width_le v.0)
fields_short (Propose p) = omega (arith, proposal_takes p, head_short p.head)
fields_short (Acknowledge a) = omega (arith, assent_takes a, head_short a.head)
fields_short (Cast r) = omega (arith, row_takes r, head_short (row_head r), vote_short r.vote.cast r.vote)
fields_short (Ask q) = omega (arith, request_takes q, head_short q.head, width_le q.count)
fields_short (Confirm c) = omega (arith, assent_takes c, head_short c.head)

pub line_short : (m : Message) → length (line m) ≤ line_room
line_short m = omega (arith, line_takes m, fields_short m)
