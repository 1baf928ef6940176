-- 01, "Lines": "The longest is 80 characters before the LF."
use Rattle.std.specs.Prelude.{ℕ, ◌+◌, ◌<◌, ◌≤◌, ◌≡◌, refl, Bool, true, false, List, [], ◌++◌, length}
use Rattle.std.proofs.Common.{arith, lit<, lit≤}
use Rattle.text.specs.DecimalLaws.{decimal_short}
use Rattle.text.specs.Digits.{decimal, hex, hex_char, width}
use Rattle.text.specs.FieldLaws.{line_front, line_size}
use Rattle.text.specs.Fields.{line_end, tabbed, longest_end}
use Rattle.entry.specs.Entry.{zero_entry}
use Rattle.entry.specs.Hex.{entry_text, entry_digits}
use Rattle.entry.specs.HexLaws.{zero_is_entry}
use Rattle.votes.specs.declared.Vote.{Vote}
use Rattle.messages.specs.declared.Head.{Head}
use Rattle.messages.specs.declared.Message.{Message}
use Rattle.messages.specs.declared.Message.TheVariants.{Start, Enter, Propose, Acknowledge, Cast, Ask, Confirm}
use Rattle.messages.specs.Lengths.{number_takes, head_takes, vote_takes, line_takes}
use Rattle.messages.specs.Lengths.{proposal_takes, assent_takes, row_takes, request_takes}
use Rattle.messages.specs.Lines.{head, vote, row_head, kind, fields, line, IsLine, top_seat, top_view}
use Rattle.messages.specs.Lines.{HeadWithin, CastWithin, Fits}

abbrev pub longest_line : ℕ
longest_line = 80

-- ---- bytes that fields take, where their numbers fit

-- A seat has two digits at most, and a view ten.
head_short : (h : Head) → HeadWithin top_seat h → length (tabbed (head h [])) ≤ 16
head_short h f =
    let s = decimal_short 1 h.seat.0 (omega (arith, f.seat)) (lit≤ tt) in
    let v = decimal_short 9 h.view.0 (omega (arith, f.view)) (lit≤ tt) in
    omega (arith, head_takes h [])

vote_short : (cast : Bool) (x : Vote) → CastWithin cast x → length (tabbed (vote cast x)) ≤ entry_digits + 31
vote_short true x f = omega (arith, vote_takes x, decimal_short 9 x.view.0 (omega (arith, f.view)) (lit≤ tt))
vote_short false x f = lit≤ tt

-- A vote's are the longest.
fields_short : (m : Message) → Fits m → length (tabbed (fields m)) < longest_line
fields_short Start f = lit< tt
fields_short (Enter v) f = omega (arith, number_takes v.0 [], decimal_short 9 v.0 (omega (arith, f)) (lit≤ tt))
fields_short (Propose p) f = omega (arith, proposal_takes p, head_short p.head f.0)
fields_short (Acknowledge a) f = omega (arith, assent_takes a, head_short a.head f.0)
fields_short (Cast r) f = omega (arith, row_takes r, head_short (row_head r) f.0, vote_short r.vote.cast r.vote f.1)
fields_short (Ask q) f =
    let c = decimal_short 1 q.count (omega (arith, f.1.1)) (lit≤ tt) in
    omega (arith, request_takes q, head_short q.head f.0)
fields_short (Confirm c) f = omega (arith, assent_takes c, head_short c.head f.0)

-- No line is longer.
pub longest : (m : Message) → Fits m → length (line m) ≤ longest_line + 1
longest m f = omega (arith, line_takes m, fields_short m f)

-- ---- the lines that are read

-- The longest of them, with its end.
abbrev pub longest_read : ℕ
longest_read = longest_line + longest_end

module _ (l : List ℕ) (m : Message) (is : IsLine l m) where
  -- An LF is its last byte.
  pub line_ended : (w : List ℕ) × (l ≡ w ++ line_end)
  unfolding IsLine
  line_ended = line_front l (kind m) (fields m) is

  pub longest_read_lem : Fits m → length l ≤ longest_read
  unfolding IsLine
  longest_read_lem f = omega (arith, line_size l (kind m) (fields m) is, fields_short m f)

-- ---- reached

-- This one is as long.
abbrev pub longest_vote : Message
longest_vote = Cast (record {
  seat = record { 0 = top_seat };
  verified = true;
  view = record { 0 = top_view };
  vote = record { entry = zero_entry; mask = 0; view = record { 0 = top_view }; cast = true; verified = true };
})

pub longest_reached : Fits longest_vote × (length (line longest_vote) ≡ longest_line + 1)
unfolding line decimal width hex hex_char entry_text
longest_reached = (
  (
    record { seat = lit≤ tt; view = lit≤ tt },
    record { view = lit≤ tt; entry = zero_is_entry; mask = lit< tt },
  ),
  refl,
)
