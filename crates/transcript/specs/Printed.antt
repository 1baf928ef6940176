-- 01, "The program trace": what is printed of an event.
use Rattle.std.specs.Prelude.{ℕ, suc, ◌≡◌, Bool, true, false, List, [], ◌∷◌, ◌++◌, ℤ, pos, negsuc, Option, Some, None}
use Rattle.text.specs.Digits.{decimal}
use Rattle.text.specs.Fields.{tab, line_end}
use Rattle.entry.specs.Hex.{entry_text}
use Rattle.votes.specs.declared.Row.{Row}
use Rattle.messages.specs.declared.Message.TheVariants.{Start, Enter, Propose, Acknowledge, Cast, Ask, Confirm}
use Rattle.messages.specs.Lines.{dash, line}
use Rattle.messages.specs.Writer.{writable}
use Rattle.replica.specs.declared.Step.{Step}
use Rattle.replica.specs.Steps.{request_rows}
use Rattle.messages.specs.declared.Message.{Message}
use Rattle.entry.specs.declared.Entry.{Entry}

-- "entry decided now or `-`"
abbrev pub decided_text : Option Entry → List ℕ
decided_text None = dash ∷ []
decided_text (Some e) = entry_text e

-- The margin with its sign; no plus sign.
unfoldable pub signed : ℤ → List ℕ
signed (pos n) = decimal n
signed (negsuc n) = dash ∷ decimal (suc n)

-- "then the outgoing line's fields or `-`"
abbrev pub sent_text : Option Message → List ℕ
sent_text None = dash ∷ line_end
sent_text (Some m) = line m

-- "a Q sent is followed by its V lines"
abbrev pub row_lines : List Row → List ℕ
row_lines [] = []
row_lines (r ∷ rs) = line (Cast r) ++ row_lines rs

abbrev pub rows_behind : Option Message → List Row → List ℕ
rows_behind (Some (Ask q)) rows = row_lines rows
rows_behind (Some Start) rows = []
rows_behind (Some (Enter v)) rows = []
rows_behind (Some (Propose p)) rows = []
rows_behind (Some (Acknowledge a)) rows = []
rows_behind (Some (Cast r)) rows = []
rows_behind (Some (Confirm c)) rows = []
rows_behind None rows = []

-- Each field with a tab behind it, then the rest of the line.
abbrev pub told : List (List ℕ) → List ℕ → List ℕ
told [] rest = rest
told (f ∷ fs) rest = f ++ (tab ∷ told fs rest)

-- "event number from 1, refusal number, entry decided now or `-`, margin, then the outgoing line's fields or `-`"
unfoldable pub event_line : ℕ → ℕ → Option Entry → ℤ → Option Message → List ℕ
event_line k number d margin x = told (decimal k ∷ decimal number ∷ decided_text d ∷ signed margin ∷ []) (sent_text x)

-- Event k's lines: the step, and the margin of the replica that it hands back.
abbrev pub printed : ℕ → Step → ℤ → List ℕ
printed k t margin = event_line k t.number t.decided margin t.sent ++ rows_behind t.sent (request_rows t.next)

-- A Q goes out, and its rows behind it.
abbrev pub sends_ask : Option Message → Bool
sends_ask (Some (Ask q)) = true
sends_ask (Some Start) = false
sends_ask (Some (Enter v)) = false
sends_ask (Some (Propose p)) = false
sends_ask (Some (Acknowledge a)) = false
sends_ask (Some (Cast r)) = false
sends_ask (Some (Confirm c)) = false
sends_ask None = false

-- What the writer has a line for.
abbrev pub SentWritable : Option Message → Type 0
SentWritable None = Unit {0}
SentWritable (Some m) = writable m ≡ true

abbrev pub RowWritable : Option Row → Type 0
RowWritable None = Unit {0}
RowWritable (Some r) = writable (Cast r) ≡ true
