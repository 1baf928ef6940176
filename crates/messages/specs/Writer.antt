-- 01, "Numbers of refusal", 20 and 21: what the writer answers, and every byte of the lent buffer afterwards.
use Rattle.std.specs.Prelude.{ℕ, Bool, true, not, ◌&&◌, cond, List, [], ◌∷◌, ◌++◌, ltb, leb, length, drop, Result, Ok, Err, is_ok}
use Rattle.base.specs.Refusal.{Refusals, first, judged, number}
use Rattle.base.specs.declared.refusal.Refusal.{Refusal}
use Rattle.messages.specs.declared.Head.{Head}
use Rattle.messages.specs.declared.Message.{Message}
use Rattle.messages.specs.declared.Message.TheVariants.{Start, Enter, Propose, Acknowledge, Cast, Ask, Confirm}
use Rattle.messages.specs.Lines.{line, row_head, top_seat, top_count}

abbrev pub seated : Head → Bool
seated h = leb h.seat.0 top_seat

-- No "seat above 99 or a count above 64".
unfoldable pub writable : Message → Bool
writable Start = true
writable (Enter v) = true
writable (Propose p) = seated p.head
writable (Acknowledge a) = seated a.head
writable (Cast r) = seated (row_head r)
writable (Ask q) = seated q.head && leb q.count top_count
writable (Confirm c) = seated c.head

-- 20: "message can be written but the buffer is too short". 21: "a seat above 99 or a count above 64".
abbrev pub writer_refusals : Bool → ℕ → ℕ → Refusals
writer_refusals can room n = (20, can && ltb room n) ∷ (21, not can) ∷ []

abbrev pub writer_number : List ℕ → Message → ℕ
writer_number buf m = first (writer_refusals (writable m) (length buf) (length (line m)))

-- The same by name.
abbrev pub writing : List ℕ → Message → Result (Unit {0}) Refusal
writing buf m = judged (writer_refusals (writable m) (length buf) (length (line m)))

-- "The writer on 20 or 21 touches no byte and gives length 0; otherwise it writes the line and no byte after it."
abbrev pub told : Result (Unit {0}) Refusal → ℕ → Result ℕ Refusal
told (Ok x) n = Ok n
told (Err why) n = Err why

unfoldable pub written : List ℕ → Message → Result ℕ Refusal
written buf m = told (writing buf m) (length (line m))

-- An answer as a number of refusal, and a length.
abbrev pub written_number : Result ℕ Refusal → ℕ
written_number (Ok n) = 0
written_number (Err why) = number why

abbrev pub written_length : Result ℕ Refusal → ℕ
written_length (Ok n) = n
written_length (Err why) = 0

-- A text at the front of the buffer, and every byte behind it as it was.
abbrev pub lent : List ℕ → List ℕ → List ℕ
lent buf text = text ++ drop (length text) buf

unfoldable pub afterwards : List ℕ → Message → List ℕ
afterwards buf m = cond (is_ok (writing buf m)) (lent buf (line m)) buf
