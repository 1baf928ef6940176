-- 01, "Lines": what the line of a message is.
use Rattle.std.specs.Prelude.{ℕ, ◌<◌, ◌≤◌, ◌^◌, ◌≡◌, Bool, true, false, cond, List, [], ◌∷◌, Option, Some, None}
use Rattle.text.specs.Digits.{decimal, hex}
use Rattle.text.specs.Fields.{line_of, IsLineOf}
use Rattle.entry.specs.Entry.{zero_entry}
use Rattle.entry.specs.Hex.{entry_text, IsEntry}
use Rattle.seats.specs.declared.Seat.{Seat}
use Rattle.seats.specs.declared.View.{View}
use Rattle.votes.specs.declared.Vote.{Vote}
use Rattle.votes.specs.declared.Row.{Row}
use Rattle.messages.specs.declared.Head.{Head}
use Rattle.messages.specs.declared.Message.{Message}
use Rattle.messages.specs.declared.Message.TheVariants.{Start, Enter, Propose, Acknowledge, Cast, Ask, Confirm}

-- ---- fields

-- "`+` verified, `-` not"
abbrev pub plus : ℕ
plus = 43

abbrev pub dash : ℕ
dash = 45

abbrev pub mark : Bool → List ℕ
mark verified = cond verified plus dash ∷ []

abbrev pub seat : Seat → List ℕ
seat s = decimal s.0

abbrev pub view : View → List ℕ
view v = decimal v.0

-- seat mark view, then the others
abbrev pub head : Head → List (List ℕ) → List (List ℕ)
head h fs = seat h.seat ∷ mark h.verified ∷ view h.view ∷ fs

-- "`-`, a nil vote; or .. u entry mask mark"
abbrev pub vote : Bool → Vote → List (List ℕ)
vote false x = (dash ∷ []) ∷ []
vote true x = view x.view ∷ entry_text x.entry ∷ hex x.mask ∷ mark x.verified ∷ []

abbrev pub row_head : Row → Head
row_head r = record { seat = r.seat; verified = r.verified; view = r.view }

-- ---- lines

-- `S`
abbrev pub start_kind : ℕ
start_kind = 0x53

-- `E`
abbrev pub enter_kind : ℕ
enter_kind = 0x45

-- `P`
abbrev pub propose_kind : ℕ
propose_kind = 0x50

-- `A`
abbrev pub acknowledge_kind : ℕ
acknowledge_kind = 0x41

-- `V`
abbrev pub cast_kind : ℕ
cast_kind = 0x56

-- `Q`
abbrev pub ask_kind : ℕ
ask_kind = 0x51

-- `C`
abbrev pub confirm_kind : ℕ
confirm_kind = 0x43

abbrev pub kind : Message → ℕ
kind Start = start_kind
kind (Enter v) = enter_kind
kind (Propose p) = propose_kind
kind (Acknowledge a) = acknowledge_kind
kind (Cast r) = cast_kind
kind (Ask q) = ask_kind
kind (Confirm c) = confirm_kind

-- "`S`; `E` view"
-- "`P` seat mark view entry mask"
-- "`A` seat mark view entry; `C` the same"
-- "`V` seat mark view `-`, a nil vote; or `V` seat mark view u entry mask mark"
-- "`Q` seat mark view entry count, then count V lines as its rows"
abbrev pub fields : Message → List (List ℕ)
fields Start = []
fields (Enter v) = view v ∷ []
fields (Propose p) = head p.head (entry_text p.entry ∷ hex p.mask ∷ [])
fields (Acknowledge a) = head a.head (entry_text a.entry ∷ [])
fields (Cast r) = head (row_head r) (vote r.vote.cast r.vote)
fields (Ask q) = head q.head (entry_text q.entry ∷ decimal q.count ∷ [])
fields (Confirm c) = head c.head (entry_text c.entry ∷ [])

-- "One record a line, fields parted by one tab, ended by one LF"
unfoldable pub line : Message → List ℕ
line m = line_of (kind m) (fields m)

-- The texts that are read as the message's line.
unfoldable pub IsLine : List ℕ → Message → Type 0
IsLine l m = IsLineOf l (kind m) (fields m)

-- ---- which messages have a line: "seats 0 to 99, views 0 to 4,294,967,295, counts 0 to 64"

abbrev pub top_seat : ℕ
top_seat = 99

abbrev pub top_view : ℕ
top_view = 4294967295

abbrev pub top_count : ℕ
top_count = 64

-- A seat is at most the number given; a view is as its type has it.
pub record HeadWithin (top : ℕ) (h : Head) : Type 0 where
  pub seat : h.seat.0 ≤ top
  pub view : h.view.0 ≤ top_view

-- A mask is a number of 64 bits.
abbrev pub IsMask : ℕ → Type 0
IsMask m = m < 2 ^ 64

pub record VoteWithin (x : Vote) : Type 0 where
  pub view : x.view.0 ≤ top_view
  pub entry : IsEntry x.entry
  pub mask : IsMask x.mask

-- "Unused fields do not count."
abbrev pub CastWithin : Bool → Vote → Type 0
CastWithin true x = VoteWithin x
CastWithin false x = Unit {0}

-- Seats and counts are at most the numbers given; all other numbers are as their types have them.
abbrev pub Within : ℕ → ℕ → Message → Type 0
Within seats counts Start = Unit {0}
Within seats counts (Enter v) = v.0 ≤ top_view
Within seats counts (Propose p) = HeadWithin seats p.head × (IsEntry p.entry × IsMask p.mask)
Within seats counts (Acknowledge a) = HeadWithin seats a.head × IsEntry a.entry
Within seats counts (Cast r) = HeadWithin seats (row_head r) × CastWithin r.vote.cast r.vote
Within seats counts (Ask q) = HeadWithin seats q.head × (IsEntry q.entry × (q.count ≤ counts))
Within seats counts (Confirm c) = HeadWithin seats c.head × IsEntry c.entry

-- The messages that have a line.
abbrev pub Fits : Message → Type 0
Fits m = Within top_seat top_count m

-- The messages there are: a seat and a count are each one byte.
abbrev pub Typed : Message → Type 0
Typed m = Within 255 255 m

-- ---- unused fields: those of a nil vote, which the reader gives as zero
abbrev pub nil_vote : Vote
nil_vote = record { entry = zero_entry; mask = 0; view = record { 0 = 0 }; cast = false; verified = false }

abbrev pub tidy_vote : Bool → Vote → Vote
tidy_vote true x = x
tidy_vote false x = nil_vote

abbrev pub tidy_row : Row → Row
tidy_row r = record { seat = r.seat; verified = r.verified; view = r.view; vote = tidy_vote r.vote.cast r.vote }

abbrev pub tidy : Message → Message
tidy Start = Start
tidy (Enter v) = Enter v
tidy (Propose p) = Propose p
tidy (Acknowledge a) = Acknowledge a
tidy (Cast r) = Cast (tidy_row r)
tidy (Ask q) = Ask q
tidy (Confirm c) = Confirm c

-- ---- what reading a line is: the message that fits and whose line it is, and 19 exactly where there is none
abbrev pub Reads : List ℕ → Option Message → Type 0
Reads l (Some m) = IsLine l m × (Fits m × (tidy m ≡ m))
Reads l None = (m : Message) → Fits m → IsLine l m → ⊥

abbrev pub line_number : Option Message → ℕ
line_number (Some m) = 0
line_number None = 19
