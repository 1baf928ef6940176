-- The same line by line, as the code goes: nobody need believe it, since `feeds` in FeedLaws.antt says that it prints what
-- Transcript.antt asks for, and `goes_on` in GoesOn.antt that it leaves the replica that `step` makes.
use Rattle.std.specs.Prelude.{ℕ, ◌+◌, ◌-◌, ◌^◌, Bool, true, false, ◌&&◌, ◌||◌, cond, List, [], ◌∷◌, ◌++◌, eqb, leb, ltb, length, ℤ, Option, Some, None, is_some}
use Rattle.text.specs.Fields.{lf}
use Rattle.entry.specs.Entry.{zero_entry}
use Rattle.acks.specs.Acks.{row_of, margin}
use Rattle.votes.specs.declared.Rows.{Rows}
use Rattle.votes.specs.Rows.{no_rows, added}
use Rattle.messages.specs.declared.Message.{Message}
use Rattle.messages.specs.declared.Message.TheVariants.{Start, Enter, Propose, Acknowledge, Cast, Ask, Confirm}
use Rattle.messages.specs.declared.Request.{Request}
use Rattle.messages.specs.declared.setup.Setup.{Setup}
use Rattle.messages.specs.Reader.{read_line}
use Rattle.messages.specs.Setup.{read_setup}
use Rattle.replica.specs.declared.Replica.{Replica}
use Rattle.replica.specs.declared.Step.{Step}
use Rattle.replica.specs.Replica.{margin_of}
use Rattle.replica.specs.Steps.{refused, start_step, enter_step, propose_step, acknowledge_step, cast_step, ask_with, confirm_step}
use Rattle.transcript.specs.declared.State.{State}
use Rattle.transcript.specs.declared.sort.Event.{Event}
use Rattle.transcript.specs.declared.sort.Sorted.{Sorted}
use Rattle.transcript.specs.declared.begin.Begun.{Begun}
use Rattle.transcript.specs.declared.feed.Fed.{Fed}
use Rattle.transcript.specs.Printed.{event_line, printed}
use Rattle.transcript.specs.Transcript.{setup_of}

-- ---- what a line is

-- A line whose front was dropped is too long to be any.
abbrev pub read_unless : Bool → List ℕ → Option Message
read_unless cut l = cond cut None (read_line l)

abbrev pub sorted_as : Event → ℕ → Bool → Sorted
sorted_as e left spoiled = record { event = e; left = left; spoiled = spoiled }

abbrev pub spoiled_row : ℕ → Sorted
spoiled_row left = sorted_as Event.Unread left true

-- A line where a row is awaited; `left` are those behind it.
abbrev pub row_in : Option Message → ℕ → Sorted
row_in (Some (Cast r)) left = sorted_as (Event.Row r) left false
row_in (Some Start) left = spoiled_row left
row_in (Some (Enter v)) left = spoiled_row left
row_in (Some (Propose p)) left = spoiled_row left
row_in (Some (Acknowledge a)) left = spoiled_row left
row_in (Some (Ask q)) left = spoiled_row left
row_in (Some (Confirm c)) left = spoiled_row left
row_in None left = spoiled_row left

unfoldable pub sorted_row : Option Message → ℕ → Bool → Sorted
sorted_row l left spoiled = cond spoiled (spoiled_row left) (row_in l left)

abbrev pub heard_as : Message → Sorted
heard_as m = sorted_as (Event.Heard m) 0 false

unfoldable pub sorted_line : Option Message → Sorted
sorted_line (Some (Ask q)) = sorted_as (Event.Opened q) q.count false
sorted_line (Some Start) = heard_as Start
sorted_line (Some (Enter v)) = heard_as (Enter v)
sorted_line (Some (Propose p)) = heard_as (Propose p)
sorted_line (Some (Acknowledge a)) = heard_as (Acknowledge a)
sorted_line (Some (Cast r)) = heard_as (Cast r)
sorted_line (Some (Confirm c)) = heard_as (Confirm c)
sorted_line None = sorted_as Event.Unread 0 false

unfoldable pub sorted : Option Message → ℕ → Bool → Sorted
sorted l left spoiled = cond (ltb 0 left) (sorted_row l (left - 1) spoiled) (sorted_line l)

-- ---- what it does

-- The request that waits, and its rows so far.
abbrev pub request_after : Event → Request → Request
request_after (Event.Opened q) request = q
request_after (Event.Row r) request = request
request_after (Event.Heard m) request = request
request_after Event.Unread request = request

abbrev pub rows_after : Event → Replica → Rows → Rows
rows_after (Event.Opened q) s rows = no_rows s.n s.f q.head.view
rows_after (Event.Row r) s rows = added rows r
rows_after (Event.Heard m) s rows = rows
rows_after Event.Unread s rows = rows

-- A Q is sorted as `Opened`, so it is never heard.
abbrev pub heard : Replica → Message → Step
heard s Start = start_step s
heard s (Enter v) = enter_step s v
heard s (Propose p) = propose_step s p
heard s (Acknowledge a) = acknowledge_step s a
heard s (Cast r) = cast_step s r
heard s (Ask q) = refused 19 s
heard s (Confirm c) = confirm_step s c

-- The step of an event, with the request and rows as they then are.
abbrev pub step_after : Event → Replica → Request → Rows → Step
step_after Event.Unread s request rows = refused 19 s
step_after (Event.Heard m) s request rows = heard s m
step_after (Event.Row r) s request rows = ask_with s request rows
step_after (Event.Opened q) s request rows = ask_with s request rows

-- Only an A changes the acknowledgement rows.
abbrev pub is_acknowledge : Message → Bool
is_acknowledge Start = false
is_acknowledge (Enter v) = false
is_acknowledge (Propose p) = false
is_acknowledge (Acknowledge a) = true
is_acknowledge (Cast r) = false
is_acknowledge (Ask q) = false
is_acknowledge (Confirm c) = false

abbrev pub counts : Event → Bool
counts (Event.Heard m) = is_acknowledge m
counts (Event.Row r) = false
counts (Event.Opened q) = false
counts Event.Unread = false

abbrev pub margin_after : Event → Step → ℤ → ℤ
margin_after e t m = cond (counts e && eqb t.number 0) (margin t.next.n t.next.f (row_of t.next.acks)) m

-- Events are counted up to the largest number there is room for.
abbrev pub last_event : ℕ
last_event = 2 ^ 64 - 1

unfoldable pub next_event : ℕ → ℕ
next_event k = cond (ltb k last_event) (k + 1) k

-- ---- a line

abbrev pub sort_in : State → List ℕ → Sorted
sort_in st l = sorted (read_unless st.cut l) st.left st.spoiled

-- The line is a row, or opens a request, and more rows are awaited.
abbrev pub waiting : State → Sorted → State
waiting st e = record {
  events = st.events;
  margin = st.margin;
  left = e.left;
  spoiled = e.spoiled;
  cut = false;
  request = request_after e.event st.request;
  replica = st.replica;
  rows = rows_after e.event st.replica st.rows;
}

-- An event is due.
abbrev pub step_in : State → Sorted → Step
step_in st e = step_after e.event st.replica (request_after e.event st.request) (rows_after e.event st.replica st.rows)

abbrev pub stepped : State → Sorted → Step → State
stepped st e t = record {
  events = next_event st.events;
  margin = margin_after e.event t st.margin;
  left = e.left;
  spoiled = e.spoiled;
  cut = false;
  request = request_after e.event st.request;
  replica = t.next;
  rows = rows_after e.event st.replica st.rows;
}

abbrev pub state_by : State → Sorted → State
state_by st e = cond (ltb 0 e.left) (waiting st e) (stepped st e (step_in st e))

abbrev pub text_by : State → Sorted → List ℕ
text_by st e =
    cond (ltb 0 e.left) []
    (printed (next_event st.events) (step_in st e) (margin_after e.event (step_in st e) st.margin))

unfoldable pub state_after : State → List ℕ → State
state_after st l = state_by st (sort_in st l)

unfoldable pub text_of : State → List ℕ → List ℕ
text_of st l = text_by st (sort_in st l)

-- ---- a piece of the input

-- The line has its LF.
abbrev pub whole : List ℕ → Bool
whole [] = false
whole (b ∷ []) = eqb b lf
whole (b ∷ (c ∷ bs)) = whole (c ∷ bs)

-- What one event prints at most.
abbrev pub event_room : ℕ
event_room = 6000

pub record Ran : Type 0 where
  pub state : State
  pub used : ℕ
  pub text : List ℕ

abbrev pub ran_on : List ℕ → List ℕ → Ran → Ran
ran_on l t r = record { state = r.state; used = length l + r.used; text = t ++ r.text }

-- "As many whole lines as there are, while an event has room".
unfoldable pub ran : State → List (List ℕ) → ℕ → Ran
ran st [] room = record { state = st; used = 0; text = [] }
ran st (l ∷ ls) room =
    cond (leb event_room room && whole l)
    (ran_on l (text_of st l) (ran (state_after st l) ls (room - length (text_of st l))))
    (record { state = st; used = 0; text = [] })

abbrev pub fed_of : Ran → Fed
fed_of r = record { used = r.used; put = length r.text; state = r.state }

-- ---- the beginning and the end

-- What H says; zeros where it is none.
abbrev pub setup_said : Option Setup → Setup
setup_said (Some h) = h
setup_said None = record { n = 0; f = Some 0; seat = record { 0 = 0 }; entry = zero_entry }

abbrev pub no_request : Request
no_request = record { head = record { seat = record { 0 = 0 }; verified = false; view = record { 0 = 0 } }; entry = zero_entry; count = 0 }

-- Where a trace stands that begins with a replica as it is.
abbrev pub resumed : Replica → State
resumed s = record {
  events = 0;
  margin = margin_of s;
  left = 0;
  spoiled = false;
  cut = false;
  request = no_request;
  replica = s;
  rows = no_rows 0 0 (record { 0 = 0 });
}

abbrev pub first_state : Step → State
first_state t = resumed t.next

abbrev pub begun_as : Option Setup → Begun
begun_as o = record { number = cond (is_some o) (setup_of (setup_said o)).number 19; state = first_state (setup_of (setup_said o)) }

unfoldable pub begun_by : List ℕ → Begun
begun_by l = begun_as (read_setup l)

abbrev pub cut_state : State → State
cut_state st = record {
  events = st.events;
  margin = st.margin;
  left = st.left;
  spoiled = st.spoiled;
  cut = true;
  request = st.request;
  replica = st.replica;
  rows = st.rows;
}

-- The input is over; `more`: a line without its LF is left.
unfoldable pub last_text : State → Bool → List ℕ
last_text st more =
    cond ((more || st.cut) || ltb 0 st.left)
    (event_line (next_event st.events) 19 None st.margin None)
    []

-- Nothing is put where an event has no room.
abbrev pub within : ℕ → List ℕ → List ℕ
within room text = cond (leb event_room room) text []
