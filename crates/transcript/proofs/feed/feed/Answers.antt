-- What is known at the places from which the loop goes on.
use Rattle.std.proofs.Common.{◌≡◌, ℕ, ◌+◌, ◌-◌, ◌≤◌, Bool, true, false, cond, List, [], length, take, drop, refl, sym, ap, ◌∙◌, arith, rules, Option}
use mir.Syntax.{w32}
use mir.Val.{to_z, of_z}
use Rattle.text.specs.Put.{Puts}
use Rattle.text.specs.PutLaws.{puts_nothing}
use Rattle.replica.specs.declared.Step.{Step}
use Rattle.replica.specs.Steps.{step_of, request_rows}
use Rattle.transcript.specs.Rooms.{rows_room, line_room}
use Rattle.transcript.specs.declared.State.{State}
use Rattle.transcript.specs.declared.sort.Event.{Event}
use Rattle.transcript.specs.Printed.{row_lines, sends_ask}
use Rattle.transcript.specs.Feeding.{sorted, sort_in}
use Rattle.transcript.specs.TextLaws.{LineAt, line_found, line_missing}
use Rattle.transcript.proofs.Meeting.{Taken, asked_taken, alone_taken}
use Rattle.transcript.proofs.Meeting.{Made, unread_made, heard_made, acknowledge_made, asked_made, counted_again, counted_before, made_writable, made_sized}
use Rattle.transcript.proofs.Stepping.{standing, steps, put_printed, waits}
use Rattle.transcript.proofs.Turns.{Going, going_on, going_full, going_out}
use Rattle.transcript.proofs.feed.feed.Goals as goal
use Rattle.transcript.proofs.feed.feed.Goals.{In-Some, Joined-event, Joined-event-2, After-put_event-put}
use Rattle.transcript.proofs.feed.feed.Goals.{in-Row, in-Opened, in_default-event}
use Rattle.transcript.proofs.feed.feed.Goals.{in-Unread, in-Heard+in-Acknowledge+then-number-eq0, in-Heard+in-Acknowledge+else-number-eq0, in-Heard+in-Cast, in-Heard+in-Propose, in-Heard+in-Confirm, in-Heard+in-Enter, in-Heard+in-Start, in-Heard+in-Ask, in_default-event-2}
use Rattle.messages.specs.declared.Message.{Message}

-- ---- what stands there

-- The state where a line begins, and the line.
abbrev present : In-Some → State
present c =
    standing c.loop-put.events (to_z w32 c.loop-put.margin-bits) c.loop-put.left c.loop-put.spoiled c.loop-put.cut c.loop-put.request
    c.loop-put.replica c.loop-put.rows

abbrev line_at : In-Some → List ℕ
line_at c = take (c.in-Some.end - c.loop-put.at) (drop c.loop-put.at c.args.s.now)

-- The step of the line's event.
abbrev step_at : Joined-event-2 → Step
step_at c = step_of c.match-event-2.number c.match-event-2.replica c.match-event-2.decided c.match-event-2.sent

-- The state at first, and the state behind the line.
abbrev first : After-put_event-put → State
first c =
    let st = c.args.state in
    standing st.events (to_z w32 (of_z w32 st.margin)) st.left st.spoiled st.cut st.request st.replica st.rows

abbrev next : After-put_event-put → State
next c =
    standing c.next_event-events.result (to_z w32 c.match-event-2.margin-bits) c.sort-sorted.result.left
    c.sort-sorted.result.spoiled false c.match-event.request c.match-event-2.replica c.match-event.rows

-- ---- what is known there

-- The line was found.
found : (c : In-Some) → LineAt c.args.s.now c.loop-put.at c.in-Some.end
found c =
    line_found c.args.s.now c.loop-put.at c.in-Some.end (sym c.in-Some.is ∙ c.behind_line.ensures) c.loop-put.invariant.inside

-- What it is.
sorts : (c : Joined-event) → c.sort-sorted.result ≡ sort_in (present (goal.at.Joined-event c).In-Some) (line_at (goal.at.Joined-event c).In-Some)
sorts c = c.sort-sorted.ensures ∙ ap (λ (l : Option Message). sorted l c.loop-put.left c.loop-put.spoiled) c.read_unless-line.ensures

-- The arms for rows and requests met.
took : (c : Joined-event)
    → Taken c.sort-sorted.result.event c.loop-put.replica c.loop-put.request c.loop-put.rows c.match-event.event c.match-event.request
    c.match-event.rows
took c =
    elim c.match-event.branch [
      | in-Row w ↦ asked_taken w.in-Row.is w.event-is w.request-is (w.rows-is ∙ w.add-rows.ensures)
      | in-Opened w ↦ asked_taken w.in-Opened.is w.event-is w.request-is (w.rows-is ∙ w.none-rows.ensures)
      | in_default-event w ↦ alone_taken w.in_default-event.not-Row w.in_default-event.not-Opened w.event-is w.request-is w.rows-is
    ]

-- The arms for events met: one that is none, A taken and refused, V, P, C, E, S, a Q that is none, and the request that is due.
made : (c : Joined-event-2)
    → Made c.match-event.event c.loop-put.replica c.match-event.request c.match-event.rows (to_z w32 c.loop-put.margin-bits) (step_at c)
    (to_z w32 c.match-event-2.margin-bits)
made c =
    let was = to_z w32 c.loop-put.margin-bits in
    elim c.match-event-2.branch [
      | in-Unread w ↦ unread_made w.in-Unread.is refl refl w.replica-is w.margin-is w.number-is w.decided-is w.sent-is
      | in-Heard+in-Acknowledge+then-number-eq0 w ↦
          acknowledge_made w.in-Heard.is w.in-Acknowledge.is w.acknowledge_step-t.ensures w.replica-is
          (counted_again w.acknowledge_step-t.result was w.if-number-eq0.true w.margin-is w.margin_of-margin.ensures (search rules))
          w.number-is w.decided-is w.sent-is
      | in-Heard+in-Acknowledge+else-number-eq0 w ↦
          acknowledge_made w.in-Heard.is w.in-Acknowledge.is w.acknowledge_step-t.ensures w.replica-is
          (counted_before w.acknowledge_step-t.result was w.if-number-eq0.false w.margin-is) w.number-is w.decided-is w.sent-is
      | in-Heard+in-Cast w ↦
          heard_made w.in-Heard.is w.in-Cast.is refl w.cast_step-t.ensures w.replica-is w.margin-is w.number-is w.decided-is w.sent-is
      | in-Heard+in-Propose w ↦
          heard_made w.in-Heard.is w.in-Propose.is refl w.propose_step-t.ensures w.replica-is w.margin-is w.number-is w.decided-is
          w.sent-is
      | in-Heard+in-Confirm w ↦
          heard_made w.in-Heard.is w.in-Confirm.is refl w.confirm_step-t.ensures w.replica-is w.margin-is w.number-is w.decided-is
          w.sent-is
      | in-Heard+in-Enter w ↦
          heard_made w.in-Heard.is w.in-Enter.is refl w.enter_step-t.ensures w.replica-is w.margin-is w.number-is w.decided-is w.sent-is
      | in-Heard+in-Start w ↦
          heard_made w.in-Heard.is w.in-Start.is refl w.start_step-t.ensures w.replica-is w.margin-is w.number-is w.decided-is w.sent-is
      | in-Heard+in-Ask w ↦
          unread_made (w.in-Heard.is ∙ ap Event.Heard w.in-Ask.is) refl refl w.replica-is w.margin-is w.number-is w.decided-is w.sent-is
      | in_default-event-2 w ↦
          asked_made w.in_default-event-2.not-Unread w.in_default-event-2.not-Heard w.ask_step-t.ensures w.replica-is w.margin-is w.number-is
          w.decided-is w.sent-is
    ]

-- The event was printed: the loop goes on behind its line, and behind the rows where a Q goes out.
goes : (c : After-put_event-put) (asks : Bool) (r : ℕ) (after : List ℕ) → sends_ask c.match-event-2.sent ≡ asks
    → Puts c.put_event-put.new.s c.put_event-put.result (cond asks (row_lines (request_rows c.match-event-2.replica)) []) r after
    → r ≤ c.put_event-put.result + rows_room
    → Going (first c) c.args.s.now c.args.out.now (next c) c.in-Some.end r after
goes c asks r after is rows short =
    let l = (goal.at.After-put_event-put c).In-Some in
    let m = (goal.at.After-put_event-put c).Joined-event in
    let e = (goal.at.After-put_event-put c).Joined-event-2 in
    let room = c.loop-put-test.true in
    let due = steps (present l) (line_at l) (sorts m) (took m) c.if-left-gt0.false (made e) c.next_event-events.ensures in
    going_on c.loop-put.invariant room (found l) due.0 due.1
    (put_printed c.next_event-events.result (step_at e) (to_z w32 c.match-event-2.margin-bits) c.put_event-put.ensures.0 is rows)
    (omega (arith, c.put_event-put.ensures.1, room, short))

-- ---- the goals

pub slice_bounds-read_unless-count : goal.slice_bounds-read_unless-count
slice_bounds-read_unless-count c = omega (arith, (found (goal.at.slice_bounds-read_unless-count c).In-Some).some)

pub slice_bounds-read_unless-start : goal.slice_bounds-read_unless-start
slice_bounds-read_unless-start c = omega (arith, (found (goal.at.slice_bounds-read_unless-start c).In-Some).some)

pub slice_bounds-read_unless-end : goal.slice_bounds-read_unless-end
slice_bounds-read_unless-end c = omega (arith, (found (goal.at.slice_bounds-read_unless-end c).In-Some).fits)

pub loop-put-smaller-then-left-gt0 : goal.loop-put-smaller-then-left-gt0
loop-put-smaller-then-left-gt0 c =
    let l = found (goal.at.loop-put-smaller-then-left-gt0 c).In-Some in omega (arith, l.some, l.fits)

pub loop-put-preserved-then-left-gt0 : goal.loop-put-preserved-then-left-gt0
loop-put-preserved-then-left-gt0 c =
    let l = (goal.at.loop-put-preserved-then-left-gt0 c).In-Some in
    let m = (goal.at.loop-put-preserved-then-left-gt0 c).Joined-event in
    let room = c.loop-put-test.true in
    let w = waits (present l) (line_at l) (sorts m) (took m) c.if-left-gt0.true in
    going_on c.loop-put.invariant room (found l) w.0 w.1 (puts_nothing c.loop-put.out c.loop-put.put) (omega (arith, room))

pub put_event-put-requires : goal.put_event-put-requires
put_event-put-requires c = (made_writable (made (goal.at.put_event-put-requires c).Joined-event-2), omega (arith, c.loop-put-test.true))

pub put_rows-put-requires : goal.put_rows-put-requires
put_rows-put-requires c =
    let asks = sym c.asks.ensures ∙ c.if-asks.true in
    let room : c.put_event-put.result + rows_room + line_room ≤ length c.put_event-put.new.s =
    omega (arith, c.put_event-put.ensures, c.loop-put-test.true) in
    (made_sized (made (goal.at.put_rows-put-requires c).Joined-event-2) asks, room)

pub loop-put-smaller-then-asks : goal.loop-put-smaller-then-asks
loop-put-smaller-then-asks c = let l = found (goal.at.loop-put-smaller-then-asks c).In-Some in omega (arith, l.some, l.fits)

pub loop-put-preserved-then-asks : goal.loop-put-preserved-then-asks
loop-put-preserved-then-asks c =
    let rows = c.put_rows-put in
    let asks = sym c.asks.ensures ∙ c.if-asks.true in
    goes (goal.at.loop-put-preserved-then-asks c).After-put_event-put true rows.result rows.new.s asks rows.ensures.0 rows.ensures.1

pub loop-put-smaller : goal.loop-put-smaller
loop-put-smaller c = let l = found (goal.at.loop-put-smaller c).In-Some in omega (arith, l.some, l.fits)

pub loop-put-preserved : goal.loop-put-preserved
loop-put-preserved c =
    let asks = sym c.asks.ensures ∙ c.if-asks.false in
    let r = c.put_event-put.result in
    goes (goal.at.loop-put-preserved c).After-put_event-put false r c.put_event-put.new.s asks (puts_nothing c.put_event-put.new.s r) (omega arith)

pub returns-after-loop-put : goal.returns-after-loop-put
returns-after-loop-put c =
    let st = c.args.state in
    let back : to_z w32 (of_z w32 st.margin) ≡ st.margin = search rules in
    rw back at (going_full c.loop-put.invariant c.loop-put-test.false)

pub returns-in_default : goal.returns-in_default
returns-in_default c =
    let st = c.args.state in
    let back : to_z w32 (of_z w32 st.margin) ≡ st.margin = search rules in
    rw back at (going_out c.loop-put.invariant (line_missing c.args.s.now c.loop-put.at (sym c.behind_line.ensures ∙ c.in_default.is)))
