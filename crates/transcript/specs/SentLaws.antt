-- Every message that a step sends can be written, and the rows behind a Q are at most 64.
use Rattle.std.specs.Prelude.{ℕ, ◌≤◌, ◌<◌, ◌≡◌, refl, Bool, true, false, not, ◌&&◌, cond, [], ◌∷◌, ◌++◌, eqb, leb, Option, Some, None}
use Rattle.std.proofs.Common.{sym, ap₂, ◌∙◌, arith, eqb-true, le-leb}
use Rattle.base.specs.Refusal.{Refusals}
use Rattle.base.specs.RefusalLaws.{front_none}
use Rattle.base.specs.Tests.{true≢false}
use Rattle.entry.specs.declared.Entry.{Entry}
use Rattle.entry.specs.Entry.{well_formed}
use Rattle.seats.specs.Certificate.{signers}
use Rattle.seats.specs.Count.{count_le}
use Rattle.seats.specs.Mask.{bit}
use Rattle.seats.specs.Seats.{count}
use Rattle.seats.specs.SizeLaws.{Allowed, seat_taken}
use Rattle.seats.specs.Sizes.{size_refusals, seat_number}
use Rattle.votes.specs.declared.Choice.{Choice}
use Rattle.votes.specs.declared.Rows.{Rows}
use Rattle.messages.specs.declared.Assent.{Assent}
use Rattle.messages.specs.declared.Message.{Message}
use Rattle.messages.specs.declared.Message.TheVariants.{Start, Enter, Propose, Acknowledge, Cast, Ask, Confirm}
use Rattle.messages.specs.declared.Request.{Request}
use Rattle.messages.specs.Lines.{top_seat, top_count}
use Rattle.messages.specs.Writer.{writable}
use Rattle.replica.specs.declared.Replica.{Replica}
use Rattle.replica.specs.declared.Step.{Step}
use Rattle.replica.specs.Refusals.{proposed}
use Rattle.replica.specs.Replica.{number_for, with_stage, with_decision}
use Rattle.replica.specs.Steps.{step_of, refused, answered, saying, proposal_of, decides, acknowledged, rowed, voted, filled_by, asks, chooses}
use Rattle.replica.specs.Steps.{selection_of, collected, confirming, confirmed_by, confirmers, certified}
use Rattle.replica.specs.Steps.{start_step, enter_step, propose_step, acknowledge_step, cast_step, ask_step, ask_with, confirm_step}
use Rattle.transcript.specs.declared.sort.Event.{Event}
use Rattle.transcript.specs.Events.{Happening}
use Rattle.transcript.specs.Feeding.{heard, step_after}
use Rattle.transcript.specs.Printed.{sends_ask, SentWritable}
use Rattle.transcript.specs.Transcript.{step_for}

-- ---- what setup's refusals leave

-- The own seat can be written, and so can any count of seats.
abbrev Small : Replica → Type 0
Small s = (leb s.seat.0 top_seat ≡ true) × (s.n ≤ top_count)

-- Setup's numbers come first, so where an event is taken the own seat is below n, and n at most 64.
small : (s : Replica) (rs : Refusals) → number_for s rs ≡ 0 → Small s
unfolding number_for seat_number
small s rs e = (le-leb s.seat.0 top_seat (omega (arith, a.0.most, a.1)), a.0.most)
  where
    a : Allowed s.n s.f × (s.seat.0 < s.n)
    a = seat_taken s.n s.f s.seat
        (front_none (size_refusals s.n s.f ++ ((3, leb s.n s.seat.0) ∷ [])) ((4, not (well_formed s.own)) ∷ rs) tt e)

-- ---- a step
record Sendable (t : Step) : Type 0 where
  pub line : SentWritable t.sent
  -- The rows behind a Q are those of the replica handed back.
  pub rows : sends_ask t.sent ≡ true → t.next.n ≤ top_count

silent : (number : ℕ) (s : Replica) (d : Option Entry) → Sendable (step_of number s d None)
silent number s d = record { line = tt; rows = λ e. true≢false (sym e) }

-- A message other than a Q.
spoken : (s : Replica) (m : Message) → sends_ask (Some m) ≡ false → writable m ≡ true → Sendable (saying s m)
spoken s m other can = record { line = can; rows = λ e. true≢false (sym e ∙ other) }

either : (b : Bool) (x y : Step) → Sendable x → Sendable y → Sendable (cond b x y)
either true x y p q = p
either false x y p q = q

-- Something is sent only where setup takes the replica.
answered_sendable : (s : Replica) (rs : Refusals) (taken : Step) → (Small s → Sendable taken) → Sendable (answered s rs taken)
unfolding answered
answered_sendable s rs taken h = go (eqb (number_for s rs) 0) refl
  where
    go : (b : Bool) → eqb (number_for s rs) 0 ≡ b → Sendable (cond b taken (refused (number_for s rs) s))
    go true e = h (small s rs (eqb-true (number_for s rs) 0 e))
    go false e = silent (number_for s rs) s None

-- ---- the events that choose what to send

acknowledged_sendable : (s : Replica) (a : Assent) → Sendable (acknowledged s a)
unfolding acknowledged
acknowledged_sendable s a =
    either (decides s a) _ _ (silent 0 (with_decision s a.entry) (Some a.entry)) (silent 0 s None)

-- A Q counts the seats that voted, so no more than there are.
asks_sendable : (s : Replica) (e : Entry) → Small s → Sendable (asks s e)
unfolding writable
asks_sendable s e h = record {
  line = ap₂ ◌&&◌ h.0 (le-leb (count (voted s) s.n) top_count (omega (arith, count_le (voted s) s.n, h.1)));
  rows = λ q. h.1;
}

chooses_sendable : (s : Replica) (c : Choice) → Small s → Sendable (chooses s c)
chooses_sendable s Choice.Wait h = silent 0 s None
chooses_sendable s Choice.Free h = asks_sendable s s.own h
chooses_sendable s (Choice.Forced e) h = asks_sendable s e h

confirmed_sendable : (s : Replica) → Small s → Sendable (certified s)
unfolding certified writable
confirmed_sendable s h =
    either (leb (signers s.f) (count (bit s.confirmed) s.n)) _ _
    (spoken (with_stage s proposed) (proposal_of s s.view s.chosen (confirmers s)) refl h.0)
    (silent 0 s None)

-- ---- every event
heard_sendable : (s : Replica) (m : Message) → Sendable (heard s m)
unfolding start_step enter_step propose_step acknowledge_step cast_step collected confirm_step writable
heard_sendable s Start = answered_sendable s _ _ (λ h. spoken _ _ refl h.0)
heard_sendable s (Enter v) = answered_sendable s _ _ (λ h. spoken _ _ refl h.0)
heard_sendable s (Propose p) = answered_sendable s _ _ (λ h. spoken _ _ refl h.0)
heard_sendable s (Acknowledge a) = answered_sendable s _ _ (λ h. acknowledged_sendable (rowed s a) a)
heard_sendable s (Cast r) = answered_sendable s _ _ (λ h. chooses_sendable (filled_by s r) (selection_of (filled_by s r)) h)
heard_sendable s (Ask q) = silent 19 s None
heard_sendable s (Confirm c) = answered_sendable s _ _ (λ h. confirmed_sendable (confirmed_by s c) h)

-- A Q that is taken, whatever its rows may be refused for.
confirming_sendable : (s : Replica) (rs : Refusals) (q : Request) → Sendable (answered s rs (confirming s q))
unfolding writable
confirming_sendable s rs q = answered_sendable s rs (confirming s q) (λ h. spoken _ _ refl h.0)

event_sendable : (e : Event) (s : Replica) (q : Request) (rows : Rows) → Sendable (step_after e s q rows)
unfolding ask_with
event_sendable Event.Unread s q rows = silent 19 s None
event_sendable (Event.Heard m) s q rows = heard_sendable s m
event_sendable (Event.Row r) s q rows = confirming_sendable s _ q
event_sendable (Event.Opened p) s q rows = confirming_sendable s _ q

happening_sendable : (s : Replica) (h : Happening) → Sendable (step_for s h)
unfolding ask_step
happening_sendable s None = silent 19 s None
happening_sendable s (Some (Start, rows)) = heard_sendable s Start
happening_sendable s (Some (Enter v, rows)) = heard_sendable s (Enter v)
happening_sendable s (Some (Propose p, rows)) = heard_sendable s (Propose p)
happening_sendable s (Some (Acknowledge a, rows)) = heard_sendable s (Acknowledge a)
happening_sendable s (Some (Cast r, rows)) = heard_sendable s (Cast r)
happening_sendable s (Some (Ask q, rows)) = confirming_sendable s _ q
happening_sendable s (Some (Confirm c, rows)) = heard_sendable s (Confirm c)

-- ---- what the printer cites

-- No "seat above 99 or a count above 64" goes out.
pub sent_writable : (e : Event) (s : Replica) (q : Request) (rows : Rows) → SentWritable (step_after e s q rows).sent
sent_writable e s q rows = (event_sendable e s q rows).line

pub ask_small : (e : Event) (s : Replica) (q : Request) (rows : Rows) → sends_ask (step_after e s q rows).sent ≡ true → (step_after e s q rows).next.n ≤ 64
ask_small e s q rows = (event_sendable e s q rows).rows

-- The same of 01's own step.
pub step_writable : (s : Replica) (h : Happening) → SentWritable (step_for s h).sent
step_writable s h = (happening_sendable s h).line
