-- 01, "Events": what each event makes of a replica.
use Rattle.std.specs.Prelude.{ℕ, Bool, true, not, ◌&&◌, cond, List, ◌++◌, eqb, leb, Option, None, Some}
use Rattle.base.specs.Refusal.{Refusals, first}
use Rattle.entry.specs.declared.Entry.{Entry}
use Rattle.entry.specs.Entry.{zero_entry}
use Rattle.seats.specs.declared.Seat.{Seat}
use Rattle.seats.specs.declared.View.{View}
use Rattle.seats.specs.Seats.{count}
use Rattle.seats.specs.Sizes.{quorum}
use Rattle.seats.specs.Mask.{bit, mask, with_seat}
use Rattle.seats.specs.Certificate.{signers}
use Rattle.acks.specs.declared.AckRow.{AckRow}
use Rattle.acks.specs.Acks.{row_of, with_row, sharing}
use Rattle.votes.specs.declared.Vote.{Vote}
use Rattle.votes.specs.declared.Row.{Row}
use Rattle.votes.specs.declared.Choice.{Choice}
use Rattle.votes.specs.declared.Rows.{Rows}
use Rattle.votes.specs.Selection.{selection}
use Rattle.votes.specs.Rows.{vote_at, has_row, no_votes, with_vote}
use Rattle.votes.specs.Request.{row_refusals, gathered_refusals, rows_sent}
use Rattle.messages.specs.declared.Head.{Head}
use Rattle.messages.specs.declared.Message.{Message}
use Rattle.messages.specs.declared.Message.TheVariants.{Start, Enter, Propose, Acknowledge, Cast, Ask, Confirm}
use Rattle.messages.specs.declared.Assent.{Assent}
use Rattle.messages.specs.declared.Proposal.{Proposal}
use Rattle.messages.specs.declared.Request.{Request}
use Rattle.replica.specs.declared.Replica.{Replica}
use Rattle.replica.specs.declared.Step.{Step}
use Rattle.replica.specs.declared.Answer.{Answer}
use Rattle.replica.specs.Refusals.{idle, collecting, asking, proposed, leads, setup_refusals}
use Rattle.replica.specs.Refusals.{start_refusals, enter_refusals, propose_refusals, acknowledge_refusals, cast_refusals, ask_refusals, confirm_refusals}
use Rattle.replica.specs.Replica as R
use Rattle.replica.specs.Replica.{fresh, blank, standing, number_for, margin_of, with_stage, with_decision, with_acks, with_lead}

-- ---- what every event has in common

abbrev pub step_of : ℕ → Replica → Option Entry → Option Message → Step
step_of number s d m = record { next = s; number = number; decided = d; sent = m }

-- "Every refusal returns the replica unchanged, sends nothing and decides nothing".
abbrev pub refused : ℕ → Replica → Step
refused number s = step_of number s None None

-- "0 means taken."
unfoldable pub answered : Replica → Refusals → Step → Step
answered s rs taken = cond (eqb (number_for s rs) 0) taken (refused (number_for s rs) s)

-- Taken, with nothing sent; and with a message sent.
abbrev pub quiet : Replica → Step
quiet s = step_of 0 s None None

abbrev pub saying : Replica → Message → Step
saying s m = step_of 0 s None (Some m)

-- "Messages go out with mark `+`."
abbrev pub head_of : Replica → View → Head
head_of s v = record { seat = s.seat; verified = true; view = v }

abbrev pub assent_of : Replica → View → Entry → Assent
assent_of s v e = record { head = head_of s v; entry = e }

abbrev pub proposal_of : Replica → View → Entry → ℕ → Message
proposal_of s v e m = Propose (record { head = head_of s v; entry = e; mask = m })

-- "The *margin* reported after each event": that of the replica handed back.
abbrev pub answer_of : Step → Answer
answer_of t = record {
  next = t.next;
  reply = record { number = t.number; decided = t.decided; sent = t.sent; margin = margin_of t.next };
}

-- ---- setup: "A refused setup (1 to 4) returns the blank replica".
unfoldable pub setup_step : ℕ → ℕ → Seat → Entry → Step
setup_step n f s own =
    let number = first (setup_refusals n f s own) in
    cond (eqb number 0) (quiet (fresh n f s own)) (refused number blank)

-- ---- S: "the leader of view 1 proposes its own entry with mask 0; stage proposed."
unfoldable pub start_step : Replica → Step
start_step s = answered s (start_refusals (standing s)) (saying (with_stage s proposed) (proposal_of s s.view s.own 0))

-- ---- E: "the view becomes v. Vote rows, chosen entry and confirmations are cleared to zero. Stage: collecting if this seat
-- leads v, else idle. Sends V, its vote for view v, to the leader."
abbrev pub entered : Replica → View → Replica
entered s v = with_stage (with_lead (R.with_view s v) no_votes zero_entry 0) (cond (leads s.n v s.seat) collecting idle)

abbrev pub ballot : Replica → View → Message
ballot s v = Cast (record { seat = s.seat; verified = true; view = v; vote = s.vote })

unfoldable pub enter_step : Replica → View → Step
enter_step s v = answered s (enter_refusals (standing s) v) (saying (entered s v) (ballot s v))

-- ---- P: "the vote becomes the proposal's entry, view, mask and mark; sends A for that entry and view to all."
abbrev pub vote_for : Proposal → Vote
vote_for p = record { entry = p.entry; mask = p.mask; view = p.head.view; cast = true; verified = p.head.verified }

unfoldable pub propose_step : Replica → Proposal → Step
propose_step s p =
    answered s (propose_refusals (standing s) s.vote p)
    (saying (R.with_vote s (vote_for p)) (Acknowledge (assent_of s p.head.view p.entry)))

-- ---- A: "the sender's row becomes this view and entry if it was empty or of a lower view."
abbrev pub ack_row : Assent → AckRow
ack_row a = record { view = a.head.view; entry = a.entry }

abbrev pub rowed : Replica → Assent → Replica
rowed s a = with_acks s (with_row s.acks a.head.seat.0 (ack_row a))

-- "If n − f or more rows now share this view and entry, and nothing is decided, that entry is decided and reported, once."
unfoldable pub decides : Replica → Assent → Bool
decides s a = leb (quorum s.n s.f) (sharing s.n (row_of s.acks) (ack_row a)) && not s.decided

abbrev pub decided_by : Replica → Entry → Step
decided_by s e = step_of 0 (with_decision s e) (Some e) None

unfoldable pub acknowledged : Replica → Assent → Step
acknowledged s a = cond (decides s a) (decided_by s a.entry) (quiet s)

unfoldable pub acknowledge_step : Replica → Assent → Step
acknowledge_step s a =
    answered s (acknowledge_refusals (standing s) (row_of s.acks a.head.seat.0).view a) (acknowledged (rowed s a) a)

-- ---- V: "fills the sender's row."

-- Seat k's vote row is filled: "vote rows that are not valid, count as empty".
abbrev pub voted : Replica → ℕ → Bool
voted s k = has_row s.n s.f s.view s.votes k

abbrev pub filled_by : Replica → Row → Replica
filled_by s r = with_lead s (with_vote s.votes r.seat.0 r.vote) s.chosen s.confirmed

-- "the leader chooses the forced entry, or its own where the choice is free; stage asking; sends Q with all filled rows in
-- seat order."
abbrev pub request_for : Replica → Entry → Message
request_for s e = Ask (record { head = head_of s s.view; entry = e; count = count (voted s) s.n })

abbrev pub asks : Replica → Entry → Step
asks s e = saying (with_stage (with_lead s s.votes e s.confirmed) asking) (request_for s e)

abbrev pub chooses : Replica → Choice → Step
chooses s Choice.Wait = quiet s
chooses s Choice.Free = asks s s.own
chooses s (Choice.Forced e) = asks s e

-- "If the selection over the rows no longer waits"
unfoldable pub selection_of : Replica → Choice
selection_of s = selection s.n s.f (voted s) (vote_at s.votes.votes)

unfoldable pub collected : Replica → Step
collected s = chooses s (selection_of s)

unfoldable pub cast_step : Replica → Row → Step
cast_step s r = answered s (cast_refusals (standing s) (voted s r.seat.0) r) (collected (filled_by s r))

-- "with all filled rows in seat order"
abbrev pub request_rows : Replica → List Row
request_rows s = rows_sent s.n s.f s.view s.votes

-- ---- Q: "sends C for its entry. The replica is unchanged."
abbrev pub confirming : Replica → Request → Step
confirming s q = saying s (Confirm (assent_of s q.head.view q.entry))

unfoldable pub ask_step : Replica → Request → List Row → Step
ask_step s q rows =
    answered s (ask_refusals (standing s) q ++ row_refusals s.n s.f q.head.view rows q.entry)
    (confirming s q)

-- The same of rows that were gathered one after the other: `gathered_asked` in AskLaws.antt joins the two.
unfoldable pub ask_with : Replica → Request → Rows → Step
ask_with s q t =
    answered s (ask_refusals (standing s) q ++ gathered_refusals t s.n s.f q.head.view q.entry)
    (confirming s q)

-- ---- C: "adds the sender."
abbrev pub confirmed_by : Replica → Assent → Replica
confirmed_by s c = with_lead s s.votes s.chosen (with_seat s.confirmed c.head.seat.0)

-- Those that count: "confirmations of seats n and above .. count as empty".
abbrev pub confirmers : Replica → ℕ
confirmers s = mask (bit s.confirmed) s.n

-- "At f + 1 or more senders the leader sends P with their mask; stage proposed."
unfoldable pub certified : Replica → Step
certified s =
    cond (leb (signers s.f) (count (bit s.confirmed) s.n))
    (saying (with_stage s proposed) (proposal_of s s.view s.chosen (confirmers s)))
    (quiet s)

unfoldable pub confirm_step : Replica → Assent → Step
confirm_step s c = answered s (confirm_refusals (standing s) s.confirmed s.chosen c) (certified (confirmed_by s c))

-- ---- one event, whichever it is. The rows are a Q's: beside another message they do not count.
abbrev pub step : Replica → Message → List Row → Step
step s Start rows = start_step s
step s (Enter v) rows = enter_step s v
step s (Propose p) rows = propose_step s p
step s (Acknowledge a) rows = acknowledge_step s a
step s (Cast r) rows = cast_step s r
step s (Ask q) rows = ask_step s q rows
step s (Confirm c) rows = confirm_step s c
