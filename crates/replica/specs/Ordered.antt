-- Setup's list and the event's rise together, event by event. So the number of an event is the lowest that applies. And every step answers
-- for its event's list.
use Rattle.std.specs.Prelude.{ℕ, ◌≤◌, ◌≡◌, refl, Bool, List, ◌++◌, T}
use Rattle.base.specs.Refusal.{Refusals}
use Rattle.base.specs.RefusalLaws.{ascending, Applies, first_lowest, first_none}
use Rattle.seats.specs.declared.View.{View}
use Rattle.acks.specs.Acks.{row_of}
use Rattle.votes.specs.declared.Row.{Row}
use Rattle.votes.specs.Request.{row_refusals}
use Rattle.messages.specs.declared.Message.{Message}
use Rattle.messages.specs.declared.Message.TheVariants.{Start, Enter, Propose, Acknowledge, Cast, Ask, Confirm}
use Rattle.messages.specs.declared.Assent.{Assent}
use Rattle.messages.specs.declared.Proposal.{Proposal}
use Rattle.messages.specs.declared.Request.{Request}
use Rattle.replica.specs.declared.Replica.{Replica}
use Rattle.replica.specs.declared.Step.{Step}
use Rattle.replica.specs.Refusals.{start_refusals, enter_refusals, propose_refusals, acknowledge_refusals, cast_refusals, ask_refusals, confirm_refusals}
use Rattle.replica.specs.Replica.{standing, own_refusals, number_for}
use Rattle.replica.specs.Steps.{answered, voted, start_step, enter_step, propose_step, acknowledge_step, cast_step, ask_step, confirm_step, step}

-- The numbers of a list, behind setup's, rise.
abbrev pub Rises : Replica → Refusals → Type 0
Rises s rs = T (ascending 0 (own_refusals s ++ rs))

pub start_rises : (s : Replica) → Rises s (start_refusals (standing s))
start_rises s = tt

pub enter_rises : (s : Replica) (v : View) → Rises s (enter_refusals (standing s) v)
enter_rises s v = tt

pub propose_rises : (s : Replica) (p : Proposal) → Rises s (propose_refusals (standing s) s.vote p)
propose_rises s p = tt

pub acknowledge_rises : (s : Replica) (row : View) (a : Assent) → Rises s (acknowledge_refusals (standing s) row a)
acknowledge_rises s row a = tt

pub cast_rises : (s : Replica) (filled : Bool) (r : Row) → Rises s (cast_refusals (standing s) filled r)
cast_rises s filled r = tt

pub ask_rises : (s : Replica) (q : Request) (rows : List Row)
    → Rises s (ask_refusals (standing s) q ++ row_refusals s.n s.f q.head.view rows q.entry)
ask_rises s q rows = tt

pub confirm_rises : (s : Replica) (c : Assent) → Rises s (confirm_refusals (standing s) s.confirmed s.chosen c)
confirm_rises s c = tt

-- "Where several apply, the lowest is given."
pub lowest : (s : Replica) (rs : Refusals) → Rises s rs → (k : ℕ) → Applies k (own_refusals s ++ rs) → (number_for s rs ≤ k) × Applies (number_for s rs) (own_refusals s ++ rs)
unfolding number_for
lowest s rs up k a = first_lowest 0 (own_refusals s ++ rs) up k a

-- "0 means taken": then none applies.
pub none_applies : (s : Replica) (rs : Refusals) → Rises s rs → number_for s rs ≡ 0 → (k : ℕ) → Applies k (own_refusals s ++ rs) → ⊥
unfolding number_for
none_applies s rs up e k a = first_none 0 (own_refusals s ++ rs) up e k a

-- ---- whichever event it is

-- The list of an event. The rows are a Q's.
abbrev pub refusals_of : Replica → Message → List Row → Refusals
refusals_of s Start rows = start_refusals (standing s)
refusals_of s (Enter v) rows = enter_refusals (standing s) v
refusals_of s (Propose p) rows = propose_refusals (standing s) s.vote p
refusals_of s (Acknowledge a) rows = acknowledge_refusals (standing s) (row_of s.acks a.head.seat.0).view a
refusals_of s (Cast r) rows = cast_refusals (standing s) (voted s r.seat.0) r
refusals_of s (Ask q) rows = ask_refusals (standing s) q ++ row_refusals s.n s.f q.head.view rows q.entry
refusals_of s (Confirm c) rows = confirm_refusals (standing s) s.confirmed s.chosen c

-- Every step answers for that list.
pub record Listed (s : Replica) (m : Message) (rows : List Row) : Type 0 where
  pub taken : Step
  pub is : step s m rows ≡ answered s (refusals_of s m rows) taken
  pub rises : Rises s (refusals_of s m rows)

pub listed : (s : Replica) (m : Message) (rows : List Row) → Listed s m rows
unfolding start_step enter_step propose_step acknowledge_step cast_step ask_step confirm_step
listed s Start rows = record { taken = _; is = refl; rises = start_rises s }
listed s (Enter v) rows = record { taken = _; is = refl; rises = enter_rises s v }
listed s (Propose p) rows = record { taken = _; is = refl; rises = propose_rises s p }
listed s (Acknowledge a) rows = record { taken = _; is = refl; rises = acknowledge_rises s (row_of s.acks a.head.seat.0).view a }
listed s (Cast r) rows = record { taken = _; is = refl; rises = cast_rises s (voted s r.seat.0) r }
listed s (Ask q) rows = record { taken = _; is = refl; rises = ask_rises s q rows }
listed s (Confirm c) rows = record { taken = _; is = refl; rises = confirm_rises s c }
