-- Only an A decides, and an A sends nothing.
use Rattle.std.proofs.Common.{Option, None}
use mathlib.Core.Path.{◌≡◌, refl}
use mathlib.Core.Bool.{Bool, true, false, cond}
use lib.Dec.{eqb, leb}
use Rattle.base.specs.Refusal.{Refusals}
use Rattle.base.specs.Tests.{true≢false}
use Rattle.seats.specs.Certificate.{signers}
use Rattle.seats.specs.Mask.{bit}
use Rattle.seats.specs.Seats.{count}
use Rattle.votes.specs.declared.Choice.{Choice}
use Rattle.votes.specs.declared.Rows.{Rows}
use Rattle.messages.specs.declared.Assent.{Assent}
use Rattle.messages.specs.declared.Message.{Message}
use Rattle.messages.specs.declared.Message.TheVariants.{Start, Enter, Propose, Acknowledge, Cast, Ask, Confirm}
use Rattle.messages.specs.declared.Request.{Request}
use Rattle.replica.specs.declared.Replica.{Replica}
use Rattle.replica.specs.declared.Step.{Step}
use Rattle.replica.specs.Replica.{number_for}
use Rattle.replica.specs.Steps.{refused, answered, start_step, enter_step, propose_step, acknowledge_step, cast_step, ask_with, confirm_step}
use Rattle.replica.specs.Steps.{decides, acknowledged, rowed, chooses, selection_of, collected, filled_by, certified, confirmed_by}
use Rattle.transcript.specs.Feeding.{heard, is_acknowledge}
use Rattle.entry.specs.declared.Entry.{Entry}

-- What one of two steps has where both have it.
module _ {A : Type 0} (g : Step → A) (x : A) where
  either : (b : Bool) (t u : Step) → g t ≡ x → g u ≡ x → g (cond b t u) ≡ x
  either true t u h k = h
  either false t u h k = k

  answers : (s : Replica) (rs : Refusals) (taken : Step) → g taken ≡ x → g (refused (number_for s rs) s) ≡ x → g (answered s rs taken) ≡ x
  unfolding answered
  answers s rs taken = either (eqb (number_for s rs) 0) taken (refused (number_for s rs) s)

abbrev said : Step → Option Entry
said t = t.decided

chooses_undecided : (s : Replica) (c : Choice) → (chooses s c).decided ≡ None
chooses_undecided s Choice.Wait = refl
chooses_undecided s Choice.Free = refl
chooses_undecided s (Choice.Forced e) = refl

confirmed_undecided : (s : Replica) → (certified s).decided ≡ None
unfolding certified
confirmed_undecided s = either said None (leb (signers s.f) (count (bit s.confirmed) s.n)) _ _ refl refl

pub heard_undecided : (s : Replica) (m : Message) → is_acknowledge m ≡ false → (heard s m).decided ≡ None
unfolding start_step enter_step propose_step cast_step confirm_step collected
heard_undecided s Start h = answers said None s _ _ refl refl
heard_undecided s (Enter v) h = answers said None s _ _ refl refl
heard_undecided s (Propose p) h = answers said None s _ _ refl refl
heard_undecided s (Acknowledge a) h = true≢false h
heard_undecided s (Cast r) h = answers said None s _ _ (chooses_undecided (filled_by s r) (selection_of (filled_by s r))) refl
heard_undecided s (Ask q) h = refl
heard_undecided s (Confirm c) h = answers said None s _ _ (confirmed_undecided (confirmed_by s c)) refl

pub ask_undecided : (s : Replica) (q : Request) (rows : Rows) → (ask_with s q rows).decided ≡ None
unfolding ask_with
ask_undecided s q rows = answers said None s _ _ refl refl

pub acknowledge_silent : (s : Replica) (a : Assent) → (acknowledge_step s a).sent ≡ None
unfolding acknowledge_step acknowledged
acknowledge_silent s a = answers sends None s _ _ (either sends None (decides (rowed s a) a) _ _ refl refl) refl
  where
    sends : Step → Option Message
    sends t = t.sent
