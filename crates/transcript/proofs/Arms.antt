-- What the definitions say of each kind of message that comes to the arm for all others.
use Rattle.std.proofs.Common.{Some}
use Prim.Native.Nat.{ℕ}
use mathlib.Core.Path.{◌≡◌, refl}
use Rattle.votes.specs.declared.Row.{Row}
use Rattle.messages.specs.declared.Request.{Request}
use Rattle.messages.specs.declared.Message.{Message}
use Rattle.messages.specs.declared.Message.TheVariants.{Start, Enter, Propose, Acknowledge, Cast, Ask, Confirm}
use Rattle.transcript.specs.Feeding.{heard_as, spoiled_row, row_in, sorted_line}

-- A line that opens no request is an event.
pub other_heard : (m : Message) → ((q : Request) → m ≡ Ask q → ⊥) → heard_as m ≡ sorted_line (Some m)
unfolding sorted_line
other_heard Start k = refl
other_heard (Enter v) k = refl
other_heard (Propose p) k = refl
other_heard (Acknowledge a) k = refl
other_heard (Cast r) k = refl
other_heard (Ask q) k = absurd (k q refl)
other_heard (Confirm c) k = refl

-- A line that is no row spoils its request.
pub other_spoils : (m : Message) (left : ℕ) → ((r : Row) → m ≡ Cast r → ⊥) → spoiled_row left ≡ row_in (Some m) left
other_spoils Start left k = refl
other_spoils (Enter v) left k = refl
other_spoils (Propose p) left k = refl
other_spoils (Acknowledge a) left k = refl
other_spoils (Cast r) left k = absurd (k r refl)
other_spoils (Ask q) left k = refl
other_spoils (Confirm c) left k = refl
