use Rattle.std.proofs.Common.{ap, refl, ◌≡◌, ◌+◌, ◌∙◌, sym}
use denote.Enum.Declared.{tag_of}
use Rattle.base.specs.contracts.refusal.Refusal.{the_type}
use Rattle.base.specs.declared.refusal.Refusal.{Refusal}
use Rattle.base.specs.declared.refusal.Refusal.TheVariants.{HouseSize, FaultySeats, OwnSeat, OwnEntry, NoView, Sender, Mark}
use Rattle.base.specs.declared.refusal.Refusal.TheVariants.{View, Leader, Entry, Certificate, Again, Stage, Vote, Rows, Selection}
use Rattle.base.specs.declared.refusal.Refusal.TheVariants.{OlderView, OtherEntry, Line, Room, Unwritable}
use Rattle.base.specs.Refusal.{number, number_of}
use Rattle.base.proofs.refusal.number_of.Goals as goal

-- The variants stand in the order of their numbers.
in_order : (why : Refusal) → tag_of the_type why + 1 ≡ number why
in_order = elim [
  | HouseSize ↦ refl
  | FaultySeats ↦ refl
  | OwnSeat ↦ refl
  | OwnEntry ↦ refl
  | NoView ↦ refl
  | Sender ↦ refl
  | Mark ↦ refl
  | View ↦ refl
  | Leader ↦ refl
  | Entry ↦ refl
  | Certificate ↦ refl
  | Again ↦ refl
  | Stage ↦ refl
  | Vote ↦ refl
  | Rows ↦ refl
  | Selection ↦ refl
  | OlderView ↦ refl
  | OtherEntry ↦ refl
  | Line ↦ refl
  | Room ↦ refl
  | Unwritable ↦ refl
]

pub returns-in-Ok : goal.returns-in-Ok
unfolding number_of
returns-in-Ok c = sym (ap number_of c.in-Ok.is)

pub returns-in-Err : goal.returns-in-Err
unfolding number_of
returns-in-Err c = in_order c.in-Err.why ∙ sym (ap number_of c.in-Err.is)
