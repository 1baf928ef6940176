use Rattle.std.proofs.Common.{◌≡◌, ℕ, Bool, false, ap, sym, ◌∙◌, Option, Some}
use Rattle.messages.specs.declared.Message.{Message}
use Rattle.transcript.specs.declared.sort.Sorted.{Sorted}
use Rattle.transcript.specs.Feeding.{row_in, sorted_row}
use Rattle.transcript.proofs.Arms.{other_spoils}
use Rattle.transcript.proofs.sort.sort_row.Goals as goal

-- No row was spoiled before.
unspoiled : (l : Option Message) (left : ℕ) (spoiled : Bool) (r : Sorted) → spoiled ≡ false → r ≡ row_in l left
    → r ≡ sorted_row l left spoiled
unfolding sorted_row
unspoiled l left spoiled r e q = q ∙ sym (simp e)

pub returns-then-spoiled : goal.returns-then-spoiled
unfolding sorted_row
returns-then-spoiled c = c.spoiled_row.ensures ∙ sym (simp c.if-spoiled.true)

pub returns-in-None : goal.returns-in-None
returns-in-None c =
    let a = c.args in
    unspoiled a.l a.left a.spoiled _ c.if-spoiled.false
    (c.spoiled_row-in-None.ensures ∙ ap (λ (l : Option Message). row_in l a.left) (sym c.in-None.is))

pub returns-in-Cast : goal.returns-in-Cast
returns-in-Cast c =
    let a = c.args in
    unspoiled a.l a.left a.spoiled _ c.if-spoiled.false
    (ap (λ (m : Message). row_in (Some m) a.left) (sym c.in-Cast.is) ∙ ap (λ (l : Option Message). row_in l a.left) (sym c.in-Some.is))

pub returns-in_default : goal.returns-in_default
returns-in_default c =
    let a = c.args in
    unspoiled a.l a.left a.spoiled _ c.if-spoiled.false
    (c.spoiled_row-in_default.ensures ∙ other_spoils c.in-Some.m a.left c.in_default.not-Cast
    ∙ ap (λ (l : Option Message). row_in l a.left) (sym c.in-Some.is))
