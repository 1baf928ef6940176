use Rattle.std.proofs.Common.{ap, sym, ◌∙◌, Some}
use Rattle.messages.specs.declared.Message.{Message}
use Rattle.transcript.specs.Feeding.{sorted_line}
use Rattle.transcript.proofs.Arms.{other_heard}
use Rattle.transcript.proofs.sort.sort_line.Goals as goal

pub returns-in-None : goal.returns-in-None
unfolding sorted_line
returns-in-None c = ap sorted_line (sym c.in-None.is)

pub returns-in-Ask : goal.returns-in-Ask
unfolding sorted_line
returns-in-Ask c = ap (λ (m : Message). sorted_line (Some m)) (sym c.in-Ask.is) ∙ ap sorted_line (sym c.in-Some.is)

pub returns-in_default : goal.returns-in_default
returns-in_default c = other_heard c.in-Some.m c.in_default.not-Ask ∙ ap sorted_line (sym c.in-Some.is)
