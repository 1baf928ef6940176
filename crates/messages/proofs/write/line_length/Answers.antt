use native.Mathlib.Omega.{arith}
use mathlib.Core.Path.{refl, ap}
use mathlib.Core.List.{[]}
use lib.ListN.{length}
use Rattle.text.specs.Fields.{tabbed}
use Rattle.messages.specs.declared.Head.{Head}
use Rattle.messages.specs.declared.Message.TheVariants.{Start, Enter, Propose, Cast, Ask}
use Rattle.messages.specs.Lengths.{number_takes, proposal_takes, assent_takes, row_takes, request_takes}
use Rattle.messages.specs.Lines.{head}
use Rattle.messages.proofs.Writing.{told_length, assent_length}
use Rattle.messages.proofs.write.line_length.Goals as goal

pub returns-in-Start : goal.returns-in-Start
returns-in-Start c = told_length _ Start _ c.in-Start.is refl

pub returns-in-Enter : goal.returns-in-Enter
returns-in-Enter c =
    let m = c.in-Enter in
    told_length _ (Enter m.v) _ m.is (omega (arith, c.width.ensures, number_takes m.v.0 []))

pub returns-in-Propose : goal.returns-in-Propose
returns-in-Propose c =
    let m = c.in-Propose in
    told_length _ (Propose m.p) _ m.is (omega (arith, c.head_length.ensures.0, proposal_takes m.p))

pub returns-in-Acknowledge : goal.returns-in-Acknowledge
returns-in-Acknowledge c =
    let m = c.in-Acknowledge in
    assent_length _ m.a _ m.is (omega (arith, c.head_length-in-Acknowledge.ensures.0, assent_takes m.a))

pub returns-in-Cast : goal.returns-in-Cast
returns-in-Cast c =
    let m = c.in-Cast in
    let same = ap (λ (y : Head). length (tabbed (head y []))) c.of.ensures in
    let first = c.head_length-in-Cast.ensures.0 in
    told_length _ (Cast m.r) _ m.is (omega (arith, first, same, c.vote_length.ensures.0, row_takes m.r))

pub returns-in-Ask : goal.returns-in-Ask
returns-in-Ask c =
    let m = c.in-Ask in
    let first = c.head_length-in-Ask.ensures.0 in
    told_length _ (Ask m.q) _ m.is (omega (arith, first, c.width-in-Ask.ensures, request_takes m.q))
