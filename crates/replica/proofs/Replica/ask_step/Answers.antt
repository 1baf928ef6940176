use mathlib.Core.List.{◌++◌}
use borrow.Author.Tests.{eqb-true}
use Rattle.votes.specs.Request.{gathered_refusals}
use Rattle.replica.specs.Refusals.{ask_refusals}
use Rattle.replica.specs.Replica.{standing}
use Rattle.replica.specs.Steps.{ask_with}
use Rattle.replica.proofs.Answered.{number_is, answered_is}
use Rattle.replica.proofs.Replica.ask_step.Goals as goal

pub returns : goal.returns
unfolding ask_with gathered_refusals
returns c =
    let a = c.args in
    let s = a.self in
    let rs = ask_refusals (standing s) a.q ++ gathered_refusals a.rows s.n s.f a.q.head.view a.q.entry in
    let k = c.number_of-number in
    answered_is s rs _ _ k.result (number_is s rs tt c.check_ask.ensures k.ensures)
    (λ t. simp (c.then_some.ensures, c.head.ensures, eqb-true k.result 0 t))
    (λ f. simp (c.then_some.ensures, f))
