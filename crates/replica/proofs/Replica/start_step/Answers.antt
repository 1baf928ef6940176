use borrow.Author.Tests.{eqb-true}
use Rattle.replica.specs.Refusals.{start_refusals}
use Rattle.replica.specs.Replica.{standing}
use Rattle.replica.specs.Steps.{start_step}
use Rattle.replica.proofs.Answered.{number_is, answered_is}
use Rattle.replica.proofs.Replica.start_step.Goals as goal

pub returns : goal.returns
unfolding start_step
returns c =
    let s = c.args.self in
    let rs = start_refusals (standing s) in
    let k = c.number_of-number in
    answered_is s rs _ _ k.result (number_is s rs tt c.check_start.ensures k.ensures)
    (λ t. simp (c.then_some.ensures, c.head.ensures, c.pick.ensures, eqb-true k.result 0 t))
    (λ f. simp (c.then_some.ensures, c.pick.ensures, f))
