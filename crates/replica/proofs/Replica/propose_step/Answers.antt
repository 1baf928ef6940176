use borrow.Author.Tests.{eqb-true}
use Rattle.replica.specs.Refusals.{propose_refusals}
use Rattle.replica.specs.Replica.{standing}
use Rattle.replica.specs.Steps.{propose_step}
use Rattle.replica.proofs.Answered.{number_is, answered_is}
use Rattle.replica.proofs.Replica.propose_step.Goals as goal

pub returns : goal.returns
unfolding propose_step
returns c =
    let a = c.args in
    let rs = propose_refusals (standing a.self) a.self.vote a.p in
    let k = c.number_of-number in
    answered_is a.self rs _ _ k.result (number_is a.self rs tt c.check_propose.ensures k.ensures)
    (λ t. simp (c.then_some.ensures, c.head.ensures, c.pick.ensures, eqb-true k.result 0 t))
    (λ f. simp (c.then_some.ensures, c.pick.ensures, f))
