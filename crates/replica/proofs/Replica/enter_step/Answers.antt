use borrow.Author.Tests.{eqb-true}
use Rattle.replica.specs.Refusals.{enter_refusals}
use Rattle.replica.specs.Replica.{standing}
use Rattle.replica.specs.Steps.{enter_step}
use Rattle.replica.proofs.Answered.{number_is, answered_is}
use Rattle.replica.proofs.Replica.enter_step.Goals as goal

pub returns : goal.returns
unfolding enter_step
returns c =
    let a = c.args in
    let rs = enter_refusals (standing a.self) a.v in
    let k = c.number_of-number in
    answered_is a.self rs _ _ k.result (number_is a.self rs tt c.check_enter.ensures k.ensures)
    (λ t. simp (
      c.then_some.ensures,
      c.pick-5.ensures,
      c.none.ensures,
      c.pick-4.ensures,
      c.pick-3.ensures,
      c.zero.ensures,
      c.pick-2.ensures,
      c.pick.ensures,
      c.pick-then.ensures,
      c.eq.ensures,
      c.leader.ensures,
      eqb-true k.result 0 t,
    ))
    (λ f. simp (
      c.then_some.ensures,
      c.pick-5.ensures,
      c.pick-4.ensures,
      c.pick-3.ensures,
      c.pick-2.ensures,
      c.pick.ensures,
      f,
    ))
