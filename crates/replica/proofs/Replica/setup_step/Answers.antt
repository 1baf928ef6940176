use Rattle.replica.proofs.Begun.{setup_number_is, setup_taken, setup_refused}
use Rattle.replica.proofs.Replica.setup_step.Goals as goal

pub returns-then-number-eq0 : goal.returns-then-number-eq0
returns-then-number-eq0 c =
    let a = c.args in
    setup_taken a.n a.f a.s a.own _ (setup_number_is a.n a.f a.s a.own c.check_setup.ensures c.number_of-number.ensures) c.fresh.ensures c.if-number-eq0.true

pub returns-else-number-eq0 : goal.returns-else-number-eq0
returns-else-number-eq0 c =
    let a = c.args in
    setup_refused a.n a.f a.s a.own _ (setup_number_is a.n a.f a.s a.own c.check_setup.ensures c.number_of-number.ensures) c.blank.ensures c.if-number-eq0.false
