use mathlib.Core.Path.{◌∙◌}
use native.Mathlib.Omega.{arith}
use Rattle.replica.proofs.Casting.{seats_le, rows_counted}
use Rattle.replica.proofs.leader.rows_counted.Goals as goal

pub overflow_cast-result : goal.overflow_cast-result
overflow_cast-result c = omega (arith, c.seats_in.ensures, seats_le c.rows_held.result)

pub returns : goal.returns
returns c =
    let a = c.args in
    c.seats_in.ensures ∙ rows_counted a.n a.f a.v a.votes.now c.rows_held.result c.rows_held.ensures
