use mathlib.Core.Path.{◌∙◌}
use Rattle.replica.proofs.Answered.{number_is, staged}
use Rattle.replica.proofs.Confirming.{refusals, made_is}
use Rattle.replica.proofs.Replica.confirm_step.Goals as goal

pub returns : goal.returns
returns c =
    let s = c.args.self in
    let x = c.args.c in
    let k = c.number_of-number in
    simp (c.then_some.ensures, c.head.ensures, c.pick-2.ensures ∙ staged _ 3 s.stage, c.from.ensures, c.seats_in.ensures, c.with_seat-confirmed.ensures)
    (made_is s x k.result c.pick.result c.below.result (number_is s (refusals s x) tt c.check_confirm.ensures k.ensures) c.pick.ensures c.below.ensures)
