use mathlib.Core.Path.{sym, ap, ◌∙◌}
use mathlib.Core.Bool.{cond}
use mathlib.Core.List.{◌++◌}
use Rattle.base.specs.Refusal.{judged}
use Rattle.acks.specs.declared.AckRow.{AckRow}
use Rattle.acks.specs.Acks.{row_of, sharers}
use Rattle.replica.specs.Refusals.{acknowledge_refusals}
use Rattle.replica.specs.Replica.{own_refusals, standing}
use Rattle.replica.specs.Steps.{ack_row}
use Rattle.replica.proofs.Answered.{number_is}
use Rattle.replica.proofs.Acknowledging.{refusals, acknowledging}
use Rattle.replica.proofs.Replica.acknowledge_step.Goals as goal
use Rattle.replica.proofs.Replica.acknowledge_step.Goals.{then-open, else-open}

pub returns : goal.returns
returns c =
    let s = c.args.self in
    let a = c.args.a in
    let k = c.number_of-number in
    let t = c.put.new.self in
    simp (c.then_some.ensures, c.pick-2.ensures)
    (acknowledging s a k.result t (number_is s (refusals s a) tt (c.check_acknowledge.ensures ∙ ap (λ (x : AckRow). judged (own_refusals s ++ acknowledge_refusals (standing s) x.view a)) c.row_of-held.ensures) k.ensures) c.pick.ensures c.put.ensures
    (elim c.if-open.branch [
      | then-open w ↦ w.shared-is ∙ w.sharers-shared.ensures ∙ sym (ap (λ b. cond b (sharers s.n (row_of t) (ack_row a)) 0) w.if-open.true)
      | else-open w ↦ w.shared-is ∙ sym (ap (λ b. cond b (sharers s.n (row_of t) (ack_row a)) 0) w.if-open.false)
    ])
    c.quorum.ensures c.seats_in.ensures)
