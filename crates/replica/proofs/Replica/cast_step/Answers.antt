use mathlib.Core.Path.{◌≡◌, sym, ap, ◌∙◌}
use mathlib.Core.Bool.{cond}
use mathlib.Core.List.{◌++◌}
use lib.Dec.{leb}
use borrow.Author.Tests.{eq-eqb, ne_eqb}
use Rattle.std.specs.Result.{result_unwrap_or}
use Rattle.base.specs.Refusal.{judged}
use Rattle.seats.specs.Seats.{count}
use Rattle.votes.specs.declared.Choice.{Choice}
use Rattle.votes.specs.Rows.{has_row, chosen}
use Rattle.replica.specs.Refusals.{cast_refusals}
use Rattle.replica.specs.Replica.{own_refusals, standing}
use Rattle.replica.proofs.Answered.{number_is, staged}
use Rattle.replica.proofs.Casting.{refusals, made_is}
use Rattle.replica.proofs.Replica.cast_step.Goals as goal
use Rattle.replica.proofs.Replica.cast_step.Goals.{then-taken, else-taken, then-asks, else-asks}

pub returns : goal.returns
returns c =
    let s = c.args.self in
    let r = c.args.r in
    let k = c.number_of-number in
    let t = c.put.new.self in
    let made = made_is s r k.result c.pick.result t c.if-taken.choice (number_is s (refusals s r) tt (c.check_cast.ensures ∙ ap (λ b. judged (own_refusals s ++ cast_refusals (standing s) b r)) c.row_held-held.ensures) k.ensures) c.pick.ensures c.put.ensures
    (elim c.if-taken.branch [
      | then-taken w ↦ w.choice-is ∙ w.unwrap_or-choice.ensures ∙ ap (λ x. result_unwrap_or x Choice.Wait) w.choose_among.ensures
          ∙ sym (ap (λ b. cond b (result_unwrap_or (chosen s.n s.f s.view t) Choice.Wait) Choice.Wait) (eq-eqb _ _ w.if-taken.true))
      | else-taken w ↦ w.choice-is ∙ sym (ap (λ b. cond b (result_unwrap_or (chosen s.n s.f s.view t) Choice.Wait) Choice.Wait) (ne_eqb _ _ w.if-taken.false))
    ]) in
    let asks = c.is_some-asks.result in
    let rows = cond (leb s.n 64) (count (has_row s.n s.f s.view t) s.n) 0 in
    let counted : c.if-asks.count ≡ cond asks rows 0 = elim c.if-asks.branch [
      | then-asks w ↦ w.count-is ∙ w.rows_counted-count.ensures ∙ sym (ap (λ b. cond b rows 0) w.if-asks.true)
      | else-asks w ↦ w.count-is ∙ sym (ap (λ b. cond b rows 0) w.if-asks.false)
    ] in
    simp (
      c.then_some.ensures,
      c.head.ensures,
      c.pick-2.ensures ∙ staged asks 2 s.stage,
      c.unwrap_or-chosen.ensures,
      counted,
      c.is_some-asks.ensures,
      c.asked_for-asked.ensures,
    ) made
