use mathlib.Core.Path.{◌≡◌, ◌∙◌, ap}
use Rattle.base.specs.Refusal.{number_of}
use mir.Syntax.{w32}
use mir.Val.{to_z, of_z}
use Rattle.replica.proofs.Begun.{answer_is}
use borrow.Author.Rules.{rules}
use Rattle.replica.proofs.Step.answer.Goals as goal

pub returns : goal.returns
returns c =
    let m = c.margin_of-margin.result in
    let same : to_z w32 (of_z w32 m) ≡ m = search rules in
    answer_is c.args.self (c.number_of.ensures ∙ ap number_of c.check_own.ensures) same c.margin_of-margin.ensures
