use mathlib.Core.Path.{◌≡◌, ◌∙◌, ap}
use Rattle.base.specs.Refusal.{number_of}
use mir.Syntax.{w32}
use mir.Val.{to_z, of_z}
use Rattle.transcript.proofs.Beginning.{resumed_is}
use borrow.Author.Rules.{rules}
use Rattle.transcript.proofs.begin.resume.Goals as goal

pub returns : goal.returns
returns c =
    let s = c.args.s in
    let m = c.margin_of.result in
    let same : to_z w32 (of_z w32 m) ≡ m = search rules in
    resumed_is s c.number_of-setup.result (to_z w32 (of_z w32 m)) m c.no_request.result c.none.result
    (c.number_of-setup.ensures ∙ ap number_of c.check_setup.ensures) same c.margin_of.ensures c.no_request.ensures c.none.ensures
