use mathlib.Core.Path.{ap, ◌∙◌}
use Rattle.seats.specs.Mask.{mask}
use Rattle.acks.specs.Acks.{row_of, is_sharer}
use Rattle.acks.specs.MostLaws.{sharers_rows}
use borrow.Author.Rules.{rules}
use Rattle.acks.proofs.Acks.sharers.Goals as goal

pub returns : goal.returns
returns c =
    let a = c.args in
    let t = a.self.now in
    c.packed.ensures (is_sharer (row_of t) a.a) (λ k b l e. search rules) ∙ ap (mask (is_sharer (row_of t) a.a)) c.rows_of.ensures ∙ sharers_rows a.n t a.a
