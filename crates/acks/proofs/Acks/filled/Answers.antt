use mathlib.Core.Path.{ap, ◌∙◌}
use Rattle.seats.specs.Mask.{mask}
use Rattle.acks.specs.Acks.{row_of, is_filled}
use borrow.Author.Rules.{rules}
use Rattle.acks.proofs.Acks.filled.Goals as goal

pub returns : goal.returns
unfolding row_of
returns c =
    let t = c.args.self.now in
    c.packed.ensures (λ k. is_filled (row_of t k)) (λ k b l e. search rules) ∙ ap (mask (λ k. is_filled (row_of t k))) c.rows_of.ensures
