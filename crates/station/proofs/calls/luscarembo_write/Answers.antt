use mathlib.Core.Path.{ap, sym, ◌∙◌}
use mathlib.Core.List.{[], ◌∷◌}
use Rattle.std.proofs.Common.{ℕ, Result}
use Rattle.base.specs.Refusal.{number_of}
use Rattle.base.specs.declared.refusal.Refusal.{Refusal}
use Rattle.messages.specs.Writer.{written, written_number, written_length, afterwards}
use Rattle.station.proofs.calls.luscarembo_write.Goals as goal

pub returns-in-Err : goal.returns-in-Err
unfolding number_of
returns-in-Err c =
    let buf = c.args.buf.now in
    let m = c.message_of.ensures in
    let said = sym c.in-Err.is ∙ c.write_line.ensures.0 ∙ ap (written buf) m in (
      c.number_of.ensures ∙ ap written_number said,
      c.write_line.ensures.1 ∙ ap (afterwards buf) m,
      ap (λ (w : Result ℕ Refusal). written_length w ∷ []) said,
    )
