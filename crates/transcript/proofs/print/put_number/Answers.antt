use mathlib.Core.Path.{refl, sym, ◌∙◌}
use native.Mathlib.Omega.{arith}
use Rattle.text.specs.DecimalLaws.{decimal_length}
use Rattle.transcript.proofs.Lengths.{digits_few}
use Rattle.transcript.proofs.Printing.{byte_behind}
use Rattle.transcript.proofs.print.put_number.Goals as goal

pub overflow_add-at : goal.overflow_add-at
overflow_add-at c = omega (arith, digits_few _ _ c.put_decimal-k.ensures.0)

pub overflow_add-result : goal.overflow_add-result
overflow_add-result c = omega (arith, digits_few _ _ c.put_decimal-k.ensures.0)

pub overflow_add-result-2 : goal.overflow_add-result-2
overflow_add-result-2 c = omega (arith, digits_few _ _ c.put_decimal-k.ensures.0)

pub returns : goal.returns
returns c = let w = c.put_decimal-k.ensures in (
  byte_behind _ _ _ _ _ _ _ _ _ w.1 (w.0 ∙ sym (decimal_length _)) c.put_byte.ensures refl refl,
  omega (arith, digits_few _ _ w.0),
)
