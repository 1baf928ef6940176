use mathlib.Core.Path.{refl, sym, ap}
use native.Mathlib.Omega.{arith}
use Rattle.transcript.specs.Printed.{sent_text}
use Rattle.transcript.proofs.Printing.{byte_behind}
use Rattle.transcript.proofs.print.put_sent.Goals as goal

pub returns-in-None : goal.returns-in-None
returns-in-None c =
    let text = ap sent_text (sym c.in-None.is) in
    (byte_behind _ _ _ _ 1 _ _ _ _ c.put_byte.ensures refl c.put_byte-in-None.ensures (omega arith) text, omega arith)
