use Rattle.std.proofs.Common.{Option}
use mathlib.Core.List.{[], ◌∷◌, ◌++◌}
use mathlib.Core.Path.{◌≡◌, refl, sym, ap}
use native.Mathlib.Omega.{arith}
use Rattle.text.specs.Fields.{tab}
use Rattle.entry.specs.Hex.{entry_digits}
use Rattle.entry.specs.HexLaws.{text_length}
use Rattle.transcript.specs.Printed.{decided_text}
use Rattle.transcript.proofs.Printing.{byte_behind}
use Rattle.transcript.proofs.print.put_decided.Goals as goal
use Rattle.entry.specs.declared.Entry.{Entry}

-- The text of what d was told to be.
said : {d x : Option Entry} → d ≡ x → decided_text x ++ (tab ∷ []) ≡ decided_text d ++ (tab ∷ [])
said e = ap (λ (y : Option Entry). decided_text y ++ (tab ∷ [])) (sym e)

pub returns-in-None : goal.returns-in-None
returns-in-None c =
    let text = said c.in-None.is in
    (byte_behind _ _ _ _ 1 _ _ _ _ c.put_byte.ensures refl c.put_byte-in-None.ensures (omega arith) text, omega arith)

pub returns-in-Some : goal.returns-in-Some
returns-in-Some c =
    let text = said c.in-Some.is in
    let long = sym (text_length _) in
    (byte_behind _ _ _ _ entry_digits _ _ _ _ c.put_text.ensures long c.put_byte-in-Some.ensures refl text, omega arith)
