-- 01, "The program trace": from the whole input to the whole output.
use Rattle.std.specs.Prelude.{ℕ, suc, cond, List, [], ◌∷◌, ◌++◌, eqb, Option, Some, None, unwrap_or}
use Rattle.text.specs.Digits.{decimal}
use Rattle.text.specs.Fields.{line_end}
use Rattle.messages.specs.declared.setup.Setup.{Setup}
use Rattle.messages.specs.Lines.{line_number}
use Rattle.messages.specs.Setup.{read_setup, opening_number}
use Rattle.replica.specs.declared.Replica.{Replica}
use Rattle.replica.specs.declared.Step.{Step}
use Rattle.replica.specs.Replica.{margin_of}
use Rattle.replica.specs.Steps.{refused, setup_step, step}
use Rattle.transcript.specs.Texts.{lines_of}
use Rattle.transcript.specs.Events.{Happening, happenings}
use Rattle.transcript.specs.Printed.{told, printed}

-- "Any other malformed line .. is an event with 19."
abbrev pub step_for : Replica → Happening → Step
step_for s None = refused (line_number None) s
step_for s (Some x) = step s x.0 x.1

-- Event after event, the first of them number k.
unfoldable pub told_of : Replica → ℕ → List Happening → List ℕ
told_of s k [] = []
told_of s k (h ∷ hs) =
    let t = step_for s h in
    printed k t (margin_of t.next) ++ told_of t.next (suc k) hs

-- The replica that they leave.
abbrev pub replica_after : Replica → List Happening → Replica
replica_after s [] = s
replica_after s (h ∷ hs) = replica_after (step_for s h).next hs

-- "f may be `-`, meaning 1"
abbrev pub faulty_of : Setup → ℕ
faulty_of h = unwrap_or h.f 1

abbrev pub setup_of : Setup → Step
setup_of h = setup_step h.n (faulty_of h) h.seat h.entry

-- "A bad H prints `0`, a tab and the number, and ends".
abbrev pub bad_setup : ℕ → List ℕ
bad_setup number = told (decimal 0 ∷ []) (decimal number ++ line_end)

abbrev pub begun : Step → List (List ℕ) → List ℕ
begun t ls = cond (eqb t.number 0) (told_of t.next 1 (happenings 0 ls)) (bad_setup t.number)

-- "the number is 19 for a malformed or missing H, else setup's"
abbrev pub opened : Option Setup → List (List ℕ) → List ℕ
opened None ls = bad_setup (opening_number None)
opened (Some h) ls = begun (setup_of h) ls

abbrev pub output : List (List ℕ) → List ℕ
output [] = bad_setup (opening_number None)
output (l ∷ ls) = opened (read_setup l) ls

unfoldable pub transcript : List ℕ → List ℕ
transcript text = output (lines_of text)
