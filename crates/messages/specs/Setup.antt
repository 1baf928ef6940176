-- 01, "The program trace": "a line `H` n f seat entry .. Here n, f and seat are 0 to 99; f may be `-`".
use Rattle.std.specs.Prelude.{ℕ, ◌≤◌, cond, List, [], ◌∷◌, eqb, Option, Some, None, IfSome}
use Rattle.std.specs.Bool.{then_some}
use Rattle.text.specs.Digits.{◌>>=◌, decimal, letter_of}
use Rattle.text.specs.Fields.{IsLineOf, field_at, over}
use Rattle.entry.specs.Hex.{entry_text, IsEntry}
use Rattle.messages.specs.declared.setup.Setup.{Setup}
use Rattle.messages.specs.Lines.{dash, seat}
use Rattle.messages.specs.Reader.{number_at, dash_at, entry_at}

-- "Here n, f and seat are 0 to 99"
abbrev pub top_setup : ℕ
top_setup = 99

-- `H`
abbrev pub setup_kind : ℕ
setup_kind = 0x48

-- f, or a dash
abbrev pub faulty : Option ℕ → List ℕ
faulty None = dash ∷ []
faulty (Some f) = decimal f

abbrev pub setup_fields : Setup → List (List ℕ)
setup_fields h = decimal h.n ∷ faulty h.f ∷ seat h.seat ∷ entry_text h.entry ∷ []

-- The texts that are read as its line.
unfoldable pub IsSetupLine : List ℕ → Setup → Type 0
IsSetupLine l h = IsLineOf l setup_kind (setup_fields h)

pub record FitsSetup (h : Setup) : Type 0 where
  pub n : h.n ≤ top_setup
  pub f : IfSome h.f (λ f. f ≤ top_setup)
  pub seat : h.seat.0 ≤ top_setup
  pub entry : IsEntry h.entry

-- What reading an H is: what its line says, and 19 exactly where it is no such line.
abbrev pub ReadsSetup : List ℕ → Option Setup → Type 0
ReadsSetup l (Some h) = IsSetupLine l h × FitsSetup h
ReadsSetup l None = (h : Setup) → FitsSetup h → IsSetupLine l h → ⊥

abbrev pub opening_number : Option Setup → ℕ
opening_number (Some h) = 0
opening_number None = 19

-- ---- the reader as a function of the line: `reads_setup` in SetupLaws.antt says that it answers as `ReadsSetup` asks

-- f or a dash behind n: a dash where one ends there.
abbrev pub faulty_at : List ℕ → ℕ × ℕ → Option ℕ → Option (ℕ × Option ℕ × ℕ)
faulty_at t n (Some e) = Some (n.0, None, e)
faulty_at t n None = do
  f ← number_at t n.1 top_setup
  Some (n.0, Some f.0, f.1)

-- n, and f or a dash, behind a field that ends at place e.
unfoldable pub sizes_at : List ℕ → ℕ → Option (ℕ × Option ℕ × ℕ)
sizes_at t e = do
  n ← number_at t e top_setup
  faulty_at t n (dash_at t n.1)

-- What stands behind the kind.
unfoldable pub setup_at : List ℕ → ℕ → Option Setup
setup_at t e = do
  z ← sizes_at t e
  s ← number_at t z.2 top_setup
  x ← entry_at t s.1
  then_some (over t x.1) (record { n = z.0; f = z.1; seat = record { 0 = s.0 }; entry = x.0 })

unfoldable pub read_setup : List ℕ → Option Setup
read_setup l = do
  k ← letter_of (field_at l 0)
  cond (eqb k setup_kind) (setup_at l 1) None
