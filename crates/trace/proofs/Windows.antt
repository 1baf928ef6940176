-- Laws of windows.
use Rattle.std.proofs.Common.{◌≡◌, ℕ, ◌≤◌, List, Option, None, Some, length, arith}
use Prim.Native.Nat.{zero-le}
use Rattle.std.specs.Option.{unwrap_or}
use Rattle.transcript.specs.LineEnds.{behind_line}
use Rattle.transcript.specs.TextLaws.{line_found}

-- A line ends in its text.
pub line_inside : (s : List ℕ) (line : Option ℕ) (at : ℕ) → line ≡ behind_line s 0 → at ≡ unwrap_or line 0 → at ≤ length s
line_inside s None at is this = omega (arith, this)
line_inside s (Some e) at is this =
    let fits = (line_found s 0 e is zero-le).fits in
    omega (arith, this, fits)
