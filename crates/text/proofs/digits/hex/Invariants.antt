-- What is read so far, and the rest of the text, tell what the whole text holds.
use mathlib.Core.Path.{◌≡◌}
use mathlib.Core.Bool.{cond}
use Prim.Native.Nat.{◌<◌, ◌^◌}
use lib.ListN.{drop}
use Rattle.std.specs.Prelude.{None}
use Rattle.text.specs.Digits.{value_from, hex_digit, hex_of}
use Rattle.text.proofs.digits.hex.Given as goal

abbrev pub invariant-loop-i : goal.invariant-loop-i
invariant-loop-i l = (l.v < 16 ^ l.i) × (hex_of l.t ≡ cond l.good (value_from 16 hex_digit l.v (drop l.i l.t)) None)
