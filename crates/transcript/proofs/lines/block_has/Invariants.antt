use Prim.Native.Nat.{◌-◌, ◌≤◌}
use mathlib.Core.Path.{◌≡◌}
use Rattle.transcript.specs.LineEnds.{has_lf}
use Rattle.transcript.proofs.lines.block_has.Given as goal

abbrev pub invariant-loop-i : goal.invariant-loop-i
invariant-loop-i l = (l.i ≤ 16) × (l.hit ≡ has_lf l.s l.at l.i)

abbrev pub decreases-loop-i : goal.decreases-loop-i
decreases-loop-i l = 16 - l.i
