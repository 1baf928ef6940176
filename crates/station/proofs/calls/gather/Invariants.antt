use Prim.Native.Nat.{◌-◌}
use lib.ListN.{length}
use Rattle.station.proofs.Gathering.{Gathering}
use Rattle.station.proofs.calls.gather.Given as goal

abbrev pub invariant-loop-end : goal.invariant-loop-end
invariant-loop-end l = Gathering l.text l.initial.t l.t l.at

abbrev pub decreases-loop-end : goal.decreases-loop-end
decreases-loop-end l = length l.text - l.at
