-- The loop's invariant is `Tallied`; its measure is how many filled rows are left.
use lib.Count.{ones}
use Rattle.seats.specs.Mask.{rows_of}
use Rattle.acks.specs.Acks.{row_of}
use Rattle.acks.proofs.Tally.{Tallied}
use Rattle.acks.proofs.Acks.most_by_groups.Given as goal

abbrev pub invariant-loop-best : goal.invariant-loop-best
invariant-loop-best l = Tallied (rows_of l.n) (row_of l.self) l.left l.best

abbrev pub decreases-loop-best : goal.decreases-loop-best
decreases-loop-best l = ones l.left
