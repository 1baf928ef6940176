-- What the loop keeps.
use Rattle.std.proofs.Common.{◌-◌, length}
use Rattle.transcript.proofs.Stepping.{standing}
use Rattle.transcript.proofs.Turns.{Going}
use Rattle.transcript.proofs.feed.feed.Given as goal

abbrev pub invariant-loop-put : goal.invariant-loop-put
invariant-loop-put l =
    let f = l.initial in
    Going (standing f.events f.margin f.left f.spoiled f.cut f.request f.replica f.rows) l.s f.out
    (standing l.events l.margin l.left l.spoiled l.cut l.request l.replica l.rows) l.at l.put l.out

abbrev pub decreases-loop-put : goal.decreases-loop-put
decreases-loop-put l = length l.s - l.at
