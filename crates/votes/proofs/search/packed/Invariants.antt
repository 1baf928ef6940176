-- Going down, the mask is that of the seats looked at so far, whatever the closure tells of one.
use Rattle.seats.specs.Marks.{Packing}
use Rattle.votes.proofs.search.packed.Given as goal

abbrev pub invariant-loop-k : goal.invariant-loop-k
invariant-loop-k g l = Packing (goal.F-post g l.passes) l.n l.k l.m
