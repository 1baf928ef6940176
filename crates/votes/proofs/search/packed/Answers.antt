use mathlib.Core.Path.{refl}
use Rattle.seats.specs.Marks.{packing_begin, packing_next}
use Rattle.votes.proofs.search.packed.Goals as goal

pub loop-k-init : goal.loop-k-init
loop-k-init g c = packing_begin _ c.args.n _ refl

pub loop-k-preserved : goal.loop-k-preserved
loop-k-preserved g c =
    let l = c.loop-k in packing_next _ c.args.n l.k l.m c.loop-k-test.true c.requires.room l.invariant c.passes.result _ c.from.ensures c.passes.ensures
