use Prim.Native.Nat.{◌+◌}
use mathlib.Core.Path.{◌≡◌, ap, ◌∙◌}
use native.Mathlib.Omega.{arith}
use Rattle.seats.specs.Seats.{count}
use Rattle.seats.specs.Count.{count_le}
use Rattle.seats.specs.Marks.{rows_le}
use Rattle.acks.specs.Acks.{shares}
use Rattle.acks.proofs.Half.{count_none, count_step}
use Rattle.acks.proofs.Acks.alike.Invariants.{on}
use Rattle.acks.proofs.Acks.alike.Goals as goal
use Rattle.acks.proofs.Acks.alike.Goals.{After-from-count}

-- The next seat's row is counted as the code says.
more : (c : After-from-count) →
    let l = c.loop-k in
    let a = c.args in
    l.count + c.from-count.result ≡ count (on a.self.now a.a) (l.k + 1)
more c =
    let l = c.loop-k in
    let a = c.args in
    ap (λ x. l.count + x) c.from-count.ensures
    ∙ count_step (on a.self.now a.a) l.k l.count c.shares.result l.invariant (c.shares.ensures ∙ ap (λ r. shares r a.a) c.row_of.ensures)

pub loop-k-init : goal.loop-k-init
loop-k-init c = count_none (on c.args.self.now c.args.a)

pub overflow_add-count : goal.overflow_add-count
overflow_add-count c =
    let l = c.loop-k in
    let a = c.args in
    let few = count_le (on a.self.now a.a) (l.k + 1) in
    omega (arith, more (goal.at.overflow_add-count c).After-from-count, few, c.loop-k-test.true, c.rows_of-k-end.ensures, rows_le a.n)

pub loop-k-preserved : goal.loop-k-preserved
loop-k-preserved c = more (goal.at.loop-k-preserved c).After-from-count
