-- The middle seat's row, where half of the seats have it; else group by group.
use native.Mathlib.Omega.{arith}
use Rattle.seats.specs.Mask.{rows_of}
use Rattle.seats.specs.Marks.{rows_le}
use Rattle.seats.specs.Count.{count_le}
use Rattle.acks.specs.Acks.{row_of, shares}
use Rattle.acks.proofs.Half.{half_is}
use Rattle.acks.proofs.Acks.most.Goals as goal

pub overflow_mul-group : goal.overflow_mul-group
overflow_mul-group c =
    let a = c.args in
    let t = a.self.now in
    omega (arith, c.alike-group.ensures, count_le (λ k. shares (row_of t k) c.row_of-row.result) (rows_of a.n), rows_le a.n)

pub returns-then-row-n : goal.returns-then-row-n
returns-then-row-n c =
    let a = c.args in
    half_is a.n a.self.now c.row_of-row.result c.alike-group.result
    c.alike-group.ensures c.if-row-n.true
