use native.Mathlib.Omega.{arith}
use Rattle.transcript.proofs.Lengths.{digits_few}
use Rattle.transcript.proofs.Printing.{whole_put, refusal_put}
use Rattle.transcript.proofs.begin.put_refusal.Goals as goal

pub overflow_add-k : goal.overflow_add-k
overflow_add-k c = omega (arith, digits_few _ _ c.put_decimal-k.ensures.0)

pub overflow_add-result : goal.overflow_add-result
overflow_add-result c = omega (arith, digits_few _ _ c.put_decimal-k.ensures.0)

pub returns : goal.returns
returns c =
    let w = c.put_decimal-k.ensures in
    let put = refusal_put _ _ _ _ _ c.args.number _ c.put_byte.ensures c.put_byte-2.ensures
    w.0 w.1 c.put_byte-3.ensures in
    whole_put _ _ _ _ c.if-out-lt-ROOM.false put (omega (arith, put.place, digits_few _ _ w.0))
