use Rattle.text.specs.Put.{Puts}
use Rattle.transcript.proofs.SentRows.{lines_below}
use Rattle.transcript.proofs.print.put_rows.Given as goal

abbrev pub invariant-loop-k : goal.invariant-loop-k
invariant-loop-k l = Puts l.initial.s l.at (lines_below l.n l.f l.v l.rows l.k) l.p l.s
