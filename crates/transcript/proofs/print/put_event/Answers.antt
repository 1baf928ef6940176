use native.Mathlib.Omega.{arith}
use mir.Facts.{to_z-of_z}
use Rattle.transcript.proofs.Printing.{event_put}
use Rattle.transcript.proofs.print.put_event.Goals as goal

pub returns : goal.returns
returns c = (
  event_put _ _ _ _ _ _ _ _ _ _ _ _ _ _ _ _ _ _ c.put_number-a.ensures.0 c.put_number-b.ensures.0
      c.put_decided-c.ensures.0 (to_z-of_z c.ranges.margin) c.put_signed-e.ensures.0 c.put_sent.ensures.0,
  omega (
    arith,
    c.put_number-a.ensures.1,
    c.put_number-b.ensures.1,
    c.put_decided-c.ensures.1,
    c.put_signed-e.ensures.1,
    c.put_sent.ensures.1,
  ),
)
