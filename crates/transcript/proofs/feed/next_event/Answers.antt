use Rattle.std.proofs.Common.{arith}
use Rattle.std.proofs.lemmas.Bool.Decides.{nat_tests}
use Rattle.transcript.specs.Feeding.{next_event}
use Rattle.transcript.proofs.feed.next_event.Goals as goal

pub returns : goal.returns
unfolding next_event
returns c = grind (arith, nat_tests)
