use Rattle.text.proofs.Reading.{nibble_is}
use Rattle.text.proofs.digits.nibble.Goals as goal

pub returns : goal.returns
returns c = nibble_is c.args.x
