use Rattle.text.proofs.Putting.{char_is}
use Rattle.text.proofs.put.hex_char.Goals as goal

pub returns : goal.returns
returns c = char_is c.args.d
