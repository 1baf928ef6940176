use Rattle.std.proofs.Common.{arith, ◌∙◌}
use Rattle.std.proofs.lemmas.Grind.{common_steps}
use Rattle.entry.specs.Hex.{entry_field}
use Rattle.entry.proofs.HexText.{short_field}
use Rattle.entry.proofs.hex.read_entry.Goals as goal

pub returns-in_err-hi : goal.returns-in_err-hi
returns-in_err-hi c = c.from_residual.ensures ∙ short_field c.args.t.now c.in_err-hi.ensures.cases

pub returns-in_err-hex : goal.returns-in_err-hex
unfolding entry_field
returns-in_err-hex c = let h = c.in_ok-hi.ensures.cases in grind (arith, common_steps)

pub returns-in_err-hex-2 : goal.returns-in_err-hex-2
unfolding entry_field
returns-in_err-hex-2 c = let h = c.in_ok-hi.ensures.cases in grind (arith, common_steps)

pub returns : goal.returns
unfolding entry_field
returns c = let h = c.in_ok-hi.ensures.cases in grind (arith, common_steps)
