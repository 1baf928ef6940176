use mathlib.Core.Path.{sym}
use mathlib.Core.List.{[], ◌∷◌}
use native.Mathlib.Omega.{arith}
use Rattle.text.specs.PutLaws.{placed_room, placed_none}
use Rattle.text.proofs.put.put_byte.Goals as goal

pub returns-then-at-s : goal.returns-then-at-s
returns-then-at-s c = let a = c.args in sym (placed_room a.s.now a.at (a.b ∷ []) (omega arith))

pub returns-else-at-s : goal.returns-else-at-s
returns-else-at-s c = let a = c.args in sym (placed_none a.s.now a.at (a.b ∷ []) (omega arith))
