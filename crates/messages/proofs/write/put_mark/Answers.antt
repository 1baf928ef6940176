use mathlib.Core.List.{List, [], ◌∷◌}
use Rattle.text.specs.Fields.{tabbed}
use Rattle.text.specs.PutLaws.{become}
use mathlib.Core.Path.{ap}
use native.Mathlib.Omega.{arith}
use Prim.Native.Nat.{ℕ, ◌+◌}
use Rattle.messages.proofs.Writing.{field_put}
use borrow.Author.Rules.{rules}
use Rattle.messages.proofs.write.put_mark.Goals as goal

pub returns : goal.returns
returns c =
    let a = c.args in
    let put = field_put _ a.at _ _ (a.at + 2) _ c.put_byte.ensures c.put_byte-2.ensures (omega arith) in
    (become _ _ _ _ _ _ (ap (λ (f : List ℕ). tabbed (f ∷ [])) c.mark_byte.ensures) put, search rules)
