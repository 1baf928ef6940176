use native.Mathlib.Omega.{arith}
use mathlib.Core.Path.{◌≡◌, sym, ap}
use Prim.Native.Nat.{◌≤◌}
use mathlib.Core.Bool.{Bool, true}
use lib.ListN.{length}
use borrow.Author.Tests.{not-false}
use Rattle.text.specs.DecimalLaws.{width_le}
use Rattle.text.specs.Fields.{tabbed}
use Rattle.messages.specs.Lines.{vote}
use Rattle.messages.specs.Lengths.{vote_takes}
use Rattle.messages.proofs.write.vote_length.Goals as goal
use Rattle.messages.proofs.write.vote_length.Goals.{After-width}

-- A view has 20 digits at most.
few : (c : After-width) → c.width.result ≤ 20
few c = omega (arith, c.width.ensures, width_le c.args.x.view.0)

pub returns : goal.returns
returns c =
    let x = c.args.x in
    let cast : x.cast ≡ true = not-false x.cast c.if-not-x.false in
    let w = c.width.ensures in
    let same = ap (λ (b : Bool). length (tabbed (vote b x))) (sym cast) in
    (omega (arith, vote_takes x, same), omega (arith, few (goal.at.returns c).After-width))
