use mathlib.Core.Path.{◌≡◌, ap}
use native.Mathlib.Omega.{arith}
use lib.ListN.{length}
use mir.Val.{to_z, of_z}
use mir.Syntax.{w32}
use Rattle.text.specs.PutLaws.{puts_nothing, become}
use Rattle.transcript.proofs.Printing.{whole_put, last_none, last_event_lem}
use borrow.Author.Rules.{rules}
use Rattle.std.proofs.Common.{not}
use Rattle.transcript.proofs.finish.finish.Goals as goal

pub returns-then-not-more-state : goal.returns-then-not-more-state
returns-then-not-more-state c =
    let a = c.args in
    let none = last_none a.state a.more (ap not c.if-not-more-state.true) in
    let put = become _ _ _ _ _ _ none (puts_nothing a.out.now 0) in
    whole_put _ _ _ _ c.if-out-lt-ROOM.false put (omega (arith, ap length none))

pub returns : goal.returns
returns c =
    let a = c.args in
    let e = c.put_event.ensures in
    let m = a.state.margin in
    let back : to_z w32 (of_z w32 m) ≡ m = search rules in
    let text = last_event_lem a.state a.more _ _ (ap not c.if-not-more-state.false) c.next_event.ensures back in
    let put = become _ _ _ _ _ _ text e.0 in
    whole_put _ _ _ _ c.if-out-lt-ROOM.false put (omega (arith, put.place, e.1))
