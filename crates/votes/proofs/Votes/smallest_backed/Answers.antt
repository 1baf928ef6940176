use Prim.Native.Nat.{ℕ, ◌+◌}
use mathlib.Core.Path.{◌≡◌, sym, ap, ◌∙◌}
use mathlib.Core.Bool.{Bool, true, false}
use lib.Dec.{leb}
use borrow.Author.Tests.{le-leb, lt-leb}
use Rattle.std.specs.Prelude.{Option, Some}
use Rattle.entry.specs.declared.Entry.{Entry}
use Rattle.entry.specs.Table.{entry_at}
use Rattle.seats.specs.Mask.{rows_of, seats_in}
use Rattle.votes.specs.Selection.{smaller, smallest}
use Rattle.votes.specs.Smallest.{smallest_none, smallest_more}
use Rattle.votes.proofs.Votes.smallest_backed.Invariants.{backed, rows_for}
use Rattle.votes.proofs.Votes.smallest_backed.Goals as goal
use Rattle.votes.proofs.Votes.smallest_backed.Goals.{then-has+then-need-seats_in, else-has, else-has-via-then-has+else-need-seats_in, else-has-via-else-has}

-- One seat more, that passes or not.
module _ (p : ℕ → Bool) (e : ℕ → Entry) (k : ℕ) {b c : Option Entry} (was : b ≡ smallest p e k) where
  takes : {d : Entry} → p k ≡ true → d ≡ smaller (e k) b → c ≡ Some d → c ≡ smallest p e (k + 1)
  takes t h i = simp (i, h, was) (sym (simp (smallest_more p e k, t)))

  keeps : p k ≡ false → c ≡ b → c ≡ smallest p e (k + 1)
  keeps t i = simp (i, was) (sym (simp (smallest_more p e k, t)))

pub loop-k-init : goal.loop-k-init
loop-k-init c = let a = c.args in sym (smallest_none (backed a.rows a.self.now (rows_of a.n) a.need) (entry_at a.self.now.entries))

pub loop-k-preserved : goal.loop-k-preserved
loop-k-preserved c =
    let l = c.loop-k in
    let a = c.args in
    let p = backed a.rows a.self.now (rows_of a.n) a.need in
    let e = entry_at a.self.now.entries in
    elim c.if-has.branch [
      | then-has+then-need-seats_in w ↦
          takes p e l.k l.invariant (simp (← c.has.ensures, w.if-has.true) (ap (leb a.need) (sym (w.seats_in.ensures ∙ ap seats_in w.holding.ensures ∙ ap (rows_for a.rows a.self.now (rows_of a.n)) c.entry_at-e.ensures)) ∙ le-leb _ _ w.if-need-seats_in.true)) (w.smaller.ensures ∙ ap (λ x. smaller x l.b) c.entry_at-e.ensures) w.b-is
      | else-has w ↦ elim w.else-has.branch [
        | else-has-via-then-has+else-need-seats_in v ↦ keeps p e l.k l.invariant (simp (← c.has.ensures, v.if-has.true) (ap (leb a.need) (sym (v.seats_in.ensures ∙ ap seats_in v.holding.ensures ∙ ap (rows_for a.rows a.self.now (rows_of a.n)) c.entry_at-e.ensures)) ∙ lt-leb _ _ v.if-need-seats_in.false)) w.b-is
        | else-has-via-else-has v ↦ keeps p e l.k l.invariant (simp (← c.has.ensures, v.if-has.false)) w.b-is
      ]
    ]
