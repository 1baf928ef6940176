-- 01, A: "If n − f or more rows now share this view and entry, and nothing is decided, that entry is decided and reported, once."
use Rattle.std.specs.Prelude.{ℕ, suc, ◌≤◌, ◌≡◌, refl, Bool, true, false, not, List, T, leb, length}
use Rattle.std.proofs.Common.{sym, ap, ◌∙◌, subst, arith}
use Rattle.std.proofs.Math.Option.{Option, none, some}
use Rattle.base.specs.Tests.{and_r, false_is}
use Rattle.seats.specs.Seats.{b2n}
use Rattle.seats.specs.Sizes.{quorum}
use Rattle.acks.specs.Acks.{row_of, sharing}
use Rattle.votes.specs.declared.Row.{Row}
use Rattle.messages.specs.declared.Message.{Message}
use Rattle.messages.specs.declared.Assent.{Assent}
use Rattle.replica.specs.declared.Replica.{Replica}
use Rattle.replica.specs.declared.Step.{Step}
use Rattle.replica.specs.Steps.{ack_row, decides}
use Rattle.replica.specs.house.Outcomes.{Outcome, refuse, start, enter, accept, note, decide, fill, ask, confirm, add, propose, outcome}
use Rattle.replica.specs.house.Invariant.{placed_all}
use Rattle.replica.specs.house.Runs.{Member, begun, after, Members, Setting, Correct, Run, nobody, begins, takes}
use Rattle.replica.specs.house.Seating.{setup_fresh}

-- A seat that has decided has reported once, and one that has not, never.
abbrev Counted : Option Member → Type 0
Counted none = Unit {0}
Counted (some m) = length m.reports ≡ b2n m.replica.decided

-- "and nothing is decided"
undecided : (s : Replica) (a : Assent) → T (decides s a) → s.decided ≡ false
unfolding decides
undecided s a d =
    false_is s.decided (and_r (leb (quorum s.n s.f) (sharing s.n (row_of s.acks) (ack_row a))) (not s.decided) d)

-- An A that decides is the only event that reports, and the only one that changes whether the seat has decided.
counted_outcome : (m : Member) {message : Message} {rows : List Row} {t : Step} → Outcome m.replica rows message t → Counted (some m)
    → Counted (some (after m t))
counted_outcome m (refuse number) i = i
counted_outcome m (start c) i = i
counted_outcome m (enter v c) i = i
counted_outcome m (accept p c) i = i
counted_outcome m (note a c) i = i
counted_outcome m (decide a c d) i = ap suc (i ∙ ap b2n (undecided _ a d))
counted_outcome m (fill r c) i = i
counted_outcome m (ask r e c d) i = i
counted_outcome m (confirm q c) i = i
counted_outcome m (add a c) i = i
counted_outcome m (propose a c d) i = i

-- A fresh seat has decided nothing and reported nothing, and every step keeps the count.
run_counted : (n f : ℕ) (faulty : ℕ → Bool) → Setting n f faulty → {h : Members} → Run n f faulty h → (j : ℕ) → Counted (h j)
run_counted n f faulty setting nobody = λ j. tt
run_counted n f faulty setting (begins {h = h} run k o e own w) =
    let fresh = setup_fresh n f k own setting.allowed o.0 w in
    placed_all h k _ (λ j. Counted) (subst (λ t. Counted (some (begun t))) (sym fresh) refl) (run_counted n f faulty setting run)
run_counted n f faulty setting (takes {h = h} run k o m e message rows told) =
    let all = run_counted n f faulty setting run in
    placed_all h k _ (λ j. Counted) (counted_outcome m (outcome m.replica rows message) (subst Counted e (all k))) all

-- A correct seat reports at most one decision: neither two entries nor one entry twice.
pub reports_once : (n f : ℕ) (faulty : ℕ → Bool) → Setting n f faulty → (h : Members) → Run n f faulty h
    → (k : ℕ) → Correct n faulty k → (m : Member) → h k ≡ some m → length m.reports ≤ 1
reports_once n f faulty setting h run k correct m at = go m.replica.decided (subst Counted at (run_counted n f faulty setting run k))
  where
    go : (b : Bool) → length m.reports ≡ b2n b → length m.reports ≤ 1
    go true e = omega (arith, e)
    go false e = omega (arith, e)
