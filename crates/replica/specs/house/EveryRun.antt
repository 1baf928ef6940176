-- Every run keeps the invariant.
use Rattle.std.specs.Prelude.{ℕ, ◌<◌, ◌≡◌, Bool, T}
use Rattle.std.proofs.Common.{sym, ap, subst, arith}
use Rattle.std.proofs.Math.Option.{none, some}
use Rattle.entry.specs.declared.Entry.{Entry}
use Rattle.entry.specs.Entry.{well_formed}
use Rattle.acks.specs.Acks.{is_filled}
use Rattle.acks.specs.RowLaws.{row_zero}
use Rattle.replica.specs.Replica.{fresh}
use Rattle.replica.specs.Steps.{quiet, step}
use Rattle.replica.specs.house.FairSteps.{fair}
use Rattle.replica.specs.house.Invariant.{Grows, Fine, FineAt, Holds, put, fair_grows, fair_fine}
use Rattle.replica.specs.house.KeptSteps.{kept_begun, kept_step}
use Rattle.replica.specs.house.Kept.{Kept}
use Rattle.replica.specs.house.Runs.{Member, begun, after, Members, placed, Setting, Run, nobody, begins, takes}
use Rattle.replica.specs.house.Seating.{setup_fresh}

module _ (n f : ℕ) (faulty : ℕ → Bool) (setting : Setting n f faulty) where
  -- A fresh seat has said nothing and reported nothing, and its rows are empty.
  begun_fine : (h : Members) (k : ℕ) → k < n → (own : Entry) → T (well_formed own)
      → Fine n f faulty h k (begun (quiet (fresh n f (record { 0 = k }) own)))
  begun_fine h k l own w = record {
    kept = kept_begun n f k own setting.allowed l w;
    rows = λ j o t. absurd (subst T (ap is_filled (row_zero j)) t);
    backed = λ c a. absurd a;
    decided = λ e a. absurd a;
  }

  pub run_holds : {h : Members} → Run n f faulty h → Holds n f faulty h
  run_holds nobody = λ k. tt
  run_holds (begins {h = h} run k o e own w) =
      let m = begun (quiet (fresh n f (record { 0 = k }) own)) in
      let on : Grows none (some m) = record { up = omega arith; keep = λ c a. absurd a; old = λ k w e l a. absurd a } in
      subst (λ t. Holds n f faulty (placed h k (begun t))) (sym (setup_fresh n f k own setting.allowed o.0 w))
      (put n f faulty h k m (run_holds run) (subst (λ o. Grows o (some m)) (sym e) on) (begun_fine h k o.0 own w))
  run_holds (takes {h = h} run k o m e message rows told) =
      let i = run_holds run in
      let t = step m.replica message rows in
      let x : Fine n f faulty h k m = subst (FineAt n f faulty h k) e (i k) in
      let y = fair n f faulty setting h i k m x message rows told in
      put n f faulty h k (after m t) i (subst (λ o. Grows o (some (after m t))) (sym e) (fair_grows n f faulty h m t y))
      (fair_fine n f faulty h m t y k x (kept_step n f k m x.kept message rows))

  -- A seat that has begun keeps to what a correct seat does.
  pub run_kept : {h : Members} → Run n f faulty h → (k : ℕ) (m : Member) → h k ≡ some m → Kept n f k m
  run_kept {h = h} run k m e = (subst (FineAt n f faulty h k) e (run_holds run k)).kept
