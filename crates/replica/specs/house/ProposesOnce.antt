-- 01, "Errors that pass a quick look": "A correct leader proposing twice in one view." It never does.
use Rattle.std.specs.Prelude.{ℕ, ◌≤◌, ◌≡◌, Bool}
use Rattle.std.proofs.Math.Option.{some}
use Rattle.seats.specs.declared.View.{View}
use Rattle.replica.specs.house.Kept.{proposals_in}
use Rattle.replica.specs.house.EveryRun.{run_kept}
use Rattle.replica.specs.house.Runs.{Member, Members, all_said, Setting, Correct, Run}

-- Among all that a correct seat sent there is at most one P of a view, be it for one entry or for two.
pub proposes_once : (n f : ℕ) (faulty : ℕ → Bool) → Setting n f faulty → (h : Members) → Run n f faulty h
    → (k : ℕ) → Correct n faulty k → (m : Member) → h k ≡ some m → (v : View) → proposals_in v.0 (all_said m.sent) ≤ 1
proposes_once n f faulty setting h run k correct m at v = (run_kept n f faulty setting run k m at).leading.one v.0
