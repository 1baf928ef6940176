-- Demand 3: what a correct leader asks, every correct seat in that view confirms.
use Rattle.std.specs.Prelude.{ℕ, ◌≡◌, Bool, true, List, None, Some}
use Rattle.std.proofs.Common.{sym, ap, ◌∙◌}
use Rattle.std.proofs.Math.Option.{some}
use Rattle.votes.specs.declared.Row.{Row}
use Rattle.messages.specs.declared.Message.TheVariants.{Ask, Confirm}
use Rattle.messages.specs.declared.Request.{Request}
use Rattle.replica.specs.Steps.{step_of, ask_step, step}
use Rattle.replica.specs.TidyLaws.{tidy_rows, asked_tidy}
use Rattle.replica.specs.house.EveryRun.{run_kept}
use Rattle.replica.specs.house.Runs.{Member, Members, Among, Setting, Correct, Run}

-- "a request sent by a correct leader, delivered unaltered with its rows and marks to a correct seat then in that view, is always
-- confirmed."
-- `tidy_rows delivered ≡ tidy_rows rows`: delivered unaltered, as lines have them, without the fields of a nil vote that do not count.
pub confirmation : (n f : ℕ) (faulty : ℕ → Bool) → Setting n f faulty → (h : Members) → Run n f faulty h
    → (j : ℕ) → Correct n faulty j → (leader : Member) → h j ≡ some leader → (q : Request) (rows : List Row) → Among (Ask q, rows) leader.sent
    → (delivered : List Row) → tidy_rows delivered ≡ tidy_rows rows
    → (k : ℕ) → Correct n faulty k → (m : Member) → h k ≡ some m → m.replica.view ≡ q.head.view
    → step m.replica (Ask q) delivered
    ≡ step_of 0 m.replica None
    (Some (Confirm (record { head = record { seat = record { 0 = k }; verified = true; view = q.head.view }; entry = q.entry })))
confirmation n f faulty setting h run j correct-j leader at_j q rows asked delivered alike k correct-k m at-k here =
    let asker = run_kept n f faulty setting run j leader at_j in
    let seated = (run_kept n f faulty setting run k m at-k).seated in
    let same_answer = sym (asked_tidy m.replica q delivered) ∙ ap (ask_step m.replica q) alike ∙ asked_tidy m.replica q rows in
    same_answer ∙ rw (← seated.own_seat) (asker.asked q rows asked m.replica seated.same_n seated.same_f seated.taken here)
