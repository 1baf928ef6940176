-- What a request may be confirmed for is safe.
use Rattle.std.specs.Prelude.{ℕ, ◌≤◌, Bool, false, cond, List, ◌≡◌, T, ltb, length, Ok}
use Rattle.std.proofs.Common.{sym, ap, ◌∙◌}
use Rattle.std.proofs.Math.Facts.{T_not-not}
use Rattle.base.specs.Refusal.{judged}
use Rattle.base.specs.RefusalLaws.{Clear, judged_none}
use Rattle.base.specs.Tests.{false_is, or_false}
use Rattle.entry.specs.declared.Entry.{Entry}
use Rattle.entry.specs.Laws.{same_eq}
use Rattle.seats.specs.declared.View.{View}
use Rattle.seats.specs.Seats.{count}
use Rattle.seats.specs.Sizes.{quorum}
use Rattle.votes.specs.declared.Row.{Row}
use Rattle.votes.specs.declared.Choice.{Choice}
use Rattle.votes.specs.Selection.{selection}
use Rattle.votes.specs.Rows.{has_seat, vote_of, broken, call_number, rows_refusals, selected}
use Rattle.votes.specs.RowLaws.{rows_taken, answered_taken}
use Rattle.votes.specs.Request.{unfit, allows, row_refusals}
use Rattle.votes.specs.History.{History, Leaves, Safe, Honest}
use Rattle.votes.specs.Claims.{Claims}
use Rattle.votes.specs.Answers.{selected_safe}

-- 16 takes no entry but one that the selection leaves open.
allows_leaves : (c : Choice) (e : Entry) → T (allows c e) → Leaves c e
allows_leaves Choice.Wait e t = t
allows_leaves Choice.Free e t = tt
allows_leaves (Choice.Forced x) e t = same_eq x e t

-- Rows that break none of 15's conditions are chosen over.
unbroken_chooses : (n f : ℕ) (v : View) (rows : List Row) → call_number n f v ≡ 0 → broken n f v rows ≡ false
    → selected n f v rows ≡ Ok (selection n f (has_seat rows) (vote_of rows))
unfolding selected
unbroken_chooses n f v rows taken q =
    sym (answered_taken (judged (rows_refusals n f v (broken n f v rows))) _ (judged_none (rows_refusals n f v (broken n f v rows)) tt (rows_taken n f v (broken n f v rows) taken ∙ ap (λ b. cond b 15 0) q)))

-- A request that neither 15 nor 16 refuses is for a safe entry: 15 leaves rows that the selection is called over, and 16 its answer.
pub request_safe : (n f : ℕ) (bad : ℕ → Bool) (h : History) (v : View) → count bad n ≤ f → Honest n f bad h v.0 → call_number n f v ≡ 0
    → (rows : List Row) → Claims n bad h rows → (e : Entry) → Clear (row_refusals n f v rows e) → Safe n f bad h v.0 e
request_safe n f bad h v few honest taken rows claims e clear =
    let unbroken = (or_false (ltb (length rows) (quorum n f)) (broken n f v rows) (false_is (unfit n f v rows) clear.0)).1 in
    let c = selection n f (has_seat rows) (vote_of rows) in
    let leaves = allows_leaves c e (T_not-not (allows c e) clear.1.0) in
    selected_safe n f bad h v few honest rows claims c (unbroken_chooses n f v rows taken unbroken) e leaves
