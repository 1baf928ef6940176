-- Answers of the methods as a run reads them: beside Contracts.antt, where each method's answer is said by `step`, this is what a reader needs
-- to go from a method to a run and back.
use Prim.Native.Nat.{ℕ, zero, suc, ◌+◌, ◌<◌}
use mathlib.Core.Path.{◌≡◌, refl, ap, ap₂}
use mathlib.Core.List.{List, []}
use native.Mathlib.Omega.{arith}
use Rattle.std.specs.Prelude.{Option}
use Rattle.votes.specs.declared.Row.{Row}
use Rattle.votes.specs.Rows.{no_rows, gathered}
use Rattle.votes.specs.Request.{row_sent, row_list, sent_from, rows_sent}
use Rattle.messages.specs.declared.Request.{Request}
use Rattle.messages.specs.declared.Message.{Message}
use Rattle.messages.specs.declared.Message.TheVariants.{Ask}
use Rattle.replica.specs.declared.Replica.{Replica}
use Rattle.replica.specs.declared.Answer.{Answer}
use Rattle.replica.specs.declared.Step.{Step}
use Rattle.replica.specs.Steps.{step_of, answer_of, ask_with, step, request_rows}
use Rattle.replica.specs.AskLaws.{gathered_asked}

-- An answer as a run reads it: without the margin.
abbrev pub read : Answer → Step
read r = step_of r.reply.number r.next r.reply.decided r.reply.sent

-- The answer of a method with the margin is read as the step of the run.
pub read_step : (s : Replica) (m : Message) (rows : List Row) (r : Answer) → r ≡ answer_of (step s m rows) → read r ≡ step s m rows
read_step s m rows r e = ap read e

-- A Q over rows gathered one after the other, for this house and the request's view, is the Q over the list of them.
pub gathered_step : (s : Replica) (q : Request) (rows : List Row) → ask_with s q (gathered (no_rows s.n s.f q.head.view) rows) ≡ step s (Ask q) rows
gathered_step = gathered_asked

-- ---- the rows of a Q that goes out, from what `request_row` tells of each seat

-- Those of seats k, k + 1, .., d of them asked.
abbrev pub listed : (ℕ → Option Row) → ℕ → ℕ → List Row
listed told k zero = []
listed told k (suc d) = row_list (told k) (listed told (suc k) d)

listed_from : (s : Replica) (told : ℕ → Option Row) (k d : ℕ) → ((j : ℕ) → j < k + d → told j ≡ row_sent s.n s.f s.view s.votes (record { 0 = j }))
    → listed told k d ≡ sent_from s.n s.f s.view s.votes k d
listed_from s told k zero tells = refl
listed_from s told k (suc d) tells = ap₂ row_list (tells k (omega arith)) (listed_from s told (suc k) d (λ j l. tells j (omega arith)))

-- Asked seat after seat about the arrays of the replica, the function gives the rows that the run sends.
pub rows_listed : (s : Replica) (told : ℕ → Option Row) → ((j : ℕ) → j < s.n → told j ≡ row_sent s.n s.f s.view s.votes (record { 0 = j }))
    → listed told 0 s.n ≡ request_rows s
unfolding rows_sent
rows_listed s told tells = listed_from s told 0 s.n (λ j l. tells j (omega arith))
