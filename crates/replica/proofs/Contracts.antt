-- What each public function answers, of its contract as the toolchain holds it: nothing is asked, and this is the answer. The code and the
-- theorems about runs speak of one thing: the answer of each event's method is `step`, of which the runs are made.
use borrow.Fn.World.{World}
use lib.IntN.{pos}
use mathlib.Core.Bool.{cond}
use mathlib.Core.List.{[]}
use mathlib.Core.Path.{refl}
use Rattle.std.specs.Prelude.{eqb}
use Rattle.acks.specs.Acks.{margin, row_of}
use Rattle.base.specs.ExactContracts.{Exact, gives}
use Rattle.base.specs.Refusal.{judged}
use Rattle.messages.specs.declared.Message.TheVariants.{Start, Enter, Propose, Acknowledge, Cast, Ask, Confirm}
use Rattle.replica.specs.Refusals.{setup_refusals}
use Rattle.replica.specs.Steps.{answer_of, ask_with, setup_step, step}
use Rattle.replica.specs.contracts as fn

module _ (w : World) where
  -- ---- the methods with the margin
  pub setup_says : Exact w fn.Replica.setup.ended fn.Replica.setup.spec (λ κs (n, (f, (s, (own, _)))). gives (answer_of (setup_step n f s own)))
  setup_says κs a = refl

  pub start_says : Exact w fn.Replica.start.ended fn.Replica.start.spec (λ κs (s, _). gives (answer_of (step s Start [])))
  start_says κs a = refl

  pub enter_says : Exact w fn.Replica.enter.ended fn.Replica.enter.spec (λ κs (s, (v, _)). gives (answer_of (step s (Enter v) [])))
  enter_says κs a = refl

  pub propose_says : Exact w fn.Replica.propose.ended fn.Replica.propose.spec (λ κs (s, (p, _)). gives (answer_of (step s (Propose p) [])))
  propose_says κs a = refl

  pub acknowledge_says : Exact w fn.Replica.acknowledge.ended fn.Replica.acknowledge.spec
      (λ κs (s, (x, _)). gives (answer_of (step s (Acknowledge x) [])))
  acknowledge_says κs a = refl

  pub cast_says : Exact w fn.Replica.cast.ended fn.Replica.cast.spec (λ κs (s, (r, _)). gives (answer_of (step s (Cast r) [])))
  cast_says κs a = refl

  -- Over rows that were gathered one by one; `gathered_step` in Methods.antt says that this is `step` too.
  pub ask_says : Exact w fn.Replica.ask.ended fn.Replica.ask.spec (λ κs (s, (q, (rows, _))). gives (answer_of (ask_with s q rows)))
  ask_says κs a = refl

  pub ask_over_says : Exact w fn.Replica.ask_over.ended fn.Replica.ask_over.spec
      (λ κs (s, (q, (rows, _))). gives (answer_of (step s (Ask q) rows.now)))
  ask_over_says κs a = refl

  pub confirm_says : Exact w fn.Replica.confirm.ended fn.Replica.confirm.spec (λ κs (s, (c, _)). gives (answer_of (step s (Confirm c) [])))
  confirm_says κs a = refl

  -- ---- the same without the margin, which `trace` and `station` call
  pub setup_step_says : Exact w fn.Replica.setup_step.ended fn.Replica.setup_step.spec (λ κs (n, (f, (s, (own, _)))). gives (setup_step n f s own))
  setup_step_says κs a = refl

  pub start_step_says : Exact w fn.Replica.start_step.ended fn.Replica.start_step.spec (λ κs (s, _). gives (step s Start []))
  start_step_says κs a = refl

  pub enter_step_says : Exact w fn.Replica.enter_step.ended fn.Replica.enter_step.spec (λ κs (s, (v, _)). gives (step s (Enter v) []))
  enter_step_says κs a = refl

  pub propose_step_says : Exact w fn.Replica.propose_step.ended fn.Replica.propose_step.spec (λ κs (s, (p, _)). gives (step s (Propose p) []))
  propose_step_says κs a = refl

  pub acknowledge_step_says : Exact w fn.Replica.acknowledge_step.ended fn.Replica.acknowledge_step.spec
      (λ κs (s, (x, _)). gives (step s (Acknowledge x) []))
  acknowledge_step_says κs a = refl

  pub cast_step_says : Exact w fn.Replica.cast_step.ended fn.Replica.cast_step.spec (λ κs (s, (r, _)). gives (step s (Cast r) []))
  cast_step_says κs a = refl

  pub ask_step_says : Exact w fn.Replica.ask_step.ended fn.Replica.ask_step.spec (λ κs (s, (q, (rows, _))). gives (ask_with s q rows))
  ask_step_says κs a = refl

  pub confirm_step_says : Exact w fn.Replica.confirm_step.ended fn.Replica.confirm_step.spec (λ κs (s, (c, _)). gives (step s (Confirm c) []))
  confirm_step_says κs a = refl

  -- ---- parts of an answer
  pub answer_says : Exact w fn.Step.answer.ended fn.Step.answer.spec (λ κs (t, _). gives (answer_of t))
  answer_says κs a = refl

  pub margin_of_says : Exact w fn.events.margin_of.ended fn.events.margin_of.spec
      (λ κs (setup, (acks, (n, (f, _)))). gives (cond (eqb setup 0) (margin n f (row_of acks.now)) (pos 0)))
  margin_of_says κs a = refl

  pub check_setup_says : Exact w fn.refusals.check_setup.ended fn.refusals.check_setup.spec
      (λ κs (n, (f, (s, (own, _)))). gives (judged (setup_refusals n f s own)))
  check_setup_says κs a = refl
