-- 02, Two: "Receiving found twelve blanks booked as a device." No event is taken that names an entry which is not well formed, none decides
-- one, and no correct seat ever reports one.
use Rattle.std.specs.Prelude.{ℕ, ◌≡◌, refl, Bool, true, false, ◌&&◌, cond, List, ◌++◌, T, eqb, Some}
use Rattle.std.proofs.Common.{sym, ◌∙◌, subst, eqb-true}
use Rattle.std.proofs.lemmas.Bool.{eqb-false}
use Rattle.base.specs.Refusal.{Refusals, first}
use Rattle.base.specs.RefusalLaws.{Clear, clear, clear_behind, unless}
use Rattle.base.specs.Tests.{and_i, true_is, false_is, true≢false}
use Rattle.entry.specs.declared.Entry.{Entry}
use Rattle.entry.specs.Entry.{all, blank, serial_of, well_formed}
use Rattle.entry.specs.Serial.{blank_not_formed}
use Rattle.seats.specs.declared.Seat.{Seat}
use Rattle.votes.specs.declared.Row.{Row}
use Rattle.votes.specs.Vote.{valid}
use Rattle.votes.specs.Request.{unfit}
use Rattle.votes.specs.Formed.{formed_vote, formed_rows, vote_formed, fit_formed}
use Rattle.messages.specs.declared.Message.{Message}
use Rattle.messages.specs.declared.Message.TheVariants.{Start, Enter, Propose, Acknowledge, Cast, Ask, Confirm}
use Rattle.replica.specs.declared.Replica.{Replica}
use Rattle.replica.specs.declared.Step.{Step}
use Rattle.replica.specs.Ordered.{Rises, refusals_of, listed}
use Rattle.replica.specs.Refusals.{setup_refusals}
use Rattle.replica.specs.Replica.{own_refusals, number_for, fresh, blank as blankReplica}
use Rattle.replica.specs.Steps.{answered, quiet, refused, setup_step, step}
use Rattle.replica.specs.house.ClaimLaws.{Each, each_in, each_both}
use Rattle.replica.specs.house.Invariant.{placed_all}
use Rattle.replica.specs.house.Outcomes.{Taken, passed}
use Rattle.replica.specs.house.Outcomes.{Outcome, refuse, start, enter, accept, note, decide, fill, ask, confirm, add, propose, outcome}
use Rattle.replica.specs.house.Runs.{Members, begun, reporting, reports_of, Reported, Run, nobody, begins, takes}

-- ---- an event that is taken

-- "wherever 01 asks for a well-formed entry": 10 of P, A, Q and C, 14 of a V, 15 of a Q's rows.
abbrev pub all_formed : Message → List Row → Bool
all_formed Start rows = true
all_formed (Enter v) rows = true
all_formed (Propose p) rows = well_formed p.entry
all_formed (Acknowledge a) rows = well_formed a.entry
all_formed (Cast r) rows = formed_vote r.vote
all_formed (Ask q) rows = well_formed q.entry && formed_rows rows
all_formed (Confirm c) rows = well_formed c.entry

module _ (s : Replica) (rows : List Row) where
  named_formed : (m : Message) → Taken s m rows → T (all_formed m rows)
  named_formed Start c = tt
  named_formed (Enter v) c = tt
  named_formed (Propose p) c = passed 10 (well_formed p.entry) (refusals_of s (Propose p) rows) refl c
  named_formed (Acknowledge a) c = passed 10 (well_formed a.entry) (refusals_of s (Acknowledge a) rows) refl c
  named_formed (Cast r) c =
      vote_formed s.n s.f r.view r.vote (passed 14 (valid s.n s.f r.view r.vote) (refusals_of s (Cast r) rows) refl c)
  named_formed (Ask q) c =
      let list = refusals_of s (Ask q) rows in
      and_i (well_formed q.entry) (formed_rows rows) (passed 10 (well_formed q.entry) list refl c)
      (fit_formed s.n s.f q.head.view rows (false_is (unfit s.n s.f q.head.view rows) (unless 15 list c)))
  named_formed (Confirm a) c = passed 10 (well_formed a.entry) (refusals_of s (Confirm a) rows) refl c

-- "0 means taken": nothing applies, neither of setup's list nor of the event's.
taken_clear : (s : Replica) (rs : Refusals) (t : Step) → Rises s rs → (answered s rs t).number ≡ 0 → Clear (own_refusals s ++ rs)
unfolding answered number_for
taken_clear s rs t up e = go (eqb (number_for s rs) 0) refl e
  where
    go : (b : Bool) → eqb (number_for s rs) 0 ≡ b → (cond b t (refused (number_for s rs) s)).number ≡ 0 → Clear (own_refusals s ++ rs)
    go true q z = clear 0 (own_refusals s ++ rs) up (eqb-true (number_for s rs) 0 q)
    go false q z = absurd (eqb-false (number_for s rs) 0 q z)

step_clear : (s : Replica) (m : Message) (rows : List Row) → (step s m rows).number ≡ 0 → Clear (own_refusals s ++ refusals_of s m rows)
step_clear s m rows e =
    let l = listed s m rows in
    taken_clear s (refusals_of s m rows) l.taken l.rises (subst (λ t. t.number ≡ 0) l.is e)

-- A replica whose own entry is not well formed takes nothing, and no replica, whoever built it, takes an event that names such an entry.
pub taken_formed : (s : Replica) (m : Message) (rows : List Row) → (step s m rows).number ≡ 0 → T (well_formed s.own) × T (all_formed m rows)
taken_formed s m rows e =
    let c = step_clear s m rows e in
    (passed 4 (well_formed s.own) (own_refusals s ++ refusals_of s m rows) refl c, named_formed s rows m (clear_behind (own_refusals s) (refusals_of s m rows) c))

-- Setup takes no such entry either.
pub begun_formed : (n f : ℕ) (s : Seat) (own : Entry) → (setup_step n f s own).number ≡ 0 → T (well_formed own)
unfolding setup_step
begun_formed n f s own = go (eqb (first (setup_refusals n f s own)) 0) refl
  where
    go : (b : Bool) → eqb (first (setup_refusals n f s own)) 0 ≡ b
        → (cond b (quiet (fresh n f s own)) (refused (first (setup_refusals n f s own)) blankReplica)).number ≡ 0 → T (well_formed own)
    go true q z = passed 4 (well_formed own) (setup_refusals n f s own) refl (clear 0 (setup_refusals n f s own) tt (eqb-true _ 0 q))
    go false q z = absurd (eqb-false _ 0 q z)

-- ---- a decision

abbrev Formed : Entry → Type 0
Formed e = T (well_formed e)

-- Only an A that is taken decides, and what it decides is its entry.
outcome_formed : {s : Replica} {rows : List Row} {m : Message} {t : Step} → Outcome s rows m t → Each Formed (reporting t.decided)
outcome_formed (refuse number) = tt
outcome_formed (start c) = tt
outcome_formed (enter v c) = tt
outcome_formed (accept p c) = tt
outcome_formed (note a c) = tt
outcome_formed {s} {rows} (decide a c d) = (named_formed s rows (Acknowledge a) c, tt)
outcome_formed (fill r c) = tt
outcome_formed (ask r e c d) = tt
outcome_formed (confirm q c) = tt
outcome_formed (add a c) = tt
outcome_formed (propose a c d) = tt

-- No event of any replica decides an entry that is not well formed.
pub decided_formed : (s : Replica) (m : Message) (rows : List Row) (e : Entry) → (step s m rows).decided ≡ Some e → T (well_formed e)
decided_formed s m rows e d = (subst (λ x. Each Formed (reporting x)) d (outcome_formed (outcome s rows m))).0

-- ---- what seats report

-- Setup decides nothing, taken or refused.
setup_reports : (n f : ℕ) (s : Seat) (own : Entry) → Each Formed (begun (setup_step n f s own)).reports
unfolding setup_step
setup_reports n f s own = go (eqb (first (setup_refusals n f s own)) 0)
  where
    go : (b : Bool) → Each Formed (begun (cond b (quiet (fresh n f s own)) (refused (first (setup_refusals n f s own)) blankReplica))).reports
    go true = tt
    go false = tt

run_formed : (n f : ℕ) (faulty : ℕ → Bool) {h : Members} → Run n f faulty h → (k : ℕ) → Each Formed (reports_of (h k))
run_formed n f faulty nobody = λ k. tt
run_formed n f faulty (begins {h = h} run k o e own w) =
    placed_all h k _ (λ j x. Each Formed (reports_of x)) (setup_reports n f (record { 0 = k }) own) (run_formed n f faulty run)
run_formed n f faulty (takes {h = h} run k o m e message rows told) =
    let before = run_formed n f faulty run in
    let now = outcome_formed (outcome m.replica rows message) in
    placed_all h k _ (λ j x. Each Formed (reports_of x))
    (each_both Formed (reporting (step m.replica message rows).decided) m.reports now (subst (λ x. Each Formed (reports_of x)) e (before k))) before

-- No correct seat ever reports an entry that is not well formed, whatever n and f are and however many seats are faulty.
pub reported_formed : (n f : ℕ) (faulty : ℕ → Bool) (h : Members) → Run n f faulty h → (k : ℕ) (e : Entry) → Reported h k e → T (well_formed e)
reported_formed n f faulty h run k e = each_in Formed e (reports_of (h k)) (run_formed n f faulty run k)

-- Blanks alone are never booked as a device.
pub blanks_never_booked : (n f : ℕ) (faulty : ℕ → Bool) (h : Members) → Run n f faulty h → (k : ℕ) (e : Entry) → Reported h k e
    → all blank (serial_of e) ≡ true → ⊥
blanks_never_booked n f faulty h run k e r b =
    true≢false (sym (true_is (well_formed e) (reported_formed n f faulty h run k e r)) ∙ blank_not_formed e b)
