-- Every Q that a seat sends is confirmed by everybody of the house who is in its view.
use Rattle.std.specs.Prelude.{ℕ, List, [], T, eqb}
use Rattle.std.proofs.Math.Path.{refl, sym}
use Rattle.std.proofs.Common.{◌∙◌, subst, inl, inr, arith}
use Rattle.std.proofs.Math.Dec.{eqb_refl}
use Rattle.std.proofs.Math.Facts.{yes_eqb, no_eqb}
use Rattle.base.specs.RefusalLaws.{clear, unless}
use Rattle.base.specs.Tests.{unrefused}
use Rattle.entry.specs.declared.Entry.{Entry}
use Rattle.entry.specs.Entry.{well_formed}
use Rattle.entry.specs.Laws.{same_refl}
use Rattle.seats.specs.Seats.{leader}
use Rattle.votes.specs.declared.Row.{Row}
use Rattle.votes.specs.Request.{allows}
use Rattle.votes.specs.SentLaws.{sent_clear, forced_formed}
use Rattle.messages.specs.declared.Message.{Message}
use Rattle.messages.specs.declared.Message.TheVariants.{Start, Enter, Propose, Acknowledge, Cast, Ask, Confirm}
use Rattle.replica.specs.declared.Replica.{Replica}
use Rattle.replica.specs.declared.Step.{Step}
use Rattle.replica.specs.Replica.{own_refusals}
use Rattle.replica.specs.Steps.{filled_by, request_for, selection_of, request_rows, ask_step, step}
use Rattle.replica.specs.house.Outcomes.{clear_taken, passed, Taken, Chosen, cast_led, cast_collecting}
use Rattle.replica.specs.house.Outcomes.{Outcome, refuse, start, enter, accept, note, decide, fill, ask, confirm, add, propose, outcome}
use Rattle.replica.specs.house.ClaimLaws.{Each, each_or}
use Rattle.replica.specs.house.Kept.{Seated, Leading, Confirmed, Asked}
use Rattle.replica.specs.house.Runs.{Member, all_said, sending, after}

-- ---- setup: nothing is sent yet
pub asked_begun : (n f : ℕ) → Asked n f []
asked_begun n f q rows a = absurd a

-- ---- the entry that a leader asks for: one that its table leaves open, and well formed
chosen_open : (s : Replica) (e : Entry) → Chosen s e → T (allows (selection_of s) e)
chosen_open s e (inl h) = subst (λ x. T (allows x e)) (sym h.0) tt
chosen_open s e (inr q) = subst (λ x. T (allows x e)) (sym q) (same_refl e)

chosen_formed : (s : Replica) (e : Entry) → T (well_formed s.own) → Chosen s e → T (well_formed e)
unfolding selection_of
chosen_formed s e own (inl h) = subst (λ x. T (well_formed x)) h.1 own
chosen_formed s e own (inr q) = forced_formed s.n s.f s.view s.votes e q

-- ---- the events

-- Everybody confirms a Q. Of every other message nothing is asked.
abbrev Good : ℕ → ℕ → Message → List Row → Type 0
Good n f Start rows = Unit {0}
Good n f (Enter v) rows = Unit {0}
Good n f (Propose p) rows = Unit {0}
Good n f (Acknowledge a) rows = Unit {0}
Good n f (Cast r) rows = Unit {0}
Good n f (Ask q) rows = Confirmed n f q rows
Good n f (Confirm c) rows = Unit {0}

module _ (n f k : ℕ) (m : Member) (seated : Seated n f k m.replica) (leading : Leading k m.replica (all_said m.sent)) where
  abbrev s : Replica
  s = m.replica

  -- It leads its view, which is not view 1 as it was collecting: nobody of its house and view has a reason to refuse.
  asks_good : (r : Row) (e : Entry) → Taken s (Cast r) [] → Chosen (filled_by s r) e
      → Good n f (request_for (filled_by s r) e) (request_rows (filled_by s r))
  unfolding ask_step selection_of
  asks_good r e c chosen w same_n same_f taken here =
      let late = leading.later (cast_collecting s r c) in
      let not-0 = no_eqb {a = s.view.0} {b = 0} (omega arith) in
      let not-1 = no_eqb {a = s.view.0} {b = 1} (omega arith) in
      let own = clear 0 (own_refusals s) tt seated.taken in
      let own-formed = passed 4 (well_formed s.own) (own_refusals s) refl own in
      let formed = unrefused (well_formed e) (chosen_formed (filled_by s r) e own-formed chosen) in
      let in_view = unrefused (eqb s.view.0 s.view.0) (eqb_refl s.view.0) in
      let led = unrefused (eqb (leader s.view.0 s.n) s.seat.0) (yes_eqb (cast_led s r c)) in
      let rows = sent_clear s.n s.f s.view (filled_by s r).votes e (chosen_open (filled_by s r) e chosen) in
      clear_taken w _ _ taken
      (rw (same_n ∙ sym seated.same_n, same_f ∙ sym seated.same_f, here)
      (not-0, (unless 3 (own_refusals s) own, (tt, (in_view, (led, (formed, (not-1, rows))))))))

  -- V alone sends a Q.
  good_outcome : {message : Message} {rows : List Row} {t : Step} → Outcome s rows message t
      → Each (λ x. Good n f x.0 x.1) (sending t.next t.sent)
  good_outcome (refuse number) = tt
  good_outcome (start c) = (tt, tt)
  good_outcome (enter v c) = (tt, tt)
  good_outcome (accept p c) = (tt, tt)
  good_outcome (note a c) = tt
  good_outcome (decide a c d) = tt
  good_outcome (fill r c) = tt
  good_outcome (ask r e c chosen) = (asks_good r e c chosen, tt)
  good_outcome (confirm q c) = (tt, tt)
  good_outcome (add a c) = tt
  good_outcome (propose a c d) = (tt, tt)

  pub asked_step : Asked n f m.sent → (message : Message) (rows : List Row) → Asked n f (after m (step m.replica message rows)).sent
  asked_step before message rows q sent a =
      let t = step s message rows in
      elim (each_or _ (Ask q, sent) (sending t.next t.sent) m.sent (good_outcome (outcome s rows message)) a) [
        | inl b ↦ b
        | inr b ↦ before q sent b
      ]
