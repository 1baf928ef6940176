-- What a step comes to: a refusal, or one of the ten ways in which an event is taken; and what a taken event was not refused for.
use Rattle.std.specs.Prelude.{ℕ, ◌<◌, ◌≡◌, refl, Bool, true, false, not, ◌&&◌, cond, List, [], ◌++◌, ◌⊎◌, T, eqb, leb}
use Rattle.std.proofs.Common.{ap, subst, inl, inr, T_not, eqb-true}
use Rattle.std.proofs.Math.Facts.{T_not-not, leb_no, eqb_yes, eqb_no, yes_eqb}
use Rattle.base.specs.Refusal.{Refusals, first}
use Rattle.base.specs.RefusalLaws.{Clear, clear, clear_behind, none_both, under, unless}
use Rattle.base.specs.Tests.{and_i}
use Rattle.entry.specs.declared.Entry.{Entry}
use Rattle.entry.specs.Entry.{same}
use Rattle.entry.specs.Laws.{same_eq}
use Rattle.seats.specs.declared.View.{View}
use Rattle.seats.specs.Seats.{leader, count}
use Rattle.seats.specs.Mask.{bit}
use Rattle.seats.specs.Certificate.{signers, good_certificate}
use Rattle.votes.specs.declared.Row.{Row}
use Rattle.votes.specs.declared.Choice.{Choice}
use Rattle.messages.specs.declared.Head.{Head}
use Rattle.messages.specs.declared.Message.{Message}
use Rattle.messages.specs.declared.Message.TheVariants.{Start, Enter, Propose, Acknowledge, Cast, Ask, Confirm}
use Rattle.messages.specs.declared.Assent.{Assent}
use Rattle.messages.specs.declared.Proposal.{Proposal}
use Rattle.messages.specs.declared.Request.{Request}
use Rattle.messages.specs.Lines.{row_head}
use Rattle.replica.specs.declared.Replica.{Replica}
use Rattle.replica.specs.declared.Step.{Step}
use Rattle.replica.specs.Ordered.{Rises, refusals_of}
use Rattle.replica.specs.Refusals.{collecting, asking, proposed, is_view, outside, elsewhere}
use Rattle.replica.specs.Replica.{standing, own_refusals, number_for, with_stage, with_vote}
use Rattle.replica.specs.Steps.{refused, answered, quiet, saying, assent_of, proposal_of, entered, ballot, vote_for, rowed, decides, decided_by}
use Rattle.replica.specs.Steps.{filled_by, asks, chooses, selection_of, confirming, confirmed_by, confirmers, acknowledged, collected, certified}
use Rattle.replica.specs.Steps.{start_step, enter_step, propose_step, acknowledge_step, cast_step, ask_step, confirm_step, step}

-- ---- refused or taken

-- What holds of every refusal, and of the taken step where nothing applies, holds of the answer.
pub by_answer : (P : Step → Type 0) (s : Replica) (rs : Refusals) (t : Step) → Rises s rs → ((number : ℕ) → P (refused number s)) → (Clear rs → P t)
    → P (answered s rs t)
unfolding answered number_for
by_answer P s rs t up refusal taken = go (eqb (number_for s rs) 0) refl
  where
    go : (b : Bool) → eqb (number_for s rs) 0 ≡ b → P (cond b t (refused (number_for s rs) s))
    go true e = taken (clear_behind (own_refusals s) rs (clear 0 (own_refusals s ++ rs) up (eqb-true (number_for s rs) 0 e)))
    go false e = refusal (number_for s rs)

-- An event is taken where setup's list and its own have nothing against it.
pub clear_taken : (s : Replica) (rs : Refusals) (t : Step) → first (own_refusals s) ≡ 0 → Clear rs → answered s rs t ≡ t
unfolding answered number_for
clear_taken s rs t own c = ap (λ k. cond (eqb k 0) t (refused k s)) (none_both (own_refusals s) rs tt own c)

-- ---- the outcomes of a step

abbrev pub Taken : Replica → Message → List Row → Type 0
Taken s m rows = Clear (refusals_of s m rows)

-- "the leader chooses the forced entry, or its own where the choice is free"
abbrev pub Chosen : Replica → Entry → Type 0
Chosen s e = ((selection_of s ≡ Choice.Free) × (s.own ≡ e)) ⊎ (selection_of s ≡ Choice.Forced e)

-- "At f + 1 or more senders the leader sends P with their mask; stage proposed."
abbrev pub enough : Replica → Bool
enough s = leb (signers s.f) (count (bit s.confirmed) s.n)

abbrev pub proposing : Replica → Step
proposing s = saying (with_stage s proposed) (proposal_of s s.view s.chosen (confirmers s))

-- S starts, E enters, P is accepted, A is noted or decides, V fills a row or lets the leader ask, Q is confirmed, C is added or lets it propose.
pub data Outcome (s : Replica) (rows : List Row) : Message → Step → Type 0 where
  refuse : {m : Message} (number : ℕ) → Outcome s rows m (refused number s)
  start : Taken s Start rows → Outcome s rows Start (saying (with_stage s proposed) (proposal_of s s.view s.own 0))
  enter : (v : View) → Taken s (Enter v) rows → Outcome s rows (Enter v) (saying (entered s v) (ballot s v))
  accept : (p : Proposal) → Taken s (Propose p) rows
      → Outcome s rows (Propose p) (saying (with_vote s (vote_for p)) (Acknowledge (assent_of s p.head.view p.entry)))
  note : (a : Assent) → Taken s (Acknowledge a) rows → Outcome s rows (Acknowledge a) (quiet (rowed s a))
  decide : (a : Assent) → Taken s (Acknowledge a) rows → T (decides (rowed s a) a)
      → Outcome s rows (Acknowledge a) (decided_by (rowed s a) a.entry)
  fill : (r : Row) → Taken s (Cast r) rows → Outcome s rows (Cast r) (quiet (filled_by s r))
  ask : (r : Row) (e : Entry) → Taken s (Cast r) rows → Chosen (filled_by s r) e → Outcome s rows (Cast r) (asks (filled_by s r) e)
  confirm : (q : Request) → Taken s (Ask q) rows → Outcome s rows (Ask q) (confirming s q)
  add : (c : Assent) → Taken s (Confirm c) rows → Outcome s rows (Confirm c) (quiet (confirmed_by s c))
  propose : (c : Assent) → Taken s (Confirm c) rows → T (enough (confirmed_by s c)) → Outcome s rows (Confirm c) (proposing (confirmed_by s c))

-- A test goes one way or the other.
by_test : (P : Step → Type 0) (b : Bool) (t u : Step) → (T b → P t) → P u → P (cond b t u)
by_test P true t u h k = h tt
by_test P false t u h k = k

-- Every step is one of them: a claim is shown of all steps by showing it of each.
module _ (s : Replica) (rows : List Row) where
  pub outcome : (m : Message) → Outcome s rows m (step s m rows)
  unfolding start_step enter_step propose_step acknowledge_step acknowledged cast_step collected ask_step confirm_step certified
  outcome Start = by_answer (Outcome s rows _) s _ _ tt refuse start
  outcome (Enter v) = by_answer (Outcome s rows _) s _ _ tt refuse (enter v)
  outcome (Propose p) = by_answer (Outcome s rows _) s _ _ tt refuse (accept p)
  outcome (Acknowledge a) =
      by_answer (Outcome s rows _) s _ _ tt refuse (λ c. by_test (Outcome s rows _) (decides (rowed s a) a) _ _ (decide a c) (note a c))
  outcome (Cast r) = by_answer (Outcome s rows _) s _ _ tt refuse (λ c. go c (selection_of (filled_by s r)) refl)
    where
      go : Taken s (Cast r) rows → (x : Choice) → selection_of (filled_by s r) ≡ x → Outcome s rows (Cast r) (chooses (filled_by s r) x)
      go c Choice.Wait q = fill r c
      go c Choice.Free q = ask r s.own c (inl (q, refl))
      go c (Choice.Forced e) q = ask r e c (inr q)
  outcome (Ask q) = by_answer (Outcome s rows _) s _ _ tt refuse (confirm q)
  outcome (Confirm a) =
      by_answer (Outcome s rows _) s _ _ tt refuse (λ c. by_test (Outcome s rows _) (enough (confirmed_by s a)) _ _ (propose a c) (add a c))

-- ---- what a taken event was not refused for

-- A test passed whose failure is refused under this number.
pub passed : (k : ℕ) (b : Bool) (rs : Refusals) → under k rs ≡ not b → Clear rs → T b
passed k b rs e c = T_not-not b (subst (λ x. T (not x)) e (unless k rs c))

equal : {a b : ℕ} → T (not (not (eqb a b))) → a ≡ b
equal {a} {b} t = eqb_yes (T_not-not (eqb a b) t)

module _ (s : Replica) where
  -- Past refusal k.
  past : (k : ℕ) (m : Message) → Taken s m [] → T (not (under k (refusals_of s m [])))
  past k m = unless k (refusals_of s m [])

  -- 6 to 8, where a message's list has these tests of its head: it is of a seat of the house, under its mark, of the current view.
  module _ (m : Message) (h : Head) where
    pub head_within : under 6 (refusals_of s m []) ≡ outside (standing s) h.seat → Taken s m [] → h.seat.0 < s.n
    head_within e c = leb_no (subst (λ b. T (not b)) e (past 6 m c))

    pub head_marked : under 7 (refusals_of s m []) ≡ not h.verified → Taken s m [] → T h.verified
    head_marked e c = passed 7 h.verified (refusals_of s m []) e c

    pub head_here : under 8 (refusals_of s m []) ≡ elsewhere (standing s) h.view → Taken s m [] → h.view.0 ≡ s.view.0
    head_here e c = equal (subst (λ b. T (not b)) e (past 8 m c))

  -- S: the leader has not proposed.
  pub start_new : Taken s Start [] → s.stage.0 ≡ proposed → ⊥
  start_new c = eqb_no (past 12 Start c)

  -- E is of a later view.
  pub enter_later : (v : View) → Taken s (Enter v) [] → s.view.0 < v.0
  enter_later v c = leb_no (past 8 (Enter v) c)

  -- P: its sender leads its view, its certificate is good, and the vote held is of another view.
  pub proposal_led : (p : Proposal) → Taken s (Propose p) [] → leader p.head.view.0 s.n ≡ p.head.seat.0
  proposal_led p c = equal (past 9 (Propose p) c)

  pub proposal_good : (p : Proposal) → Taken s (Propose p) [] → T (good_certificate s.n s.f p.head.view p.mask)
  proposal_good p c = passed 11 (good_certificate s.n s.f p.head.view p.mask) (refusals_of s (Propose p) []) refl c

  pub proposal_new : (p : Proposal) → Taken s (Propose p) [] → T s.vote.cast → s.vote.view.0 ≡ p.head.view.0 → ⊥
  proposal_new p c t e =
      let same = is_view s.vote.view p.head.view.0 in
      T_not (s.vote.cast && same) (past 12 (Propose p) c) (and_i s.vote.cast same t (yes_eqb e))

  -- V comes to the leader of the current view, which collects.
  pub cast_led : (r : Row) → Taken s (Cast r) [] → leader s.view.0 s.n ≡ s.seat.0
  cast_led r c = subst (λ v. leader v s.n ≡ s.seat.0) (head_here (Cast r) (row_head r) refl c) (equal (past 9 (Cast r) c))

  pub cast_collecting : (r : Row) → Taken s (Cast r) [] → s.stage.0 ≡ collecting
  cast_collecting r c = equal (past 13 (Cast r) c)

  -- C comes to a leader that asks, and is for the entry chosen.
  pub confirm_asking : (a : Assent) → Taken s (Confirm a) [] → s.stage.0 ≡ asking
  confirm_asking a c = equal (past 13 (Confirm a) c)

  pub confirm_chosen : (a : Assent) → Taken s (Confirm a) [] → a.entry ≡ s.chosen
  confirm_chosen a c = same_eq a.entry s.chosen (passed 18 (same a.entry s.chosen) (refusals_of s (Confirm a) []) refl c)
