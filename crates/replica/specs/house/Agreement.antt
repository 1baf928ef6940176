-- Demand 3: "in every order of steps .. no two correct seats report different decisions".
use Rattle.std.specs.Prelude.{ℕ, ◌≤◌, ◌<◌, ◌≡◌, Bool}
use Rattle.std.proofs.Common.{sym, subst, inl, inr, arith, T_not}
use Rattle.std.proofs.Math.Option.{Option, none, some}
use Rattle.std.proofs.Math.Decide.{ℕ_discrete, dec_lt}
use Rattle.base.specs.Tests.{T-dec, is_true}
use Rattle.entry.specs.declared.Entry.{Entry}
use Rattle.entry.specs.Entry.{same}
use Rattle.entry.specs.Laws.{same_eq, eq_same}
use Rattle.seats.specs.declared.View.{View}
use Rattle.seats.specs.Quorums.{House, quorums_meet}
use Rattle.votes.specs.Safety.{dead_undecided}
use Rattle.replica.specs.house.FairSteps.{setting_house}
use Rattle.replica.specs.house.Claims.{acknowledges}
use Rattle.replica.specs.house.Histories.{history_of}
use Rattle.replica.specs.house.Invariant.{Quorum, Fine, Holds, by_seat, said_backed}
use Rattle.replica.specs.house.EveryRun.{run_holds}
use Rattle.replica.specs.house.Runs.{Member, Members, Among, all_said, sent_by, reports_of, Said, Reported, Setting, Correct, Run}

module _ (n f : ℕ) (faulty : ℕ → Bool) (setting : Setting n f faulty) where
  abbrev house : House n f faulty
  house = setting_house n f faulty setting

  module _ (h : Members) (holds : Holds n f faulty h) where
    -- What a seat's own invariant says of all seats.
    abbrev at : (P : Option Member → Type 0) (k : ℕ) → P none → ((m : Member) → Fine n f faulty h k m → P (some m)) → P (h k)
    at = by_seat n f faulty h holds

    acked_in : (k : ℕ) (w : View) (e : Entry) → Said h (k, acknowledges w e) → 1 ≤ w.0
    acked_in k w e = at (λ o. Among (k, acknowledges w e) (all_said (sent_by o)) → 1 ≤ w.0) k
        (λ a. absurd a) (λ m x a. (x.kept.voting.acked w e a).0)

    acked_once : (k : ℕ) (w : View) (x y : Entry) → Said h (k, acknowledges w x) → Said h (k, acknowledges w y) → x ≡ y
    acked_once k w x y = at (λ o. Among (k, acknowledges w x) (all_said (sent_by o)) → Among (k, acknowledges w y) (all_said (sent_by o)) → x ≡ y) k
        (λ a. absurd a) (λ m i. i.kept.voting.once w x y)

    reported : (k : ℕ) (e : Entry) → Reported h k e → Quorum n f faulty h e
    reported k e = at (λ o. Among e (reports_of o) → Quorum n f faulty h e) k (λ a. absurd a) (λ m x. x.decided e)

    -- Two quorums share a correct seat.
    acked_both : (x y : Entry) (p : Quorum n f faulty h x) (q : Quorum n f faulty h y)
        → (k : ℕ) × Said h (k, acknowledges p.view x) × Said h (k, acknowledges q.view y)
    acked_both x y p q =
        let k = quorums_meet house p.seats q.seats p.many q.many in
        (k.0, p.acked k.0 (k.1, k.4) k.2, q.acked k.0 (k.1, k.4) k.3)

    -- Of an earlier view: the later entry is safe, so any other is dead there.
    agree_earlier : (x y : Entry) (p : Quorum n f faulty h x) (q : Quorum n f faulty h y) → p.view.0 < q.view.0 → x ≡ y
    agree_earlier x y p q l = elim (T-dec (same x y)) [
      | inl t ↦ same_eq x y t
      | inr t ↦
          let b = acked_both x y p q in
          let differ : x ≡ y → ⊥ = λ e. T_not (same x y) t (is_true (same x y) (eq_same x y e)) in
          let safe = said_backed n f faulty h holds (b.0, acknowledges q.view y) b.2 in
          let dead = safe p.view.0 x (acked_in b.0 p.view x b.1) l differ in
          absurd (dead_undecided house (history_of h) p.view.0 x dead p.seats p.many (λ k m s o. p.acked k (m, o) s))
    ]

    -- Of one view: the seat that they share acknowledged one entry there.
    agree : (x y : Entry) → Quorum n f faulty h x → Quorum n f faulty h y → x ≡ y
    agree x y p q = elim (ℕ_discrete p.view.0 q.view.0) [
      | yes e ↦
          let b = acked_both x y p q in
          acked_once b.0 p.view x y b.1 (subst (λ v. Said h (b.0, acknowledges (record { 0 = v }) y)) (sym e) b.2)
      | no e ↦ elim (dec_lt p.view.0 q.view.0) [
        | yes l ↦ agree_earlier x y p q l
        | no l ↦ sym (agree_earlier y x q p (omega arith))
      ]
    ]

-- Only correct seats begin, so the proof does not ask whether j and k are: the demand does.
pub agreement : (n f : ℕ) (faulty : ℕ → Bool) → Setting n f faulty → (h : Members) → Run n f faulty h
    → (j k : ℕ) → Correct n faulty j → Correct n faulty k → (x y : Entry) → Reported h j x → Reported h k y → x ≡ y
agreement n f faulty setting h run j k c d x y a b =
    let i = run_holds n f faulty setting run in
    agree n f faulty setting h i x y (reported n f faulty setting h i j x a) (reported n f faulty setting h i k y b)
