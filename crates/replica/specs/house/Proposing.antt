-- A seat proposes once a view: after its P the stage is proposed, until it enters a later view.
use Rattle.std.specs.Prelude.{ℕ, ◌+◌, ◌≤◌, ◌<◌, ◌≡◌, refl, Bool, true, false, List, [], ◌∷◌, eqb}
use Rattle.std.proofs.Common.{sym, ap, ◌∙◌, subst, inl, inr, arith, lt_of_not-le, eqb-true, eq-eqb}
use Rattle.entry.specs.declared.Entry.{Entry}
use Rattle.seats.specs.declared.Seat.{Seat}
use Rattle.seats.specs.declared.View.{View}
use Rattle.seats.specs.Seats.{b2n}
use Rattle.votes.specs.declared.Row.{Row}
use Rattle.messages.specs.declared.Message.{Message}
use Rattle.replica.specs.declared.Replica.{Replica}
use Rattle.replica.specs.declared.Step.{Step}
use Rattle.replica.specs.Refusals.{collecting, proposed}
use Rattle.replica.specs.Replica.{fresh}
use Rattle.replica.specs.Steps.{step}
use Rattle.replica.specs.house.Outcomes.{start_new, enter_later, cast_collecting, confirm_asking}
use Rattle.replica.specs.house.Outcomes.{Outcome, refuse, start, enter, accept, note, decide, fill, ask, confirm, add, propose, outcome}
use Rattle.replica.specs.house.Claims.{proposes, Claim}
use Rattle.replica.specs.house.Kept.{Seated, Leading, proposal_in, proposals_in}
use Rattle.replica.specs.house.Runs.{Member, Among, all_said, after}

-- ---- one proposal a view
module _ (k : ℕ) (v : View) where
  -- A P of view v counts as one,
  here : (x : Entry) (c : Claim) → ◌≡◌ {A = Claim} (k, proposes v x) c → proposal_in v.0 c.1 ≡ 1
  here x c e = subst (λ d. proposal_in v.0 d.1 ≡ 1) e (ap b2n (eq-eqb v.0 v.0 refl))

  -- wherever it stands.
  counted : (x : Entry) (xs : List Claim) → Among (k, proposes v x) xs → 1 ≤ proposals_in v.0 xs
  counted x [] a = absurd a
  counted x (c ∷ cs) (inl e) = omega (arith, here x c e)
  counted x (c ∷ cs) (inr a) = omega (arith, counted x cs a)

  -- So two of them stand at one place.
  single : (xs : List Claim) → proposals_in v.0 xs ≤ 1 → (x y : Entry) → Among (k, proposes v x) xs → Among (k, proposes v y) xs → x ≡ y
  single [] l x y a b = absurd a
  single (c ∷ cs) l x y (inl p) (inl q) = let e : proposes v x ≡ proposes v y = ap (λ d. d.1) (p ∙ sym q) in cc
  single (c ∷ cs) l x y (inl p) (inr b) = absurd (omega (arith, here x c p, counted y cs b))
  single (c ∷ cs) l x y (inr a) (inl q) = absurd (omega (arith, here y c q, counted x cs a))
  single (c ∷ cs) l x y (inr a) (inr b) = single cs (omega arith) x y a b

pub proposed_once : (k : ℕ) (s : Replica) (xs : List Claim) → Leading k s xs → (v : View) (x y : Entry)
    → Among (k, proposes v x) xs → Among (k, proposes v y) xs → x ≡ y
proposed_once k s xs i v = single k v xs (i.one v.0)

-- ---- setup
pub leading_begun : (k n f : ℕ) (seat : Seat) (own : Entry) → Leading k (fresh n f seat own) []
leading_begun k n f seat own = record {
  spoken = λ v l. absurd (omega (arith, l));
  one = λ v. omega arith;
  later = λ e. absurd (omega (arith, e));
}

-- ---- the events
module _ (n f k : ℕ) (m : Member) (seated : Seated n f k m.replica) (i : Leading k m.replica (all_said m.sent)) where
  abbrev s : Replica
  s = m.replica

  abbrev xs : List Claim
  xs = all_said m.sent

  -- No P is said, and the stage stays proposed as long as the view does.
  silent : (t : Replica) (ys : List Claim) → ((v : ℕ) → proposals_in v ys ≤ proposals_in v xs) → s.view.0 ≤ t.view.0
      → (s.view.0 ≡ t.view.0 → s.stage.0 ≡ proposed → t.stage.0 ≡ proposed) → (t.stage.0 ≡ collecting → 2 ≤ t.view.0)
      → Leading k t ys
  silent t ys none up stays late = record {
    spoken = λ v l.
        let h = i.spoken v (omega (arith, none v)) in
        (omega arith, λ e. stays (omega arith) (h.1 (omega arith)));
    one = λ v. omega (arith, none v, i.one v);
    later = late;
  }

  -- No P is said, and view and stage stay.
  alike : (t : Replica) (ys : List Claim) → t.view.0 ≡ s.view.0 → t.stage.0 ≡ s.stage.0 → ((v : ℕ) → proposals_in v ys ≤ proposals_in v xs)
      → Leading k t ys
  alike t ys e d none = silent t ys none (omega arith) (λ q p. d ∙ p) (λ q. omega (arith, i.later (sym d ∙ q)))

  -- A P of the current view is said: the first, as the stage was not proposed.
  aloud : (t : Replica) (seat : ℕ) (e : Entry) → t.view.0 ≡ s.view.0 → t.stage.0 ≡ proposed → (s.stage.0 ≡ proposed → ⊥)
      → Leading k t ((seat, proposes s.view e) ∷ xs)
  aloud t seat e same now before = record {
    spoken = λ v l. (omega (arith, (go v (eqb s.view.0 v) refl).0 l), λ q. now);
    one = λ v. (go v (eqb s.view.0 v) refl).1;
    later = λ q. absurd (omega (arith, now, q));
  }
    where
      go : (v : ℕ) (b : Bool) → eqb s.view.0 v ≡ b → (1 ≤ b2n b + proposals_in v xs → v ≤ s.view.0) × (b2n b + proposals_in v xs ≤ 1)
      go v true p =
          let q = eqb-true s.view.0 v p in
          let unsaid : proposals_in v xs < 1 = lt_of_not-le (λ l. before ((i.spoken v l).1 (sym q))) in
          (λ l. omega arith, omega arith)
      go v false p = (λ l. (i.spoken v (omega arith)).0, omega (arith, i.one v))

  -- S says a P, and so does the C that is enough; E comes to a view in which nothing was said.
  leading_outcome : {message : Message} {rows : List Row} {t : Step} → Outcome s rows message t → Leading k t.next (all_said (after m t).sent)
  leading_outcome (refuse number) = i
  leading_outcome (start c) = aloud _ _ _ refl refl (start_new s c)
  leading_outcome (enter v c) =
      let l = enter_later s v c in
      silent _ _ (omega arith) (omega arith) (λ e. absurd (omega arith)) (λ e. omega (arith, seated.in_view))
  leading_outcome (accept p c) = alike _ _ refl refl (omega arith)
  leading_outcome (note a c) = alike _ _ refl refl (omega arith)
  leading_outcome (decide a c d) = alike _ _ refl refl (omega arith)
  leading_outcome (fill r c) = alike _ _ refl refl (omega arith)
  leading_outcome (ask r e c d) =
      let l = cast_collecting s r c in
      silent _ _ (omega arith) (omega arith) (λ q p. absurd (omega arith)) (λ q. absurd (omega arith))
  leading_outcome (confirm q c) = alike _ _ refl refl (omega arith)
  leading_outcome (add a c) = alike _ _ refl refl (omega arith)
  leading_outcome (propose a c d) = aloud _ _ _ refl refl (λ p. omega (arith, confirm_asking s a c))

  pub leading_step : (message : Message) (rows : List Row)
      → Leading k (step m.replica message rows).next (all_said (after m (step m.replica message rows)).sent)
  leading_step message rows = leading_outcome (outcome s rows message)
