-- A run of four seats over two views in which no premise of `Answers` is empty: what was confirmed in view 2 is selected in view 3.
use Rattle.std.specs.Prelude.{ℕ, zero, suc, ◌≤◌, ◌<◌, ◌≡◌, refl, true, not, List, [], ◌∷◌, ◌⊎◌, T, Ok}
use Rattle.std.proofs.Common.{sym, subst₂, ◌∙◌, inl, inr, arith, lit≤}
use Rattle.entry.specs.declared.Entry.{Entry}
use Rattle.entry.specs.Entry.{well_formed, same, less}
use Rattle.seats.specs.Seats.{count, highest}
use Rattle.seats.specs.Sizes.{most_faulty}
use Rattle.seats.specs.Mask.{bit, seats_in}
use Rattle.seats.specs.Certificate.{good_certificate}
use Rattle.votes.specs.declared.Vote.{Vote}
use Rattle.votes.specs.declared.Choice.{Choice}
use Rattle.votes.specs.Vote.{valid}
use Rattle.votes.specs.Selection.{smallest, top_view, two_at, rows_for, after_two, at_top, selection}
use Rattle.votes.specs.Rows.{sound, selected}
use Rattle.votes.specs.History.{History, Covers, Safe, Honest}
use Rattle.votes.specs.Claims.{Claim, Claims}
use Rattle.votes.specs.Answers.{selected_safe}
use Rattle.votes.specs.Examples.{a, b, for, nil, a1, b1, collected}
use Rattle.votes.specs.SafetyWitness.{in_view, answer, by_seat, told, for_nil, for_one, seat_one, few}

-- A vote of view 2 that seats 0 and 2 signed.
abbrev pub b2 : Vote
b2 = for b 2 0x5

-- Seat 1, the leader of view 1, is faulty and proposed a and b: seat 0 acknowledged a, and seat 2 b. Over their votes for view 2
-- the choice is free: seat 2 chose b, seats 0 and 2 confirmed it, and seat 3 acknowledged it there. Then all went on to view 3.
abbrev acks : ℕ → ℕ → Entry → Type 0
acks zero w e = (w ≡ 1) × (e ≡ a)
acks (suc zero) w e = ⊥
acks (suc (suc zero)) w e = (w ≡ 1) × (e ≡ b)
acks (suc (suc (suc k))) w e = (w ≡ 2) × (e ≡ b)

abbrev proposals : ℕ → ℕ → Entry → Type 0
proposals zero u e = ⊥
proposals (suc zero) u e = (u ≡ 1) × ((e ≡ a) ⊎ (e ≡ b))
proposals (suc (suc zero)) u e = (u ≡ 2) × (e ≡ b)
proposals (suc (suc (suc k))) u e = ⊥

abbrev votes : ℕ → ℕ → Vote → Type 0
votes zero u x = (2 ≤ u) × (u ≤ 3) × (x ≡ a1)
votes (suc zero) u x = ⊥
votes (suc (suc zero)) u x = (2 ≤ u) × (u ≤ 3) × (x ≡ b1)
votes (suc (suc (suc k))) u x = ((u ≡ 2) × (x ≡ nil)) ⊎ ((u ≡ 3) × (x ≡ b2))

abbrev pub run : History
run = record {
  view = λ k. 3;
  acked = acks;
  confirmed = λ k u e. ((k ≡ 0) ⊎ (k ≡ 2)) × (u ≡ 2) × (e ≡ b);
  proposed = proposals;
  voted = votes;
}

abbrev pub votes_2 : List (ℕ × Vote)
votes_2 = (0, a1) ∷ (2, b1) ∷ (3, nil) ∷ []

abbrev pub votes_3 : List (ℕ × Vote)
votes_3 = (0, a1) ∷ (2, b1) ∷ (3, b2) ∷ []

-- All that was confirmed before v is b in view 2.
pub honest : (v : ℕ) → (2 < v → Safe 4 1 seat_one run 2 b) → Honest 4 1 seat_one run v
honest v earlier = record {
  tells = by_seat (λ k. T (not (seat_one k)) → (u : ℕ) (x : Vote) → votes k u x → (u ≤ 3) × ((w : ℕ) (e : Entry) → w < u → acks k w e → Covers x w e))
      (λ o u x t. (t.1, λ w e m h. told a 1 0 x w e t.2 h.0 h.1))
      (λ o. absurd o)
      (λ o u x t. (t.1, λ w e m h. told b 1 0 x w e t.2 h.0 h.1))
      (λ o u x t. elim t [
        | inl p ↦ (omega (arith, p.0), λ w e m h. absurd (omega (arith, p.0, h.0)))
        | inr p ↦ (omega (arith, p.0), λ w e m h. told b 2 0x5 x w e p.1 h.0 h.1)
      ]);
  once = by_seat (λ k. T (not (seat_one k)) → (u : ℕ) (x y : Entry) → proposals k u x → proposals k u y → x ≡ y)
      (λ o u x y p. absurd p) (λ o. absurd o) (λ o u x y p q. p.1 ∙ sym q.1) (λ o u x y p. absurd p);
  sound = λ k l o u x m c. subst₂ (Safe 4 1 seat_one run) (sym c.1) (sym c.2) (earlier (omega (arith, c.1)));
}

module _ (v : ℕ) (low : 2 ≤ v) (high : v ≤ 3) where
  zero_claim : Claim 4 seat_one run true 0 v a1
  zero_claim = for_one seat_one run 0 v a (λ o. (low, high, refl)) (λ o. absurd o)

  two_claim : Claim 4 seat_one run true 2 v b1
  two_claim = for_one seat_one run 2 v b (λ o. (low, high, refl)) (λ o. absurd o)

pub claims_2 : Claims 4 seat_one run (collected 2 votes_2)
claims_2 = (zero_claim 2 (lit≤ tt) (lit≤ tt), (two_claim 2 (lit≤ tt) (lit≤ tt), (for_nil seat_one run 3 2 (λ o. inl (refl, refl)), tt)))

pub claims_3 : Claims 4 seat_one run (collected 3 votes_3)
unfolding bit
claims_3 = (zero_claim 3 (lit≤ tt) (lit≤ tt), (two_claim 3 (lit≤ tt) (lit≤ tt), (signed_claim, tt)))
  where
    signed_claim : Claim 4 seat_one run true 3 3 b2
    signed_claim = record {
      said = λ m l o. inr (refl, refl);
      led = λ c m p o. (refl, refl);
      signed = λ c. by_seat (λ j. T (bit 0x5 j) → T (not (seat_one j)) → run.confirmed j 2 b)
          (λ m o. (inl refl, refl, refl)) (λ m. absurd m) (λ m o. (inr refl, refl, refl)) (λ m. absurd m);
    }

-- Two entries in view 1 leave the choice free, and then the later vote forces it.
pub selections : (answer 2 votes_2 ≡ Ok Choice.Free) × (answer 3 votes_3 ≡ Ok (Choice.Forced b))
unfolding selected selection at_top after_two rows_for two_at top_view smallest sound valid good_certificate seats_in bit most_faulty count highest well_formed same less
selections = (refl, refl)

-- What seats 0 and 2 confirmed in view 2 was open there: the induction hypothesis for view 3.
pub safe_2 : Safe 4 1 seat_one run 2 b
safe_2 = selected_safe 4 1 seat_one run (in_view 2) few.1 (honest 2 (λ l. absurd (omega arith))) (collected 2 votes_2) claims_2 Choice.Free selections.0 b tt

pub safe_3 : Safe 4 1 seat_one run 3 b
safe_3 = selected_safe 4 1 seat_one run (in_view 3) few.1 (honest 3 (λ l. safe_2)) (collected 3 votes_3) claims_3 (Choice.Forced b) selections.1 b refl
