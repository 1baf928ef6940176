-- Runs of four seats that meet every premise of `Answers`, in one view: its theorems do not hold for want of histories.
use Rattle.std.specs.Prelude.{ℕ, zero, suc, ◌≤◌, ◌<◌, ◌≡◌, refl, Bool, true, not, cond, List, [], ◌∷◌, ◌⊎◌, T, eqb, Result, Ok}
use Rattle.std.proofs.Common.{sym, subst, ◌∙◌, inl, inr, arith, lit≤}
use Rattle.base.specs.declared.refusal.Refusal.{Refusal}
use Rattle.entry.specs.declared.Entry.{Entry}
use Rattle.entry.specs.Entry.{well_formed, same, less}
use Rattle.entry.specs.Table.{entry_at, with_entry}
use Rattle.seats.specs.declared.View.{View}
use Rattle.seats.specs.Seats.{count, highest}
use Rattle.seats.specs.Sizes.{most_faulty}
use Rattle.seats.specs.Mask.{bit, with_seat, put_seat}
use Rattle.seats.specs.Bits.{bit_zero}
use Rattle.seats.specs.Certificate.{good_certificate}
use Rattle.votes.specs.declared.Vote.{Vote}
use Rattle.votes.specs.declared.VoteRows.{VoteRows}
use Rattle.votes.specs.declared.Choice.{Choice}
use Rattle.votes.specs.Vote.{valid}
use Rattle.votes.specs.Selection.{smallest, top_view, two_at, rows_for, after_two, at_top, selection}
use Rattle.votes.specs.Rows.{vote_at, has_row, chosen, no_votes, with_vote, sound, selected}
use Rattle.votes.specs.History.{History, Covers, Safe, Honest}
use Rattle.votes.specs.Claims.{Claim, Claims, TableClaims}
use Rattle.votes.specs.Answers.{selected_safe, chosen_safe}
use Rattle.votes.specs.Examples.{a, b, for, nil, a1, b1, collected}

-- ---- what the runs share
abbrev pub in_view : ℕ → View
in_view v = record { 0 = v }

-- Votes by seat, and the answer over them.
abbrev pub answer : ℕ → List (ℕ × Vote) → Result Choice Refusal
answer v xs = selected 4 1 (in_view v) (collected v xs)

-- A claim of four seats.
pub by_seat : (P : ℕ → Type 0) → P 0 → P 1 → P 2 → P 3 → (k : ℕ) → k < 4 → P k
by_seat P p q r s zero l = p
by_seat P p q r s (suc zero) l = q
by_seat P p q r s (suc (suc zero)) l = r
by_seat P p q r s (suc (suc (suc zero))) l = s
by_seat P p q r s (suc (suc (suc (suc k)))) l = absurd (omega arith)

-- A vote for e in view u tells of e in u.
pub told : (e : Entry) (u m : ℕ) (x : Vote) (w : ℕ) (y : Entry) → x ≡ for e u m → w ≡ u → y ≡ e → Covers x w y
told e u m x w y p q r = subst (λ z. Covers z w y) (sym p) (record { cast = tt; up = omega arith; same = λ s. r })

module _ (bad : ℕ → Bool) (h : History) (k v : ℕ) where
  pub for_nil : (T (not (bad k)) → h.voted k v nil) → Claim 4 bad h true k v nil
  for_nil said = record { said = λ m l. said; led = λ c. absurd c; signed = λ c. absurd c }

  -- Seat 1 leads view 1, and its certificate names no seat.
  pub for_one : (e : Entry) → (T (not (bad k)) → h.voted k v (for e 1 0)) → (T (not (bad 1)) → h.proposed 1 1 e) → Claim 4 bad h true k v (for e 1 0)
  for_one e said led = record { said = λ m l. said; led = λ c m p. led; signed = λ c j l m o. absurd (subst T (bit_zero j) m) }

-- ---- one entry at the highest view: seat 3 is faulty
abbrev pub seat_three : ℕ → Bool
seat_three k = eqb k 3

-- Seat 1 proposed a in view 1 and is still there; seat 0 acknowledged it; seats 0 and 2 went on to view 2 and sent a1 and nil.
abbrev pub plain : History
plain = record {
  view = λ k. cond (eqb k 1) 1 2;
  acked = λ k w e. (k ≡ 0) × (w ≡ 1) × (e ≡ a);
  confirmed = λ k v e. ⊥;
  proposed = λ k v e. (k ≡ 1) × (v ≡ 1) × (e ≡ a);
  voted = λ k v x. (v ≡ 2) × (((k ≡ 0) × (x ≡ a1)) ⊎ ((k ≡ 2) × (x ≡ nil)));
}

abbrev pub plain_votes : List (ℕ × Vote)
plain_votes = (0, a1) ∷ (2, nil) ∷ (3, nil) ∷ []

pub plain_honest : Honest 4 1 seat_three plain 2
plain_honest = record {
  tells = λ k l o v x t. elim t.1 [
    | inl p ↦ (subst (λ j. v ≤ plain.view j) (sym p.0) (omega (arith, t.0)), λ w e m h. told a 1 0 x w e p.1 h.1 h.2)
    | inr p ↦ (subst (λ j. v ≤ plain.view j) (sym p.0) (omega (arith, t.0)), λ w e m h. absurd (omega (arith, h.0, p.0)))
  ];
  once = λ k l o v x y p q. p.2 ∙ sym q.2;
  sound = λ k l o u x m c. absurd c;
}

pub plain_claims : Claims 4 seat_three plain (collected 2 plain_votes)
plain_claims = (
  for_one seat_three plain 0 2 a (λ o. (refl, inl (refl, refl))) (λ o. (refl, refl, refl)),
  (for_nil seat_three plain 2 2 (λ o. (refl, inr (refl, refl))), (for_nil seat_three plain 3 2 (λ o. absurd o), tt)),
)

-- ---- two entries at the highest view: seat 1, the leader of view 1, is faulty and proposed a and b
abbrev pub seat_one : ℕ → Bool
seat_one k = eqb k 1

-- Seats 0 and 2 acknowledged a and seat 3 b, and all went on to view 2.
abbrev got : ℕ → Entry
got k = cond (eqb k 3) b a

abbrev pub split : History
split = record {
  view = λ k. 2;
  acked = λ k w e. (w ≡ 1) × (e ≡ got k);
  confirmed = λ k u e. ⊥;
  proposed = λ k u e. (k ≡ 1) × (u ≡ 1) × ((e ≡ a) ⊎ (e ≡ b));
  voted = λ k u x. (u ≡ 2) × (x ≡ for (got k) 1 0);
}

abbrev pub split_votes : List (ℕ × Vote)
split_votes = (0, a1) ∷ (2, a1) ∷ (3, b1) ∷ []

pub split_honest : Honest 4 1 seat_one split 2
split_honest = record {
  tells = λ k l o u x t. (omega (arith, t.0), λ w e m h. told (got k) 1 0 x w e t.1 h.0 h.1);
  once = λ k l o u x y p q. absurd (subst (λ j. T (not (seat_one j))) p.0 o);
  sound = λ k l o u x m c. absurd c;
}

split_claim : (k : ℕ) → Claim 4 seat_one split true k 2 (for (got k) 1 0)
split_claim k = for_one seat_one split k 2 (got k) (λ o. (refl, refl)) (λ o. absurd o)

pub split_claims : Claims 4 seat_one split (collected 2 split_votes)
split_claims = (split_claim 0, (split_claim 2, (split_claim 3, tt)))

-- The same rows in the leader's table.
abbrev pub split_table : VoteRows
split_table = with_vote (with_vote (with_vote no_votes 0 a1) 2 a1) 3 b1

pub split_table_claims : TableClaims 4 seat_one split 2 split_table
unfolding with_vote vote_at entry_at with_entry with_seat put_seat bit
split_table_claims = by_seat (λ k. T (bit split_table.filled k) → Claim 4 seat_one split true k 2 (vote_at split_table.votes k))
    (λ t. split_claim 0) (λ t. absurd t) (λ t. split_claim 2) (λ t. split_claim 3)

-- ---- what is selected, and that it is safe
pub selections : (answer 2 plain_votes ≡ Ok (Choice.Forced a)) × (answer 2 split_votes ≡ Ok (Choice.Forced a))
    × (chosen 4 1 (in_view 2) split_table ≡ Ok (Choice.Forced a))
unfolding selected selection at_top after_two rows_for two_at top_view smallest sound valid good_certificate most_faulty count highest well_formed same less chosen has_row with_vote vote_at entry_at with_entry with_seat put_seat bit
selections = (refl, refl, refl)

pub few : (count seat_three 4 ≤ 1) × (count seat_one 4 ≤ 1)
unfolding count
few = (lit≤ tt, lit≤ tt)

pub plain_safe : Safe 4 1 seat_three plain 2 a
plain_safe = selected_safe 4 1 seat_three plain (in_view 2) few.0 plain_honest (collected 2 plain_votes) plain_claims (Choice.Forced a) selections.0 a refl

pub split_safe : Safe 4 1 seat_one split 2 a
split_safe = selected_safe 4 1 seat_one split (in_view 2) few.1 split_honest (collected 2 split_votes) split_claims (Choice.Forced a) selections.1 a refl

pub split_table_safe : Safe 4 1 seat_one split 2 a
split_table_safe = chosen_safe 4 1 seat_one split (in_view 2) few.1 split_honest split_table split_table_claims (Choice.Forced a) selections.2 a refl
