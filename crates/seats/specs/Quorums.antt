-- The paper's three quorum facts, once for all n and f with 5f − 1 ≤ n and f ≥ 1, and whom a certificate must have among its signers.
use Rattle.std.proofs.Math.Path.{subst}
use Rattle.std.specs.Prelude.{Bool, ◌&&◌, ◌||◌, cond, ℕ, ◌+◌, ◌*◌, ◌^◌, ◌≤◌, ◌<◌, eqb, ltb}
use Rattle.std.proofs.Math.Bool.{not}
use Rattle.std.proofs.Common.{arith, T_not, lit≤, ne_eqb}
use Rattle.std.proofs.Math.Dec.{T, not_T, leb, leb→le, ltb→lt}
use Rattle.base.specs.Tests.{and_l, and_r, and_i}
use Rattle.seats.specs.declared.View.{View}
use Rattle.seats.specs.Seats.{count}
use Rattle.seats.specs.Count.{count_le, count_mono, count_split, count_union, count_minus, count_some, meet}
use Rattle.seats.specs.Sizes.{fewest, bears, quorum}
use Rattle.seats.specs.Mask.{bit, within, seats_in}
use Rattle.seats.specs.Bits.{seats_below}
use Rattle.seats.specs.Certificate.{signers, good_certificate}

-- f ≥ 1 and 5f − 1 ≤ n, and at most f faulty seats.
pub record House (n f : ℕ) (bad : ℕ → Bool) : Type 0 where
  pub some : 1 ≤ f
  pub fits : T (bears n f)
  pub few : count bad n ≤ f

module _ {n f : ℕ} {bad : ℕ → Bool} (house : House n f bad) where
  pub large : 5 * f ≤ n + 1
  large = omega (arith, leb→le (fewest f) n house.fits, house.some)

  -- Two sets of n − f seats share a correct seat.
  pub quorums_meet : (p q : ℕ → Bool) → quorum n f ≤ count p n → quorum n f ≤ count q n → (k : ℕ) × (k < n) × T (p k) × T (q k) × T (not (bad k))
  quorums_meet p q hp hq = meet p q bad n (omega (arith, large, house.few, house.some))

  -- Two sets of n − f seats, the second with at most f − 1 faulty ones, share 2f correct seats.
  pub quorums_share : (p q : ℕ → Bool) → quorum n f ≤ count p n → quorum n f ≤ count q n → count (λ k. q k && bad k) n < f
      → 2 * f ≤ count (λ k. (p k && q k) && not (bad k)) n
  quorums_share p q hp hq h =
      omega (arith, large, count_union p q n, count_le (λ k. p k || q k) n, count_split (λ k. p k && q k) bad n, fewer)
    where
      fewer : count (λ k. (p k && q k) && bad k) n ≤ count (λ k. q k && bad k) n
      fewer = count_mono _ _ n (λ k l t. and_i (q k) (bad k) (and_r (p k) (q k) (and_l (p k && q k) (bad k) t)) (and_r (p k && q k) (bad k) t))

  -- A set of n − f seats and one of 2f, the second with at most f − 1 faulty ones, share a correct seat.
  pub quorum_meets : (p q : ℕ → Bool) → quorum n f ≤ count p n → 2 * f ≤ count q n → count (λ k. q k && bad k) n < f
      → (k : ℕ) × (k < n) × T (p k) × T (q k) × T (not (bad k))
  quorum_meets p q hp hq h =
      let s = meet p q (λ k. q k && bad k) n (omega (arith, leb→le (fewest f) n house.fits, house.some)) in
      (s.0, s.1, s.2, s.3, not_T (bad s.0) (λ b. T_not (q s.0 && bad s.0) s.4 (and_i (q s.0) (bad s.0) s.3 b)))

  -- A good certificate of a later view has a correct signer.
  pub correct_signer : (u : View) (m : ℕ) → n ≤ 64 → 1 < u.0 → T (good_certificate n f u m) → (k : ℕ) × (k < n) × T (bit m k) × T (not (bad k))
  unfolding good_certificate
  correct_signer u m l v g =
      let c : T (ltb 1 u.0 && (within m n && leb (signers f) (seats_in m))) =
      subst (λ b. T (cond b (eqb m 0) (ltb 1 u.0 && (within m n && leb (signers f) (seats_in m))))) (ne_eqb u.0 1 (λ e. omega arith)) g in
      let d = and_r (ltb 1 u.0) (within m n && leb (signers f) (seats_in m)) c in
      let low = ltb→lt m (2 ^ n) (and_l (within m n) (leb (signers f) (seats_in m)) d) in
      let many = leb→le (signers f) (seats_in m) (and_r (within m n) (leb (signers f) (seats_in m)) d) in
      let s = count_some (λ k. bit m k && not (bad k)) n (omega (arith, seats_below n m l low, count_minus (bit m) bad n, house.few)) in
      (s.0, s.1, and_l (bit m s.0) (not (bad s.0)) s.2, and_r (bit m s.0) (not (bad s.0)) s.2)

-- The premises can be met: the smallest house with one faulty seat, and one with two.
pub witness : House 4 1 (λ k. eqb k 3) × House 9 2 (λ k. ltb k 2) × T (good_certificate 4 1 (record { 0 = 2 }) 0xc)
unfolding count good_certificate seats_in bit
witness = (
  record { some = lit≤ tt; fits = tt; few = lit≤ tt },
  record { some = lit≤ tt; fits = tt; few = lit≤ tt },
  tt,
)
