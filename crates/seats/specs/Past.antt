-- Where no seat past the 64th passes, n seats and the rows that a table has of them make the same mask, count and highest number.
use Rattle.std.specs.Prelude.{ℕ, zero, suc, ◌+◌, ◌*◌, ◌≤◌, ◌≡◌, refl, Bool, true, false, leb, ltb}
use Rattle.std.proofs.Common.{sym, ap, ap₂, ◌∙◌, arith, le_antisymm, leb-true, leb-false, ltb-true, ltb-false}
use Rattle.std.specs.Int.Count.{ones}
use mir.Val.{bool_byte}
use Rattle.seats.specs.Seats.{count, highest}
use Rattle.seats.specs.Count.{highest_le, le_highest}
use Rattle.seats.specs.Mask.{rows_of, packed, mask}
use Rattle.seats.specs.Marks.{marks_mask, marks_count, rows_is, rows_past}

-- What is the same over 64 seats and over any more is the same over the rows of n.
over_rows : {A : Type 0} (make : ℕ → A) (n : ℕ) → (64 ≤ n → make 64 ≡ make n) → make (rows_of n) ≡ make n
over_rows make n h = go (leb n 64) refl
  where
    go : (b : Bool) → leb n 64 ≡ b → make (rows_of n) ≡ make n
    go true e = ap make (rows_is n (leb-true n 64 e))
    go false e = let f = leb-false n 64 e in let l : 64 ≤ n = omega arith in ap make (rows_past n l) ∙ h l

none_packed : (p : ℕ → Bool) (k d : ℕ) → ((j : ℕ) → k ≤ j → p j ≡ false) → packed p k d ≡ 0
unfolding packed
none_packed p k zero none = refl
none_packed p k (suc d) none = ap₂ (λ b x. bool_byte b + 2 * x) (none k (omega arith)) (none_packed p (suc k) d (λ j l. none j (omega arith)))

packed_past : (p : ℕ → Bool) (k d n : ℕ) → d ≤ n → ((j : ℕ) → k + d ≤ j → p j ≡ false) → packed p k d ≡ packed p k n
unfolding packed
packed_past p k zero n l none = sym (none_packed p k n (λ j h. none j (omega arith)))
packed_past p k (suc d) zero l none = absurd (omega arith)
packed_past p k (suc d) (suc n) l none = ap (λ x. bool_byte (p k) + 2 * x) (packed_past p (suc k) d n (omega arith) (λ j h. none j (omega arith)))

pub mask_past : (p : ℕ → Bool) (n : ℕ) → ((k : ℕ) → 64 ≤ k → p k ≡ false) → mask p (rows_of n) ≡ mask p n
mask_past p n none = over_rows (mask p) n (λ l. packed_past p 0 64 n l (λ j h. none j (omega arith)))

pub count_past : (p : ℕ → Bool) (n : ℕ) → ((k : ℕ) → 64 ≤ k → p k ≡ false) → count p (rows_of n) ≡ count p n
count_past p n none = sym (marks_count (marks_mask (rows_of n) p)) ∙ ap ones (mask_past p n none) ∙ marks_count (marks_mask n p)

pub highest_past : (g : ℕ → ℕ) (n : ℕ) → ((k : ℕ) → 64 ≤ k → g k ≡ 0) → highest g (rows_of n) ≡ highest g n
highest_past g n none = over_rows (highest g) n (λ l. le_antisymm
    (highest_le g 64 (highest g n) (λ k h. le_highest g n k (omega arith)))
    (highest_le g n (highest g 64) (λ k h. each k (ltb k 64) refl)))
  where
    each : (k : ℕ) (b : Bool) → ltb k 64 ≡ b → g k ≤ highest g 64
    each k true e = le_highest g 64 k (ltb-true k 64 e)
    each k false e = omega (arith, none k (ltb-false k 64 e))
