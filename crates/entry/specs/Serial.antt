-- The rule for a serial: a stretch of visible bytes, at least one of them, then only blanks.
use Rattle.std.specs.Prelude.{ℕ, zero, suc, ◌≤◌, ◌≡◌, refl, Bool, true, false, not, ◌&&◌, ◌||◌, List, [], ◌∷◌, length, take, drop}
use Rattle.std.proofs.Common.{sym, ap, ap₂, ◌∙◌, arith, eqb-true}
use Rattle.base.specs.Tests.{true≢false, and_true, or_r, or_alone}
use Rattle.entry.specs.declared.Entry.{Entry}
use Rattle.entry.specs.Entry.{all, visible, blank, stretched, serial, serial_of, well_formed}

-- A blank is not visible.
pub unseen : (x : ℕ) → blank x ≡ true → visible x ≡ false
unseen x h = rw (eqb-true x 0x20 h)

-- ---- where the visible stretch ends: behind at least so many bytes
pub record Stretches (least : ℕ) (s : List ℕ) : Type 0 where
  pub cut : ℕ
  pub enough : least ≤ cut
  pub inside : cut ≤ length s
  pub seen : all visible (take cut s) ≡ true
  pub empty : all blank (drop cut s) ≡ true

-- With one visible byte more before it.
one_before : (least x : ℕ) (xs : List ℕ) → least ≤ 1 → visible x ≡ true → Stretches 0 xs → Stretches least (x ∷ xs)
one_before least x xs l h r = record {
  cut = suc r.cut;
  enough = omega (arith, l);
  inside = omega (arith, r.inside);
  seen = ap₂ (λ (a b : Bool). a && b) h r.seen;
  empty = r.empty;
}

stretched_cut : (s : List ℕ) → stretched s ≡ true → Stretches 0 s
stretched_cut [] h = record { cut = 0; enough = omega arith; inside = omega arith; seen = refl; empty = refl }
stretched_cut (x ∷ xs) h = go (visible x && stretched xs) refl (stretched_cut xs)
  where
    go : (t : Bool) → (visible x && stretched xs) ≡ t → (stretched xs ≡ true → Stretches 0 xs) → Stretches 0 (x ∷ xs)
    go true e rest = let both = and_true (visible x) (stretched xs) e in one_before 0 x xs (omega arith) both.0 (rest both.1)
    go false e rest = record {
      cut = 0;
      enough = omega arith;
      inside = omega arith;
      seen = refl;
      empty = sym (ap (λ (t : Bool). t || all blank (x ∷ xs)) e) ∙ h;
    }

blank_stretched : (s : List ℕ) → all blank s ≡ true → stretched s ≡ true
blank_stretched [] h = refl
blank_stretched (x ∷ xs) h = or_r (visible x && stretched xs) (all blank (x ∷ xs)) h

cut_stretched : (i : ℕ) (s : List ℕ) → all visible (take i s) ≡ true → all blank (drop i s) ≡ true → stretched s ≡ true
cut_stretched zero s h k = blank_stretched s k
cut_stretched (suc i) [] h k = refl
cut_stretched (suc i) (x ∷ xs) h k =
    let both = and_true (visible x) (all visible (take i xs)) h in
    simp (both.0, cut_stretched i xs both.1 k)

-- A serial is one that some place behind its first byte cuts into visible bytes and blanks.
pub serial_cut : (s : List ℕ) → serial s ≡ true → Stretches 1 s
serial_cut [] h = true≢false (sym h)
serial_cut (x ∷ xs) h =
    let both = and_true (visible x) (stretched xs) h in
    one_before 1 x xs (omega arith) both.0 (stretched_cut xs both.1)

pub cut_serial : (s : List ℕ) → Stretches 1 s → serial s ≡ true
cut_serial s r = go r.cut s r.enough r.inside r.seen r.empty
  where
    go : (i : ℕ) (s : List ℕ) → 1 ≤ i → i ≤ length s → all visible (take i s) ≡ true → all blank (drop i s) ≡ true → serial s ≡ true
    go zero s l m h k = absurd (omega (arith, l))
    go (suc i) [] l m h k = absurd (omega (arith, m))
    go (suc i) (x ∷ xs) l m h k =
        let both = and_true (visible x) (all visible (take i xs)) h in
        simp (both.0, cut_stretched i xs both.1 k)

-- ---- the first byte

-- Where such stretches do not begin with a blank, they begin with a visible byte.
pub shown_first : (x : ℕ) (xs : List ℕ) → (not (blank x) && stretched (x ∷ xs)) ≡ serial (x ∷ xs)
shown_first x xs = go (blank x) refl
  where
    go : (t : Bool) → blank x ≡ t → (not t && ((visible x && stretched xs) || (t && all blank xs))) ≡ (visible x && stretched xs)
    go true e = sym (ap (λ (t : Bool). t && stretched xs) (unseen x e))
    go false e = or_alone (visible x && stretched xs)

-- Blanks alone are no serial, however many they are.
pub blanks_no_serial : (s : List ℕ) → all blank s ≡ true → serial s ≡ false
blanks_no_serial [] h = refl
blanks_no_serial (x ∷ xs) h = ap (λ (t : Bool). t && stretched xs) (unseen x (and_true (blank x) (all blank xs) h).0)

-- One visible byte before them is enough.
pub one_visible : (x : ℕ) (s : List ℕ) → visible x ≡ true → all blank s ≡ true → serial (x ∷ s) ≡ true
one_visible x s h k = simp (h, blank_stretched s k)

-- "twelve blanks booked as a device": such an entry is not well formed, whatever its code.
pub blank_not_formed : (e : Entry) → all blank (serial_of e) ≡ true → well_formed e ≡ false
unfolding well_formed
blank_not_formed e h = blanks_no_serial (serial_of e) h
