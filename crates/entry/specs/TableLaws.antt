-- What a table of entries tells at a seat after entries were put into it.
use Rattle.std.specs.Prelude.{ℕ, zero, suc, ◌*◌, ◌+◌, ◌<◌, ◌≤◌, ◌≡◌, refl, Bool, true, false, cond, List, ltb, length, set, get_or, replicate}
use Rattle.std.proofs.Common.{ap, ap₂, ◌∙◌, arith, length-set, get_or-set_same, get_or-set_other, lt-ltb, le-ltb}
use Rattle.std.proofs.lemmas.List.{set-get_or}
use Rattle.entry.specs.declared.Entry.{Entry}
use Rattle.entry.specs.Entry.{of_words, zero_entry}
use Rattle.entry.specs.Table.{table_seats, table_words, entry_at, with_entry}

pub at_within : (t : List ℕ) (k : ℕ) → k < table_seats → entry_at t k ≡ of_words (get_or t (2 * k) 0) (get_or t (2 * k + 1) 0)
unfolding entry_at
at_within t k h = rw (lt-ltb k table_seats h)

pub at_past : (t : List ℕ) (k : ℕ) → table_seats ≤ k → entry_at t k ≡ zero_entry
unfolding entry_at
at_past t k h = rw (le-ltb k table_seats h)

pub with_within : (t : List ℕ) (k : ℕ) (e : Entry) → k < table_seats → with_entry t k e ≡ set (set t (2 * k) e.hi) (2 * k + 1) e.lo
unfolding with_entry
with_within t k e h = rw (lt-ltb k table_seats h)

pub with_past : (t : List ℕ) (k : ℕ) (e : Entry) → table_seats ≤ k → with_entry t k e ≡ t
unfolding with_entry
with_past t k e h = rw (le-ltb k table_seats h)

pub with_length : (t : List ℕ) (k : ℕ) (e : Entry) → length (with_entry t k e) ≡ length t
unfolding with_entry
with_length t k e = go (ltb k table_seats)
  where
    go : (c : Bool) → length (cond c (set (set t (2 * k) e.hi) (2 * k + 1) e.lo) t) ≡ length t
    go true = simp length-set
    go false = refl

pub at_same : (t : List ℕ) (k : ℕ) (e : Entry) → k < table_seats → length t ≡ table_words → entry_at (with_entry t k e) k ≡ e
at_same t k e h n =
    let first : 2 * k < length t = omega arith in
    let second : 2 * k + 1 < length (set t (2 * k) e.hi) = simp length-set (omega arith) in
    let apart : 2 * k ≡ 2 * k + 1 → ⊥ = omega arith in
    rw (with_within, at_within)
    (ap₂ of_words
    (get_or-set_other (set t (2 * k) e.hi) (2 * k + 1) (2 * k) e.lo 0 apart ∙ get_or-set_same t (2 * k) e.hi 0 first)
    (get_or-set_same (set t (2 * k) e.hi) (2 * k + 1) e.lo 0 second))

pub at_other : (t : List ℕ) (j k : ℕ) (e : Entry) → (j ≡ k → ⊥) → entry_at (with_entry t k e) j ≡ entry_at t j
unfolding entry_at with_entry
at_other t j k e h =
    let here = ltb k table_seats in
    ap₂ (λ (x y : ℕ). cond (ltb j table_seats) (of_words x y) zero_entry)
    (word here (2 * j) (omega arith) (omega arith))
    (word here (2 * j + 1) (omega arith) (omega arith))
  where
    word : (c : Bool) (i : ℕ) → (i ≡ 2 * k + 1 → ⊥) → (i ≡ 2 * k → ⊥) → get_or (cond c (set (set t (2 * k) e.hi) (2 * k + 1) e.lo) t) i 0 ≡ get_or t i 0
    word true i p q = get_or-set_other (set t (2 * k) e.hi) (2 * k + 1) i e.lo 0 p ∙ get_or-set_other t (2 * k) i e.hi 0 q
    word false i p q = refl

-- An entry put back where it stood changes nothing.
pub with_own : (t : List ℕ) (k : ℕ) → with_entry t k (entry_at t k) ≡ t
unfolding entry_at with_entry
with_own t k = go (ltb k table_seats)
  where
    own : Bool → Entry
    own c = cond c (of_words (get_or t (2 * k) 0) (get_or t (2 * k + 1) 0)) zero_entry

    go : (c : Bool) → cond c (set (set t (2 * k) (own c).hi) (2 * k + 1) (own c).lo) t ≡ t
    go true = ap (λ (s : List ℕ). set s (2 * k + 1) (get_or t (2 * k + 1) 0)) (set-get_or t (2 * k) 0) ∙ set-get_or t (2 * k + 1) 0
    go false = refl

zero_word : (n i : ℕ) → ◌≡◌ {A = ℕ} (get_or (replicate n 0) i 0) 0
zero_word zero i = refl
zero_word (suc n) zero = refl
zero_word (suc n) (suc i) = zero_word n i

-- A table of zeros holds the zero entry everywhere.
pub at_zero : (k : ℕ) → entry_at (replicate table_words 0) k ≡ zero_entry
unfolding entry_at
at_zero k = rw (zero_word table_words (2 * k), zero_word table_words (2 * k + 1)) (go (ltb k table_seats))
  where
    go : (c : Bool) → cond c zero_entry zero_entry ≡ zero_entry
    go true = refl
    go false = refl
