-- What a table of values tells at a seat after values were put into it.
use Rattle.std.specs.Prelude.{ℕ, ◌<◌, ◌≤◌, ◌≡◌, refl, Bool, true, false, cond, List, ltb, length, set, get_or}
use Rattle.std.proofs.lemmas.List.{get_or_default}
use Rattle.std.proofs.Common.{sym, ◌∙◌, length-set, get_or-set_same, get_or-set_other, lt-ltb, le-ltb, ap}
use Rattle.seats.specs.Table.{value_at, with_value}

module _ {A : Type 0} where
  pub value_within : (t : List A) (k : ℕ) (none : A) → k < 64 → value_at t k none ≡ get_or t k none
  unfolding value_at
  value_within t k none h = rw (lt-ltb k 64 h) refl

  pub value_past : (t : List A) (k : ℕ) (none : A) → 64 ≤ k → value_at t k none ≡ none
  unfolding value_at
  value_past t k none h = rw (le-ltb k 64 h) refl

  -- What is read, whatever stands for none in the reading.
  pub value_read : (t : List A) (k : ℕ) (none d : A) → k < 64 → length t ≡ 64 → get_or t k d ≡ value_at t k none
  value_read t k none d h n = get_or_default t k d none (rw n h) ∙ sym (value_within t k none h)

  pub written_within : (t : List A) (k : ℕ) (x : A) → k < 64 → with_value t k x ≡ set t k x
  unfolding with_value
  written_within t k x h = rw (lt-ltb k 64 h) refl

  pub written_past : (t : List A) (k : ℕ) (x : A) → 64 ≤ k → with_value t k x ≡ t
  unfolding with_value
  written_past t k x h = rw (le-ltb k 64 h) refl

  pub written_length : (t : List A) (k : ℕ) (x : A) → length (with_value t k x) ≡ length t
  unfolding with_value
  written_length t k x = go (ltb k 64)
    where
      go : (c : Bool) → length (cond c (set t k x) t) ≡ length t
      go true = length-set t k x
      go false = refl

  -- What was put in is there, and the others are as they were.
  pub value_same : (t : List A) (k : ℕ) (x none : A) → k < 64 → length t ≡ 64 → value_at (with_value t k x) k none ≡ x
  value_same t k x none h n = rw (value_within (with_value t k x) k none h, written_within t k x h) (get_or-set_same t k x none (rw n h))

  pub value_other : (t : List A) (j k : ℕ) (x none : A) → (j ≡ k → ⊥) → value_at (with_value t k x) j none ≡ value_at t j none
  unfolding value_at with_value
  value_other t j k x none h = ap (λ y. cond (ltb j 64) y none) (there (ltb k 64))
    where
      there : (c : Bool) → get_or (cond c (set t k x) t) j none ≡ get_or t j none
      there true = get_or-set_other t k j x none h
      there false = refl
