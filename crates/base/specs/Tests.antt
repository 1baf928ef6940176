-- What a test tells: laws of Bool that every crate above cites.
use Rattle.std.specs.Prelude.{◌≡◌, refl, Bool, true, false, not, ◌&&◌, ◌||◌, ◌⊎◌, T}
use Rattle.std.proofs.Common.{sym, subst, inl, inr}

pub and_l : (a b : Bool) → T (a && b) → T a
and_l true b h = tt
and_l false b h = h

pub and_r : (a b : Bool) → T (a && b) → T b
and_r true b h = h
and_r false b h = absurd h

pub and_i : (a b : Bool) → T a → T b → T (a && b)
and_i true b h k = k
and_i false b h k = h

-- A test passes or fails.
pub T-dec : (b : Bool) → T b ⊎ T (not b)
T-dec true = inl tt
T-dec false = inr tt

pub is_true : (b : Bool) → b ≡ true → T b
is_true b e = subst T (sym e) tt

pub true_is : (b : Bool) → T b → b ≡ true
true_is true t = refl
true_is false t = absurd t

pub false_is : (b : Bool) → T (not b) → b ≡ false
false_is true t = absurd t
false_is false t = refl

pub is_false : (b : Bool) → b ≡ false → T (not b)
is_false b e = subst (λ x. T (not x)) (sym e) tt

-- A test whose failure is refused: where it passes, it is not.
pub unrefused : (b : Bool) → T b → T (not (not b))
unrefused true t = tt
unrefused false t = t

pub true≢false : {A : Type 0} → true ≡ false → A
true≢false e = absurd (subst T e tt)

pub and_true : (a b : Bool) → (a && b) ≡ true → (a ≡ true) × (b ≡ true)
and_true true true h = (refl, refl)
and_true true false h = true≢false (sym h)
and_true false b h = true≢false (sym h)

pub or_false : (a b : Bool) → (a || b) ≡ false → (a ≡ false) × (b ≡ false)
or_false true b h = true≢false h
or_false false b h = (refl, h)

-- What one test tells beside the failure of another.
pub but_not : (a b : Bool) → (a && not b) ≡ true → (a ≡ true) × (b ≡ false)
but_not true true h = true≢false (sym h)
but_not true false h = (refl, refl)
but_not false b h = true≢false (sym h)

pub not_but : (a b : Bool) → (a && not b) ≡ false → a ≡ true → b ≡ true
not_but true true h e = refl
not_but true false h e = true≢false h
not_but false b h e = true≢false (sym e)

-- Two tests that pass together are one.
pub same_test : (a b : Bool) → (a ≡ true → b ≡ true) → (b ≡ true → a ≡ true) → a ≡ b
same_test true b h k = sym (h refl)
same_test false true h k = k refl
same_test false false h k = refl

pub and_assoc : (a b c : Bool) → (a && (b && c)) ≡ ((a && b) && c)
and_assoc true b c = refl
and_assoc false b c = refl

pub or_assoc : (a b c : Bool) → (a || (b || c)) ≡ ((a || b) || c)
or_assoc true b c = refl
or_assoc false b c = refl

pub and_alone : (a : Bool) → (a && true) ≡ a
and_alone true = refl
and_alone false = refl

pub or_alone : (a : Bool) → (a || false) ≡ a
or_alone true = refl
or_alone false = refl

pub or_r : (a b : Bool) → b ≡ true → (a || b) ≡ true
or_r true b h = refl
or_r false b h = h
