-- Lists of bytes compared, however long: equal where the test says so, and a strict order that is total over one length.
use Rattle.std.specs.Prelude.{ℕ, ◌<◌, ◌≡◌, refl, Bool, true, false, ◌&&◌, ◌||◌, List, [], ◌∷◌, ◌⊎◌, T, eqb, ltb, length}
use Rattle.std.proofs.Common.{sym, ap₂, ◌∙◌, inl, inr, arith, eqb→eq, eq-eqb, ltb-true, lt-ltb, le-ltb}
use Rattle.base.specs.Tests.{and_l, and_r}
use Rattle.entry.specs.Entry.{same_bytes, less_bytes}

pub same_lists : (xs ys : List ℕ) → T (same_bytes xs ys) → xs ≡ ys
same_lists [] [] h = refl
same_lists [] (y ∷ ys) h = absurd h
same_lists (x ∷ xs) [] h = absurd h
same_lists (x ∷ xs) (y ∷ ys) h =
    ap₂ (λ (b : ℕ) (bs : List ℕ). b ∷ bs) (eqb→eq x y (and_l (eqb x y) (same_bytes xs ys) h)) (same_lists xs ys (and_r (eqb x y) (same_bytes xs ys) h))

pub list_same : (xs : List ℕ) → same_bytes xs xs ≡ true
list_same [] = refl
list_same (x ∷ xs) = simp (eq-eqb x x refl, list_same xs)

-- What one step of the order tells.
abbrev Ahead : ℕ → List ℕ → ℕ → List ℕ → Type 0
Ahead x xs y ys = (x < y) ⊎ ((x ≡ y) × T (less_bytes xs ys))

less_cases : (x : ℕ) (xs : List ℕ) (y : ℕ) (ys : List ℕ) → T (less_bytes (x ∷ xs) (y ∷ ys)) → Ahead x xs y ys
less_cases x xs y ys h = go (ltb x y) refl h
  where
    go : (t : Bool) → ltb x y ≡ t → T (t || (eqb x y && less_bytes xs ys)) → Ahead x xs y ys
    go true e k = inl (ltb-true x y e)
    go false e k = inr (eqb→eq x y (and_l (eqb x y) (less_bytes xs ys) k), and_r (eqb x y) (less_bytes xs ys) k)

cases_less : (x : ℕ) (xs : List ℕ) (y : ℕ) (ys : List ℕ) → Ahead x xs y ys → T (less_bytes (x ∷ xs) (y ∷ ys))
cases_less x xs y ys (inl h) = simp (lt-ltb x y h) tt
cases_less x xs y ys (inr h) = simp (le-ltb x y (omega arith), eq-eqb x y h.0) h.1

pub list_irrefl : (xs : List ℕ) → T (less_bytes xs xs) → ⊥
list_irrefl [] h = h
list_irrefl (x ∷ xs) h = never (less_cases x xs x xs h) (list_irrefl xs)
  where
    never : Ahead x xs x xs → (T (less_bytes xs xs) → ⊥) → ⊥
    never (inl k) r = omega arith
    never (inr k) r = r k.1

pub list_trans : (xs ys zs : List ℕ) → T (less_bytes xs ys) → T (less_bytes ys zs) → T (less_bytes xs zs)
list_trans [] ys zs h k = absurd h
list_trans (x ∷ xs) [] zs h k = absurd h
list_trans (x ∷ xs) (y ∷ ys) [] h k = absurd k
list_trans (x ∷ xs) (y ∷ ys) (z ∷ zs) h k =
    cases_less x xs z zs (go (less_cases x xs y ys h) (less_cases y ys z zs k) (list_trans xs ys zs))
  where
    go : Ahead x xs y ys → Ahead y ys z zs → (T (less_bytes xs ys) → T (less_bytes ys zs) → T (less_bytes xs zs)) → Ahead x xs z zs
    go (inl p) (inl q) r = inl (omega arith)
    go (inl p) (inr q) r = inl (omega (arith, q.0))
    go (inr p) (inl q) r = inl (omega (arith, p.0))
    go (inr p) (inr q) r = inr (p.0 ∙ q.0, r p.1 q.1)

pub list_total : (xs ys : List ℕ) → length xs ≡ length ys → (T (less_bytes xs ys) → ⊥) → (T (less_bytes ys xs) → ⊥) → xs ≡ ys
list_total [] [] n h k = refl
list_total [] (y ∷ ys) n h k = absurd (omega arith)
list_total (x ∷ xs) [] n h k = absurd (omega arith)
list_total (x ∷ xs) (y ∷ ys) n h k =
    let p : x < y → ⊥ = λ l. h (cases_less x xs y ys (inl l)) in
    let q : y < x → ⊥ = λ l. k (cases_less y ys x xs (inl l)) in
    let e : x ≡ y = omega arith in
    let m : length xs ≡ length ys = omega arith in
    ap₂ (λ (b : ℕ) (bs : List ℕ). b ∷ bs) e
    (list_total xs ys m (λ l. h (cases_less x xs y ys (inr (e, l)))) (λ l. k (cases_less y ys x xs (inr (sym e, l)))))
