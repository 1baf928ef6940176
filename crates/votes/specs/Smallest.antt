-- Laws of the smallest entry of the seats that pass.
use Rattle.std.specs.Prelude.{ℕ, zero, suc, ◌+◌, ◌<◌, ◌≡◌, refl, Bool, true, false, not, cond, ◌⊎◌, T}
use Rattle.std.proofs.Common.{sym, ap, ap₂, ◌∙◌, subst, inl, inr, arith, add-one, T_not}
use Rattle.std.specs.Prelude.{Option, None, Some}
use Rattle.std.proofs.Math.Decide.{ℕ_discrete}
use Rattle.std.proofs.Math.Dec.{not_T}
use Rattle.base.specs.Tests.{T-dec, is_true}
use Rattle.entry.specs.declared.Entry.{Entry}
use Rattle.entry.specs.Entry.{less}
use Rattle.entry.specs.Laws.{less_irrefl, less_trans, less_total}
use Rattle.votes.specs.Selection.{smaller, smallest}

-- ---- a loop over the seats
pub smallest_none : (p : ℕ → Bool) (e : ℕ → Entry) → smallest p e 0 ≡ None
unfolding smallest
smallest_none p e = refl

pub smallest_more : (p : ℕ → Bool) (e : ℕ → Entry) (i : ℕ)
    → smallest p e (i + 1) ≡ cond (p i) (Some (smaller (e i) (smallest p e i))) (smallest p e i)
unfolding smallest
smallest_more p e i = ap (smallest p e) (add-one i)

-- Only the entries of the seats that pass are looked at.
pub smallest_ext : (p q : ℕ → Bool) (d e : ℕ → Entry) (n : ℕ) → ((k : ℕ) → k < n → p k ≡ q k) → ((k : ℕ) → k < n → T (p k) → d k ≡ e k)
    → smallest p d n ≡ smallest q e n
unfolding smallest
smallest_ext p q d e zero h g = refl
smallest_ext p q d e (suc n) h g =
    step (p n) (q n) (h n (omega arith)) (g n (omega arith)) (smallest_ext p q d e n (λ k l. h k (omega arith)) (λ k l. g k (omega arith)))
  where
    step : (a b : Bool) → a ≡ b → (T a → d n ≡ e n) → {r s : Option Entry} → r ≡ s → cond a (Some (smaller (d n) r)) r ≡ cond b (Some (smaller (e n) s)) s
    step true b i j {r} {s} k = rw (← i) (ap₂ (λ x y. Some (smaller x y)) (j tt) k)
    step false b i j {r} {s} k = rw (← i) k

-- ---- what it is
-- Some seat below n passes, and its entry is x.
abbrev pub Passing : (ℕ → Bool) → (ℕ → Entry) → ℕ → Entry → Type 0
Passing p e n x = (k : ℕ) × (k < n) × T (p k) × (e k ≡ x)

smaller_is : (e : Entry) (o : Option Entry) (x : Entry) → smaller e o ≡ x → (e ≡ x) ⊎ (o ≡ Some x)
smaller_is e None x h = inl h
smaller_is e (Some b) x h = go (less b e) h
  where
    go : (t : Bool) → cond t b e ≡ x → (e ≡ x) ⊎ (◌≡◌ {A = Option Entry} (Some b) (Some x))
    go true h = inr (ap Some h)
    go false h = inl h

-- It is the entry of a seat that passes.
pub smallest_some : (p : ℕ → Bool) (e : ℕ → Entry) (n : ℕ) (x : Entry) → smallest p e n ≡ Some x → Passing p e n x
unfolding smallest
smallest_some p e zero x h = absurd (let z : ◌≡◌ {A = ℕ} 0 1 = cc in omega arith)
smallest_some p e (suc n) x h = go (p n) refl h (λ q. let r = smallest_some p e n x q in (r.0, omega (arith, r.1), r.2, r.3))
  where
    go : (t : Bool) → p n ≡ t → cond t (Some (smaller (e n) (smallest p e n))) (smallest p e n) ≡ Some x → (smallest p e n ≡ Some x → Passing p e (suc n) x)
        → Passing p e (suc n) x
    go true i q up = elim (smaller_is (e n) (smallest p e n) x cc) [ inl d ↦ (n, omega arith, is_true (p n) i, d) | inr d ↦ up d ]
    go false i q up = up q

-- There is none only where no seat passes.
pub smallest_no : (p : ℕ → Bool) (e : ℕ → Entry) (n : ℕ) → smallest p e n ≡ None → (k : ℕ) → k < n → T (p k) → ⊥
unfolding smallest
smallest_no p e zero h k l t = omega arith
smallest_no p e (suc n) h k l t = go (p n) refl h (λ q m. smallest_no p e n q k m t)
  where
    go : (b : Bool) → p n ≡ b → cond b (Some (smaller (e n) (smallest p e n))) (smallest p e n) ≡ None → (smallest p e n ≡ None → k < n → ⊥) → ⊥
    go true i q rec = let z : ◌≡◌ {A = ℕ} 0 1 = cc in omega arith
    go false i q rec = elim (ℕ_discrete k n) [ yes d ↦ subst T (ap p d ∙ i) t | no d ↦ rec q (omega arith) ]

-- ---- that none is smaller
at_least_trans : (a b c : Entry) → T (not (less a b)) → T (not (less b c)) → T (not (less a c))
at_least_trans a b c h k = not_T (less a c) (λ l. T_not (less a b) h (elim (T-dec (less c b)) [
  | inl t ↦ less_trans a c b l t
  | inr t ↦ subst (λ x. T (less a x)) (sym (less_total b c k t)) l
]))

smaller_least : (e : Entry) (o : Option Entry) → T (not (less e (smaller e o))) × ((b : Entry) → o ≡ Some b → T (not (less b (smaller e o))))
smaller_least e None = (less_irrefl e, λ b h. absurd (let z : ◌≡◌ {A = ℕ} 0 1 = cc in omega arith))
smaller_least e (Some b) = go (less b e) refl
  where
    asym : T (less b e) → T (not (less e b))
    asym l = not_T (less e b) (λ m. T_not (less b b) (less_irrefl b) (less_trans b e b l m))

    go : (t : Bool) → less b e ≡ t → T (not (less e (cond t b e))) × ((c : Entry) → ◌≡◌ {A = Option Entry} (Some b) (Some c) → T (not (less c (cond t b e))))
    go true i = (asym (is_true (less b e) i), λ c h. let q : b ≡ c = cc in subst (λ x. T (not (less x b))) q (less_irrefl b))
    go false i = (less_irrefl e, λ c h. let q : b ≡ c = cc in subst (λ x. T (not (less x e))) q (subst (λ x. T (not x)) (sym i) tt))

pub smallest_least : (p : ℕ → Bool) (e : ℕ → Entry) (n : ℕ) (x : Entry) → smallest p e n ≡ Some x → (k : ℕ) → k < n → T (p k) → T (not (less (e k) x))
unfolding smallest
smallest_least p e zero x h k l t = absurd (omega arith)
smallest_least p e (suc n) x h k l t = go (p n) refl h (λ y q m. smallest_least p e n y q k m t)
  where
    below : (o : Option Entry) → smallest p e n ≡ o → smaller (e n) o ≡ x → ((y : Entry) → smallest p e n ≡ Some y → k < n → T (not (less (e k) y))) → k < n
        → T (not (less (e k) x))
    below None i q rec m = absurd (smallest_no p e n i k m t)
    below (Some b) i q rec m = at_least_trans (e k) b x (rec b i m) (subst (λ y. T (not (less b y))) q ((smaller_least (e n) (Some b)).1 b refl))

    go : (s : Bool) → p n ≡ s → cond s (Some (smaller (e n) (smallest p e n))) (smallest p e n) ≡ Some x
        → ((y : Entry) → smallest p e n ≡ Some y → k < n → T (not (less (e k) y))) → T (not (less (e k) x))
    go true i q rec =
        let j : smaller (e n) (smallest p e n) ≡ x = cc in
        elim (ℕ_discrete k n) [
          | yes d ↦ subst (λ y. T (not (less (e y) x))) (sym d) (subst (λ y. T (not (less (e n) y))) j (smaller_least (e n) (smallest p e n)).0)
          | no d ↦ below (smallest p e n) refl j rec (omega arith)
        ]
    go false i q rec = elim (ℕ_discrete k n) [ yes d ↦ absurd (subst T (ap p d ∙ i) t) | no d ↦ rec x q (omega arith) ]
