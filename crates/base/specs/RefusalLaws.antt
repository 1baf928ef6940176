-- Of a list whose numbers rise, `first` is the lowest that applies, and 0 exactly where none does. Lists can be joined.
use Rattle.std.specs.Prelude.{ℕ, ◌≤◌, ◌<◌, Bool, true, false, not, ◌&&◌, cond, [], ◌∷◌, ◌++◌, ◌⊎◌, ◌≡◌, refl, T, eqb, ltb, Result, Ok, Err}
use Rattle.std.proofs.Common.{inl, inr, sym, ap, ◌∙◌, arith, ltb→lt, eqb-true, eq-eqb, ne_eqb}
use Rattle.base.specs.declared.refusal.Refusal.{Refusal}
use Rattle.base.specs.declared.refusal.Refusal.TheVariants.{HouseSize, FaultySeats, OwnSeat, OwnEntry, NoView, Sender, Mark}
use Rattle.base.specs.declared.refusal.Refusal.TheVariants.{View, Leader, Entry, Certificate, Again, Stage, Vote, Rows, Selection}
use Rattle.base.specs.declared.refusal.Refusal.TheVariants.{OlderView, OtherEntry, Line, Room, Unwritable}
use Rattle.base.specs.Refusal.{Refusals, first, number, number_of, refusal, judged}
use Rattle.base.specs.Tests.{and_l, and_r, is_true, true_is, false_is, true≢false}

-- The numbers rise from above k on.
abbrev pub ascending : ℕ → Refusals → Bool
ascending k [] = true
ascending k (r ∷ rs) = ltb k r.0 && ascending r.0 rs

-- Number k stands in the list, and it applies.
abbrev pub Applies : ℕ → Refusals → Type 0
Applies k [] = ⊥
Applies k (r ∷ rs) = ((r.0 ≡ k) × T r.1) ⊎ Applies k rs

above : (j : ℕ) (rs : Refusals) → T (ascending j rs) → (k : ℕ) → Applies k rs → j < k
above j [] t k a = absurd a
above j (r ∷ rs) t k a = elim a [
  | inl h ↦ omega (arith, h.0, ltb→lt j r.0 (and_l (ltb j r.0) (ascending r.0 rs) t))
  | inr h ↦ omega (arith, ltb→lt j r.0 (and_l (ltb j r.0) (ascending r.0 rs) t), above r.0 rs (and_r (ltb j r.0) (ascending r.0 rs) t) k h)
]

-- "Where several apply, the lowest is given."
pub first_lowest : (j : ℕ) (rs : Refusals) → T (ascending j rs) → (k : ℕ) → Applies k rs → (first rs ≤ k) × Applies (first rs) rs
first_lowest j [] t k a = absurd a
first_lowest j (r ∷ rs) t k a = go r.1 refl a (λ h. first_lowest r.0 rs later k h)
  where
    later : T (ascending r.0 rs)
    later = and_r (ltb j r.0) (ascending r.0 rs) t

    go : (b : Bool) → r.1 ≡ b → Applies k (r ∷ rs) → (Applies k rs → (first rs ≤ k) × Applies (first rs) rs)
        → (cond b r.0 (first rs) ≤ k) × (((r.0 ≡ cond b r.0 (first rs)) × T r.1) ⊎ Applies (cond b r.0 (first rs)) rs)
    go true e (inl h) rec = (omega (arith, h.0), inl (refl, h.1))
    go true e (inr h) rec = (omega (arith, above r.0 rs later k h), inl (refl, is_true r.1 e))
    go false e (inl h) rec = true≢false (sym (true_is r.1 h.1) ∙ e)
    go false e (inr h) rec = let i = rec h in (i.0, inr i.1)

-- "0 means taken."
pub first_none : (j : ℕ) (rs : Refusals) → T (ascending j rs) → first rs ≡ 0 → (k : ℕ) → Applies k rs → ⊥
first_none j rs t e k a = omega (arith, above j rs t (first rs) (first_lowest j rs t k a).1)

-- A second list is looked at where the first has nothing to say.
pub first_behind : (j : ℕ) (rs ss : Refusals) → T (ascending j rs) → first (rs ++ ss) ≡ cond (eqb (first rs) 0) (first ss) (first rs)
first_behind j [] ss t = refl
first_behind j (r ∷ rs) ss t = go r.1 (first_behind r.0 rs ss (and_r (ltb j r.0) (ascending r.0 rs) t))
  where
    some : r.0 ≡ 0 → ⊥
    some e = omega (arith, ltb→lt j r.0 (and_l (ltb j r.0) (ascending r.0 rs) t))

    go : (b : Bool) → first (rs ++ ss) ≡ cond (eqb (first rs) 0) (first ss) (first rs)
        → cond b r.0 (first (rs ++ ss)) ≡ cond (eqb (cond b r.0 (first rs)) 0) (first ss) (cond b r.0 (first rs))
    go true rec = sym (ap (λ c. cond c (first ss) r.0) (ne_eqb r.0 0 some))
    go false rec = rec

-- Where nothing applies of two lists, nothing does of the first.
pub front_none : (rs ss : Refusals) → T (ascending 0 rs) → first (rs ++ ss) ≡ 0 → first rs ≡ 0
front_none rs ss t e = go (eqb (first rs) 0) refl (sym (first_behind 0 rs ss t) ∙ e)
  where
    go : (b : Bool) → eqb (first rs) 0 ≡ b → cond b (first ss) (first rs) ≡ 0 → first rs ≡ 0
    go true q z = eqb-true (first rs) 0 q
    go false q z = z

-- ---- test by test

-- No test of the list passes.
abbrev pub Clear : Refusals → Type 0
Clear [] = Unit {0}
Clear (r ∷ rs) = T (not r.1) × Clear rs

pub clear : (j : ℕ) (rs : Refusals) → T (ascending j rs) → first rs ≡ 0 → Clear rs
clear j [] t e = tt
clear j (r ∷ rs) t e = go r.1 e (clear r.0 rs (and_r (ltb j r.0) (ascending r.0 rs) t))
  where
    go : (b : Bool) → cond b r.0 (first rs) ≡ 0 → (first rs ≡ 0 → Clear rs) → T (not b) × Clear rs
    go true z rest = absurd (omega (arith, ltb→lt j r.0 (and_l (ltb j r.0) (ascending r.0 rs) t)))
    go false z rest = (tt, rest z)

pub clear_none : (rs : Refusals) → Clear rs → first rs ≡ 0
clear_none [] c = refl
clear_none (r ∷ rs) c = ap (λ b. cond b r.0 (first rs)) (false_is r.1 c.0) ∙ clear_none rs c.1

-- Two lists together.
pub clear_behind : (rs ss : Refusals) → Clear (rs ++ ss) → Clear ss
clear_behind [] ss c = c
clear_behind (r ∷ rs) ss c = clear_behind rs ss c.1

pub clear_both : (rs ss : Refusals) → Clear rs → Clear ss → Clear (rs ++ ss)
clear_both [] ss c d = d
clear_both (r ∷ rs) ss c d = (c.0, clear_both rs ss c.1 d)

-- Two lists, of which the first gives no number and the second has no test that passes.
pub none_both : (rs ss : Refusals) → T (ascending 0 rs) → first rs ≡ 0 → Clear ss → first (rs ++ ss) ≡ 0
none_both rs ss up e c = clear_none (rs ++ ss) (clear_both rs ss (clear 0 rs up e) c)

-- The test that a list has under number k, if it has one.
abbrev pub under : ℕ → Refusals → Bool
under k [] = false
under k (r ∷ rs) = cond (eqb r.0 k) r.1 (under k rs)

-- Where no test passes, that one does not.
pub unless : (k : ℕ) (rs : Refusals) → Clear rs → T (not (under k rs))
unless k [] c = tt
unless k (r ∷ rs) c = go (eqb r.0 k) (unless k rs c.1)
  where
    go : (b : Bool) → T (not (under k rs)) → T (not (cond b r.1 (under k rs)))
    go true later = c.0
    go false later = later

-- ---- by name

-- A refusal is the one with its number.
pub refusal_number : (why : Refusal) → refusal (number why) ≡ why
refusal_number = elim [
  | HouseSize ↦ refl
  | FaultySeats ↦ refl
  | OwnSeat ↦ refl
  | OwnEntry ↦ refl
  | NoView ↦ refl
  | Sender ↦ refl
  | Mark ↦ refl
  | View ↦ refl
  | Leader ↦ refl
  | Entry ↦ refl
  | Certificate ↦ refl
  | Again ↦ refl
  | Stage ↦ refl
  | Vote ↦ refl
  | Rows ↦ refl
  | Selection ↦ refl
  | OlderView ↦ refl
  | OtherEntry ↦ refl
  | Line ↦ refl
  | Room ↦ refl
  | Unwritable ↦ refl
]

-- A number of the table is that of its refusal.
abbrev pub known : ℕ → Bool
known k = eqb (number (refusal k)) k

abbrev pub named : Refusals → Bool
named [] = true
named (r ∷ rs) = known r.0 && named rs

-- The number of what a table says is the lowest that applies.
pub number_judged : (rs : Refusals) → T (named rs) → number_of (judged rs) ≡ first rs
unfolding number_of
number_judged [] t = refl
number_judged (r ∷ rs) t = go r.1 (number_judged rs (and_r (known r.0) (named rs) t))
  where
    go : (b : Bool) → number_of (judged rs) ≡ first rs → number_of (cond b (Err (refusal r.0)) (judged rs)) ≡ cond b r.0 (first rs)
    go true rec = eqb-true (number (refusal r.0)) r.0 (true_is (known r.0) (and_l (known r.0) (named rs) t))
    go false rec = rec

-- A refusal is not none.
abbrev taken : Result (Unit {0}) Refusal → Bool
taken (Ok x) = true
taken (Err why) = false

apart : {why : Refusal} → ◌≡◌ {A = Result (Unit {0}) Refusal} (Err why) (Ok tt) → ⊥
apart e = true≢false (sym (ap taken e))

-- What a table says where it gives number 0, and where it gives another.
pub judged_first : (j : ℕ) (rs : Refusals) → T (ascending j rs) → judged rs ≡ cond (eqb (first rs) 0) (Ok tt) (Err (refusal (first rs)))
judged_first j [] t = refl
judged_first j (r ∷ rs) t = go r.1 (judged_first r.0 rs (and_r (ltb j r.0) (ascending r.0 rs) t))
  where
    some : r.0 ≡ 0 → ⊥
    some e = omega (arith, ltb→lt j r.0 (and_l (ltb j r.0) (ascending r.0 rs) t))

    go : (b : Bool) → judged rs ≡ cond (eqb (first rs) 0) (Ok tt) (Err (refusal (first rs)))
        → cond b (Err (refusal r.0)) (judged rs)
        ≡ cond (eqb (cond b r.0 (first rs)) 0) (Ok tt) (Err (refusal (cond b r.0 (first rs))))
    go true rec = sym (ap (λ c. cond c (Ok tt) (Err (refusal r.0))) (ne_eqb r.0 0 some))
    go false rec = rec

-- "0 means taken": where no number is given, nothing is refused.
pub judged_none : (rs : Refusals) → T (ascending 0 rs) → first rs ≡ 0 → judged rs ≡ Ok tt
judged_none rs t e = judged_first 0 rs t ∙ ap (λ b. cond b (Ok tt) (Err (refusal (first rs)))) (eq-eqb (first rs) 0 e)

-- A second table is looked at where no test of the first passes.
pub judged_behind : (rs ss : Refusals) → Clear rs → judged (rs ++ ss) ≡ judged ss
judged_behind [] ss c = refl
judged_behind (r ∷ rs) ss c = ap (λ b. cond b (Err (refusal r.0)) (judged (rs ++ ss))) (false_is r.1 c.0) ∙ judged_behind rs ss c.1

pub judged_ok : (rs ss : Refusals) → judged rs ≡ Ok tt → judged (rs ++ ss) ≡ judged ss
judged_ok [] ss e = refl
judged_ok (r ∷ rs) ss e = go r.1 e (judged_ok rs ss)
  where
    go : (b : Bool) → cond b (Err (refusal r.0)) (judged rs) ≡ Ok tt → (judged rs ≡ Ok tt → judged (rs ++ ss) ≡ judged ss)
        → cond b (Err (refusal r.0)) (judged (rs ++ ss)) ≡ judged ss
    go true q rec = absurd (apart q)
    go false q rec = rec q

pub judged_err : (rs ss : Refusals) (why : Refusal) → judged rs ≡ Err why → judged (rs ++ ss) ≡ Err why
judged_err [] ss why e = absurd (apart (sym e))
judged_err (r ∷ rs) ss why e = go r.1 e (judged_err rs ss why)
  where
    go : (b : Bool) → cond b (Err (refusal r.0)) (judged rs) ≡ Err why → (judged rs ≡ Err why → judged (rs ++ ss) ≡ Err why)
        → cond b (Err (refusal r.0)) (judged (rs ++ ss)) ≡ Err why
    go true q rec = q
    go false q rec = rec q
