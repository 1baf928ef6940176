-- Runs that compute: a list of happenings, the house after them, and a test that passes only where they are a run.
use Rattle.std.specs.Prelude.{ℕ, zero, suc, ◌≡◌, refl, Bool, true, false, not, ◌&&◌, ◌||◌, List, [], ◌∷◌, ◌⊎◌, T, eqb, ltb}
use Rattle.std.proofs.Common.{sym, subst, ◌∙◌, inl, inr, T_not, eqb→eq, ltb→lt}
use Rattle.std.proofs.Math.Option.{Option, none, some}
use Rattle.base.specs.Tests.{and_l, and_r}
use Rattle.entry.specs.declared.Entry.{Entry}
use Rattle.entry.specs.Entry.{well_formed, same}
use Rattle.entry.specs.Laws.{same_eq}
use Rattle.seats.specs.declared.View.{View}
use Rattle.votes.specs.declared.Vote.{Vote}
use Rattle.votes.specs.declared.Row.{Row}
use Rattle.messages.specs.declared.Message.{Message}
use Rattle.replica.specs.Steps.{setup_step, step}
use Rattle.replica.specs.house.Claims.{Statement, proposes, acknowledges, votes, asks, confirms, Claim, claims}
use Rattle.replica.specs.house.Runs.{Member, begun, after, Members, placed, Among, all_said, sent_by, Said, Correct, Covered}
use Rattle.replica.specs.house.Runs.{Run, nobody, begins, takes}

-- ---- the happenings of a house of n and f

-- A seat begins with its own entry, or is handed a message, and with a Q its rows.
pub data Happening : Type 0 where
  begin : ℕ → Entry → Happening
  hand : ℕ → Message → List Row → Happening

-- What is handed to a seat that has not begun is lost.
abbrev handed : Members → ℕ → Option Member → Message → List Row → Members
handed h k none message rows = h
handed h k (some m) message rows = placed h k (after m (step m.replica message rows))

module _ (n f : ℕ) where
  abbrev next : Members → Happening → Members
  next h (begin k own) = placed h k (begun (setup_step n f (record { 0 = k }) own))
  next h (hand k message rows) = handed h k (h k) message rows

  abbrev later : Members → List Happening → Members
  later h [] = h
  later h (x ∷ xs) = later (next h x) xs

  -- The house after all of them, in the order of the list.
  abbrev pub house : List Happening → Members
  house xs = later (λ k. none) xs

-- ---- tests: where one passes, it tells that A holds
pub record Test (A : Type 0) : Type 0 where
  pub passes : Bool
  pub tells : T passes → A

abbrev test : {A : Type 0} (b : Bool) → (T b → A) → Test A
test b t = record { passes = b; tells = t }

abbrev holds : (b : Bool) → Test (T b)
holds b = test b (λ t. t)

abbrev so : {A B : Type 0} → (A → B) → Test A → Test B
so g s = test s.passes (λ t. g (s.tells t))

abbrev both : {A B : Type 0} → Test A → Test B → Test (A × B)
both r s = test (r.passes && s.passes) (λ t. (r.tells (and_l r.passes s.passes t), s.tells (and_r r.passes s.passes t)))

pub or_cases : (a b : Bool) → T (a || b) → T a ⊎ T b
or_cases true b t = inl tt
or_cases false b t = inr t

abbrev either : {A B : Type 0} → Test A → Test B → Test (A ⊎ B)
either r s = test (r.passes || s.passes) (λ t. elim (or_cases r.passes s.passes t) [ inl u ↦ inl (r.tells u) | inr u ↦ inr (s.tells u) ])

-- ---- equal claims
abbrev same_number : (m n : ℕ) → Test (m ≡ n)
same_number m n = test (eqb m n) (eqb→eq m n)

abbrev same_view : (u v : View) → Test (u ≡ v)
same_view u v = so (λ p. λ i. record { 0 = p i }) (same_number u.0 v.0)

abbrev same_flag : (a b : Bool) → Test (a ≡ b)
same_flag true true = test true (λ t. refl)
same_flag true false = test false (λ t. absurd t)
same_flag false true = test false (λ t. absurd t)
same_flag false false = test true (λ t. refl)

abbrev same_vote : (x y : Vote) → Test (x ≡ y)
same_vote x y =
    so (λ p. λ i. record { entry = p.0 i; mask = p.1.0 i; view = p.1.1.0 i; cast = p.1.1.1.0 i; verified = p.1.1.1.1 i })
    (both (test (same x.entry y.entry) (same_eq x.entry y.entry))
    (both (same_number x.mask y.mask)
    (both (same_view x.view y.view)
    (both (same_flag x.cast y.cast) (same_flag x.verified y.verified)))))

-- A statement's kind, view and vote. Kinds other than a vote have an entry alone.
abbrev alone : Entry → Vote
alone e = record { entry = e; mask = 0; view = record { 0 = 0 }; cast = false; verified = false }

abbrev parts : Statement → ℕ × View × Vote
parts (proposes v e) = (0, v, alone e)
parts (acknowledges v e) = (1, v, alone e)
parts (votes v x) = (2, v, x)
parts (asks v e) = (3, v, alone e)
parts (confirms v e) = (4, v, alone e)

abbrev joined : ℕ → View → Vote → Statement
joined zero v x = proposes v x.entry
joined (suc zero) v x = acknowledges v x.entry
joined (suc (suc zero)) v x = votes v x
joined (suc (suc (suc zero))) v x = asks v x.entry
joined (suc (suc (suc (suc k)))) v x = confirms v x.entry

pub parts_back : (s : Statement) → joined (parts s).0 (parts s).1 (parts s).2 ≡ s
parts_back (proposes v e) = refl
parts_back (acknowledges v e) = refl
parts_back (votes v x) = refl
parts_back (asks v e) = refl
parts_back (confirms v e) = refl

-- So its parts tell a statement.
abbrev same_statement : (s t : Statement) → Test (s ≡ t)
same_statement s t =
    so (λ p. sym (parts_back s) ∙ (λ i. joined (p.0 i) (p.1.0 i) (p.1.1 i)) ∙ parts_back t)
    (both (same_number (parts s).0 (parts t).0) (both (same_view (parts s).1 (parts t).1) (same_vote (parts s).2 (parts t).2)))

abbrev same_claim : (c d : Claim) → Test (c ≡ d)
same_claim c d = so (λ p. λ i. (p.0 i, p.1 i)) (both (same_number c.0 d.0) (same_statement c.1 d.1))

-- ---- runs
abbrev among : (c : Claim) (xs : List Claim) → Test (Among c xs)
among c [] = holds false
among c (x ∷ xs) = either (same_claim c x) (among c xs)

abbrev not_begun : (o : Option Member) → Test (o ≡ none)
not_begun none = test true (λ t. refl)
not_begun (some m) = test false (λ t. absurd t)

module _ (n f : ℕ) (faulty : ℕ → Bool) where
  abbrev correct : (k : ℕ) → Test (Correct n faulty k)
  correct k = both (test (ltb k n) (ltb→lt k n)) (holds (not (faulty k)))

  -- A claim of a seat that is not faulty must be one that it made itself.
  abbrev backed : (h : Members) (c : Claim) → Test (Correct n faulty c.0 → Said h c)
  backed h c =
      so (λ p right. elim p [ inl t ↦ absurd (T_not (faulty c.0) right.1 t) | inr s ↦ s ])
      (either (holds (faulty c.0)) (among c (all_said (sent_by (h c.0)))))

  abbrev covered : (h : Members) (cs : List Claim) → Test ((c : Claim) → Among c cs → Correct n faulty c.0 → Said h c)
  covered h [] = test true (λ t c m. absurd m)
  covered h (d ∷ cs) =
      so (λ p c m. elim m [ inl e ↦ subst (λ x. Correct n faulty x.0 → Said h x) (sym e) p.0 | inr l ↦ p.1 c l ])
      (both (backed h d) (covered h cs))

  -- Whether the seat has begun or not.
  pub hand_run : (h : Members) (k : ℕ) (message : Message) (rows : List Row) → Correct n faulty k → Covered n faulty h message rows
      → Run n f faulty h → Run n f faulty (handed h k (h k) message rows)
  hand_run h k message rows right cover r = go (h k) refl
    where
      go : (o : Option Member) → h k ≡ o → Run n f faulty (handed h k o message rows)
      go none e = r
      go (some m) e = takes r k right m e message rows cover

  abbrev may_happen : (h : Members) (x : Happening) → Test (Run n f faulty h → Run n f faulty (next n f h x))
  may_happen h (begin k own) = so (λ p r. begins r k p.0 p.1.0 own p.1.1) (both (correct k) (both (not_begun (h k)) (holds (well_formed own))))
  may_happen h (hand k message rows) = so (λ p. hand_run h k message rows p.0 p.1) (both (correct k) (covered h (claims n message rows)))

  abbrev may_follow : (h : Members) (xs : List Happening) → Test (Run n f faulty h → Run n f faulty (later n f h xs))
  may_follow h [] = test true (λ t r. r)
  may_follow h (x ∷ xs) = so (λ p r. p.1 (p.0 r)) (both (may_happen h x) (may_follow (next n f h x) xs))

  -- Where it passes, these happenings are a run.
  abbrev pub is_run : (xs : List Happening) → Test (Run n f faulty (house n f xs))
  is_run xs = so (λ p. p nobody) (may_follow (λ k. none) xs)
