-- A contract that is exact leaves one answer: `one_answer`, for every signature at once.
use Rattle.std.specs.Prelude.{ℕ, ◌<◌, ◌^◌, ◌≡◌, refl, List, [], ◌∷◌, ◌++◌}
use Rattle.std.proofs.Common.{sym, subst, ap₂}
use base.Logic.{SProp, emp, ent, sep, ex_e, id⊢, mono∗, snd∗}
use Rattle.std.specs.Borrow.{sem}
use contract.Monad.{fact, fact_i, fact_use}
use contract.Lifetimes.{Lfts}
use contract.BorrowLft.{◌⊑◌}
use denote.Exit.{Exit, Last, unchanged, leaves}
use denote.RattleType.{RattleType, Denots}
use denote.Param.{layout, copied}
use denote.Array.{Array}
use prog.Memory.{size}
use denote.Signature.{Slot, types_at}
use denote.Triple.Clauses.{Ended, Lasts, lasts}
use denote.Triple.End.{Kepts, Fins}
use denote.Triple.Entry.{Args, Res}
use denote.Triple.Spec.{SpecAt}
use borrow.Fn.World.{World}
use Rattle.base.specs.ExactContracts.{Returned, value, part, nothing, returned_is, LastValue, LastValues, last_is, lasts_are, every, Promised, Gave, Contract, Says, Exact, ExactOf, ExactOver, of_call}

first_fact : (p : Type 0) (ps : List (Type 0)) → every (p ∷ ps) → p × every ps
first_fact p [] h = (h, tt)
first_fact p (q ∷ []) h = h
first_fact p (q ∷ r ∷ []) h = (h.0, (h.1, h.2))
first_fact p (q ∷ r ∷ s ∷ []) h = (h.0, (h.1, h.2, h.3))
first_fact p (q ∷ r ∷ s ∷ t ∷ []) h = (h.0, (h.1, h.2, h.3, h.4))
first_fact p (q ∷ r ∷ s ∷ t ∷ u ∷ []) h = (h.0, (h.1, h.2, h.3, h.4, h.5))
first_fact p (q ∷ r ∷ s ∷ t ∷ u ∷ v ∷ []) h = (h.0, (h.1, h.2, h.3, h.4, h.5, h.6))
first_fact p (q ∷ r ∷ s ∷ t ∷ u ∷ v ∷ w ∷ []) h = (h.0, (h.1, h.2, h.3, h.4, h.5, h.6, h.7))
first_fact p (q ∷ r ∷ s ∷ t ∷ u ∷ v ∷ w ∷ x ∷ xs) h = h

-- ---- what is returned

-- What was returned, or its bytes, is this.
abbrev pub IsReturned : {R : Type 0} → Returned R → R → Type 0
IsReturned (value d) r = r ≡ d
IsReturned (part d) r = r.now ≡ d
IsReturned nothing r = Unit {0}

returned_is_lem : {R : Type 0} (d : Returned R) (r : R) (ps : List (Type 0)) → every (returned_is d r ++ ps) → IsReturned d r × every ps
returned_is_lem (value d) r ps h = first_fact (r ≡ d) ps h
returned_is_lem (part d) r ps h = first_fact (r.now ≡ d) ps h
returned_is_lem nothing r ps h = (tt, h)

-- ---- what is left in lent memory
abbrev last_of : {D : Type 0} (e : Exit D) (x : D) (Rest : Type 0) → LastValue e x Rest → Last e x
last_of unchanged x Rest d = tt
last_of (leaves L l S s r₀) x Rest d = d.0

abbrev rest_of : {D : Type 0} (e : Exit D) (x : D) (Rest : Type 0) → LastValue e x Rest → Rest
rest_of unchanged x Rest d = d
rest_of (leaves L l S s r₀) x Rest d = d.1

-- The last values, one for each parameter, of which those that lend nothing have none.
abbrev pub lasts_of : {n : ℕ} (κs : Lfts n) (ss : List (Slot n)) (ks : Kepts ss) (a : Denots (types_at ss κs)) → LastValues κs ss ks a → Fins κs ss ks a
lasts_of κs [] ks a d = tt
lasts_of κs (s ∷ ss) ks a d =
    let e = (s.row κs).exit ks.0 in
    let Rest = LastValues κs ss ks.1 a.1 in
    (last_of e a.0 Rest d, lasts_of κs ss ks.1 a.1 (rest_of e a.0 Rest d))

last_is_lem : {D : Type 0} (e : Exit D) (x : D) (Rest : Type 0) (f : Rest → List (Type 0)) (d : LastValue e x Rest) (w : Last e x)
    → every (last_is e x f d w) → (w ≡ last_of e x Rest d) × every (f (rest_of e x Rest d))
last_is_lem unchanged x Rest f d w h = (refl, h)
last_is_lem (leaves L l S s r₀) x Rest f d w h = first_fact (w ≡ d.0) (f d.1) h

lasts_are_lem : {n : ℕ} (κs : Lfts n) (ss : List (Slot n)) (ks : Kepts ss) (a : Denots (types_at ss κs)) (d : LastValues κs ss ks a) (ws : Fins κs ss ks a)
    → every (lasts_are κs ss ks a d ws) → ws ≡ lasts_of κs ss ks a d
lasts_are_lem κs [] ks a d ws h = refl
lasts_are_lem κs (s ∷ ss) ks a d ws h =
    let e = (s.row κs).exit ks.0 in
    let Rest = LastValues κs ss ks.1 a.1 in
    let z = last_is_lem e a.0 Rest (λ d. lasts_are κs ss ks.1 a.1 d ws.1) d ws.0 h in
    ap₂ (λ x y. (x, y)) z.0 (lasts_are_lem κs ss ks.1 a.1 (rest_of e a.0 Rest d) ws.1 z.1)

-- ---- both
module _ (w : World) (T : Ended) (contract : Contract w T) (answer : (κs : Lfts T.signature.lifetimes) (a : Args T.signature κs) → Promised T κs a)
    (κs : Lfts T.signature.lifetimes) (a : Args T.signature κs) where
  abbrev lasts_left : Lasts T κs a
  lasts_left = lasts_of κs T.signature.params T.kept a (answer κs a).1

  -- What a contract promises of r gives: this was returned, and these are the last values of all that was lent. All of it is a function of
  -- the arguments, so there is one answer.
  abbrev pub OneAnswer : SpecAt w.𝓤 T.signature κs → Type 1
  OneAnswer c = (g : c.ghost) (r : Res T.signature κs) → ent w.𝓤 (c.ensures g r)
      (sep w.𝓤 (sem w.𝓛 (lasts T κs a lasts_left)) (fact w.𝓤 (IsReturned (answer κs a).0 r)))

  pub one_answer_of : (asked : Lfts T.signature.lifetimes → SProp w.𝓤) → Says w T contract asked answer → OneAnswer (contract w.𝓛 w.𝓜.mem w.𝓡.returns κs a)
  one_answer_of asked exact = subst OneAnswer (sym (exact κs a)) (λ g r. ex_e w.𝓤 _ (λ ws. given r ws))
    where
      last : Lasts T κs a → SProp w.𝓤
      last ws = sem w.𝓛 (lasts T κs a ws)

      given : (r : Res T.signature κs) (ws : Lasts T κs a)
          → ent w.𝓤 (sep w.𝓤 (last ws) (fact w.𝓤 (Gave T κs a (answer κs a) r ws))) (sep w.𝓤 (last lasts_left) (fact w.𝓤 (IsReturned (answer κs a).0 r)))
      given r ws =
          let p = Gave T κs a (answer κs a) r ws in
          let q = IsReturned (answer κs a).0 r in
          fact_use w.𝓤 p (snd∗ w.𝓤 (last ws) (fact w.𝓤 p)) (λ h.
          let z = returned_is_lem (answer κs a).0 r (lasts_are κs T.signature.params T.kept a (answer κs a).1 ws) h in
          mono∗ w.𝓤
          (subst (λ v. ent w.𝓤 (last ws) (last v)) (lasts_are_lem κs T.signature.params T.kept a (answer κs a).1 ws z.1) (id⊢ w.𝓤 (last ws)))
          (fact_i w.𝓤 q (fact w.𝓤 p) z.0))

  pub one_answer : Exact w T contract answer → OneAnswer (contract w.𝓛 w.𝓜.mem w.𝓡.returns κs a)
  one_answer exact = one_answer_of (λ κs. emp w.𝓤) exact

  -- The same of a function for every type.
  pub one_answer_any : (X : RattleType) → ExactOf w X T contract answer → OneAnswer (contract w.𝓛 w.𝓜.mem w.𝓡.returns κs a)
  one_answer_any X exact = one_answer_of (λ κs. sep w.𝓤 (fact w.𝓤 (of_call T.signature.lifetimes κs ⊑ X.lives)) (emp w.𝓤)) exact

  pub one_answer_over : (X : RattleType) (n : ℕ) → ExactOver w X n T contract answer → OneAnswer (contract w.𝓛 w.𝓜.mem w.𝓡.returns κs a)
  one_answer_over X n exact = one_answer_of
      (λ κs.
      sep w.𝓤 (fact w.𝓤 (of_call T.signature.lifetimes κs ⊑ X.lives))
      (sep w.𝓤 (fact w.𝓤 (size (layout (Array (copied 0 X) n)) < 2 ^ 63)) (emp w.𝓤)))
      exact
