-- 01: "its contract leaves one possible answer for each input, refusals included, with each byte of lent memory afterwards". Here is what
-- it means that a contract, as the toolchain holds it, asks nothing and says the answer. `proofs/Contracts.antt` of each library says it of
-- every public function; that such a contract leaves one answer is `one_answer` in ContractLaws.antt.
use Rattle.std.specs.Prelude.{ℕ, zero, suc, ◌<◌, ◌^◌, ◌≡◌, List, [], ◌∷◌, ◌++◌}
use base.Logic.{SProp, emp, ex, sep}
use base.Fml.{Lft}
use prog.Memory.{Memory, size}
use prog.Routine.{Routine}
use types.Logic.{Logic, sem}
use contract.Monad.{Fun, fact}
use contract.Lifetimes.{Lfts}
use contract.BorrowLft.{◌⊑◌}
use denote.Exit.{Exit, Last, unchanged, leaves}
use denote.RattleType.{RattleType, Denots}
use denote.Param.{layout, copied}
use denote.Array.{Array}
use Rattle.std.specs.Borrow.{Bor}
use denote.Signature.{Slot, types_at}
use denote.Triple.Clauses.{Ended, Lasts, lasts}
use denote.Triple.End.{Kepts, Fins}
use denote.Triple.Entry.{Args, Res}
use denote.Triple.Spec.{Spec}
use borrow.Fn.World.{World}

-- ---- what is returned

-- A value; a part of lent memory, of which the caller sees the bytes; nothing.
pub data Returned : Type 0 → Type 1 where
  value : {R : Type 0} → R → Returned R
  part : {X : Type 0} → X → Returned (Bor X)
  nothing : Returned (Unit {0})

abbrev pub returned_is : {R : Type 0} → Returned R → R → List (Type 0)
returned_is (value d) r = (r ≡ d) ∷ []
returned_is (part d) r = (r.now ≡ d) ∷ []
returned_is nothing r = []

-- ---- memory that is lent to be written

-- What is in it afterwards, of each parameter that lends some. The kit's `Exit` tells of a parameter's type whether it does: `unchanged`, or
-- `leaves` with the type of the last value.
abbrev pub LastValue : {D : Type 0} → Exit D → D → Type 0 → Type 0
LastValue unchanged x rest = rest
LastValue (leaves L l S s r₀) x rest = L x × rest

abbrev pub LastValues : {n : ℕ} (κs : Lfts n) (ss : List (Slot n)) (ks : Kepts ss) → Denots (types_at ss κs) → Type 0
LastValues κs [] ks a = Unit {0}
LastValues κs (s ∷ ss) ks a = LastValue ((s.row κs).exit ks.0) a.0 (LastValues κs ss ks.1 a.1)

abbrev pub last_is : {D : Type 0} (e : Exit D) (x : D) {Rest : Type 0} → (Rest → List (Type 0)) → LastValue e x Rest → Last e x → List (Type 0)
last_is unchanged x rest d w = rest d
last_is (leaves L l S s r₀) x rest d w = (w ≡ d.0) ∷ rest d.1

abbrev pub lasts_are : {n : ℕ} (κs : Lfts n) (ss : List (Slot n)) (ks : Kepts ss) (a : Denots (types_at ss κs)) → LastValues κs ss ks a → Fins κs ss ks a → List (Type 0)
lasts_are κs [] ks a d ws = []
lasts_are κs (s ∷ ss) ks a d ws = last_is ((s.row κs).exit ks.0) a.0 (λ e. lasts_are κs ss ks.1 a.1 e ws.1) d ws.0

-- ---- the answer: what is returned, and the lent memory afterwards

-- Facts one beside the other, as a contract has them: one product, and not pairs of pairs. No contract has more than eight.
abbrev pub every : List (Type 0) → Type 0
every [] = Unit {0}
every (p ∷ []) = p
every (p ∷ q ∷ []) = p × q
every (p ∷ q ∷ r ∷ []) = p × q × r
every (p ∷ q ∷ r ∷ s ∷ []) = p × q × r × s
every (p ∷ q ∷ r ∷ s ∷ t ∷ []) = p × q × r × s × t
every (p ∷ q ∷ r ∷ s ∷ t ∷ u ∷ []) = p × q × r × s × t × u
every (p ∷ q ∷ r ∷ s ∷ t ∷ u ∷ v ∷ []) = p × q × r × s × t × u × v
every (p ∷ q ∷ r ∷ s ∷ t ∷ u ∷ v ∷ w ∷ []) = p × q × r × s × t × u × v × w
every (p ∷ q ∷ r ∷ s ∷ t ∷ u ∷ v ∷ w ∷ x ∷ xs) = p × every (q ∷ r ∷ s ∷ t ∷ u ∷ v ∷ w ∷ x ∷ xs)

module _ (T : Ended) (κs : Lfts T.signature.lifetimes) (a : Args T.signature κs) where
  abbrev pub Promised : Type 1
  Promised = Returned (Res T.signature κs) × LastValues κs T.signature.params T.kept a

  -- A call that returned r and left ws has given the answer d.
  abbrev pub Gave : Promised → Res T.signature κs → Lasts T κs a → Type 0
  Gave d r ws = every (returned_is d.0 r ++ lasts_are κs T.signature.params T.kept a d.1 ws)

-- The usual answers: the function gives a value; it shows a part of lent memory; memory lent to be written becomes this; a value, and that.
abbrev pub gives : {R : Type 0} → R → Returned R × Unit {0}
gives d = (value d, tt)

abbrev pub shows : {X : Type 0} → X → Returned (Bor X) × Unit {0}
shows d = (part d, tt)

abbrev pub becomes : {X : Type 0} → X → Returned (Unit {0}) × (X × Unit {0})
becomes e = (nothing, (e, tt))

abbrev pub gives_and : {R X : Type 0} → R → X → Returned R × (X × Unit {0})
gives_and d e = (value d, (e, tt))

-- ---- the lifetime of a call: the last one
abbrev pub of_call : (n : ℕ) → Lfts n → Lft
of_call zero κs = []
of_call (suc zero) κs = κs.0
of_call (suc (suc n)) κs = of_call (suc n) κs.1

-- ---- a contract, in a world in which its function runs (the kit's theorem about a function holds in all of them; it has one, `w₀`)
module _ (w : World) where
  abbrev pub Contract : Ended → Type 2
  Contract T = Logic w.𝓤 → (Memory → SProp w.𝓤) → (Routine → Fun w.𝓤) → Spec w.𝓤 T.signature

  -- It asks this, and says that the answer is this function of the arguments.
  abbrev pub Says : (T : Ended) → Contract T → (Lfts T.signature.lifetimes → SProp w.𝓤) → ((κs : Lfts T.signature.lifetimes) (a : Args T.signature κs) → Promised T κs a) → Type 2
  Says T contract asked answer =
      (κs : Lfts T.signature.lifetimes) (a : Args T.signature κs)
      → contract w.𝓛 w.𝓜.mem w.𝓡.returns κs a
      ≡ record {
        ghost = Unit {0};
        requires = λ g. asked κs;
        ensures = λ g r.
            ex w.𝓤 (λ (ws : Lasts T κs a).
            sep w.𝓤 (sem w.𝓛 (lasts T κs a ws)) (fact w.𝓤 (Gave T κs a (answer κs a) r ws)));
      }

  -- It asks nothing.
  abbrev pub Exact : (T : Ended) → Contract T → ((κs : Lfts T.signature.lifetimes) (a : Args T.signature κs) → Promised T κs a) → Type 2
  Exact T contract answer = Says T contract (λ κs. emp w.𝓤) answer

  -- Of a function for every type X: the toolchain gives it the lifetime of the call, the last one, within those that values of X name. This
  -- is so of each call there is, and says nothing of what is handed in. It asks nothing else.
  abbrev pub ExactOf : RattleType → (T : Ended) → Contract T → ((κs : Lfts T.signature.lifetimes) (a : Args T.signature κs) → Promised T κs a) → Type 2
  ExactOf X T contract answer = Says T contract (λ κs. sep w.𝓤 (fact w.𝓤 (of_call T.signature.lifetimes κs ⊑ X.lives)) (emp w.𝓤)) answer

  -- The same of a function that is lent an array of n of them. The toolchain gives it besides that such an array has less than 2 ^ 63
  -- bytes, as every type of a program has.
  abbrev pub ExactOver : RattleType → ℕ → (T : Ended) → Contract T → ((κs : Lfts T.signature.lifetimes) (a : Args T.signature κs) → Promised T κs a) → Type 2
  ExactOver X n T contract answer =
      Says T contract (λ κs.
      sep w.𝓤 (fact w.𝓤 (of_call T.signature.lifetimes κs ⊑ X.lives))
      (sep w.𝓤 (fact w.𝓤 (size (layout (Array (copied 0 X) n)) < 2 ^ 63)) (emp w.𝓤)))
      answer
