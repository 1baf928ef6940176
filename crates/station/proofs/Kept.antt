-- An answer, and a replica left in the caller's arrays.
use Prim.Native.Nat.{ℕ}
use mathlib.Core.Path.{◌≡◌, refl, subst}
use mathlib.Core.List.{List}
use Rattle.replica.specs.declared.Replica.{Replica}
use Rattle.station.specs.Words.{scalars_of}

-- What a call answers and leaves in the six arrays, of a number and a replica.
abbrev pub Leaves : ℕ → Replica → ℕ → List ℕ → List ℕ → List ℕ → List ℕ → List ℕ → List ℕ → Type 0
Leaves number s answer scalars ackEntries ackViews voteEntries voteMasks voteViews =
    (answer ≡ number)
    × (scalars ≡ scalars_of s)
    × (ackEntries ≡ s.acks.entries)
    × (ackViews ≡ s.acks.views)
    × (voteEntries ≡ s.votes.votes.entries)
    × (voteMasks ≡ s.votes.votes.masks)
    × (voteViews ≡ s.votes.votes.views)

-- A call computes t and leaves its replica, as `keep` does; its contract speaks of u.
pub kept : {A : Type 0} {t u : A} (number : A → ℕ) (next : A → Replica) {scalars ackEntries ackViews voteEntries voteMasks voteViews : List ℕ}
    → t ≡ u
    → (scalars ≡ scalars_of (next t))
    × (ackEntries ≡ (next t).acks.entries)
    × (ackViews ≡ (next t).acks.views)
    × (voteEntries ≡ (next t).votes.votes.entries)
    × (voteMasks ≡ (next t).votes.votes.masks)
    × (voteViews ≡ (next t).votes.votes.views)
    → Leaves (number u) (next u) (number t) scalars ackEntries ackViews voteEntries voteMasks voteViews
kept {A} {t} number next {scalars} {ackEntries} {ackViews} {voteEntries} {voteMasks} {voteViews} e k =
    subst
    (λ (x : A). Leaves (number x) (next x) (number t) scalars ackEntries ackViews voteEntries voteMasks voteViews)
    e
    (refl, k.0, k.1, k.2, k.3, k.4, k.5)
