-- What the seats did in a run, seen from outside, and when an entry is safe: the paper's section 3, over any history.
use Rattle.std.specs.Prelude.{ℕ, ◌≤◌, ◌<◌, ◌≡◌, Bool, not, T}
use Rattle.entry.specs.declared.Entry.{Entry}
use Rattle.seats.specs.Seats.{count}
use Rattle.votes.specs.declared.Vote.{Vote}
use Rattle.votes.specs.declared.Choice.{Choice}

-- By seat number: the view it is in, and what it sent.
pub record History : Type 1 where
  -- "the current view"
  pub view : ℕ → ℕ
  -- "sends A for that entry and view": seat, view, entry
  pub acked : ℕ → ℕ → Entry → Type 0
  -- "sends C for its entry"
  pub confirmed : ℕ → ℕ → Entry → Type 0
  -- "sends P"
  pub proposed : ℕ → ℕ → Entry → Type 0
  -- "Sends V, its vote for view v"
  pub voted : ℕ → ℕ → Vote → Type 0

-- A vote tells of an acknowledgement of e in view w: it is of that view and entry, or of a later view.
pub record Covers (x : Vote) (w : ℕ) (e : Entry) : Type 0 where
  pub cast : T x.cast
  pub up : w ≤ x.view.0
  pub same : w ≡ x.view.0 → e ≡ x.entry

-- What an answer of the selection leaves open: nothing at a wait, every entry where it is free, the one it is forced to.
abbrev pub Leaves : Choice → Entry → Type 0
Leaves Choice.Wait x = ⊥
Leaves Choice.Free x = Unit {0}
Leaves (Choice.Forced y) x = y ≡ x

-- n seats, at most f of them faulty: `bad` says which.
module _ (n f : ℕ) (bad : ℕ → Bool) where
  -- y lacks the seats to be decided in view w: more than f correct seats have left w and did not acknowledge y there.
  -- This speaks of the history so far; that later steps keep it is shown where runs are.
  pub record Dead (h : History) (w : ℕ) (y : Entry) : Type 0 where
    pub blocks : ℕ → Bool
    pub many : f < count blocks n
    pub correct : (k : ℕ) → k < n → T (blocks k) → T (not (bad k))
    pub left : (k : ℕ) → k < n → T (blocks k) → w < h.view k
    pub silent : (k : ℕ) → k < n → T (blocks k) → h.acked k w y → ⊥

  -- x is safe in view v: every other entry is dead in every view before v.
  abbrev pub Safe : History → ℕ → Entry → Type 0
  Safe h v x = (w : ℕ) (y : Entry) → 1 ≤ w → w < v → (y ≡ x → ⊥) → Dead h w y

  -- What a correct seat keeps to, as the selection for view v needs it.
  pub record Honest (h : History) (v : ℕ) : Type 0 where
    -- It sends its vote for a view on entering that view, and the vote tells of each acknowledgement before.
    pub tells : (k : ℕ) → k < n → T (not (bad k)) → (u : ℕ) (x : Vote) → h.voted k u x
        → (u ≤ h.view k) × ((w : ℕ) (e : Entry) → w < u → h.acked k w e → Covers x w e)
    -- No "correct leader proposing twice in one view".
    pub once : (k : ℕ) → k < n → T (not (bad k)) → (u : ℕ) (x y : Entry) → h.proposed k u x → h.proposed k u y → x ≡ y
    -- What it confirmed before v is safe: the induction hypothesis of the paper's section 3.3.
    pub sound : (k : ℕ) → k < n → T (not (bad k)) → (u : ℕ) (x : Entry) → u < v → h.confirmed k u x → Safe h u x
