-- What marks and mask bits claim of correct seats: "Let a verified mark or mask bit for a correct seat appear only for a statement
-- that this seat sent."
use Rattle.std.specs.Prelude.{ℕ, ◌≤◌, ◌<◌, Bool, true, not, List, [], ◌∷◌, T}
use Rattle.seats.specs.declared.View.{View}
use Rattle.seats.specs.Seats.{leader}
use Rattle.seats.specs.Mask.{bit}
use Rattle.votes.specs.declared.Vote.{Vote}
use Rattle.votes.specs.declared.Row.{Row}
use Rattle.votes.specs.declared.VoteRows.{VoteRows}
use Rattle.votes.specs.Vote.{valid}
use Rattle.votes.specs.Rows.{vote_at}
use Rattle.votes.specs.History.{History}

module _ (n : ℕ) (bad : ℕ → Bool) (h : History) where
  -- A V of seat k for view v with vote x, verified or not.
  pub record Claim (mark : Bool) (k v : ℕ) (x : Vote) : Type 0 where
    -- "A message's mark speaks for its sender and covers .. in V, view and the whole vote"
    pub said : T mark → k < n → T (not (bad k)) → h.voted k v x
    -- "The mark inside a vote speaks for the leader of u and covers P, u and entry." Nobody leads view 0.
    pub led : T x.cast → T x.verified → 1 ≤ x.view.0 → T (not (bad (leader x.view.0 n))) → h.proposed (leader x.view.0 n) x.view.0 x.entry
    -- "A mask bit covers that seat's C for that view and entry."
    pub signed : T x.cast → (j : ℕ) → j < n → T (bit x.mask j) → T (not (bad j)) → h.confirmed j x.view.0 x.entry

  -- The rows of a request: each is a V.
  abbrev pub Claims : List Row → Type 0
  Claims [] = Unit {0}
  Claims (r ∷ rs) = Claim r.verified r.seat.0 r.view.0 r.vote × Claims rs

  -- The leader's table for view v: only a V with mark `+` for v "fills the sender's row".
  abbrev pub TableClaims : ℕ → VoteRows → Type 0
  TableClaims v t = (k : ℕ) → k < n → T (bit t.filled k) → Claim true k v (vote_at t.votes k)

  -- The rows that the selection for view v looks at, by seat: "Over valid rows, one per seat".
  pub record Covered (f : ℕ) (v : View) (has : ℕ → Bool) (vote : ℕ → Vote) : Type 0 where
    pub claim : (k : ℕ) → k < n → T (has k) → Claim true k v.0 (vote k)
    pub fine : (k : ℕ) → k < n → T (has k) → T (valid n f v (vote k))
