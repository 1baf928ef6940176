-- What every correct seat keeps to, seen from its own replica and from what it sent.
use Rattle.std.specs.Prelude.{ℕ, ◌+◌, ◌≤◌, ◌<◌, ◌≡◌, List, [], ◌∷◌, T, eqb, length}
use Rattle.base.specs.Refusal.{first}
use Rattle.entry.specs.declared.Entry.{Entry}
use Rattle.entry.specs.Table.{table_seats, table_words}
use Rattle.seats.specs.declared.View.{View}
use Rattle.seats.specs.Seats.{b2n}
use Rattle.votes.specs.declared.Vote.{Vote}
use Rattle.votes.specs.declared.Row.{Row}
use Rattle.votes.specs.History.{Covers}
use Rattle.messages.specs.declared.Message.{Message}
use Rattle.messages.specs.declared.Message.TheVariants.{Ask}
use Rattle.messages.specs.declared.Request.{Request}
use Rattle.replica.specs.declared.Replica.{Replica}
use Rattle.replica.specs.Refusals.{collecting, proposed}
use Rattle.replica.specs.Replica.{own_refusals}
use Rattle.replica.specs.Steps.{confirming, ask_step}
use Rattle.replica.specs.house.Claims.{Statement, proposes, acknowledges, votes, asks, confirms, Claim}
use Rattle.replica.specs.house.Runs.{Member, Among, all_said}

-- ---- the replica of seat k in a house of n and f
pub record Seated (n f k : ℕ) (s : Replica) : Type 0 where
  pub same_n : s.n ≡ n
  pub same_f : s.f ≡ f
  pub own_seat : s.seat.0 ≡ k
  pub taken : first (own_refusals s) ≡ 0
  pub in_view : 1 ≤ s.view.0
  pub entries : length s.acks.entries ≡ table_words
  pub views : length s.acks.views ≡ table_seats

-- ---- its acknowledgements and votes, beside the vote that it holds
pub record Voting (k : ℕ) (s : Replica) (xs : List Claim) : Type 0 where
  -- The vote held is not of a view to come.
  pub behind : T s.vote.cast → s.vote.view.0 ≤ s.view.0
  -- The vote held tells of every acknowledgement.
  pub acked : (w : View) (e : Entry) → Among (k, acknowledges w e) xs → (1 ≤ w.0) × (w.0 ≤ s.view.0) × Covers s.vote w.0 e
  -- One entry a view is acknowledged.
  pub once : (w : View) (x y : Entry) → Among (k, acknowledges w x) xs → Among (k, acknowledges w y) xs → x ≡ y
  -- A vote sent for view u tells of every acknowledgement before u.
  pub voted : (u : View) (x : Vote) → Among (k, votes u x) xs
      → (u.0 ≤ s.view.0) × ((w : View) (e : Entry) → w.0 < u.0 → Among (k, acknowledges w e) xs → Covers x w.0 e)

-- ---- its proposals, beside its stage

-- 1 for a proposal of view v.
abbrev pub proposal_in : ℕ → Statement → ℕ
proposal_in v (proposes u e) = b2n (eqb u.0 v)
proposal_in v (acknowledges u e) = 0
proposal_in v (votes u x) = 0
proposal_in v (asks u e) = 0
proposal_in v (confirms u e) = 0

-- How many P's of view v there are among statements.
abbrev pub proposals_in : ℕ → List Claim → ℕ
proposals_in v [] = 0
proposals_in v (c ∷ cs) = proposal_in v c.1 + proposals_in v cs

pub record Leading (k : ℕ) (s : Replica) (xs : List Claim) : Type 0 where
  -- No proposal is of a view to come, and after one of this view the stage is proposed.
  pub spoken : (v : ℕ) → 1 ≤ proposals_in v xs → (v ≤ s.view.0) × (v ≡ s.view.0 → s.stage.0 ≡ proposed)
  pub one : (v : ℕ) → proposals_in v xs ≤ 1
  -- Nobody collects in view 1: only E sets this stage.
  pub later : s.stage.0 ≡ collecting → 2 ≤ s.view.0

-- ---- its requests: everybody of the house who is in that view confirms
abbrev pub Confirmed : ℕ → ℕ → Request → List Row → Type 0
Confirmed n f q rows =
    (s : Replica) → s.n ≡ n → s.f ≡ f → first (own_refusals s) ≡ 0 → s.view ≡ q.head.view → ask_step s q rows ≡ confirming s q

abbrev pub Asked : ℕ → ℕ → List (Message × List Row) → Type 0
Asked n f sent = (q : Request) (rows : List Row) → Among (Ask q, rows) sent → Confirmed n f q rows

-- ---- all of it
pub record Kept (n f k : ℕ) (m : Member) : Type 0 where
  pub seated : Seated n f k m.replica
  pub voting : Voting k m.replica (all_said m.sent)
  pub leading : Leading k m.replica (all_said m.sent)
  pub asked : Asked n f m.sent
