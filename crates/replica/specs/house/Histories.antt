-- The history of a run, and what the claims of an event tell of it.
use Rattle.std.specs.Prelude.{ℕ, ◌<◌, Bool, ◌&&◌, List, [], ◌∷◌, ◌++◌, T, leb}
use Rattle.std.proofs.Math.Option.{Option, none, some}
use Rattle.std.proofs.Common.{le→leb}
use Rattle.base.specs.Tests.{and_i}
use Rattle.seats.specs.Seats.{leader}
use Rattle.seats.specs.SizeLaws.{leader_lt}
use Rattle.votes.specs.declared.Row.{Row}
use Rattle.votes.specs.History.{History}
use Rattle.votes.specs.Claims.{Claim as RowClaim, Claims}
use Rattle.messages.specs.declared.Message.TheVariants.{Cast}
use Rattle.messages.specs.Lines.{row_head}
use Rattle.replica.specs.house.Claims.{proposes, acknowledges, votes, confirms, Claim, whole, said, signed, led, inside, in_row, in_rows}
use Rattle.replica.specs.house.ClaimLaws.{Each, each_front, each_behind, if_each, mark_passes, bit_passes}
use Rattle.replica.specs.house.Runs.{Member, Members, Said, Correct}

-- ---- the history: by seat number its view, 0 before it begins, and what it said
abbrev pub view_of : Option Member → ℕ
view_of none = 0
view_of (some m) = m.replica.view.0

abbrev pub history_of : Members → History
history_of h = record {
  view = λ k. view_of (h k);
  acked = λ k w e. Said h (k, acknowledges (record { 0 = w }) e);
  confirmed = λ k w e. Said h (k, confirms (record { 0 = w }) e);
  proposed = λ k w e. Said h (k, proposes (record { 0 = w }) e);
  voted = λ k w x. Said h (k, votes (record { 0 = w }) (whole x));
}

module _ (n f : ℕ) (faulty : ℕ → Bool) (h : Members) where
  -- What is claimed of a correct seat was said. `Covered` is this, of each of an event's claims.
  abbrev pub Told : Claim → Type 0
  Told c = Correct n faulty c.0 → Said h c

  module _ (some_seat_lem : 0 < n) where
    -- A V, by its own mark, the mark inside its vote, and that vote's mask bits.
    row_told : (r : Row) → Each Told (in_row n r) → RowClaim n faulty (history_of h) r.verified r.seat.0 r.view.0 r.vote
    row_told r t =
        let x = r.vote in
        let its : List Claim = (leader x.view.0 n, proposes x.view x.entry) ∷ [] in
        let bits = signed n x.view x.entry x.mask in
        let within : T x.cast → Each Told (led n x ++ bits) =
        λ c. if_each Told x.cast (led n x ++ bits) c (each_behind Told (said (Cast r)) (inside n x) t) in
        record {
          said = λ m l o. mark_passes Told (row_head r) (votes r.view (whole x)) m (each_front Told (said (Cast r)) (inside n x) t) (l, o);
          led = λ c m p o.
              let b = and_i x.verified (leb 1 x.view.0) m (le→leb 1 x.view.0 p) in
              let word = (if_each Told (x.verified && leb 1 x.view.0) its b (each_front Told (led n x) bits (within c))).0 in
              word (leader_lt x.view.0 n some_seat_lem, o);
          signed = λ c j l m o. bit_passes Told n x.view x.entry x.mask (each_behind Told (led n x) bits (within c)) j l m (l, o);
        }

    -- The rows of a request, as the selection's theorems ask for them.
    pub rows_told : (rows : List Row) → Each Told (in_rows n rows) → Claims n faulty (history_of h) rows
    rows_told [] t = tt
    rows_told (r ∷ rs) t =
        (row_told r (each_front Told (in_row n r) (in_rows n rs) t), rows_told rs (each_behind Told (in_row n r) (in_rows n rs) t))
