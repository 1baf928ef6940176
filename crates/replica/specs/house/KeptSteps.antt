-- Every step keeps what a correct seat keeps to.
use Rattle.std.specs.Prelude.{ℕ, ◌<◌, ◌≡◌, List, T}
use Rattle.base.specs.Refusal.{first}
use Rattle.entry.specs.declared.Entry.{Entry}
use Rattle.entry.specs.Entry.{well_formed}
use Rattle.seats.specs.Sizes.{size_refusals}
use Rattle.votes.specs.declared.Row.{Row}
use Rattle.messages.specs.declared.Message.{Message}
use Rattle.replica.specs.Replica.{fresh}
use Rattle.replica.specs.Steps.{quiet, step}
use Rattle.replica.specs.house.Kept.{Kept}
use Rattle.replica.specs.house.Proposing.{leading_begun, leading_step}
use Rattle.replica.specs.house.Requests.{asked_begun, asked_step}
use Rattle.replica.specs.house.Runs.{Member, begun, after}
use Rattle.replica.specs.house.Seating.{seated_begun, seated_step}
use Rattle.replica.specs.house.Voting.{voting_begun, voting_step}

pub kept_begun : (n f k : ℕ) (own : Entry) → first (size_refusals n f) ≡ 0 → k < n → T (well_formed own)
    → Kept n f k (begun (quiet (fresh n f (record { 0 = k }) own)))
kept_begun n f k own a l w = record {
  seated = seated_begun n f k own a l w;
  voting = voting_begun k n f _ own;
  leading = leading_begun k n f _ own;
  asked = asked_begun n f;
}

pub kept_step : (n f k : ℕ) (m : Member) → Kept n f k m → (message : Message) (rows : List Row)
    → Kept n f k (after m (step m.replica message rows))
kept_step n f k m i message rows = record {
  seated = seated_step n f k m.replica i.seated message rows;
  voting = voting_step n f k m i.seated i.voting message rows;
  leading = leading_step n f k m i.seated i.leading message rows;
  asked = asked_step n f k m i.seated i.leading i.asked message rows;
}
