-- A replica that a call leaves in the caller's arrays is the one that the next call reads there.
use Rattle.std.specs.Prelude.{◌<◌, ◌^◌, ◌≡◌, refl, Bool, true, false}
use Rattle.std.proofs.Common.{mod-eq_of_lt}
use mir.Val.{bool_byte}
use Rattle.replica.specs.declared.Replica.{Replica}
use Rattle.station.specs.Words.{flag_of, scalars_of, replica_of}

-- Numbers are as their types have them.
pub record Typed (r : Replica) : Type 0 where
  pub n : r.n < 2 ^ 8
  pub f : r.f < 2 ^ 8
  pub seat : r.seat.0 < 2 ^ 8
  pub stage : r.stage.0 < 2 ^ 8
  pub view : r.view.0 < 2 ^ 32
  pub voted : r.vote.view.0 < 2 ^ 32

flag_back : (b : Bool) → flag_of (bool_byte b) ≡ b
flag_back true = refl
flag_back false = refl

pub reads_back : (r : Replica) → Typed r
    → replica_of (scalars_of r) r.acks.entries r.acks.views r.votes.votes.entries r.votes.votes.masks r.votes.votes.views ≡ r
reads_back r t =
    simp (
      mod-eq_of_lt t.n,
      mod-eq_of_lt t.f,
      mod-eq_of_lt t.seat,
      mod-eq_of_lt t.stage,
      mod-eq_of_lt t.view,
      mod-eq_of_lt t.voted,
      flag_back r.decided,
      flag_back r.vote.cast,
      flag_back r.vote.verified,
    )
