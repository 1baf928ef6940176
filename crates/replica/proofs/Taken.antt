-- What the number 0 tells: setup would take n and f.
use mathlib.Core.Path.{◌≡◌}
use mathlib.Core.Bool.{not}
use mathlib.Core.List.{◌∷◌}
use lib.Dec.{leb}
use Rattle.base.specs.Refusal.{Refusals}
use Rattle.base.specs.RefusalLaws.{front_none}
use Rattle.entry.specs.Entry.{well_formed}
use Rattle.seats.specs.Sizes.{size_refusals, size_number}
use Rattle.seats.specs.SizeLaws.{Allowed, sizes_taken}
use Rattle.replica.specs.declared.Replica.{Replica}
use Rattle.replica.specs.Replica.{number_for}

pub number_allowed : (s : Replica) (rs : Refusals) → number_for s rs ≡ 0 → Allowed s.n s.f
unfolding number_for size_number
number_allowed s rs e =
    sizes_taken s.n s.f (front_none (size_refusals s.n s.f) ((3, leb s.n s.seat.0) ∷ (4, not (well_formed s.own)) ∷ rs) tt e)
