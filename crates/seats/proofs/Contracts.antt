-- What each public function answers, of its contract as the toolchain holds it: nothing is asked, and this is the answer.
use borrow.Fn.World.{World}
use mathlib.Core.Bool.{true}
use mathlib.Core.Path.{refl}
use Rattle.base.specs.ExactContracts.{Exact, ExactOver, becomes, gives}
use Rattle.seats.specs.Certificate.{good_certificate}
use Rattle.seats.specs.Mask.{bit, mask, put_seat, rows_of, seats_in, with_seat, within, without}
use Rattle.seats.specs.Seats.{leader_of}
use Rattle.base.specs.Refusal.{judged}
use Rattle.seats.specs.Sizes.{most_faulty, quorum, seat_refusals, size_refusals}
use Rattle.seats.specs.Table.{value_at, with_value}
use Rattle.seats.specs.contracts as fn

module _ (w : World) where
  pub good_certificate_says : Exact w fn.certificate.good_certificate.ended fn.certificate.good_certificate.spec
      (λ κs (n, (f, (u, (m, _)))). gives (good_certificate n f u m))
  good_certificate_says κs a = refl

  pub leader_says : Exact w fn.leader.ended fn.leader.spec (λ κs (v, (n, _)). gives (leader_of v n))
  leader_says κs a = refl

  pub has_says : Exact w fn.mask.has.ended fn.mask.has.spec (λ κs (m, (k, _)). gives (bit m k))
  has_says κs a = refl

  pub with_seat_says : Exact w fn.mask.with_seat.ended fn.mask.with_seat.spec (λ κs (m, (s, _)). gives (with_seat m s.0))
  with_seat_says κs a = refl

  pub without_says : Exact w fn.mask.without.ended fn.mask.without.spec (λ κs (a, (b, _)). gives (without a b))
  without_says κs a = refl

  pub put_says : Exact w fn.mask.put.ended fn.mask.put.spec (λ κs (m, (s, (on, _))). gives (put_seat m s.0 on))
  put_says κs a = refl

  pub seats_in_says : Exact w fn.mask.seats_in.ended fn.mask.seats_in.spec (λ κs (m, _). gives (seats_in m))
  seats_in_says κs a = refl

  pub rows_of_says : Exact w fn.mask.rows_of.ended fn.mask.rows_of.spec (λ κs (n, _). gives (rows_of n))
  rows_of_says κs a = refl

  pub below_says : Exact w fn.mask.below.ended fn.mask.below.spec (λ κs (n, _). gives (mask (λ k. true) (rows_of n)))
  below_says κs a = refl

  pub within_says : Exact w fn.mask.within.ended fn.mask.within.spec (λ κs (m, (n, _)). gives (within m n))
  within_says κs a = refl

  pub most_faulty_says : Exact w fn.sizes.most_faulty.ended fn.sizes.most_faulty.spec (λ κs (n, _). gives (most_faulty n))
  most_faulty_says κs a = refl

  pub check_sizes_says : Exact w fn.sizes.check_sizes.ended fn.sizes.check_sizes.spec (λ κs (n, (f, _)). gives (judged (size_refusals n f)))
  check_sizes_says κs a = refl

  pub check_seat_says : Exact w fn.sizes.check_seat.ended fn.sizes.check_seat.spec (λ κs (n, (f, (s, _))). gives (judged (seat_refusals n f s)))
  check_seat_says κs a = refl

  pub quorum_says : Exact w fn.sizes.quorum.ended fn.sizes.quorum.spec (λ κs (n, (f, _)). gives (quorum n f))
  quorum_says κs a = refl

  pub value_at_says : (T : _) (G : _) (d : _) → ExactOver w T 64 (fn.table.value_at.ended T G d) (fn.table.value_at.spec T G d)
      (λ κs (t, (k, (none, _))). gives (value_at t.now k none))
  value_at_says T G d κs a = refl

  pub put_value_says : (T : _) (G : _) (d : _) → ExactOver w T 64 (fn.table.put_value.ended T G d) (fn.table.put_value.spec T G d)
      (λ κs (t, (k, (x, _))). becomes (with_value t.now k x))
  put_value_says T G d κs a = refl
