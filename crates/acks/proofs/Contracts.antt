-- What each public function answers, of its contract as the toolchain holds it: nothing is asked, and this is the answer.
use borrow.Fn.World.{World}
use mathlib.Core.Path.{refl}
use Rattle.base.specs.ExactContracts.{Exact, gives, becomes}
use Rattle.acks.specs.Acks.{margin, most, no_acks, row_of, sharers, shares, with_row}
use Rattle.acks.specs.contracts as fn

module _ (w : World) where
  pub row_of_says : Exact w fn.Acks.row_of.ended fn.Acks.row_of.spec (λ κs (self, (k, _)). gives (row_of self.now k))
  row_of_says κs a = refl

  pub none_says : Exact w fn.Acks.none.ended fn.Acks.none.spec (λ κs _. gives no_acks)
  none_says κs a = refl

  pub put_says : Exact w fn.Acks.put.ended fn.Acks.put.spec (λ κs (self, (s, (row, _))). becomes (with_row self.now s.0 row))
  put_says κs a = refl

  pub with_row_says : Exact w fn.Acks.with_row.ended fn.Acks.with_row.spec (λ κs (self, (s, (row, _))). gives (with_row self s.0 row))
  with_row_says κs a = refl

  pub shares_says : Exact w fn.shares.ended fn.shares.spec (λ κs (a, (b, _)). gives (shares a b))
  shares_says κs a = refl

  pub sharers_says : Exact w fn.Acks.sharers.ended fn.Acks.sharers.spec (λ κs (self, (n, (a, _))). gives (sharers n (row_of self.now) a))
  sharers_says κs a = refl

  pub most_says : Exact w fn.Acks.most.ended fn.Acks.most.spec (λ κs (self, (n, _)). gives (most n (row_of self.now)))
  most_says κs a = refl

  pub margin_says : Exact w fn.Acks.margin.ended fn.Acks.margin.spec (λ κs (self, (n, (f, _))). gives (margin n f (row_of self.now)))
  margin_says κs a = refl
