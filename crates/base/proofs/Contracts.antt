-- What each public function answers, of its contract as the toolchain holds it: nothing is asked, and this is the answer.
use borrow.Fn.World.{World}
use mathlib.Core.Bool.{cond}
use mathlib.Core.Path.{refl}
use Rattle.std.specs.Prelude.{Ok, Err}
use Rattle.base.specs.Choosing.{larger}
use Rattle.base.specs.ExactContracts.{Exact, ExactOf, gives}
use Rattle.base.specs.Refusal.{number_of}
use Rattle.base.specs.contracts as fn

module _ (w : World) where
  pub pick_says : (T : _) (G : _) (d : _) → ExactOf w T (fn.pick.ended T G d) (fn.pick.spec T G d) (λ κs (c, (a, (b, _))). gives (cond c a b))
  pick_says T G d κs a = refl

  pub larger_says : Exact w fn.larger.ended fn.larger.spec (λ κs (a, (b, _)). gives (larger a b))
  larger_says κs a = refl

  pub number_of_says : Exact w fn.refusal.number_of.ended fn.refusal.number_of.spec (λ κs (x, _). gives (number_of x))
  number_of_says κs a = refl

  pub refuse_if_says : Exact w fn.refusal.refuse_if.ended fn.refusal.refuse_if.spec (λ κs (applies, (why, _)). gives (cond applies (Err why) (Ok tt)))
  refuse_if_says κs a = refl
