-- `pick_says` at two types.
use borrow.Fn.World.{World}
use mathlib.Core.Bool.{cond}
use denote.Builtin.{bool, u32}
use Rattle.base.specs.ExactContracts.{ExactOf, gives}
use Rattle.base.specs.contracts as fn
use Rattle.base.proofs.Contracts.{pick_says}

module _ (w : World) where
  -- Counts of seats and of views.
  pub pick_count_says : (G : _) (d : _) → ExactOf w u32 (fn.pick.ended u32 G d) (fn.pick.spec u32 G d) (λ κs (c, (a, (b, _))). gives (cond c a b))
  pick_count_says G d = pick_says w u32 G d

  -- Flags.
  pub pick_flag_says : (G : _) (d : _) → ExactOf w bool (fn.pick.ended bool G d) (fn.pick.spec bool G d) (λ κs (c, (a, (b, _))). gives (cond c a b))
  pick_flag_says G d = pick_says w bool G d
