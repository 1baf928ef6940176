-- Two small counts, read as signed, and their difference.
use Prim.Native.Nat.{ℕ, zero, suc, ◌≤◌, ◌<◌, ◌-◌, ◌^◌}
use mathlib.Core.Path.{◌≡◌, ap₂}
use mathlib.Core.Bool.{Bool, true, false, cond}
use native.Mathlib.Omega.{arith}
use lib.Dec.{ltb}
use lib.IntN.{pos, negsuc, ◌-ℤ◌}
use lib.Signed.{mag}
use mir.Syntax.{w32}
use mir.Val.{to_z}
use mir.Facts.{to_z-of_z}

-- A small number read as signed is itself.
small : (a : ℕ) → a ≤ 255 → to_z w32 a ≡ pos a
small a h = to_z-of_z {w = w32} {z = pos a} (record { sfits = omega arith })

pub sub_small : (a b : ℕ) → a ≤ 255 → b ≤ 255 → to_z w32 a -ℤ to_z w32 b ≡ pos a -ℤ pos b
sub_small a b h k = ap₂ ◌-ℤ◌ (small a h) (small b k)

pub sub_fits : (a b : ℕ) → a ≤ 255 → b ≤ 255 → mag (pos a -ℤ pos b) < 2 ^ 31
sub_fits a zero h k = omega arith
sub_fits a (suc b) h k = go (ltb a (suc b))
  where
    go : (t : Bool) → mag (cond t (negsuc (suc b - suc a)) (pos (a - suc b))) < 2 ^ 31
    go true = omega arith
    go false = omega arith
