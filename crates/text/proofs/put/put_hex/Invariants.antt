-- The digits from the k-th on are left to put at place at + k.
use Prim.Native.Nat.{◌+◌, ◌-◌}
use Rattle.text.specs.Digits.{digits, hex_char, hex}
use Rattle.text.proofs.Putting.{Left}
use Rattle.text.proofs.put.put_hex.Given as goal

abbrev pub invariant-loop-k : goal.invariant-loop-k
invariant-loop-k l = Left l.initial.s l.at (hex l.w) l.s (l.at + l.k) (digits 16 hex_char (16 - l.k) l.w)
