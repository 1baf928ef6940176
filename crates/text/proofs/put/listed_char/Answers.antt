-- The list is that of the digits' bytes, in order.
use Prim.Native.Nat.{ℕ, zero, suc, ◌+◌, ◌<◌}
use mathlib.Core.Path.{◌≡◌, ap, ◌∙◌}
use mathlib.Core.List.{List, [], ◌∷◌}
use native.Mathlib.Omega.{arith}
use lib.ListN.{get_or}
use Rattle.text.specs.Digits.{hex_char}
use borrow.Author.Rules.{rules}
use Rattle.text.proofs.put.listed_char.Goals as goal

-- The bytes of n digits from a on.
abbrev chars : ℕ → ℕ → List ℕ
chars zero a = []
chars (suc n) a = hex_char a ∷ chars n (suc a)

char_at : (n a d : ℕ) → d < n → get_or (chars n a) d 0 ≡ hex_char (a + d)
char_at zero a d h = absurd (omega arith)
char_at (suc n) a zero h = ap hex_char (let z : a ≡ a + 0 = omega arith in z)
char_at (suc n) a (suc d) h = char_at n (suc a) d (omega arith) ∙ ap hex_char (let z : suc a + d ≡ a + suc d = omega arith in z)

pub returns : goal.returns
unfolding hex_char
returns c = char_at 16 0 c.args.d (search rules) ∙ ap hex_char (let z : 0 + c.args.d ≡ c.args.d = omega arith in z)
