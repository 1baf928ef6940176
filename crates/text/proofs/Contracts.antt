-- What each public function answers, of its contract as the toolchain holds it: nothing is asked, and this is the answer.
use borrow.Fn.World.{World}
use mathlib.Core.List.{[], ◌∷◌}
use mathlib.Core.Path.{refl}
use Rattle.base.specs.ExactContracts.{Exact, gives, gives_and, shows, becomes}
use Rattle.text.specs.Digits.{decimal, decimal_of, hex, hex_of, letter_of, width}
use Rattle.text.specs.Fields.{field_at, over, place_behind}
use Rattle.text.specs.Put.{placed, room}
use Rattle.text.specs.contracts as fn

module _ (w : World) where
  pub decimal_says : Exact w fn.digits.decimal.ended fn.digits.decimal.spec (λ κs (t, (max, _)). gives (decimal_of max t.now))
  decimal_says κs a = refl

  pub hex_says : Exact w fn.digits.hex.ended fn.digits.hex.spec (λ κs (t, _). gives (hex_of t.now))
  hex_says κs a = refl

  pub letter_says : Exact w fn.digits.letter.ended fn.digits.letter.spec (λ κs (t, _). gives (letter_of t.now))
  letter_says κs a = refl

  pub field_says : Exact w fn.field.field.ended fn.field.field.spec (λ κs (s, (from, _)). shows (field_at s.now from))
  field_says κs a = refl

  pub field_of_says : Exact w fn.field.field_of.ended fn.field.field_of.spec (λ κs (s, (from, _)). shows (field_at s.now from))
  field_of_says κs a = refl

  pub place_behind_says : Exact w fn.field.place_behind.ended fn.field.place_behind.spec (λ κs (s, (end, _)). gives (place_behind s.now end))
  place_behind_says κs a = refl

  pub over_says : Exact w fn.field.over.ended fn.field.over.spec (λ κs (s, (end, _)). gives (over s.now end))
  over_says κs a = refl

  pub has_room_says : Exact w fn.put.has_room.ended fn.put.has_room.spec (λ κs (s, (at, (k, _))). gives (room s.now at k))
  has_room_says κs a = refl

  pub put_byte_says : Exact w fn.put.put_byte.ended fn.put.put_byte.spec (λ κs (s, (at, (b, _))). becomes (placed s.now at (b ∷ [])))
  put_byte_says κs a = refl

  pub put_hex_says : Exact w fn.put.put_hex.ended fn.put.put_hex.spec (λ κs (s, (at, (x, _))). becomes (placed s.now at (hex x)))
  put_hex_says κs a = refl

  pub width_says : Exact w fn.put.width.ended fn.put.width.spec (λ κs (v, _). gives (width v))
  width_says κs a = refl

  pub put_decimal_says : Exact w fn.put.put_decimal.ended fn.put.put_decimal.spec
      (λ κs (s, (at, (v, _))). gives_and (width v) (placed s.now at (decimal v)))
  put_decimal_says κs a = refl
