-- What each public function answers, of its contract as the toolchain holds it: nothing is asked, and this is the answer.
use borrow.Fn.World.{World}
use lib.ListN.{replicate}
use mathlib.Core.Path.{refl}
use Rattle.base.specs.ExactContracts.{Exact, gives, becomes}
use Rattle.text.specs.Put.{placed}
use Rattle.entry.specs.Entry.{bytes_of, less, same, well_formed, zero_entry}
use Rattle.entry.specs.Hex.{entry_field, entry_text}
use Rattle.entry.specs.Table.{entry_at, table_words, with_entry}
use Rattle.entry.specs.contracts as fn

module _ (w : World) where
  pub read_entry_says : Exact w fn.hex.read_entry.ended fn.hex.read_entry.spec (λ κs (t, _). gives (entry_field t.now))
  read_entry_says κs a = refl

  pub put_text_says : Exact w fn.hex.put_text.ended fn.hex.put_text.spec (λ κs (s, (at, (e, _))). becomes (placed s.now at (entry_text e)))
  put_text_says κs a = refl

  pub zero_says : Exact w fn.zero.ended fn.zero.spec (λ κs _. gives zero_entry)
  zero_says κs a = refl

  pub same_says : Exact w fn.same.ended fn.same.spec (λ κs (a, (b, _)). gives (same a b))
  same_says κs a = refl

  pub less_says : Exact w fn.less.ended fn.less.spec (λ κs (a, (b, _)). gives (less a b))
  less_says κs a = refl

  pub bytes_of_says : Exact w fn.bytes_of.ended fn.bytes_of.spec (λ κs (e, _). gives (bytes_of e))
  bytes_of_says κs a = refl

  pub well_formed_says : Exact w fn.well_formed.ended fn.well_formed.spec (λ κs (e, _). gives (well_formed e))
  well_formed_says κs a = refl

  pub no_entries_says : Exact w fn.table.no_entries.ended fn.table.no_entries.spec (λ κs _. gives (replicate table_words 0))
  no_entries_says κs a = refl

  pub entry_at_says : Exact w fn.table.entry_at.ended fn.table.entry_at.spec (λ κs (t, (k, _)). gives (entry_at t.now k))
  entry_at_says κs a = refl

  pub put_entry_says : Exact w fn.table.put_entry.ended fn.table.put_entry.spec (λ κs (t, (k, (e, _))). becomes (with_entry t.now k e))
  put_entry_says κs a = refl
