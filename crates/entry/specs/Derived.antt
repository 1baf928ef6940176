-- `==` and `<` on entries, as they are derived: the comparisons of 01.
use Rattle.std.specs.Prelude.{◌≡◌, refl, Bool, true, false, cond, ◌&&◌, ◌||◌, eqb, ltb}
use Rattle.std.proofs.Common.{sym, ◌∙◌, Some, Less, Equal, Greater}
use Rattle.std.specs.Ordering.{is_lt, is_some_and, partial_lt, partial_ordering_then}
use Rattle.entry.specs.contracts.EntryPartialEq.TheImpl as equal
use Rattle.entry.specs.contracts.EntryPartialOrd.TheImpl as order
use Rattle.entry.specs.declared.Entry.{Entry}
use Rattle.entry.specs.Entry.{same, less}
use Rattle.entry.specs.Laws.{same_words, less_words}

-- Two words compared, then the next two.
pairs : (a b c d : Bool) → is_some_and is_lt (partial_ordering_then (Some (cond a Less (cond b Equal Greater))) (Some (cond c Less (cond d Equal Greater)))) ≡ (a || (b && c))
pairs true b c d = refl
pairs false true true d = refl
pairs false true false true = refl
pairs false true false false = refl
pairs false false c d = refl

pub derived_less : (a b : Entry) → partial_lt order.ghosts.partial_cmp a b ≡ less a b
derived_less a b = pairs (ltb a.hi b.hi) (eqb a.hi b.hi) (ltb a.lo b.lo) (eqb a.lo b.lo) ∙ sym (less_words a b)

pub derived_same : (a b : Entry) → equal.ghosts.eq a b ≡ same a b
derived_same a b = sym (same_words a b)
