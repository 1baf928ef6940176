use Prim.Native.Nat.{ℕ}
use mathlib.Core.Path.{◌≡◌}
use mathlib.Core.Bool.{false}
use mathlib.Core.List.{List}
use lib.Dec.{eqb}
use borrow.Author.Tests.{tests}
use Rattle.std.proofs.Common.{rules}
use Rattle.entry.specs.declared.Entry.{Entry}
use Rattle.votes.specs.declared.Vote.{Vote}
use Rattle.messages.specs.declared.Head.{Head}
use Rattle.messages.specs.declared.Message.TheVariants.{Start, Enter, Propose, Acknowledge, Cast, Ask, Confirm}
use Rattle.messages.specs.Lines.{enter_kind, propose_kind, acknowledge_kind, cast_kind, ask_kind, confirm_kind}
use Rattle.station.specs.Words.{head_of, message_entry, message_vote, message_mask, message_count, message_of}
use Rattle.station.proofs.words.message_of.Goals as goal

module _ (kind : ℕ) (m : List ℕ) {h : Head} {e : Entry} (p : h ≡ head_of m) (q : e ≡ message_entry m) where
  enters : kind ≡ enter_kind → Enter h.view ≡ message_of kind m
  unfolding message_of
  enters k = rw (k, p)

  proposes : {x : ℕ} → x ≡ message_mask m → kind ≡ propose_kind → Propose (record { head = h; entry = e; mask = x }) ≡ message_of kind m
  unfolding message_of
  proposes r k = rw (k, p, q, r)

  acknowledges : kind ≡ acknowledge_kind → Acknowledge (record { head = h; entry = e }) ≡ message_of kind m
  unfolding message_of
  acknowledges k = rw (k, p, q)

  casts : {x : Vote} → x ≡ message_vote m → kind ≡ cast_kind
      → Cast (record { seat = h.seat; verified = h.verified; view = h.view; vote = x }) ≡ message_of kind m
  unfolding message_of
  casts r k = rw (k, p, r)

  asks : {x : ℕ} → x ≡ message_count m → kind ≡ ask_kind → Ask (record { head = h; entry = e; count = x }) ≡ message_of kind m
  unfolding message_of
  asks r k = rw (k, p, q, r)

  confirms : kind ≡ confirm_kind → Confirm (record { head = h; entry = e }) ≡ message_of kind m
  unfolding message_of
  confirms k = rw (k, p, q)

other : (kind : ℕ) (m : List ℕ) → eqb kind enter_kind ≡ false → eqb kind propose_kind ≡ false → eqb kind acknowledge_kind ≡ false
    → eqb kind cast_kind ≡ false → eqb kind ask_kind ≡ false → eqb kind confirm_kind ≡ false → Start ≡ message_of kind m
unfolding message_of
other kind m a b c d e f = rw (a, b, c, d, e, f)

pub returns-in-69 : goal.returns-in-69
returns-in-69 c =
    enters _ _ c.head_of-head.ensures c.entry_of-entry.ensures c.in-69.is

pub returns-in-80 : goal.returns-in-80
returns-in-80 c =
    proposes _ _ c.head_of-head.ensures c.entry_of-entry.ensures c.mask_of.ensures c.in-80.is

pub returns-in-65 : goal.returns-in-65
returns-in-65 c =
    acknowledges _ _ c.head_of-head.ensures c.entry_of-entry.ensures c.in-65.is

pub returns-in-86 : goal.returns-in-86
returns-in-86 c =
    casts _ _ c.head_of-head.ensures c.entry_of-entry.ensures c.vote_of.ensures c.in-86.is

pub returns-in-81 : goal.returns-in-81
returns-in-81 c =
    asks _ _ c.head_of-head.ensures c.entry_of-entry.ensures c.count_of.ensures c.in-81.is

pub returns-in-67 : goal.returns-in-67
returns-in-67 c =
    confirms _ _ c.head_of-head.ensures c.entry_of-entry.ensures c.in-67.is

pub returns-in_default : goal.returns-in_default
returns-in_default c =
    other _ _ (search (rules, tests)) (search (rules, tests)) (search (rules, tests)) (search (rules, tests)) (search (rules, tests)) (search (rules, tests))
