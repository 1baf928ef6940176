-- 01, "Examples at the edges": its entries and votes.
use Rattle.std.specs.Prelude.{ℕ, ◌-◌, true, List, [], ◌∷◌, ◌++◌, replicate}
use Rattle.entry.specs.declared.Entry.{Entry}
use Rattle.entry.specs.Entry.{serial_length, entry_of}
use Rattle.votes.specs.declared.Vote.{Vote}
use Rattle.votes.specs.declared.Row.{Row}
use Rattle.votes.specs.Rows.{zero_vote}

-- "Entries a < b": serials `A1` and `A2`, code 00000001.
abbrev pub a : Entry
a = entry_of (0x41 ∷ 0x31 ∷ replicate (serial_length - 2) 0x20 ++ (0 ∷ 0 ∷ 0 ∷ 1 ∷ []))

abbrev pub b : Entry
b = entry_of (0x41 ∷ 0x32 ∷ replicate (serial_length - 2) 0x20 ++ (0 ∷ 0 ∷ 0 ∷ 1 ∷ []))

-- A vote for e in view u with certificate m. "`a1` is a vote for a in view 1".
abbrev pub for : Entry → ℕ → ℕ → Vote
for e u m = record { entry = e; mask = m; view = record { 0 = u }; cast = true; verified = true }

abbrev pub nil : Vote
nil = zero_vote

abbrev pub a1 : Vote
a1 = for a 1 0

abbrev pub b1 : Vote
b1 = for b 1 0

-- Votes by seat, as rows of the view that they are collected for.
abbrev pub collected : ℕ → List (ℕ × Vote) → List Row
collected v [] = []
collected v (x ∷ xs) = record { seat = record { 0 = x.0 }; verified = true; view = record { 0 = v }; vote = x.1 } ∷ collected v xs
