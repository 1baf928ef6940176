-- How many bytes the fields of a line take, each with the tab before it.
use Rattle.std.specs.Prelude.{ℕ, ◌+◌, ◌≡◌, Bool, true, List, [], ◌∷◌, length}
use Rattle.std.proofs.Common.{arith}
use Rattle.text.specs.DecimalLaws.{decimal_length}
use Rattle.text.specs.Digits.{decimal, word_digits, hex, width}
use Rattle.text.specs.FieldLaws.{tabbed_length, line_length}
use Rattle.text.specs.Fields.{tabbed}
use Rattle.text.specs.HexLaws.{hex_length}
use Rattle.entry.specs.Hex.{entry_text, entry_digits}
use Rattle.entry.specs.HexLaws.{text_length}
use Rattle.entry.specs.declared.Entry.{Entry}
use Rattle.votes.specs.declared.Row.{Row}
use Rattle.votes.specs.declared.Vote.{Vote}
use Rattle.messages.specs.declared.Assent.{Assent}
use Rattle.messages.specs.declared.Head.{Head}
use Rattle.messages.specs.declared.Message.{Message}
use Rattle.messages.specs.declared.Message.TheVariants.{Propose, Acknowledge, Cast, Ask}
use Rattle.messages.specs.declared.Proposal.{Proposal}
use Rattle.messages.specs.declared.Request.{Request}
use Rattle.messages.specs.Lines.{mark, view, head, vote, row_head, kind, fields, line}

pub number_takes : (v : ℕ) (fs : List (List ℕ)) → length (tabbed (decimal v ∷ fs)) ≡ 1 + width v + length (tabbed fs)
number_takes v fs = omega (arith, tabbed_length (decimal v) fs, decimal_length v)

mask_takes : (w : ℕ) (fs : List (List ℕ)) → length (tabbed (hex w ∷ fs)) ≡ 1 + word_digits + length (tabbed fs)
mask_takes w fs = omega (arith, tabbed_length (hex w) fs, hex_length w)

entry_takes : (x : Entry) (fs : List (List ℕ)) → length (tabbed (entry_text x ∷ fs)) ≡ 1 + entry_digits + length (tabbed fs)
entry_takes x fs = omega (arith, tabbed_length (entry_text x) fs, text_length x)

mark_takes : (verified : Bool) (fs : List (List ℕ)) → length (tabbed (mark verified ∷ fs)) ≡ 2 + length (tabbed fs)
mark_takes verified fs = omega (arith, tabbed_length (mark verified) fs)

-- Seat, mark and view.
pub head_takes : (h : Head) (fs : List (List ℕ))
    → length (tabbed (head h fs)) ≡ 4 + width h.seat.0 + width h.view.0 + length (tabbed fs)
head_takes h fs =
    let s = number_takes h.seat.0 (mark h.verified ∷ view h.view ∷ fs) in
    omega (arith, mark_takes h.verified (view h.view ∷ fs), number_takes h.view.0 fs)

-- A vote that is not nil: view, entry, mask and mark.
pub vote_takes : (x : Vote) → length (tabbed (vote true x)) ≡ 5 + width x.view.0 + entry_digits + word_digits
vote_takes x =
    let m = mark x.verified ∷ [] in
    let u = number_takes x.view.0 (entry_text x.entry ∷ hex x.mask ∷ m) in
    omega (arith, entry_takes x.entry (hex x.mask ∷ m), mask_takes x.mask m, mark_takes x.verified [])

-- ---- the fields of each kind

-- Fields behind a head add to it.
behind_head : (h : Head) (fs : List (List ℕ)) → length (tabbed (head h fs)) ≡ length (tabbed (head h [])) + length (tabbed fs)
behind_head h fs = omega (arith, head_takes h fs, head_takes h [])

pub proposal_takes : (x : Proposal)
    → length (tabbed (fields (Propose x))) ≡ 2 + length (tabbed (head x.head [])) + entry_digits + word_digits
proposal_takes x =
    let mask = hex x.mask ∷ [] in
    omega (arith, behind_head x.head (entry_text x.entry ∷ mask), entry_takes x.entry mask, mask_takes x.mask [])

-- Of an A, and of a C.
pub assent_takes : (x : Assent)
    → length (tabbed (fields (Acknowledge x))) ≡ 1 + length (tabbed (head x.head [])) + entry_digits
assent_takes x = omega (arith, behind_head x.head (entry_text x.entry ∷ []), entry_takes x.entry [])

pub row_takes : (x : Row)
    → length (tabbed (fields (Cast x))) ≡ length (tabbed (head (row_head x) [])) + length (tabbed (vote x.vote.cast x.vote))
row_takes x = behind_head (row_head x) (vote x.vote.cast x.vote)

pub request_takes : (x : Request)
    → length (tabbed (fields (Ask x))) ≡ 2 + length (tabbed (head x.head [])) + entry_digits + width x.count
request_takes x =
    let count = decimal x.count ∷ [] in
    omega (arith, behind_head x.head (entry_text x.entry ∷ count), entry_takes x.entry count, number_takes x.count [])

-- Beside its fields a line has its kind and its LF.
pub line_takes : (m : Message) → length (line m) ≡ 2 + length (tabbed (fields m))
unfolding line
line_takes m = line_length (kind m) (fields m)
