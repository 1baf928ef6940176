-- What the writer's number tells, and what it leaves alone.
use Rattle.std.specs.Prelude.{ℕ, ◌≤◌, ◌≡◌, refl, Bool, true, false, List, ltb, length, drop, Result, Ok, Err}
use Rattle.std.proofs.Common.{sym, ap, ◌∙◌, arith, ltb-false}
use Rattle.std.proofs.Math.Seq.{drop-append_seam}
use Rattle.base.specs.Refusal.{first, judged, number_of}
use Rattle.base.specs.RefusalLaws.{number_judged}
use Rattle.base.specs.declared.refusal.Refusal.{Refusal}
use Rattle.messages.specs.declared.Message.{Message}
use Rattle.messages.specs.Lines.{line}
use Rattle.messages.specs.Writer.{writable, writer_refusals, writer_number, writing, told, written, written_number, lent}

-- Where it is 0 the message has a line, and the line has room.
pub writer_zero : (can : Bool) (room n : ℕ) → first (writer_refusals can room n) ≡ 0 → (can ≡ true) × (n ≤ room)
writer_zero false room n z = absurd (omega arith)
writer_zero true room n z = (refl, go (ltb room n) refl)
  where
    go : (short : Bool) → ltb room n ≡ short → n ≤ room
    go true h =
        let refused : first (writer_refusals true room n) ≡ 20 = simp h in
        absurd (omega (arith, refused, z))
    go false h = ltb-false room n h

-- So it is by name: what is taken can be written, and has room; and nothing else is taken.
pub writer_ok : (can : Bool) (room n : ℕ) (x : Unit {0}) → judged (writer_refusals can room n) ≡ Ok x → (can ≡ true) × (n ≤ room)
unfolding number_of
writer_ok can room n x h =
    writer_zero can room n (sym (number_judged (writer_refusals can room n) tt) ∙ ap number_of h ∙ taken x)
  where
    taken : (x : Unit {0}) → number_of (Ok x) ≡ 0
    taken x = refl

-- The number of the writer's answer is the lowest that applies.
pub writer_numbered : (buf : List ℕ) (m : Message) → written_number (written buf m) ≡ writer_number buf m
unfolding written number_of
writer_numbered buf m =
    go (writing buf m) ∙ number_judged (writer_refusals (writable m) (length buf) (length (line m))) tt
  where
    go : (r : Result (Unit {0}) Refusal) → written_number (told r (length (line m))) ≡ number_of r
    go (Ok x) = refl
    go (Err why) = refl

-- "and no byte after it": behind the text the buffer is as it was.
pub lent_behind : (buf text : List ℕ) → drop (length text) (lent buf text) ≡ drop (length text) buf
lent_behind buf text = drop-append_seam text (drop (length text) buf)
