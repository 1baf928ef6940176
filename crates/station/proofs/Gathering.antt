-- Rows gathered from the lines of a text, line by line.
use Rattle.std.proofs.Common.{Option, None, Some, Result}
use Prim.Native.Nat.{ℕ, ◌-◌, ◌≤◌}
use mathlib.Core.Path.{◌≡◌, refl, sym, ap, ◌∙◌}
use mathlib.Core.List.{List, [], ◌∷◌}
use native.Mathlib.Omega.{arith}
use lib.ListN.{length, take, drop}
use Rattle.base.specs.declared.refusal.Refusal.{Refusal}
use Rattle.votes.specs.declared.Choice.{Choice}
use Rattle.votes.specs.declared.Row.{Row}
use Rattle.votes.specs.declared.Rows.{Rows}
use Rattle.votes.specs.Rows.{no_rows, added, gathered, selected_from}
use Rattle.votes.specs.Gather.{gathered_selected}
use Rattle.messages.specs.declared.Message.{Message}
use Rattle.messages.specs.declared.Message.TheVariants.{Start, Enter, Propose, Acknowledge, Cast, Ask, Confirm}
use Rattle.messages.specs.Reader.{read_line}
use Rattle.transcript.specs.Texts.{lines_of}
use Rattle.transcript.specs.LineEnds.{behind_line}
use Rattle.transcript.specs.LineLaws.{first_open, no_end}
use Rattle.transcript.specs.TextLaws.{LineAt, NoLine, line_found, line_missing}
use Rattle.station.specs.Calls.{row_then, rows_of, selected_by}

-- Every kind but V.
pub other_row : (m : Message) (rows : List Row) → ((r : Row) → m ≡ Cast r → ⊥) → row_then (Some m) rows ≡ []
other_row Start rows k = refl
other_row (Enter v) rows k = refl
other_row (Propose p) rows k = refl
other_row (Acknowledge a) rows k = refl
other_row (Cast r) rows k = absurd (k r refl)
other_row (Ask q) rows k = refl
other_row (Confirm c) rows k = refl

-- A line without its LF is none.
no_row : (s : List ℕ) → NoLine s → rows_of (lines_of s) ≡ []
no_row [] n = ap rows_of n.lines
no_row (b ∷ bs) n =
    ap rows_of n.lines
    ∙ ap (λ (l : Option Message). row_then l []) (no_end (b ∷ bs) (first_open (b ∷ bs) (b ∷ bs) [] n.lines n.ends))

-- The rows of the lines from place p on.
abbrev rows_from : List ℕ → ℕ → List Row
rows_from text p = rows_of (lines_of (drop p text))

-- Rows are gathered up to place p, where a line begins.
pub record Gathering (text : List ℕ) (none t : Rows) (p : ℕ) : Type 0 where
  pub fits : p ≤ length text
  pub rest : gathered t (rows_from text p) ≡ gathered none (rows_of (lines_of text))

pub begun : (text : List ℕ) (none : Rows) → Gathering text none none 0
begun text none = record { fits = omega arith; rest = refl }

module _ (text : List ℕ) (none t : Rows) (p : ℕ) (g : Gathering text none t p) where
  -- No line is left.
  pub over : behind_line text p ≡ None → t ≡ gathered none (rows_of (lines_of text))
  over missing = ap (gathered t) (sym (no_row (drop p text) (line_missing text p missing))) ∙ g.rest

  module _ (e : ℕ) (some : Some e ≡ behind_line text p) where
    abbrev pub line : List ℕ
    line = take (e - p) (drop p text)

    pub found : LineAt text p e
    found = line_found text p e some g.fits

    first : gathered t (row_then (read_line line) (rows_from text e)) ≡ gathered none (rows_of (lines_of text))
    first = ap (λ (ls : List (List ℕ)). gathered t (rows_of ls)) (sym found.lines) ∙ g.rest

    -- The line is a row: one more.
    pub more : (s : Rows) (r : Row) → s ≡ added t r → read_line line ≡ Some (Cast r) → Gathering text none s e
    more s r is l = record {
      fits = found.fits;
      rest =
          ap (λ (x : Rows). gathered x (rows_from text e)) is
          ∙ ap (λ (x : Option Message). gathered t (row_then x (rows_from text e))) (sym l)
          ∙ first;
    }

    -- It is none, which ends them.
    pub ended : (l : Option Message) → read_line line ≡ l → row_then l (rows_from text e) ≡ [] → t ≡ gathered none (rows_of (lines_of text))
    ended l is none_told =
        ap (gathered t) (sym none_told) ∙ ap (λ (x : Option Message). gathered t (row_then x (rows_from text e))) (sym is) ∙ first

-- The selection over the rows of a text.
pub selected_is : (n f view : ℕ) (text : List ℕ) (none rows : Rows) (s : Result Choice Refusal) → none ≡ no_rows n f (record { 0 = view })
    → rows ≡ gathered none (rows_of (lines_of text)) → s ≡ selected_from rows → s ≡ selected_by n f view text
unfolding selected_by
selected_is n f view text none rows s begun all is =
    is ∙ ap selected_from all
    ∙ ap (λ (x : Rows). selected_from (gathered x (rows_of (lines_of text)))) begun
    ∙ gathered_selected n f (record { 0 = view }) (rows_of (lines_of text))
