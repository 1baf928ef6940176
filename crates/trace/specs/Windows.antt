-- What the functions of `trace` answer and leave behind, as far as it does not hang on what is read.
use Rattle.std.specs.Prelude.{ℕ, ◌+◌, ◌-◌, ◌≤◌, min, ◌≡◌, Bool, cond, List, [], eqb, length, take, drop, unwrap_or}
use Rattle.transcript.specs.declared.State.{State}
use Rattle.transcript.specs.Texts.{lines_of}
use Rattle.transcript.specs.LineEnds.{behind_line}
use Rattle.transcript.specs.Feeding.{Ran, ran}
use Rattle.trace.specs.declared.Refilled.{Refilled}

-- A window, from place `at` to place `end`, lies in its buffer, so that nothing outside is read or written.
abbrev pub Inside : ℕ → ℕ → List ℕ → Type 0
Inside at end buf = (at ≤ end) × (end ≤ length buf)

-- The bytes of a window: they were read and not used yet.
abbrev pub in_window : ℕ → ℕ → List ℕ → List ℕ
in_window at end buf = take (end - at) (drop at buf)

-- Where the window begins when some of its bytes were used, at most all.
abbrev pub behind_by : ℕ → ℕ → ℕ → ℕ
behind_by at end used = at + min used (end - at)

-- What `transcript` does with the bytes of a window.
abbrev pub ran_in : State → ℕ → ℕ → List ℕ → ℕ → Ran
ran_in state at end buf room = ran state (lines_of (in_window at end buf)) room

-- The window is the whole buffer: where that has to be read on, the line in it is too long to be any.
abbrev pub fills : ℕ → ℕ → List ℕ → Bool
fills at end buf = eqb (end - at) (length buf)

-- What stands in front when more is read: what was not used, and nothing of a line that is too long.
abbrev pub carried : ℕ → ℕ → List ℕ → List ℕ
carried at end buf = cond (fills at end buf) [] (in_window at end buf)

-- What a refill answers that ends at `then`: the input is over where nothing came behind what was kept.
abbrev pub refilled_to : ℕ → ℕ → List ℕ → ℕ → Refilled
refilled_to at end buf then = record { full = fills at end buf; over = eqb then (length (carried at end buf)) }

-- All that can be said of a read: what stood in front stays, and what came ends behind it, in the buffer.
pub record ReadBehind (front : List ℕ) (end : ℕ) (after : List ℕ) : Type 0 where
  pub same : take (length front) after ≡ front
  pub behind : length front ≤ end
  pub inside : end ≤ length after

-- A window that begins behind the first line of what was read, or at 0 where no line ends.
abbrev pub BehindFirst : ℕ → ℕ → List ℕ → Type 0
BehindFirst at end buf = Inside at end buf × (at ≡ unwrap_or (behind_line (take end buf) 0) 0)
