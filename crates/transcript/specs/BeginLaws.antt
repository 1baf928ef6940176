-- The line H: where a trace begins, and what is printed where it does not.
use Rattle.std.specs.Prelude.{ℕ, ◌≤◌, ◌<◌, ◌≡◌, refl, false, cond, List, [], ◌∷◌, ◌++◌, eqb, length, Option, Some, None}
use Rattle.std.proofs.Common.{sym, ap, ◌∙◌, append-nil, arith, length-append}
use Rattle.base.specs.Tests.{true≢false}
use Rattle.text.specs.Digits.{letter_of}
use Rattle.text.specs.Fields.{lf, line_end}
use Rattle.messages.specs.Longest.{longest_read}
use Rattle.messages.specs.Setup.{read_setup}
use Rattle.messages.specs.SetupLaws.{setup_only, setup_short, setup_ended}
use Rattle.transcript.specs.Texts.{lines_of}
use Rattle.transcript.specs.Transcript.{setup_of, bad_setup, opened, output, transcript}
use Rattle.transcript.specs.Feeding.{last_event, begun_as, begun_by}
use Rattle.transcript.specs.LineLaws.{has_end, lines_few, lines_none, lines_front, lines_alone, lines_whole, ends_there}
use Rattle.transcript.specs.RestLaws.{rest}
use Rattle.transcript.specs.FeedLaws.{feeds}
use Rattle.messages.specs.declared.setup.Setup.{Setup}

-- ---- what is no H

-- It ends with an LF, as every line does, and is no longer than the longest.
no_setup : (l : List ℕ) → has_end l ≡ false → read_setup l ≡ None
no_setup l n =
    sym (setup_only l None (λ h f e.
    let w = setup_ended l h e in
    true≢false (sym (ends_there w.0) ∙ ap has_end (sym w.1) ∙ n)))

long_setup : (l : List ℕ) → longest_read < length l → read_setup l ≡ None
long_setup l h = sym (setup_only l None (λ s f e. omega (arith, setup_short l s f e)))

-- ---- the first line

-- Number 0 goes on; "A bad H prints `0`, a tab and the number, and ends".
pub begins : (l : List ℕ) (ls : List (List ℕ)) → length ls ≤ last_event
    → output (l ∷ ls) ≡ cond (eqb (begun_by l).number 0) (rest (begun_by l).state ls) (bad_setup (begun_by l).number)
unfolding begun_by
begins l ls small = go (read_setup l)
  where
    go : (o : Option Setup) → opened o ls ≡ cond (eqb (begun_as o).number 0) (rest (begun_as o).state ls) (bad_setup (begun_as o).number)
    go None = refl
    go (Some h) =
        let t = setup_of h in
        ap (λ (x : List ℕ). cond (eqb t.number 0) x (bad_setup t.number)) (sym (feeds t.next ls small))

-- "a .. missing H"
pub begins_none : output [] ≡ bad_setup (begun_by []).number
unfolding begun_by read_setup letter_of
begins_none = refl

-- "the number is 19 for a malformed or missing H": a first line that is none is as if it were missing.
bad_setup_lem : (l : List ℕ) (ls : List (List ℕ)) → read_setup l ≡ None → output (l ∷ ls) ≡ bad_setup (begun_by []).number
bad_setup_lem l ls e = ap (λ (o : Option Setup). opened o ls) e ∙ begins_none

-- The input ends before its first LF.
pub ends_setup : (w : List ℕ) → has_end w ≡ false → transcript w ≡ bad_setup (begun_by []).number
unfolding transcript lines_of
ends_setup [] n = begins_none
ends_setup (b ∷ bs) n = ap output (lines_alone b bs n) ∙ bad_setup_lem (b ∷ bs) [] (no_setup (b ∷ bs) n)

-- It is too long: what follows need not be read.
pub cut_setup : (w more : List ℕ) → has_end w ≡ false → longest_read < length w
    → transcript (w ++ more) ≡ bad_setup (begun_by []).number
unfolding transcript
cut_setup w more n h = go (lines_of more) refl
  where
    go : (ls : List (List ℕ)) → lines_of more ≡ ls → transcript (w ++ more) ≡ bad_setup (begun_by []).number
    go [] e = ap transcript (ap (λ (t : List ℕ). w ++ t) (lines_none more e) ∙ append-nil w) ∙ ends_setup w n
    go (l ∷ ls) e =
        ap output (lines_front w more l ls n e) ∙ bad_setup_lem (w ++ l) ls (long_setup (w ++ l) (omega (arith, length-append w l)))

-- The first line is whole.
pub begins_whole : (w t : List ℕ) → has_end w ≡ false → length t ≤ last_event
    → transcript (w ++ (lf ∷ t))
    ≡ cond (eqb (begun_by (w ++ line_end)).number 0) (rest (begun_by (w ++ line_end)).state (lines_of t)) (bad_setup (begun_by (w ++ line_end)).number)
unfolding transcript
begins_whole w t n small = ap output (lines_whole w t n) ∙ begins (w ++ line_end) (lines_of t) (omega (arith, lines_few t))
