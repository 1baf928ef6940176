use Rattle.std.proofs.Common.{ℕ, zero, suc, ◌≡◌, ◌+◌, ◌-◌, ◌≤◌, ◌<◌, List, Option, ap, subst, length, drop, take, take_all, length-drop, add-zero, sym, ◌∙◌, arith, rules, tests}
use Rattle.std.specs.List.{AllWithin, HoldsAt}
use Rattle.std.specs.Option.{MatchOption}
use Rattle.std.proofs.lemmas.Iterator.{IsFirst-from_position, YieldsList-from_slice}
use Rattle.std.proofs.lemmas.List.{get_or-drop}
use Rattle.text.specs.Fields.{lf}
use Rattle.transcript.specs.LineEnds.{behind_line}
use Rattle.transcript.specs.TextLaws.{line_ends, line_goes, line_over}
use Rattle.transcript.proofs.lines.behind_line.Goals as goal
use Rattle.transcript.proofs.lines.behind_line.Goals.{After-position}

abbrev Other : ℕ → Type 0
Other b = b ≡ lf → ⊥

-- The first k bytes from place p on are no LFs.
others_pass : (s : List ℕ) (p k : ℕ) → p + k ≤ length s → AllWithin Other (drop p s) 0 k → behind_line s (p + k) ≡ behind_line s p
others_pass s p zero h none = ap (behind_line s) (add-zero p)
others_pass s p (suc k) h none =
    let z : p + suc k ≡ p + k + 1 = omega arith in
    ap (behind_line s) z ∙ line_goes s (p + k) (omega arith) (λ e. none k 0 (omega arith) (omega arith) (get_or-drop p s k 0 ∙ e))
    ∙ others_pass s p k (omega arith) (λ j d low high. none j d low (omega arith))

-- What `position` says of the bytes t: the first LF is at its answer, or there is none.
abbrev FirstAt : Option ℕ → List ℕ → Type 0
FirstAt r t = MatchOption r (AllWithin Other t 0 (length t)) (λ i. (i < length t) × HoldsAt (λ b. b ≡ lf) t i × AllWithin Other t 0 i)

found : (c : After-position) → FirstAt c.position.result (drop c.skip_blocks-near.result c.args.s.now)
found c =
    let s = c.args.s.now in
    let p = c.skip_blocks-near.result in
    let all : take (length s - p) (drop p s) ≡ drop p s = take_all _ (drop p s) (omega (arith, length-drop p s)) in
    subst (FirstAt c.position.result) all
    (IsFirst-from_position _ _ c.position.result (λ b. b ≡ lf) Other c.position.ensures.ran (YieldsList-from_slice _ c.iter.ensures.rest)
    (λ x q k. search (rules, tests)) (λ x q k. search (rules, tests)))

pub returns : goal.returns
returns c =
    let s = c.args.s.now in
    let p = c.skip_blocks-near.result in
    let k = c.in_ok-k.k in
    let is = subst (λ (r : Option ℕ). FirstAt r (drop p s)) c.in_ok-k.was (found (goal.at.returns c).After-position) in
    let inside : p + k + 1 ≤ length s = omega (arith, is.0, length-drop p s) in
    line_ends s (p + k) (omega arith) (sym (get_or-drop p s k 0) ∙ is.1 0) ∙ others_pass s p k (omega arith) is.2 ∙ c.skip_blocks-near.ensures.0

pub returns-in_err-k : goal.returns-in_err-k
returns-in_err-k c =
    let s = c.args.s.now in
    let p = c.skip_blocks-near.result in
    let none = subst (λ (r : Option ℕ). FirstAt r (drop p s)) c.in_err-k.was (found (goal.at.returns-in_err-k c).After-position) in
    c.from_residual.ensures ∙ line_over s (p + length (drop p s)) (omega (arith, length-drop p s)) ∙ others_pass s p (length (drop p s)) (omega (arith, length-drop p s)) none
    ∙ c.skip_blocks-near.ensures.0
