use Rattle.std.proofs.Common.{◌≡◌, ℕ, ◌+◌, ◌<◌, length, List, [], ◌∷◌, ◌++◌, get_or, take, refl, sym, ap, ◌∙◌, false, add-one}
use Rattle.std.proofs.Math.Seq.{take-suc}
use Rattle.votes.specs.declared.Row.{Row}
use Rattle.votes.specs.declared.Rows.{Rows}
use Rattle.votes.specs.Rows.{zero_vote, gathered, added}
use Rattle.votes.proofs.slice.gather_over.Goals as goal

abbrev no_row : Row
no_row = record { seat = record { 0 = 0 }; verified = false; view = record { 0 = 0 }; vote = zero_vote }

gathered_snoc : (t : Rows) (rs : List Row) (r : Row) → gathered t (rs ++ (r ∷ [])) ≡ added (gathered t rs) r
gathered_snoc t [] r = refl
gathered_snoc t (x ∷ rs) r = gathered_snoc (added t x) rs r

one_more : (t : Rows) (rs : List Row) (i : ℕ) → i < length rs → added (gathered t (take i rs)) (get_or rs i no_row) ≡ gathered t (take (i + 1) rs)
one_more t rs i h =
    sym (ap (λ (k : ℕ). gathered t (take k rs)) (add-one i) ∙ ap (gathered t) (take-suc rs i no_row h) ∙ gathered_snoc t (take i rs) (get_or rs i no_row))

pub loop-row-preserved : goal.loop-row-preserved
loop-row-preserved c =
    let l = c.loop-row in
    c.add-t.ensures ∙ ap (λ (t : Rows). added t (get_or c.args.rows.now l.row-index no_row)) l.invariant ∙ one_more _ c.args.rows.now l.row-index c.loop-row-test.true
