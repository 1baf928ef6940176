use Rattle.std.proofs.Common.{◌≡◌, cond, is_some, sym, ◌∙◌}
use Rattle.transcript.proofs.Beginning.{begun_is}
use Rattle.transcript.proofs.begin.begin.Goals as goal
use Rattle.transcript.proofs.begin.begin.Goals.{then-is_some, else-is_some}

pub returns : goal.returns
returns c =
    let number : c.if-is_some.result ≡ cond (is_some c.read_setup-read.result) c.setup_step-t.result.number 19 =
    elim c.if-is_some.branch [
      | then-is_some w ↦ simp (sym c.is_some.ensures ∙ w.if-is_some.true) w.result-is
      | else-is_some w ↦ simp (sym c.is_some.ensures ∙ w.if-is_some.false) w.result-is
    ] in
    begun_is _ _ _ _ _ _ _ c.read_setup-read.ensures c.setup_said-h.ensures c.unwrap_or.ensures c.setup_step-t.ensures number c.resume.ensures
