use Rattle.std.proofs.Common.{ap, ◌∙◌}
use Rattle.votes.specs.declared.Rows.{Rows}
use Rattle.replica.specs.Steps.{answer_of, ask_with}
use Rattle.replica.specs.AskLaws.{gathered_asked}
use Rattle.replica.proofs.Replica.ask_over.Goals as goal

pub returns : goal.returns
returns c =
    let a = c.args in
    c.ask.ensures ∙ ap (λ (t : Rows). answer_of (ask_with a.self a.q t)) c.gather_over.ensures ∙ ap answer_of (gathered_asked a.self a.q a.rows.now)
