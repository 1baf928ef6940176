use Rattle.std.specs.Prelude.{ℕ, ◌≤◌, Option, IfSome}
use Rattle.std.proofs.Common.{sym, subst}
use Rattle.text.specs.DecimalLaws.{decimal_below}
use Rattle.messages.proofs.read.number_at.Goals as goal

pub returns-clause-small : goal.returns-clause-small
returns-clause-small c =
    subst (λ (o : Option ℕ). IfSome o (λ v. v ≤ c.args.max)) (sym c.in_ok-decimal.ensures) (decimal_below c.args.max _)
