-- What is answered where a call is judged, of one table and of two.
use mathlib.Core.List.{◌++◌}
use mathlib.Core.Path.{◌≡◌, sym, ap, ◌∙◌}
use Rattle.std.specs.Prelude.{Result, Ok, Err}
use Rattle.base.specs.declared.refusal.Refusal.{Refusal}
use Rattle.base.specs.Refusal.{Refusals, judged}
use Rattle.base.specs.RefusalLaws.{judged_ok, judged_err}
use Rattle.votes.specs.declared.Choice.{Choice}
use Rattle.votes.specs.Rows.{answered}

module _ (s : Result Choice Refusal) where
  pub refuses : {r : Result (Unit {0}) Refusal} {why : Refusal} → r ≡ Err why → Err why ≡ answered r s
  refuses e = sym (ap (λ x. answered x s) e)

  pub goes_on : {r : Result (Unit {0}) Refusal} → r ≡ Ok tt → s ≡ answered r s
  goes_on e = sym (ap (λ x. answered x s) e)

module _ (rs ss : Refusals) where
  pub front : {why : Refusal} → judged rs ≡ Err why → judged (rs ++ ss) ≡ Err why
  front {why} e = judged_err rs ss why e

  pub behind : {r : Result (Unit {0}) Refusal} → judged rs ≡ Ok tt → judged ss ≡ r → judged (rs ++ ss) ≡ r
  behind e h = judged_ok rs ss e ∙ h
