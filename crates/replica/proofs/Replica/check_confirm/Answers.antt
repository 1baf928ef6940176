use Rattle.std.proofs.Common.{rules}
use Rattle.entry.specs.Laws.{same_words}
use Rattle.replica.proofs.Replica.check_confirm.Goals as goal

pub returns : goal.returns
returns c = simp (same_words c.args.c.entry c.args.self.now.chosen) (search rules)
