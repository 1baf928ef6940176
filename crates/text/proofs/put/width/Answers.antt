use Rattle.text.proofs.Putting.{log_width}
use Rattle.text.proofs.put.width.Goals as goal

pub returns : goal.returns
returns c =
    let r = c.ilog10 in
    let is = c.max.ensures in
    log_width r.result c.args.v (rw is at r.ensures.power_le) (rw is at r.ensures.next_power_gt) r.ensures.bound
