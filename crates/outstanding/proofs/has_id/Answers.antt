-- `outstanding::has_id` meets its contract. Assumes nothing.
use Rattle.std.proofs.Common.{◌+◌, ◌-◌, ◌∙◌, arith}
use Rattle.outstanding.proofs.has_id.Goals as goal
use Rattle.outstanding.proofs.Words.{length_outstanding, has-ids}

pub returns : goal.returns
returns c =
    let w = c.args.w.now in
    c.contains.ensures.value
    ∙ has-ids w c.told-w (3 + c.outstanding.result - 3) c.args.id (omega (arith, c.outstanding.ensures.0, length_outstanding w))
