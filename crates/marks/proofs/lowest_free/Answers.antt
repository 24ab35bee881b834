-- `marks::lowest_free` meets its contract: the zeros at the end of the complement (the model's Busy).
use Rattle.model.specs.Port.{busy_bits}
use Rattle.model.proofs.Busy.{lowest-clear}
use Rattle.marks.proofs.lowest_free.Goals as goal

pub returns : goal.returns
returns c = lowest-clear busy_bits c.args.marks c.ranges.marks.fits
