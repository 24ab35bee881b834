-- `marks::is_busy` meets its contract: the digit that a shift leaves lowest (Marks).
use Rattle.marks.proofs.Marks.{busy-shift}
use Rattle.marks.proofs.is_busy.Goals as goal

pub returns : goal.returns
returns c = rw c.get.ensures (busy-shift c.args.t.index c.args.marks)
