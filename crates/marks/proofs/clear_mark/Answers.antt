-- `marks::clear_mark` meets its contract: the shifted one is the mark's weight, and a set mark has it (Marks, and Busy of the model).
use Rattle.std.proofs.Common.{arith}
use Rattle.model.proofs.Busy.{busy-weight}
use Rattle.marks.proofs.Marks.{shifted}
use Rattle.marks.proofs.clear_mark.Goals as goal

pub overflow_sub-result : goal.overflow_sub-result
overflow_sub-result c = rw (c.get.ensures, shifted c.args.t.index (omega arith)) (busy-weight c.args.t.index c.args.marks c.requires)
