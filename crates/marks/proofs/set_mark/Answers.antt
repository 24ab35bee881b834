-- `marks::set_mark` meets its contract: the shifted one is the mark's weight, and a clear mark has room for it (Marks, and Busy of the model).
use Rattle.std.proofs.Common.{arith}
use Rattle.model.specs.Port.{busy_bits}
use Rattle.model.proofs.Busy.{busy-room}
use Rattle.marks.proofs.Marks.{shifted}
use Rattle.marks.proofs.set_mark.Goals as goal

pub overflow_add-result : goal.overflow_add-result
overflow_add-result c =
    let a = c.args in
    rw (c.get.ensures, shifted a.t.index (omega arith)) (record { fits = busy-room busy_bits a.t.index a.marks (omega arith) c.ranges.marks.fits c.requires })
