-- `marks::all_below` meets its contract: marks that are all below n are no more than n (Marks).
use borrow.Author.Tests.{eqb-true}
use Rattle.marks.proofs.Marks.{shifted-out, few-below}
use Rattle.marks.proofs.all_below.Goals as goal

pub returns : goal.returns
returns c e =
    let a = c.args in
    few-below a.n a.marks c.ranges.marks.fits (shifted-out a.n a.marks (eqb-true _ 0 e))
