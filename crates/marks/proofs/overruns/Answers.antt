-- `marks::overruns` meets its contract: no ring has fewer slots than one page (the model's Ring); else by the room beside the requests in flight (Marks).
--
use borrow.Author.Tests.{le-ltb}
use mathlib.Core.Path.{sym}
use native.Mathlib.Omega.{arith}
use Prim.Native.Nat.{◌+◌}
use Rattle.model.specs.Port.{in_flight_of}
use Rattle.model.specs.Ring.{ring_for}
use Rattle.model.proofs.Ring.{fits-for}
use Rattle.marks.proofs.overruns.Goals as goal

pub returns-then-fits_one_page : goal.returns-then-fits_one_page
returns-then-fits_one_page c abi =
    let a = c.args in
    sym (le-ltb (ring_for abi a.pages).size (a.d + in_flight_of a.marks) (omega (arith, c.fits_one_page.ensures c.if-fits_one_page.true, (fits-for abi a.pages).least)))
