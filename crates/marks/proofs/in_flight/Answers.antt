-- `marks::in_flight` meets its contract: the set digits are the set marks (the model's Busy).
use Rattle.model.proofs.Busy.{ones-in_flight}
use Rattle.marks.proofs.in_flight.Goals as goal

pub returns : goal.returns
returns c = ones-in_flight c.args.marks c.ranges.marks.fits
