-- `nodes::read_sheet` meets its contract: a law for each way out, whose premises are what the tests before it showed. Assumes nothing.
use Rattle.std.proofs.lemmas.Result.{err_from_is_err_and}
use Rattle.nodes.proofs.Order.{formed_contents, formed_readable, sheet_malformed, sheet_falling, sheet_fault, sheet_incomplete, sheet_read}
use Rattle.nodes.proofs.read_sheet.Goals as goal

pub returns-then-not-well_formed : goal.returns-then-not-well_formed
returns-then-not-well_formed c = search sheet_malformed

pub of-table-requires : goal.of-table-requires
of-table-requires c = search formed_contents

pub returns-then-not-nodes_rise : goal.returns-then-not-nodes_rise
returns-then-not-nodes_rise c = search sheet_falling

pub read_bodies-requires : goal.read_bodies-requires
read_bodies-requires c = search formed_readable

pub returns-in_err-values : goal.returns-in_err-values
returns-in_err-values c =
    let p = err_from_is_err_and c.from_residual.result c.from_residual.ensures.1 in
    rw (p.1, p.2) (search (sheet_fault, c.in_err-values.ensures))

pub returns-then-not-has_required : goal.returns-then-not-has_required
returns-then-not-has_required c = search (sheet_incomplete, c.in_ok-values.ensures)

pub returns : goal.returns
returns c = search (sheet_read, c.in_ok-values.ensures)
