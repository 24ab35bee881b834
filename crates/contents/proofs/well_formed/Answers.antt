-- `contents::well_formed` meets its contract: the bodies end the sheet if they are as long as all behind the table of contents. Assumes nothing.
use Rattle.std.proofs.Common.{length}
use Rattle.contents.proofs.Entries.{formed-ends}
use Rattle.contents.proofs.well_formed.Goals as goal
use mathlib.Core.Path.{sym, ap, ◌∙◌}
use native.Mathlib.Omega.{arith}
use Rattle.model.specs.Base.{all}
use Rattle.contents.specs.Contents.{is_clear}

pub returns-then-reserved_clear : goal.returns-then-reserved_clear
returns-then-reserved_clear c =
    let clear = ap (all is_clear) (sym c.of-table.ensures.entries) ∙ sym c.if-reserved_clear.ensures in
    let end = rw (← c.total_length.ensures) at c.of-table.ensures.end in
    formed-ends c.args.sheet.now (omega arith) (omega arith) c.total_length.result (length c.of-table.result.bodies.now) clear end c.of-table.ensures.whole
