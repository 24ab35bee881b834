-- `contents::Table::reserved_clear` meets its contract: what the library says of `all`, in the model's word. Assumes nothing.
use Rattle.std.proofs.Common.{rules, tests, eqb, get_or}
use Rattle.std.proofs.lemmas.Iterator.{YieldsList-from_slice}
use Rattle.std.proofs.lemmas.Iterator.Search.{all_from_yields_List}
use Rattle.contents.proofs.Entries.{all_clear}
use Rattle.contents.proofs.Table.reserved_clear.Goals as goal

pub returns : goal.returns
returns c =
    rw (← all_clear c.args.self.now.entries.now c.args.self.now.bodies.now)
    (all_from_yields_List (λ e. eqb (get_or e 1 0) 0) _ _ _ c.all.ensures.ran (YieldsList-from_slice c.args.self.now.entries.now cc) (λ x b q k. search (rules, tests)))
