-- `contents::Table::has_node` meets its contract: what the library says of `any`, in the model's word. Assumes nothing.
use Rattle.std.proofs.Common.{rules, tests, eqb, get_or}
use Rattle.std.proofs.lemmas.Iterator.{YieldsList-from_slice}
use Rattle.std.proofs.lemmas.Iterator.Search.{any_from_yields_List}
use Rattle.contents.proofs.Entries.{any_present}
use Rattle.contents.proofs.Table.has_node.Goals as goal

pub returns : goal.returns
returns c =
    rw (← any_present c.args.node c.args.self.now.entries.now c.args.self.now.bodies.now)
    (any_from_yields_List (λ e. eqb (get_or e 0 0) c.args.node) _ _ _ c.any.ensures.ran (YieldsList-from_slice c.args.self.now.entries.now cc) (λ x b q k. search (rules, tests)))
