-- `digits::are_digits` meets its contract: what the library says of `all`, in the model's word. Assumes nothing.
use Rattle.std.proofs.Common.{rules, tests}
use Rattle.std.proofs.lemmas.Iterator.{YieldsList-from_slice}
use Rattle.std.proofs.lemmas.Iterator.Search.{all_from_yields_List}
use Rattle.model.specs.NodeSheet.{is_digit}
use Rattle.digits.proofs.Digits.{all_is_list_all}
use Rattle.digits.proofs.are_digits.Goals as goal

pub returns : goal.returns
returns c =
    rw (← all_is_list_all is_digit c.args.text.now)
    (all_from_yields_List is_digit _ _ _ c.all.ensures.ran (YieldsList-from_slice c.args.text.now cc) (λ x b q k. search (rules, tests)))
