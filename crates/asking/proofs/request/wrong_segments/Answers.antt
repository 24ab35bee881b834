-- `asking::request::wrong_segments` meets its contract. Assumes nothing.
use Rattle.std.proofs.Common.{rules, tests, not, ap, ◌∙◌, arith, ◌/◌, length, take, drop, get_or-take, get_or-drop, length-take, length-drop}
use Rattle.std.specs.Simd.{first_chunks}
use Rattle.std.proofs.lemmas.Iterator.{YieldsList-from_slice}
use Rattle.std.proofs.lemmas.Iterator.Search.{all_from_yields_List}
use Rattle.asking.proofs.request.wrong_segments.Goals as goal
use Rattle.asking.proofs.Segments.{passes, all-pass}

pub returns : goal.returns
returns c =
    let w = c.args.request.now in
    let xs = take 33 (drop 8 w) in
    let front = c.iter.ensures.rest ∙ ap (take c.args.n) c.as_chunks.ensures.front in
    ap not
    (all_from_yields_List passes _ _ _ c.all.ensures.ran (YieldsList-from_slice (take c.args.n (first_chunks 3 (length xs / 3) xs)) front) (λ x b q k. search (rules, tests))
    ∙ all-pass w xs c.args.n 0 (length xs / 3) (omega (arith, length-take 33 (drop 8 w), length-drop 8 w)) (λ j l. get_or-take 33 (drop 8 w) j 0 (omega arith) ∙ get_or-drop 8 w j 0))
