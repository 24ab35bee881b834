-- `completion::release` meets its contract: three writes of the memory are the tag released.
use Rattle.completion.proofs.Completions.{released}
use Rattle.completion.proofs.release.Goals as goal

pub returns : goal.returns
returns c =
    let a = c.args in
    released a.k.index a.t.index c.next_index.result c.clear_mark.result a.p c.requires.read c.next_index.ensures c.clear_mark.ensures
    c.set_tag.ensures c.set_produced.ensures c.set_busy_marks.ensures
