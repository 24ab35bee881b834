-- `records::tag::set_tag` meets its contract: the run of the tag's words is the tag put (memory's Changes).
use native.Mathlib.Omega.{arith}
use Rattle.memory.specs.Words.{set_tag}
use Rattle.memory.proofs.Changes.{tag-put}
use Rattle.records.proofs.tag.set_tag.Goals as goal

pub returns : goal.returns
unfolding set_tag
returns c =
    let a = c.args in
    rw (c.put_run.ensures, c.get.ensures, c.get-2.ensures, c.tag_words.ensures)
    (tag-put a.m.now (omega arith) a.k.index (omega arith) a.t.index (omega arith) a.x (record { operation = omega arith; serial = omega arith; expected = omega arith }))
