-- `outcomes::start` meets its contract: the tag is the lowest free one, and four writes of the memory are the start.
use mathlib.Core.Path.{◌∙◌}
use Rattle.memory.specs.Backend.{backend_of}
use Rattle.outcomes.proofs.Outcomes.{lowest-tag, lowest-lt, lowest-clear, began}
use Rattle.outcomes.proofs.start.Goals as goal

pub new-t-requires : goal.new-t-requires
new-t-requires c =
    let a = c.args in
    rw c.lowest_free.ensures (lowest-lt (backend_of a.memory.now) a.k.index a.p c.requires.0)

pub set_mark-requires : goal.set_mark-requires
set_mark-requires c =
    let a = c.args in
    rw (c.new-t.ensures, c.lowest_free.ensures) (lowest-clear (backend_of a.memory.now) a.k.index a.p c.requires.0)

pub returns : goal.returns
returns c =
    let a = c.args in
    let o = c.requires.0 in
    let e = c.new-t.ensures ∙ c.lowest_free.ensures ∙ lowest-tag (backend_of a.memory.now) a.k.index a.p o in
    record {
      answer = rw (← e, c.id.ensures, c.id-2.ensures);
      memory =
          rw (← e, ← c.expected_of.ensures)
          (began a.k.index c.new-t.result.index c.next_index.result c.set_mark.result a.p o.reads _ c.next_index.ensures c.set_mark.ensures
          c.set_tag.ensures c.set_consumed.ensures c.set_busy_marks.ensures c.advance.ensures);
    }
