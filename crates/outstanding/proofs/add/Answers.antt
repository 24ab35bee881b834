-- `outstanding::add` meets its contract. Assumes nothing.
use Rattle.outstanding.specs.Words.{guest_of, words_put}
use Rattle.outstanding.proofs.add.Goals as goal
use mathlib.Core.Path.{◌∙◌}
use Rattle.outstanding.proofs.Words.{length_outstanding}

pub returns : goal.returns
unfolding guest_of words_put
returns c =
    rw (
      c.set_pair.ensures,
      c.next_index-next.ensures,
      c.index_at.ensures,
      c.outstanding-n.ensures.0 ∙ length_outstanding c.args.w.now,
    )
