-- `outstanding::end` meets its contract. Assumes nothing.
use Rattle.outstanding.specs.Words.{pair_at, guest_of, words_ended}
use Rattle.outstanding.proofs.end.Goals as goal
use mathlib.Core.Path.{◌∙◌}
use Rattle.outstanding.proofs.Words.{length_outstanding}

pub returns : goal.returns
unfolding guest_of pair_at words_ended
returns c =
    rw (
      c.set_pair.ensures,
      c.next_index-next.ensures,
      c.index_at.ensures,
      c.outstanding-last.ensures.0 ∙ length_outstanding c.args.w.now,
    )
