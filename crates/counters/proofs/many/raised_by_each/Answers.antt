-- `counters::many::raised_by_each` meets its contract, status by status.
use Rattle.std.proofs.Common.{◌≡◌, ◌+◌, ◌<◌, ◌∙◌, ℕ, List, map, drop, length, get_or, drop-cons, add-one, arith}
use Rattle.std.proofs.Math.Seq.{drop-length}
use Rattle.model.specs.Counters.{word_counter, raised_by, raised_by_all}
use Rattle.model.specs.declared.Counters.{Counters}
use Rattle.counters.proofs.many.raised_by_each.Goals as goal

-- the next status is the first of those left
next : (c : Counters) (s : List ℕ) (i : ℕ) → i < length s → raised_by_all (map word_counter (drop (i + 1) s)) (raised_by (word_counter (get_or s i 0)) c) ≡ raised_by_all (map word_counter (drop i s)) c
next c s i h = rw (add-one, drop-cons s i 0 h)

pub loop-status-preserved : goal.loop-status-preserved
loop-status-preserved c =
    rw (c.raise.ensures, c.of_word.ensures) (next c.loop-status.counters c.args.statuses.now c.loop-status.status-index c.loop-status-test.true ∙ c.loop-status.invariant)

pub returns : goal.returns
returns c =
    let all : c.loop-status.status-index ≡ length c.args.statuses.now = omega arith in
    rw (all, drop-length c.args.statuses.now) at c.loop-status.invariant
