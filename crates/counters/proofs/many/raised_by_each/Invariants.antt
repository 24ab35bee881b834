-- The loop of `raised_by_each`.
use Rattle.std.proofs.Common.{map, drop, ◌≡◌}
use Rattle.model.specs.Counters.{word_counter, raised_by_all}
use Rattle.counters.proofs.many.raised_by_each.Given as goal

-- what is left to count comes, on the record so far, to what all of it does on the first
abbrev pub invariant-loop-status : goal.invariant-loop-status
invariant-loop-status l = raised_by_all (map word_counter (drop l.status-index l.statuses)) l.counters ≡ raised_by_all (map word_counter l.statuses) l.fn.counters
