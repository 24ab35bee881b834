use Rattle.std.proofs.Common.{◌≡◌, length}
use Rattle.runs.specs.Answer.{filled}
use Rattle.runs.proofs.Filling.{Filling}
use Rattle.runs.proofs.list.fill.Given as goal

abbrev pub invariant-loop-run : goal.invariant-loop-run
invariant-loop-run l = record {
  state : Filling l.words l.frames l.n;
  place : state.from ≡ l.from;
  count : length state.found ≡ l.run-index;
  list : l.list ≡ filled state.found l.fn.list;
}
