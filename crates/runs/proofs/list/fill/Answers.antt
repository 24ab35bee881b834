use Rattle.std.proofs.Common.{◌<◌, [], ◌∷◌, sym, ap, refl, arith, length}
use Rattle.runs.specs.Answer.{filled}
use Rattle.runs.proofs.Filling.{filled_none, filled_next, start, next, free, all, full}
use Rattle.runs.proofs.list.fill.Goals as goal
use Rattle.std.proofs.lemmas.List.{length-append, set-get_or}

pub loop-run-init : goal.loop-run-init
loop-run-init c = record { state = start c.requires.1.1.0; place = refl; count = refl; list = sym (filled_none c.args.list.now) }

pub first_run-found-requires : goal.first_run-found-requires
first_run-found-requires c =
    let s = c.loop-run.invariant.state in
    (omega (arith, s.within, c.loop-run.invariant.place), rw (← c.loop-run.invariant.place) s.sound)

pub loop-run-preserved : goal.loop-run-preserved
loop-run-preserved c =
    let s = c.loop-run.invariant.state in
    let found = rw (← c.loop-run.invariant.place) at c.first_run-found.ensures in
    let run = c.first_run-found.result.run in
    let old = c.args.list.now in
    let room : length s.found < length old = free s old c.requires.1.1.1 c.first_run-found.result found in
    record {
      state = next s c.first_run-found.result found;
      place = refl;
      count = omega (arith, length-append s.found (run ∷ []), c.loop-run.invariant.count);
      list = rw (c.loop-run.invariant.list, ← c.loop-run.invariant.count) (filled_next s.found old run room);
    }

pub returns-then-from-n : goal.returns-then-from-n
returns-then-from-n c =
    let s = c.loop-run.invariant.state in
    rw (c.loop-run.invariant.list, set-get_or) (ap (λ rs. filled rs c.args.list.now) (all s (omega arith)))

pub returns : goal.returns
returns c =
    let s = c.loop-run.invariant.state in
    let same = full s (omega (arith, c.loop-run.invariant.count, c.requires.1.1.1)) in
    rw c.loop-run.invariant.list (ap (λ rs. filled rs c.args.list.now) same)
