-- `records::words::put_run` meets its contract: words stored one after another are the run in its place.
use Rattle.std.proofs.Common.{rules, arith}
use Rattle.std.proofs.lemmas.List.Edits.{sets-eq}
use Rattle.std.proofs.lemmas.Slice.{overwrites}
use Rattle.records.proofs.words.put_run.Goals as goal

pub returns : goal.returns
returns c =
    let a = c.args in
    rw (sets-eq a.w.now a.m.now a.from (omega arith)) (search (rules, overwrites))
