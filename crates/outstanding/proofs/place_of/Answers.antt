-- `outstanding::place_of` meets its contract. Assumes nothing.
use Rattle.std.proofs.Common.{rules, tests, ◌+◌, ◌-◌, ◌∙◌, ◌&&◌, eqb, ap, ℕ, take, drop, arith}
use Rattle.std.proofs.lemmas.Iterator.{YieldsList-from_slice, YieldsList-from_zip}
use Rattle.std.proofs.lemmas.Iterator.Search.{position_from_yields_List}
use Rattle.outstanding.proofs.place_of.Goals as goal
use Rattle.outstanding.proofs.Words.{length_outstanding, found-pairs}

pub returns : goal.returns
returns c =
    let w = c.args.w.now in
    let n = c.outstanding-n.result in
    let j = 3 + n - 3 in
    let k = 35 + n - 35 in
    let q = c.args.pair in
    position_from_yields_List (λ (p : ℕ × ℕ). eqb q.id p.0 && eqb q.operation p.1) c.position.new.self _ c.position.result c.position.ensures.ran
    (YieldsList-from_zip (YieldsList-from_slice (take j (drop 3 w)) (ap (λ s. s.rest.now) c.zip.ensures.first ∙ c.iter.ensures.rest)) (YieldsList-from_slice (take k (drop 35 w)) c.zip.ensures.second.0))
    (λ x b q k. search (rules, tests))
    ∙ found-pairs w c.told-w j k q (omega (arith, c.outstanding-n.ensures.0, length_outstanding w)) (omega (arith, c.outstanding-n.ensures.0, length_outstanding w))
