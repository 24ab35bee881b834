-- `lists::clear_rest` meets its contract: the words written are the last of the answer. Assumes nothing.
use mathlib.Core.Path.{◌≡◌, sym, ap, ◌∙◌}
use mathlib.Core.List.{List, [], ◌++◌, append-nil}
use Prim.Native.Nat.{ℕ, ◌+◌, ◌-◌, ◌≤◌}
use native.Mathlib.Omega.{arith}
use lib.ListN.{length, take, drop, replicate, length-take, length-drop, length-replicate, drop_of_length-le}
use lib.Seq.{sets, sets-eq}
use borrow.Rule.Slice.PartMut.{put_mid}
use Rattle.lists.proofs.clear_rest.Goals as goal

-- zeros put over all words from a place on
zeros_put : (answer zeros : List ℕ) (at m : ℕ) → length answer ≡ 68 → at ≤ 68 → m ≡ 68 - at → zeros ≡ replicate m 0
    → put_mid at (68 - at) answer zeros ≡ sets answer at (replicate (68 - at) 0)
zeros_put answer zeros at m l h p e =
    let zs = replicate {A = ℕ} (68 - at) 0 in
    let same : zeros ≡ zs = e ∙ ap (λ (n : ℕ). replicate n 0) p in
    let none : drop (68 - at) (drop at answer) ≡ [] = drop_of_length-le (drop at answer) {i = 68 - at} (simp length-drop (omega arith)) in
    let past : drop (at + length zs) answer ≡ [] = drop_of_length-le answer {i = at + length zs} (simp length-replicate (omega arith)) in
    (λ i. take at answer ++ (same i ++ none i))
    ∙ ap (λ (z : List ℕ). take at answer ++ z) (append-nil zs)
    ∙ sym (sets-eq zs answer at (simp length-replicate (omega arith)) ∙ ap (λ (z : List ℕ). take at answer ++ zs ++ z) past ∙ append-nil (take at answer ++ zs))

pub returns : goal.returns
returns c =
    let last : 68 - (4 + c.args.n) ≡ 64 - c.args.n = omega arith in
    zeros_put c.args.answer.now c.fill.new.self (4 + c.args.n) _ (omega arith) (omega arith) (simp (length-take, length-drop) (omega arith))
    (c.fill.ensures.after (λ y h. h))
    ∙ ap (λ (n : ℕ). sets c.args.answer.now (4 + c.args.n) (replicate n 0)) last
