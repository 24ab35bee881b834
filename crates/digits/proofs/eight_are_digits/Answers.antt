-- `digits::eight_are_digits` meets its contract: what the library says of `fold`, in the model's word. Assumes nothing.
use Rattle.std.proofs.Common.{rules, ◌≡◌, List, ℕ, Bool}
use Rattle.std.proofs.Math.Seq.{take-length}
use Rattle.std.proofs.lemmas.Fn.{fold_over, fronts, slice_gives}
use mathlib.Core.Path.{refl, ap, ◌∙◌}
use Rattle.model.specs.Base.{all}
use Rattle.model.specs.NodeSheet.{is_digit}
use Rattle.digits.proofs.Digits.{all_append, all_one}
use Rattle.digits.proofs.eight_are_digits.Goals as goal

pub returns : goal.returns
unfolding all
returns c =
    let whole : c.iter.result.rest.now ≡ c.args.eight.now = search (rules, take-length) in
    fold_over fronts (λ y. y.now) _ (λ (ys : List ℕ) (a : Bool). a ≡ all is_digit ys) _
    (λ ys a x b f' j k. search (rules, all_append, all_one)) c.iter.result _ _ _ (slice_gives c.iter.result) refl c.fold.ensures.ran
    ∙ ap (all is_digit) whole
