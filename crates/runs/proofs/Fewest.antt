-- The groups keep to the rules of grouping, and no other way has fewer. Assumes nothing.
use mathlib.Core.Path.{◌≡◌, refl, sym, ◌∙◌, ap, subst}
use mathlib.Core.Bool.{true}
use mathlib.Core.List.{List, [], ◌∷◌, ◌++◌}
use Prim.Native.Nat.{suc, ◌≤◌}
use native.Mathlib.Omega.{arith}
use lib.ListN.{length}
use Rattle.model.proofs.Base.{by_cond}
use Rattle.runs.specs.Join.{joins, joins_next, in_first, groups_of, runs_of}
use Rattle.runs.specs.Theorems.{concat, Chained, AllChained, Grouping}
use Rattle.runs.specs.declared.Run.{Run}
use Rattle.runs.proofs.Runs.{begun, in-first, count-on, count_none, count-joined, ending-one}

next-is : (e f : Run) (fs : List Run) → joins_next e (f ∷ fs) ≡ joins e f
unfolding joins_next
next-is e f fs = refl

-- ---- the groups are a grouping

in-front : (e : Run) (gs : List (List Run)) → concat (in_first e gs) ≡ e ∷ concat gs
unfolding concat in_first
in-front e [] = refl
in-front e (g ∷ gs) = refl

ordered : (es : List Run) → concat (groups_of es) ≡ es
unfolding groups_of concat
ordered [] = refl
ordered (e ∷ es) = by_cond (λ gs. concat gs ≡ e ∷ es) (joins_next e es) (in_first e (groups_of es)) ((e ∷ []) ∷ groups_of es)
    (λ _. in-front e (groups_of es) ∙ ap (λ (fs : List Run). e ∷ fs) (ordered es))
    (λ _. ap (λ (fs : List Run). e ∷ fs) (ordered es))

joined-front : (e f : Run) (g : List Run) (gs : List (List Run)) → joins e f ≡ true → AllChained ((f ∷ g) ∷ gs) → AllChained ((e ∷ f ∷ g) ∷ gs)
unfolding AllChained Chained
joined-front e f g gs j all = ((j, all.0), all.1)

alone : (e : Run) (gs : List (List Run)) → AllChained gs → AllChained ((e ∷ []) ∷ gs)
unfolding AllChained Chained
alone e gs all = (tt, all)

chained : (es : List Run) → AllChained (groups_of es)
unfolding groups_of AllChained joins_next
chained [] = tt
chained (e ∷ []) = alone e [] tt
chained (e ∷ f ∷ fs) = by_cond AllChained (joins e f) (in_first e (groups_of (f ∷ fs))) ((e ∷ []) ∷ groups_of (f ∷ fs))
    (λ j. subst AllChained (sym (ap (in_first e) (begun f fs).is ∙ in-first e (f ∷ (begun f fs).more) (begun f fs).others))
    (joined-front e f (begun f fs).more (begun f fs).others j (subst AllChained (begun f fs).is (chained (f ∷ fs)))))
    (λ _. alone e (groups_of (f ∷ fs)) (chained (f ∷ fs)))

pub grouping : (es : List Run) → Grouping es (groups_of es)
grouping es = record { ordered = ordered es; chained = chained es }

-- ---- no way has fewer

-- a group in front makes at most one run more
one_more : (g xs : List Run) → Chained g → length (runs_of (g ++ xs)) ≤ suc (length (runs_of xs))
unfolding Chained
one_more [] xs c = omega arith
one_more (e ∷ []) xs c = omega (arith, count-on e xs, ending-one (joins_next e xs))
one_more (e ∷ f ∷ g) xs c = omega (arith, count-joined e (f ∷ (g ++ xs)) (next-is e f (g ++ xs) ∙ c.0), one_more (f ∷ g) xs c.1)

few : (groups : List (List Run)) → AllChained groups → length (runs_of (concat groups)) ≤ length groups
unfolding AllChained concat
few [] all = omega (arith, count_none)
few (g ∷ gs) all = omega (arith, one_more g (concat gs) all.0, few gs all.1)

pub fewest : (es : List Run) (groups : List (List Run)) → Grouping es groups → length (runs_of es) ≤ length groups
fewest es groups way = subst (λ (xs : List Run). length (runs_of xs) ≤ length groups) way.ordered (few groups way.chained)
