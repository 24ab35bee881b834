-- The runs move the sectors that the extents do, and the disk's go up by one. Assumes nothing.
use borrow.Author.Tests.{eqb-true, eq-eqb, ne_eqb}
use mathlib.Core.Path.{◌≡◌, refl, sym, ◌∙◌, ap}
use mathlib.Core.Bool.{Bool, true, false, ◌&&◌, ◌||◌}
use mathlib.Core.List.{List, [], ◌∷◌, ◌++◌, map, append_assoc, map-append}
use Prim.Native.Nat.{ℕ, zero, suc, ◌+◌}
use native.Mathlib.Decide.{ℕ_discrete}
use native.Mathlib.Nat.{add-zero, add-suc, zero-add, suc-add}
use native.Mathlib.Omega.{arith}
use lib.Dec.{eqb}
use Rattle.model.proofs.Base.{clash, and_left, and_right, or-true}
use Rattle.runs.specs.Join.{frame_sectors, is_sound, followed, are_sound, joins, joins_next, groups_of, total_length, run_of, runs_of}
use Rattle.runs.specs.Theorems.{concat, Move, moves_from, starts_at, moves, moves_of, count_from, start_of}
use Rattle.runs.specs.declared.Run.{Run}
use Rattle.runs.proofs.Extents.{sound-some, sound-frame, sound-next, sound-rest, follows-at}
use Rattle.runs.proofs.Runs.{begun, groups-joined, runs-apart}

-- ---- two that join

either : {P : Type 0} (a b : Bool) → (a ≡ true → P) → (b ≡ true → P) → a || b ≡ true → P
either true b f g e = f refl
either false b f g e = g e

-- one that joins begins right behind the other, counted over all frames
machine : (e f : Run) → joins e f ≡ true → starts_at f ≡ starts_at e + e.length
unfolding joins
machine e f = either (same && here) (ends && (begins && next)) within across
  where
    same : Bool
    same = eqb f.frame e.frame

    here : Bool
    here = eqb f.first (e.first + e.length)

    ends : Bool
    ends = eqb (e.first + e.length) frame_sectors

    begins : Bool
    begins = eqb f.first 0

    next : Bool
    next = eqb f.frame (suc e.frame)

    within : same && here ≡ true → starts_at f ≡ starts_at e + e.length
    within h = omega (arith, eqb-true f.frame e.frame (and_left same here h), eqb-true f.first (e.first + e.length) (and_right same here h))

    across : ends && (begins && next) ≡ true → starts_at f ≡ starts_at e + e.length
    across h =
        let more = and_right ends (begins && next) h in
        omega (arith, eqb-true (e.first + e.length) frame_sectors (and_left ends (begins && next) h), eqb-true f.first 0 (and_left begins next more), eqb-true f.frame (suc e.frame) (and_right begins next more))

-- and one that begins there joins
behind : (e f : Run) → is_sound e ≡ true → is_sound f ≡ true → starts_at f ≡ starts_at e + e.length → joins e f ≡ true
unfolding joins
behind e f s t h =
    let some = sound-some f t in
    let in_f = sound-frame f t in
    let in_e = sound-frame e s in
    elim (ℕ_discrete (e.first + e.length) 8) [
      | yes z ↦
          let frame : f.frame ≡ suc e.frame = omega (arith, h, some, in_f, in_e, z) in
          let first : f.first ≡ 0 = omega (arith, h, some, in_f, in_e, z) in
          rw (eq-eqb (e.first + e.length) 8 z, eq-eqb f.first 0 first, eq-eqb f.frame (suc e.frame) frame) (or-true (eqb f.frame e.frame && eqb f.first (e.first + e.length)))
      | no z ↦
          let frame : f.frame ≡ e.frame = omega (arith, h, some, in_f, in_e, z) in
          let first : f.first ≡ e.first + e.length = omega (arith, h, some, in_f, in_e, z) in
          rw (eq-eqb f.frame e.frame frame, eq-eqb f.first (e.first + e.length) first)
    ]

pub neighbours : (e f : Run) → is_sound e ≡ true → is_sound f ≡ true → joins e f ≡ eqb (starts_at f) (starts_at e + e.length)
neighbours e f s t = by-test (joins e f) refl
  where
    by-test : (b : Bool) → joins e f ≡ b → joins e f ≡ eqb (starts_at f) (starts_at e + e.length)
    by-test true j = j ∙ sym (eq-eqb (starts_at f) (starts_at e + e.length) (machine e f j))
    by-test false j = j ∙ sym (ne_eqb (starts_at f) (starts_at e + e.length) (λ h. clash (behind e f s t h) j))

-- and on the disk, where they are sound
disk : (e f : Run) (fs : List Run) → are_sound (e ∷ f ∷ fs) ≡ true → f.sector ≡ e.sector + e.length
unfolding followed
disk e f fs s = follows-at e f (sound-next e (f ∷ fs) s)

-- ---- the same sectors

moves-add : (a b m d : ℕ) → moves_from (a + b) m d ≡ moves_from a m d ++ moves_from b (m + a) (d + a)
unfolding moves_from
moves-add zero b m d = rw (zero-add, add-zero m, add-zero d)
moves-add (suc a) b m d =
    rw (suc-add a b, add-suc m a, add-suc d a, ← suc-add m a, ← suc-add d a) (ap (λ (ms : List Move). record { machine = m; disk = d } ∷ ms) (moves-add a b (suc m) (suc d)))

-- the run of a group, by its first extent and the others
moves-run : (e f : Run) (fs : List Run) → starts_at f ≡ starts_at e + e.length → f.sector ≡ e.sector + e.length → moves (run_of (e ∷ f ∷ fs)) ≡ moves e ++ moves (run_of (f ∷ fs))
unfolding moves run_of total_length
moves-run e f fs m d = moves-add e.length (total_length (f ∷ fs)) (starts_at e) e.sector
    ∙ ap (λ (ms : List Move). moves_from e.length (starts_at e) e.sector ++ ms) (rw (← m, ← d))

moves-one : (e : Run) → moves (run_of (e ∷ [])) ≡ moves e
unfolding moves run_of total_length
moves-one e = rw (add-zero e.length)

moves-cons : (r : Run) (rs : List Run) → moves_of (r ∷ rs) ≡ moves r ++ moves_of rs
unfolding moves_of concat
moves-cons r rs = refl

moves-apart : (e : Run) (es : List Run) → joins_next e es ≡ false → moves_of (runs_of (e ∷ es)) ≡ moves e ++ moves_of (runs_of es)
moves-apart e es j = ap moves_of (runs-apart e es j) ∙ (moves-cons (run_of (e ∷ [])) (runs_of es) ∙ ap (λ (ms : List Move). ms ++ moves_of (runs_of es)) (moves-one e))

moves-joined : (e f : Run) (fs : List Run) → are_sound (e ∷ f ∷ fs) ≡ true → joins_next e (f ∷ fs) ≡ true → moves_of (runs_of (e ∷ f ∷ fs)) ≡ moves e ++ moves_of (runs_of (f ∷ fs))
unfolding runs_of joins_next
moves-joined e f fs s j =
    let g = (begun f fs).more in
    let gs = (begun f fs).others in
    rw (groups-joined e f fs j, (begun f fs).is)
    (moves-cons (run_of (e ∷ f ∷ g)) (map run_of gs)
    ∙ (ap (λ (ms : List Move). ms ++ moves_of (map run_of gs)) (moves-run e f g (machine e f j) (disk e f fs s))
    ∙ (append_assoc (moves e) (moves (run_of (f ∷ g))) (moves_of (map run_of gs)) ∙ ap (λ (ms : List Move). moves e ++ ms) (sym (moves-cons (run_of (f ∷ g)) (map run_of gs))))))

-- an extent's sectors, and then those of the runs behind it
moves-on : (e : Run) (es : List Run) → are_sound (e ∷ es) ≡ true → moves_of (runs_of (e ∷ es)) ≡ moves e ++ moves_of (runs_of es)
unfolding joins_next
moves-on e [] s = moves-apart e [] refl
moves-on e (f ∷ fs) s = by-test (joins_next e (f ∷ fs)) refl
  where
    by-test : (b : Bool) → joins_next e (f ∷ fs) ≡ b → moves_of (runs_of (e ∷ f ∷ fs)) ≡ moves e ++ moves_of (runs_of (f ∷ fs))
    by-test true j = moves-joined e f fs s j
    by-test false j = moves-apart e (f ∷ fs) j

pub same : (es : List Run) → are_sound es ≡ true → moves_of (runs_of es) ≡ moves_of es
unfolding moves_of concat runs_of groups_of
same [] s = refl
same (e ∷ es) s = moves-on e es s ∙ ap (λ (ms : List Move). moves e ++ ms) (same es (sound-rest e es s))

-- ---- none twice

abbrev on_disk : List Move → List ℕ
on_disk ms = map (λ (m : Move). m.disk) ms

count-moves : (n m d : ℕ) → on_disk (moves_from n m d) ≡ count_from n d
unfolding moves_from count_from
count-moves zero m d = refl
count-moves (suc n) m d = ap (λ (ks : List ℕ). d ∷ ks) (count-moves n (suc m) (suc d))

on-disk : (e : Run) → on_disk (moves e) ≡ count_from e.length e.sector
unfolding moves
on-disk e = count-moves e.length (starts_at e) e.sector

count_add : (a b d : ℕ) → count_from (a + b) d ≡ count_from a d ++ count_from b (d + a)
unfolding count_from
count_add zero b d = rw (zero-add, add-zero d)
count_add (suc a) b d = rw (suc-add a b, add-suc d a, ← suc-add d a) (ap (λ (ks : List ℕ). d ∷ ks) (count_add a b (suc d)))

-- the others begin where the first ends
count-rest : (e : Run) (es : List Run) → are_sound (e ∷ es) ≡ true → count_from (total_length es) (start_of es) ≡ count_from (total_length es) (e.sector + e.length)
unfolding count_from total_length
count-rest e [] s = refl
count-rest e (f ∷ fs) s = ap (count_from (total_length (f ∷ fs))) (disk e f fs s)

count-all : (es : List Run) → are_sound es ≡ true → on_disk (moves_of es) ≡ count_from (total_length es) (start_of es)
unfolding moves_of concat count_from total_length
count-all [] s = refl
count-all (e ∷ es) s =
    map-append (λ (m : Move). m.disk) (moves e) (moves_of es)
    ∙ (ap (λ (ks : List ℕ). ks ++ on_disk (moves_of es)) (on-disk e)
    ∙ (ap (λ (ks : List ℕ). count_from e.length e.sector ++ ks) (count-all es (sound-rest e es s) ∙ count-rest e es s)
    ∙ sym (count_add e.length (total_length es) e.sector)))

pub once : (es : List Run) → are_sound es ≡ true → on_disk (moves_of (runs_of es)) ≡ count_from (total_length es) (start_of es)
once es s = ap on_disk (same es s) ∙ count-all es s
