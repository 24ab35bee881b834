-- The search for the first run of the extents from i on: what holds where it has come as far as `last`, and k sectors stand before that one. Assumes nothing.
use mathlib.Core.Path.{◌≡◌, refl, sym, ◌∙◌, ap, subst}
use mathlib.Core.Bool.{true, false}
use mathlib.Core.List.{List, ◌∷◌}
use Prim.Native.Nat.{ℕ, ◌+◌, ◌-◌, ◌<◌, ◌≤◌, ◌^◌}
use native.Mathlib.Nat.{add-zero, zero-add}
use native.Mathlib.Omega.{arith}
use Rattle.runs.specs.Found.{Found}
use Rattle.runs.specs.Join.{extent_at, extents_at, joins, joins_next, are_sound, runs_of}
use Rattle.runs.specs.declared.Run.{Run}
use Rattle.runs.proofs.Extents.{extents-cons, next-followed, last-joins, next-joins, joins-within, sound-first, sound-next, sound-rest, sound-disk, follows-at}
use Rattle.runs.proofs.Runs.{behind, behind-none, behind-apart, behind-joined}

-- what is left is sound, stands on the disk where those before it end, and its runs, with those k sectors in front, are the runs looked for
pub record Held (words frames : List ℕ) (i n last k : ℕ) : Type 0 where
  pub sound : are_sound (extents_at words frames last (n - last)) ≡ true
  pub place : (extent_at words frames i).sector + k ≡ (extent_at words frames last).sector
  pub runs : runs_of (extents_at words frames i (n - i)) ≡ behind (extent_at words frames i) k (runs_of (extents_at words frames last (n - last)))

module _ (words frames : List ℕ) where
  abbrev at : ℕ → Run
  at j = extent_at words frames j

  abbrev after : ℕ → ℕ → List Run
  after n j = extents_at words frames (j + 1) (n - (j + 1))

  pub held_first : (i n : ℕ) → i < n → are_sound (extents_at words frames i (n - i)) ≡ true → Held words frames i n i 0
  held_first i n h s = record {
    sound = s;
    place = add-zero (at i).sector;
    runs = rw (extents-cons words frames i n h) (behind-none (at i) (after n i));
  }

  module _ (i n last k : ℕ) (h : last < n) (held : Held words frames i n last k) where
    all_sound : are_sound (at last ∷ after n last) ≡ true
    all_sound = sym (ap are_sound (extents-cons words frames last n h)) ∙ held.sound

    runs-from : runs_of (extents_at words frames i (n - i)) ≡ behind (at i) k (runs_of (at last ∷ after n last))
    runs-from = held.runs ∙ ap (λ (es : List Run). behind (at i) k (runs_of es)) (extents-cons words frames last n h)

    -- the length so far fits a word, since the disk's sectors do
    pub held_fits : k + (at last).length < 2 ^ 64
    held_fits = omega (arith, held.place, sound-disk (at last) (sound-first (at last) (after n last) all_sound))

    pub held_next : joins_next (at last) (after n last) ≡ true → Held words frames i n (last + 1) (k + (at last).length)
    held_next j =
        let more : last + 1 < n = joins-within words frames (at last) last n h j in
        let next = follows-at (at last) (at (last + 1)) (sym (next-followed words frames (at last) last n more) ∙ sound-next (at last) (after n last) all_sound) in
        record {
          sound = sound-rest (at last) (after n last) all_sound;
          place = omega (arith, held.place, next);
          runs = runs-from ∙ behind-joined (at i) (at last) k (after n last) j;
        }

    pub held_found : i ≤ last → joins_next (at last) (after n last) ≡ false
        → Found words frames i n (record { run = record { frame = (at i).frame; first = (at i).first; length = k + (at last).length; sector = (at i).sector }; next = last + 1 })
    held_found o j = record {
      runs = runs-from ∙ behind-apart (at i) (at last) k (after n last) j;
      onward = omega arith;
      within = omega arith;
      sound = sound-rest (at last) (after n last) all_sound;
    }

-- ---- as the loop stands

-- It is about to look at `next`: `last` is the extent before that one, and `run` the run so far.
pub record Reached (words frames : List ℕ) (i n next : ℕ) (run last : Run) : Type 0 where
  pub at : ℕ
  pub k : ℕ
  pub is : at + 1 ≡ next
  pub onward : i ≤ at
  pub within : at < n
  pub here : last ≡ extent_at words frames at
  pub begun : run ≡ record { frame = (extent_at words frames i).frame; first = (extent_at words frames i).first; length = k + (extent_at words frames at).length; sector = (extent_at words frames i).sector }
  pub held : Held words frames i n at k

module _ (words frames : List ℕ) (i n : ℕ) where
  pub reached_first : i < n → are_sound (extents_at words frames i (n - i)) ≡ true → Reached words frames i n (i + 1) (extent_at words frames i) (extent_at words frames i)
  reached_first h s = record {
    at = i;
    k = 0;
    is = refl;
    onward = omega arith;
    within = h;
    here = refl;
    begun = λ z. record { frame = (extent_at words frames i).frame; first = (extent_at words frames i).first; length = sym (zero-add (extent_at words frames i).length) z; sector = (extent_at words frames i).sector };
    held = held_first words frames i n h s;
  }

  module _ (next : ℕ) (run last : Run) (r : Reached words frames i n next run last) where
    -- the next one does not join, or there is none
    ended : joins_next (extent_at words frames r.at) (extents_at words frames (r.at + 1) (n - (r.at + 1))) ≡ false → Found words frames i n (record { run = run; next = next })
    ended j = rw (r.begun, sym r.is) (held_found words frames i n r.at r.k r.within r.held r.onward j)

    pub reached_end : n ≤ next → Found words frames i n (record { run = run; next = n })
    reached_end h =
        let end : next ≡ n = omega (arith, r.is, r.within) in
        subst (λ (m : ℕ). Found words frames i n (record { run = run; next = m })) end
        (ended (last-joins words frames (extent_at words frames r.at) r.at n (omega (arith, r.is, r.within))))

    module _ (more : next < n) where
      joined-is : joins_next (extent_at words frames r.at) (extents_at words frames (r.at + 1) (n - (r.at + 1))) ≡ joins last (extent_at words frames next)
      joined-is =
          next-joins words frames (extent_at words frames r.at) r.at n (omega (arith, r.is))
          ∙ λ z. joins (sym r.here z) (extent_at words frames (r.is z))

      pub reached_off : joins last (extent_at words frames next) ≡ false → Found words frames i n (record { run = run; next = next })
      reached_off j = ended (joined-is ∙ j)

      module _ (j : joins last (extent_at words frames next) ≡ true) where
        on : Held words frames i n (r.at + 1) (r.k + (extent_at words frames r.at).length)
        on = held_next words frames i n r.at r.k r.within r.held (joined-is ∙ j)

        pub reached_fits : run.length + (extent_at words frames next).length < 2 ^ 64
        reached_fits =
            rw (r.begun, sym r.is)
            (held_fits words frames i n (r.at + 1) (r.k + (extent_at words frames r.at).length) (omega (arith, r.is)) on)

        pub reached_next : Reached words frames i n (next + 1) (record { frame = run.frame; first = run.first; length = run.length + (extent_at words frames next).length; sector = run.sector }) (extent_at words frames next)
        reached_next = record {
          at = r.at + 1;
          k = r.k + (extent_at words frames r.at).length;
          is = ap (λ (m : ℕ). m + 1) r.is;
          onward = omega (arith, r.onward);
          within = omega (arith, r.is);
          here = ap (λ (m : ℕ). extent_at words frames m) (sym r.is);
          begun = λ z. record { frame = (r.begun z).frame; first = (r.begun z).first; length = (r.begun z).length + (extent_at words frames (sym r.is z)).length; sector = (r.begun z).sector };
          held = on;
        }
