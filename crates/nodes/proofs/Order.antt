-- The laws of the whole sheet's reader: what each of its tests settles, in the order of the tests. Assumes nothing.
use mathlib.Core.Path.{◌≡◌, sym, ap, ◌∙◌}
use mathlib.Core.Bool.{Bool, true, false}
use mathlib.Core.List.{List}
use Prim.Native.Nat.{ℕ, ◌+◌}
use native.Mathlib.Omega.{arith}
use lib.ListN.{length, get_or}
use Rattle.std.specs.Prelude.{Ok, Err}
use Rattle.std.specs.List.{sum_by}
use Rattle.model.specs.NodeSheet.{entry_at, entry_count, entries_of, bodies_end, well_formed, rising, values_of, params_of, has_required, sheet_of}
use Rattle.model.specs.declared.Params.{Params}
use Rattle.model.specs.declared.Refusal.{Refusal}
use Rattle.contents.specs.Contents.{Contents, length_of, entries_in}
use Rattle.contents.proofs.Entries.{formed-parts}
use Rattle.nodes.specs.Values.{Readable, AllRead, BodiesRead}

-- what `read_sheet` learns, test by test: whether the sheet is well formed, whether its nodes rise, its bodies, whether it has what is required
module _ (s : List ℕ) (f : Bool) (formed : f ≡ well_formed s) where
  pub sheet_malformed : f ≡ false → Err Refusal.SheetShape ≡ sheet_of s
  unfolding sheet_of
  sheet_malformed fails = rw (← formed, fails)

  module _ (pass : f ≡ true) where
    is-formed : well_formed s ≡ true
    is-formed = sym formed ∙ pass

    pub formed_contents : Contents s
    formed_contents = (formed-parts s is-formed).0

    module _ (entries : List (List ℕ)) (bodies : List ℕ) (same : entries_in entries bodies ≡ entries_of s)
        (r : Bool) (risen : r ≡ rising 0 (entries_in entries bodies)) where
      pub sheet_falling : r ≡ false → Err Refusal.SheetNodes ≡ sheet_of s
      unfolding sheet_of
      sheet_falling fails = rw (is-formed, ← same, ← risen, fails)

      module _ (rise : r ≡ true) where
        is-risen : rising 0 (entries_in entries bodies) ≡ true
        is-risen = sym risen ∙ rise

        pub formed_readable : entry_at (entry_count s) + sum_by length_of entries ≡ bodies_end (entry_count s) s 0 (entry_at (entry_count s))
            → entry_at (entry_count s) + length bodies ≡ length s → Readable entries bodies
        formed_readable e w = record { whole = omega (arith, (formed-parts s is-formed).1); risen = is-risen }

        pub sheet_fault : (e : Refusal) → BodiesRead (entries_in entries bodies) (Err e) → Err e ≡ sheet_of s
        unfolding sheet_of
        sheet_fault e read = rw (is-formed, ← same, is-risen) (sym (read _))

        module _ (values : List ℕ) (read : AllRead (entries_in entries bodies) values) (t : Bool) (whole : t ≡ has_required (entries_in entries bodies)) where
          pub sheet_incomplete : t ≡ false → Err Refusal.SheetMissing ≡ sheet_of s
          unfolding sheet_of
          sheet_incomplete fails = rw (is-formed, ← same, is-risen, ← whole, fails) (sym (read.after _))

          pub sheet_read : t ≡ true → (p : Params) → p ≡ params_of (λ node. get_or values node 0) → Ok p ≡ sheet_of s
          unfolding sheet_of
          sheet_read passes p e =
              let said : p ≡ params_of (values_of (entries_in entries bodies)) = e ∙ ap params_of (λ i node. read.value node i) in
              rw (is-formed, ← same, is-risen, ← whole, passes, said) (sym (read.after _))
