-- A closed port and a free tag keep zeros alone: of a port that is tied to its books. Assumes nothing.
use mathlib.Core.Path.{◌≡◌, refl, sym, ◌∙◌}
use mathlib.Core.Bool.{false, not}
use Prim.Native.Nat.{ℕ}
use native.Mathlib.Nat.{le_refl}
use Rattle.model.specs.Port.{Holder, free, held, is_free, is_busy, closed_port, zero_tag, tag_of}
use Rattle.model.specs.History.{Book, no_book, holder, standing}
use Rattle.model.specs.declared.Port.{Port}
use Rattle.model.specs.declared.State.{State}
use Rattle.model.specs.declared.Tag.{Tag}
use Rattle.model.proofs.Base.{clash}
use Rattle.model.proofs.Busy.{no-marks}
use Rattle.model.proofs.Invariants.{PortTied}

-- what a free tag keeps
free-tag : (x : Holder) → not (is_free x) ≡ false → tag_of x ≡ zero_tag
free-tag free e = refl
free-tag (held x) e = clash refl e

module _ (p : Port) (tags : ℕ → Tag) (b : Book) (w : PortTied p tags b) where
  -- a tag without its mark
  pub free-zero : (t : ℕ) → is_busy p.busy t ≡ false → tags t ≡ zero_tag
  free-zero t e = w.shape.keeps t ∙ free-tag (holder t (standing b).taken) (sym (w.shape.busy t) ∙ e)

  module _ (c : p.state ≡ State.Closed) where
    -- its books do not stand
    none : standing b ≡ no_book
    none = rw (sym w.state ∙ c)

    marks : (t : ℕ) → is_busy p.busy t ≡ false
    unfolding holder
    marks t = rw none at (w.shape.busy t)

    -- a closed port, and its tags
    pub closed-zero : p ≡ closed_port
    closed-zero =
        let params = rw none at w.shape.params in
        let consumed = rw none at w.shape.consumed in
        let produced = rw none at w.shape.produced in
        let busy = no-marks p.busy p.busy (le_refl _) marks in
        λ i. record { state = c i; params = params i; consumed = consumed i; produced = produced i; busy = busy i }

    pub closed-tags : (t : ℕ) → tags t ≡ zero_tag
    closed-tags t = free-zero t (marks t)
