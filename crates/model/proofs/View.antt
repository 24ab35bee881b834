-- What the backend's own view says of a port, field by field, and of a response given to it. Assumes nothing.
use mathlib.Core.Path.{◌≡◌, refl}
use mathlib.Core.List.{List}
use Prim.Native.Nat.{ℕ}
use Rattle.model.specs.Backend.{Backend, view_of}
use Rattle.model.specs.Buffers.{pages_of, set_pages}
use Rattle.model.specs.Port.{in_flight_of}
use Rattle.model.specs.Ring.{ring_of, rsp_event}
use Rattle.model.specs.Turn.{ResponseDue, tells, responded_all, responded_all_at, notifies_all, responded, responded_at, notifies}
use Rattle.model.specs.declared.Pair.{Pair}
use Rattle.model.specs.declared.Status.{Status}

module _ (b : Backend) (k : ℕ) where
  pub view-state : (view_of b).state k ≡ (b.port k).state
  unfolding view_of
  view-state = refl

  pub view-params : (view_of b).params k ≡ (b.port k).params
  unfolding view_of
  view-params = refl

  pub view-consumed : (view_of b).consumed k ≡ (b.port k).consumed
  unfolding view_of
  view-consumed = refl

  pub view-in-flight : (view_of b).in_flight k ≡ in_flight_of (b.port k).busy
  unfolding view_of
  view-in-flight = refl

  -- responses given
  module _ (rings : List ℕ) where
    pub view-responded-all : (xs : List ResponseDue)
        → responded_all_at (view_of b) rings k xs ≡ (let g = ring_of (b.port k).params in set_pages g rings k (responded_all g (pages_of g rings k) (b.port k).produced xs))
    unfolding responded_all_at view_of
    view-responded-all xs = refl

    pub view-notifies-all : (n : ℕ) → notifies_all (view_of b) rings k n ≡ tells (b.port k).produced n (rsp_event (pages_of (ring_of (b.port k).params) rings k))
    unfolding notifies_all view_of
    view-notifies-all n = refl

    -- and one
    pub view-responded : (q : Pair) (s : Status)
        → responded_at (view_of b) rings k q s ≡ (let g = ring_of (b.port k).params in set_pages g rings k (responded g (pages_of g rings k) (b.port k).produced q s))
    unfolding responded_at responded_all_at responded view_of
    view-responded q s = refl

    pub view-notifies : notifies (view_of b) rings k ≡ tells (b.port k).produced 1 (rsp_event (pages_of (ring_of (b.port k).params) rings k))
    unfolding notifies
    view-notifies = view-notifies-all 1
