-- What serving a port leaves of memory: broken, one request started, or one answered; the lowest free tag; what a plan expects. Assumes nothing.
use mathlib.Core.Path.{◌≡◌, ap, ◌∙◌}
use mathlib.Core.Bool.{false, not}
use mathlib.Core.List.{List}
use Prim.Native.Nat.{ℕ, ◌<◌}
use native.Mathlib.Omega.{arith}
use Rattle.model.specs.Backend.{Backend, view_of, holder_of, with_port, with_tag, with_pointer, started_port, answered_port}
use Rattle.model.specs.Base.{least}
use Rattle.model.specs.Deeds.{port_after}
use Rattle.model.specs.Port.{is_busy, set_busy, lowest_free, busy_bits, after}
use Rattle.model.specs.Ring.{ring_of}
use Rattle.model.proofs.Refinement.{own-port}
use Rattle.model.proofs.Ring.{fits}
use Rattle.model.specs.declared.Port.{Port}
use Rattle.model.specs.declared.Tag.{Tag}
use Rattle.marks.proofs.Marks.{lowest-free, lowest-free-lt, lowest-free-clear}
use Rattle.memory.specs.Backend.{backend_of, Becomes, with_consumed, with_produced, with_busy}
use Rattle.memory.specs.Layout.{tags}
use Rattle.memory.proofs.Backend.{port-with-tag, size-tags}
use Rattle.memory.proofs.Changes.{then, restated, fields-become}
use Rattle.outcomes.specs.Outcomes.{Reads, Room, tag_for}

-- ---- the writes, one after another

module _ {m m1 m2 m3 : List ℕ} (k v w : ℕ) (p : Port) (o : Reads (backend_of m) k p) where
  -- both indices raised, and the pointer
  pub answered : v ≡ after p.consumed → w ≡ after p.produced
      → Becomes m (with_port (backend_of m) k (with_consumed ((backend_of m).port k) v)) m1
      → Becomes m1 (with_port (backend_of m1) k (with_produced ((backend_of m1).port k) w)) m2
      → Becomes m2 (with_pointer (backend_of m2) (port_after k)) m3
      → Becomes m (with_pointer (with_port (backend_of m) k (answered_port ((backend_of m).port k))) (port_after k)) m3
  answered e f x y z =
      let both = fields-become (backend_of m) k (λ q. with_consumed q v) (λ q. with_produced q w) x y in
      restated (then (λ (b : Backend). with_pointer b (port_after k)) both z) (rw (e, f, o.read))

-- between them the port has its other fields as before
pub consumed-raised : {m m1 : List ℕ} (k v : ℕ) (p : Port) → Reads (backend_of m) k p → Becomes m (with_port (backend_of m) k (with_consumed ((backend_of m).port k) v)) m1
    → (backend_of m1).port k ≡ with_consumed p v
consumed-raised {m} k v p o x = rw (x.backend, o.read) (own-port (backend_of m) k (with_consumed ((backend_of m).port k) v))

module _ {m m1 m2 m3 m4 : List ℕ} (k t v w : ℕ) (p : Port) (o : Reads (backend_of m) k p) (x : Tag) where
  -- a tag put, req_cons raised, the tag's mark set, and the pointer
  pub began : v ≡ after p.consumed → w ≡ set_busy p.busy t
      → Becomes m (with_tag (backend_of m) k t x) m1
      → Becomes m1 (with_port (backend_of m1) k (with_consumed ((backend_of m1).port k) v)) m2
      → Becomes m2 (with_port (backend_of m2) k (with_busy ((backend_of m2).port k) w)) m3
      → Becomes m3 (with_pointer (backend_of m3) (port_after k)) m4
      → Becomes m (with_pointer (with_port (with_tag (backend_of m) k t x) k (started_port ((backend_of m).port k) t)) (port_after k)) m4
  began e f a b c d =
      let took = then (λ (b : Backend). with_port b k (with_consumed (b.port k) v)) a b in
      let both = fields-become (with_tag (backend_of m) k t x) k (λ q. with_consumed q v) (λ q. with_busy q w) took c in
      restated (then (λ (b : Backend). with_pointer b (port_after k)) both d) (rw (port-with-tag (backend_of m) k t x k, e, f, o.read))

-- ---- the lowest free tag

module _ (b : Backend) (k : ℕ) (p : Port) (o : Room b k p) where
  pub lowest-tag : least busy_bits (λ t. not (is_busy p.busy t)) ≡ tag_for b k p
  unfolding view_of
  lowest-tag =
      lowest-free (ring_of p.params).size p (λ t. b.tag k t) (fits p.params).marked o.room
      ∙ ap (λ (q : Port). lowest_free (ring_of p.params).size (λ t. holder_of q t (b.tag k t))) o.reads.read

  pub lowest-lt : least busy_bits (λ t. not (is_busy p.busy t)) < tags
  lowest-lt = omega (arith, lowest-free-lt (ring_of p.params).size p.busy (fits p.params).marked o.room, size-tags p.params)

  pub lowest-clear : is_busy p.busy (least busy_bits (λ t. not (is_busy p.busy t))) ≡ false
  lowest-clear = lowest-free-clear (ring_of p.params).size p.busy (fits p.params).marked o.room
