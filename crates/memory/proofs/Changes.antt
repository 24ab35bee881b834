-- The changes that the code makes of memory, as changes of the backend; one after another; and that each change that fits can be made. Assumes nothing.
use mathlib.Core.Path.{◌≡◌, refl, sym, ap, subst, ◌∙◌}
use mathlib.Core.List.{List, []}
use Prim.Native.Nat.{ℕ, ◌^◌, ◌<◌}
use lib.ListN.{length}
use Rattle.model.specs.Buffers.{ports}
use Rattle.model.specs.Backend.{Backend, view_of, with_port, with_tag, with_pointer, next}
use Rattle.model.specs.Calls.{Call, Effect}
use Rattle.model.specs.Deeds.{deeds, round, moved}
use Rattle.model.specs.Rules.{effect_due}
use Rattle.model.specs.declared.Port.{Port}
use Rattle.model.specs.declared.State.{State}
use Rattle.model.specs.declared.Tag.{Tag}
use Rattle.memory.specs.Backend.{backend_of, memory_of, Exact, Becomes, with_state, with_consumed, with_produced, with_busy}
use Rattle.memory.specs.Promise.{Promised}
use Rattle.memory.specs.Layout.{tags, memory_words}
use Rattle.memory.specs.Words.{port_at, set_word, state_word, state_at, consumed_at, produced_at, busy_at, set_port, set_tag, set_pointer}
use Rattle.memory.proofs.Backend.{backend-port-at, backend-set_port, backend-set_tag, backend-set_pointer, backend-state, backend-consumed, backend-produced, backend-busy, fields-put}
use Rattle.memory.proofs.Encoded.{kept-exact, exact-kept, length-memory}
use Rattle.memory.proofs.Kept.{Kept, kept-set_port, kept-set_tag, kept-set_pointer, kept-state, kept-consumed, kept-produced, kept-busy}
use Rattle.memory.proofs.Lens.{Ranged, RangedTag}

-- ---- a change, by what it keeps

becomes : (m left : List ℕ) (b : Backend) → backend_of left ≡ b → (Kept m → Kept left) → Becomes m b left
becomes m left b e f = record { backend = e; words = λ x. kept-exact left (f (exact-kept m x)) ∙ ap memory_of e }

-- none at all
pub unchanged : (m : List ℕ) → Becomes m (backend_of m) m
unchanged m = record { backend = refl; words = λ x. x }

-- one after another
pub then : {m m1 m2 : List ℕ} {b : Backend} (f : Backend → Backend) → Becomes m b m1 → Becomes m1 (f (backend_of m1)) m2 → Becomes m (f b) m2
then f x y = record {
  backend = y.backend ∙ ap f x.backend;
  words = λ e. y.words (x.words e ∙ ap memory_of (sym x.backend)) ∙ ap memory_of (ap f x.backend);
}

-- the same backend, restated in another way
pub restated : {m left : List ℕ} {b c : Backend} → Becomes m b left → b ≡ c → Becomes m c left
restated {m = m} {left = left} x e = subst (λ (b : Backend). Becomes m b left) e x

-- exact memory stays exact
pub becomes-exact : {m left : List ℕ} {b : Backend} → Becomes m b left → Exact m → Exact left
becomes-exact x e = x.words e ∙ ap memory_of (sym x.backend)

-- ---- the changes that the code makes

module _ (m : List ℕ) (n : length m ≡ memory_words) (k : ℕ) (h : k < ports) where
  pub port-put : (p : Port) → Ranged p → Becomes m (with_port (backend_of m) k p) (set_port m k p)
  port-put p r = becomes m _ _ (backend-set_port m n k p h r) (λ o. kept-set_port m o k h p r)

  pub tag-put : (t : ℕ) → t < tags → (x : Tag) → RangedTag x → Becomes m (with_tag (backend_of m) k t x) (set_tag m k t x)
  tag-put t l x r = becomes m _ _ (backend-set_tag m n k t x h l r) (λ o. kept-set_tag m o k h t l x r)

  pub pointer-put : Becomes m (with_pointer (backend_of m) k) (set_pointer m k)
  pointer-put = becomes m _ _ (backend-set_pointer m n k h) (λ o. kept-set_pointer m o k h)

  -- one field of port k
  field : (left : List ℕ) (f : Port → Port) → Becomes m (with_port (backend_of m) k (f (port_at m k))) left → Becomes m (with_port (backend_of m) k (f ((backend_of m).port k))) left
  field left f x = restated x (ap (λ (p : Port). with_port (backend_of m) k (f p)) (sym (backend-port-at m k h)))

  pub state-put : (s : State) → Becomes m (with_port (backend_of m) k (with_state ((backend_of m).port k) s)) (set_word m k state_at (state_word s))
  state-put s = field _ (λ p. with_state p s) (becomes m _ _ (backend-state m n k h s) (λ o. kept-state m o k h s))

  pub consumed-put : (v : ℕ) → v < 2 ^ 32 → Becomes m (with_port (backend_of m) k (with_consumed ((backend_of m).port k) v)) (set_word m k consumed_at v)
  consumed-put v l = field _ (λ p. with_consumed p v) (becomes m _ _ (backend-consumed m n k h v l) (λ o. kept-consumed m o k h v l))

  pub produced-put : (v : ℕ) → v < 2 ^ 32 → Becomes m (with_port (backend_of m) k (with_produced ((backend_of m).port k) v)) (set_word m k produced_at v)
  produced-put v l = field _ (λ p. with_produced p v) (becomes m _ _ (backend-produced m n k h v l) (λ o. kept-produced m o k h v l))

  pub busy-put : (v : ℕ) → Becomes m (with_port (backend_of m) k (with_busy ((backend_of m).port k) v)) (set_word m k busy_at v)
  busy-put v = field _ (λ p. with_busy p v) (becomes m _ _ (backend-busy m n k h v) (λ o. kept-busy m o k h v))

-- two fields of a port, one after another
pub fields-become : {m m1 m2 : List ℕ} (b : Backend) (k : ℕ) (f g : Port → Port) → Becomes m (with_port b k (f (b.port k))) m1
    → Becomes m1 (with_port (backend_of m1) k (g ((backend_of m1).port k))) m2
    → Becomes m (with_port b k (g (f (b.port k)))) m2
fields-become b k f g x y = restated (then (λ (c : Backend). with_port c k (g (c.port k))) x y) (fields-put b k f g)

-- ---- a promise, by the effect that is due and the memory that the event leaves

pub promised : (m : List ℕ) (c : Call) (e : Effect c) (left : List ℕ) → e ≡ effect_due (view_of (backend_of m)) c
    → Becomes m (next (backend_of m) (record { call = c; effect = e })) left
    → (deeds c e ≡ [] → left ≡ m)
    → Promised m c e left
promised m c e left h b s = record {
  effect = h;
  memory = restated b (ap (λ (x : Effect c). next (backend_of m) (record { call = c; effect = x })) h);
  still = s;
}

-- of a call that does nothing: the memory stays
pub stays : (m : List ℕ) → Becomes m (with_pointer (backend_of m) (backend_of m).pointer) m
unfolding with_pointer
stays m = unchanged m

pub nothing-done : (m : List ℕ) (c : Call) (e : Effect c) → e ≡ effect_due (view_of (backend_of m)) c → deeds c e ≡ []
    → moved (round c e) (backend_of m).pointer ≡ (backend_of m).pointer
    → Promised m c e m
unfolding next
nothing-done m c e h d r = promised m c e m h (rw (d, r) (stays m)) (λ _. refl)

-- ---- each change that fits can be made

-- a memory that such a change leaves
pub record Some (m : List ℕ) (b : Backend) : Type 0 where
  pub left : List ℕ
  pub becomes : Becomes m b left

module _ (m : List ℕ) (x : Exact m) (k : ℕ) (h : k < ports) where
  long : length m ≡ memory_words
  long = ap (λ (l : List ℕ). length l) x ∙ length-memory (backend_of m)

  pub some-port : (p : Port) → Ranged p → Some m (with_port (backend_of m) k p)
  some-port p r = record { left = set_port m k p; becomes = port-put m long k h p r }

  pub some-tag : (t : ℕ) → t < tags → (y : Tag) → RangedTag y → Some m (with_tag (backend_of m) k t y)
  some-tag t l y r = record { left = set_tag m k t y; becomes = tag-put m long k h t l y r }

  pub some-pointer : Some m (with_pointer (backend_of m) k)
  some-pointer = record { left = set_pointer m k; becomes = pointer-put m long k h }

pub some_then : {m : List ℕ} {b : Backend} (f : Backend → Backend) → Exact m → (o : Some m b) → ((l : List ℕ) → Exact l → Some l (f (backend_of l))) → Some m (f b)
some_then f x o g =
    let p = g o.left (becomes-exact o.becomes x) in
    record { left = p.left; becomes = then f o.becomes p.becomes }
