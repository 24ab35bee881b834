-- A list of completions, taken entry by entry: what the second pass comes to is what the rules say of the list as a whole. Assumes nothing.
use mathlib.Core.Path.{◌≡◌, refl, sym, ap, ◌∙◌}
use mathlib.Core.Logic.{◌≢◌}
use mathlib.Core.Bool.{Bool, true, false, cond}
use mathlib.Core.List.{List, [], ◌∷◌}
use Prim.Native.Nat.{ℕ, suc, ◌+◌, ◌<◌}
use native.Mathlib.Decide.{ℕ_discrete}
use native.Mathlib.Nat.{mod-lt}
use native.Mathlib.Omega.{arith}
use lib.Dec.{eqb}
use lib.ListN.{length}
use borrow.Author.Tests.{eqb-true, eq-eqb, ne_eqb}
use Rattle.model.specs.Backend.{Backend, with_port, with_tag, finished_port, does, does_all}
use Rattle.model.specs.Base.{modulus}
use Rattle.model.specs.Complete.{Completion, response_for, responses_for}
use Rattle.model.specs.Deeds.{finishings}
use Rattle.model.specs.Port.{Holder, held, is_free, tag_of, zero_tag, clear_busy, further, after}
use Rattle.model.specs.Ring.{Ring}
use Rattle.model.specs.Rules.{any_names_none, named_twice}
use Rattle.model.specs.declared.Port.{Port}
use Rattle.model.specs.declared.Status.{Status}
use Rattle.model.specs.declared.Tag.{Tag}
use Rattle.model.proofs.Base.{clash}
use Rattle.model.proofs.Completions.{head, freed, freed-names, freed-responses}
use Rattle.entries.proofs.FirstPass.{cleared}
use Rattle.lists.specs.List.{due_for, responses_along, emptied, port_with}

-- ---- the responses

-- a tag that was zeroed is another's
other_tag : (b : Backend) (k t u : ℕ) → u ≢ t → (with_tag b k t zero_tag).tag k u ≡ b.tag k u
unfolding with_tag
other_tag b k t u ne = rw (eq-eqb k k refl, ne_eqb u t ne)

pub responses-along : (g : Ring) (cs : List Completion) (b : Backend) (k : ℕ) (tags : ℕ → Holder) → ((u : ℕ) (x : Tag) → tags u ≡ held x → x ≡ b.tag k u)
    → any_names_none g tags cs ≡ false → named_twice cs ≡ false → responses_along b k cs ≡ responses_for tags cs
unfolding responses_along responses_for response_for
responses-along g [] b k tags same e d = refl
responses-along g (c ∷ cs) b k tags same e d =
    let t = c.tag.0 in
    let h = head g tags c cs e d in
    let own : b.tag k t ≡ tag_of (tags t) = sym (ap tag_of h.names.holds ∙ same t h.names.holding h.names.holds) in
    let rest : responses_along (with_tag b k t zero_tag) k cs ≡ responses_for tags cs =
    responses-along g cs (with_tag b k t zero_tag) k (freed t tags) (later t) (freed-names g t tags cs h.alone ∙ h.rest) h.others
    ∙ freed-responses t tags cs h.alone in
    λ i. due_for (own i) c.result ∷ rest i
  where
    later : (t u : ℕ) (x : Tag) → freed t tags u ≡ held x → x ≡ (with_tag b k t zero_tag).tag k u
    later t u x q =
        elim (ℕ_discrete u t) [
          | yes z ↦ clash (sym (ap is_free (rw (eq-eqb u t z) at q))) refl
          | no z ↦ same u x (rw (ne_eqb u t z) at q) ∙ sym (other_tag b k t u z)
        ]

-- ---- the backend

-- what is put over what was put before
with-port-over : (b : Backend) (k : ℕ) (p q : Port) → with_port (with_port b k p) k q ≡ with_port b k q
unfolding with_port
with-port-over b k p q = λ i. record { pointer = b.pointer; port = λ j. at j i; tag = b.tag }
  where
    by : (d : Bool) (x : Port) → cond d q (cond d p x) ≡ cond d q x
    by true x = refl
    by false x = refl

    at : (j : ℕ) → cond (eqb j k) q (cond (eqb j k) p (b.port j)) ≡ cond (eqb j k) q (b.port j)
    at j = by (eqb j k) (b.port j)

port-put : (b : Backend) (k : ℕ) (p : Port) → (with_port b k p).port k ≡ p
unfolding with_port
port-put b k p = rw (eq-eqb k k refl)

-- and a port put where it stands
with-port-same : (b : Backend) (k : ℕ) (p : Port) → p ≡ b.port k → with_port b k p ≡ b
unfolding with_port
with-port-same b k p e = λ i. record { pointer = b.pointer; port = λ j. at j (eqb j k) refl i; tag = b.tag }
  where
    at : (j : ℕ) (d : Bool) → eqb j k ≡ d → cond d p (b.port j) ≡ b.port j
    at j true q = e ∙ ap b.port (sym (eqb-true j k q))
    at j false q = refl

-- zeroing tags leaves the ports
emptied-port : (cs : List Completion) (b : Backend) (k : ℕ) (p : Port) → emptied (with_port b k p) k cs ≡ with_port (emptied b k cs) k p
unfolding emptied with_port with_tag
emptied-port [] b k p = refl
emptied-port (c ∷ cs) b k p = emptied-port cs (with_tag b k c.tag.0 zero_tag) k p

pub emptied-ports : (cs : List Completion) (b : Backend) (k j : ℕ) → (emptied b k cs).port j ≡ b.port j
unfolding emptied with_tag
emptied-ports [] b k j = refl
emptied-ports (c ∷ cs) b k j = emptied-ports cs (with_tag b k c.tag.0 zero_tag) k j

-- the deeds of a list, one after another
pub does-list : (cs : List Completion) (zs : List Status) (b : Backend) (k : ℕ) (left : List ℕ) → length zs ≡ length cs → (b.port k).produced < modulus
    → does_all b (finishings left k cs zs) ≡ with_port (emptied b k cs) k (port_with (b.port k) (length cs) (cleared (b.port k).busy cs))
unfolding emptied cleared does
does-list [] zs b k left l h =
    let p = b.port k in
    let same : further p.produced 0 ≡ p.produced = omega arith in
    sym (with-port-same b k (port_with p 0 p.busy) (λ i. record { state = p.state; params = p.params; consumed = p.consumed; produced = same i; busy = p.busy }))
does-list (c ∷ cs) [] b k left l h = absurd (omega arith)
does-list (c ∷ cs) (z ∷ zs) b k left l h =
    let t = c.tag.0 in
    let p = b.port k in
    let n = length cs in
    let zeroed = with_tag b k t zero_tag in
    let one = with_port zeroed k (finished_port p t) in
    let own : one.port k ≡ finished_port p t = port-put zeroed k (finished_port p t) in
    let index : further (after p.produced) n ≡ further p.produced (suc n) = omega arith in
    let marks = cleared (clear_busy p.busy t) cs in
    does-list cs zs one k left (omega arith) (rw own (mod-lt (p.produced + 1) (omega arith)))
    ∙ ap (λ (q : Port). with_port (emptied one k cs) k (port_with q n (cleared q.busy cs))) own
    ∙ ap (λ (c : Backend). with_port c k (port_with (finished_port p t) n marks)) (emptied-port cs zeroed k (finished_port p t))
    ∙ with-port-over (emptied zeroed k cs) k (finished_port p t) (port_with (finished_port p t) n marks)
    ∙ ap (λ (v : ℕ). with_port (emptied zeroed k cs) k (record { state = p.state; params = p.params; consumed = p.consumed; produced = v; busy = marks })) index
