-- `lists::complete_listed` meets its promise, in each of the ways that it ends.
use native.Mathlib.Omega.{arith}
use mathlib.Core.Path.{◌≡◌, ap, ◌∙◌}
use mathlib.Core.List.{List}
use Prim.Native.Nat.{ℕ}
use Rattle.model.specs.Backend.{Backend}
use Rattle.model.specs.Complete.{completions_in}
use Rattle.model.specs.Ring.{ring_for, ring_of}
use Rattle.model.specs.declared.Abi.{Abi}
use Rattle.model.specs.declared.Port.{Port}
use Rattle.model.specs.Turn.{port_id}
use Rattle.memory.specs.Backend.{backend_of}
use Rattle.memory.proofs.Backend.{size-tags}
use Rattle.entries.specs.Entries.{left_of}
use Rattle.std.specs.Prelude.{Option}
use Rattle.lists.proofs.Ways.{list-too-long, list-empty, list-at-fault, list_done, named-tags}
use Rattle.lists.proofs.complete_listed.Goals as goal

-- what the first pass found, by what the memory keeps
found : (b : Backend) (k : ℕ) (p : Port) (words : List ℕ) (r : Option ℕ) → p ≡ b.port k
    → ((abi : Abi) → r ≡ left_of (ring_for abi p.params.pages) (b.tag k) p.busy (completions_in words))
    → r ≡ left_of (ring_of (b.port k).params) (b.tag k) (b.port k).busy (completions_in words)
found b k p words r e h = h p.params.abi ∙ ap (λ (q : Port). left_of (ring_of q.params) (b.tag k) q.busy (completions_in words)) e

pub returns-then-entries : goal.returns-then-entries
returns-then-entries c =
    let a = c.args in
    let o = c.requires in
    list-too-long a.memory.now a.rings.now (port_id a.k.index) a.entries.now a.answer.now (omega arith) o.1 (omega arith) o.0 (omega arith)

pub returns-then-entries-lt-ENTRY_WORDS : goal.returns-then-entries-lt-ENTRY_WORDS
returns-then-entries-lt-ENTRY_WORDS c =
    let a = c.args in
    let o = c.requires in
    rw (c.clear_rest.ensures, c.id.ensures)
    (list-empty a.memory.now a.rings.now (port_id a.k.index) a.entries.now a.answer.now (omega arith) o.1 (omega arith) o.0 (omega arith) (omega arith) (omega arith))

pub finish_list-requires : goal.finish_list-requires
finish_list-requires c =
    let a = c.args in
    let o = c.requires in
    let b = backend_of a.memory.now in
    let p = b.port a.k.index in
    record {
      in_use = o.0;
      read = c.port_at-p.ensures;
      some = omega arith;
      few = omega arith;
      tagged =
          named-tags (ring_of p.params) (b.tag a.k.index) p.busy c.in-Some.marks a.entries.now (size-tags p.params)
          (found b a.k.index _ a.entries.now _ c.port_at-p.ensures c.in-Some.ensures);
    }

pub returns-in_default : goal.returns-in_default
returns-in_default c =
    let a = c.args in
    let o = c.requires in
    list-at-fault a.memory.now a.rings.now (port_id a.k.index) a.entries.now a.answer.now (omega arith) o.1 (omega arith) o.0 (omega arith)
    (found (backend_of a.memory.now) a.k.index _ a.entries.now _ c.port_at-p.ensures c.in_default.ensures)

pub returns : goal.returns
returns c =
    let a = c.args in
    let o = c.requires in
    list_done a.memory.now a.rings.now (port_id a.k.index) a.entries.now a.answer.now (omega arith) o.1 (omega arith) o.0 (omega arith)
    c.in-Some.marks (omega arith) (found (backend_of a.memory.now) a.k.index _ a.entries.now _ c.port_at-p.ensures c.in-Some.ensures) _ _ _ _ c.finish_list.ensures
