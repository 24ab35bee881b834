-- `entries::left_busy` meets its contract, entry by entry (FirstPass).
use native.Mathlib.Omega.{arith}
use mathlib.Core.Path.{◌≡◌, sym, ap, ◌∙◌}
use borrow.Author.Tests.{not-true, not-false}
use mathlib.Core.Bool.{true, false}
use Prim.Native.Nat.{ℕ, ◌/◌, ◌<◌}
use lib.ListN.{length}
use Rattle.model.specs.Complete.{entry_words}
use Rattle.model.specs.Port.{busy_bits, is_busy}
use Rattle.model.specs.Ring.{ring_for}
use Rattle.model.specs.Rules.{names_none}
use Rattle.model.specs.Turn.{tag_id, serial_of}
use Rattle.model.specs.declared.Abi.{Abi}
use Rattle.model.specs.declared.Pages.{Pages}
use Rattle.model.specs.declared.Tag.{Tag}
use Rattle.model.proofs.Completions.{names-one}
use Rattle.model.proofs.Ring.{fits-for}
use Rattle.memory.specs.Backend.{backend_of}
use Rattle.entries.specs.Entries.{holder_in, left_of, NamesBusy}
use Rattle.entries.proofs.FirstPass.{busy-named, from_first, left-stops, left-goes, left-ends}
use Rattle.entries.proofs.left_busy.Goals as goal

-- an entry with which the pass goes on names a busy request
none : (keep : ℕ → Tag) (pages : Pages) (left tag serial : ℕ) → NamesBusy keep pages left tag serial true → (abi : Abi)
    → names_none (ring_for abi pages) (tag_id tag) (serial_of serial) (holder_in left keep tag) ≡ false
none keep pages left tag serial h abi = not-true _ (sym (h abi))

-- so its mark is there to be cleared
goes_on : (keep : ℕ → Tag) (pages : Pages) (left tag serial : ℕ) → NamesBusy keep pages left tag serial true → (tag < busy_bits) × (is_busy left tag ≡ true)
goes_on keep pages left tag serial h =
    let g = ring_for Abi.Bits64 pages in
    let n = names-one g _ _ _ (none keep pages left tag serial h Abi.Bits64) in
    (omega (arith, n.small, (fits-for Abi.Bits64 pages).marked), busy-named g keep left _ n.holding n.holds)

pub loop-entry-init : goal.loop-entry-init
loop-entry-init c =
    let a = c.args in
    record {
      read = c.as_chunks.ensures.front;
      left = λ abi. ap (left_of (ring_for abi a.pages) ((backend_of a.memory.now).tag a.k.index) a.busy) (from_first a.entries.now);
    }

pub returns-then-not-names_busy : goal.returns-then-not-names_busy
returns-then-not-names_busy c abi =
    let a = c.args in
    let l = c.loop-entry in
    left-stops (ring_for abi a.pages) ((backend_of a.memory.now).tag a.k.index) l.left (length a.entries.now / entry_words) a.entries.now _ l.invariant.read l.entry-index
    (omega (arith, c.as_chunks.ensures.front_len)) (not-false _ (sym (c.if-not-names_busy.ensures abi)))
    ∙ l.invariant.left abi

pub overflow_cast-tag : goal.overflow_cast-tag
overflow_cast-tag c =
    let a = c.args in
    record { fits = omega (arith, (goes_on ((backend_of a.memory.now).tag a.k.index) a.pages c.loop-entry.left _ _ c.if-not-names_busy.ensures).0) }

pub new-requires : goal.new-requires
new-requires c = (goes_on ((backend_of c.args.memory.now).tag c.args.k.index) c.args.pages c.loop-entry.left _ _ c.if-not-names_busy.ensures).0

pub clear_mark-left-requires : goal.clear_mark-left-requires
clear_mark-left-requires c = rw c.new.ensures (goes_on ((backend_of c.args.memory.now).tag c.args.k.index) c.args.pages c.loop-entry.left _ _ c.if-not-names_busy.ensures).1

pub loop-entry-preserved : goal.loop-entry-preserved
loop-entry-preserved c =
    let a = c.args in
    let l = c.loop-entry in
    let keep = (backend_of a.memory.now).tag a.k.index in
    record {
      read = l.invariant.read;
      left = λ abi.
          rw (c.clear_mark-left.ensures, c.new.ensures)
          (left-goes (ring_for abi a.pages) keep l.left (length a.entries.now / entry_words) a.entries.now _ l.invariant.read l.entry-index
          (omega (arith, c.as_chunks.ensures.front_len)) (none keep a.pages l.left _ _ c.if-not-names_busy.ensures abi)
          ∙ l.invariant.left abi);
    }

pub returns : goal.returns
returns c abi =
    let a = c.args in
    left-ends (ring_for abi a.pages) ((backend_of a.memory.now).tag a.k.index) c.loop-entry.left (length a.entries.now / entry_words) a.entries.now c.loop-entry.entry-index
    (omega (arith, c.as_chunks.ensures.front_len, c.loop-entry-test.false)) ∙ c.loop-entry.invariant.left abi
