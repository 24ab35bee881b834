-- What the first pass over the entries of a list asks and says. An entry is taken by the marks that those before it left; that this comes to what the rules say of
-- the list as a whole is shown in proofs/FirstPass.antt.
use Rattle.std.specs.Prelude.{◌≡◌, Bool, cond, not, List, [], ◌∷◌, ℕ, Option, Some, None}
use Rattle.model.specs.Complete.{Completion}
use Rattle.model.specs.Port.{Holder, free, held, is_busy, clear_busy}
use Rattle.model.specs.Ring.{Ring, ring_for}
use Rattle.model.specs.Rules.{names_none}
use Rattle.model.specs.Turn.{tag_id, serial_of}
use Rattle.model.specs.declared.Abi.{Abi}
use Rattle.model.specs.declared.Pages.{Pages}
use Rattle.model.specs.declared.Tag.{Tag}

-- a tag by a word of marks: it is held where its mark is set
abbrev pub holder_in : ℕ → (ℕ → Tag) → ℕ → Holder
holder_in marks keep t = cond (is_busy marks t) (held (keep t)) free

-- whether an entry names a request that is busy by these marks, in a ring of any layout
abbrev pub NamesBusy : (ℕ → Tag) → Pages → ℕ → ℕ → ℕ → Bool → Type 0
NamesBusy keep pages marks tag serial r =
    (abi : Abi) → r ≡ not (names_none (ring_for abi pages) (tag_id tag) (serial_of serial) (holder_in marks keep tag))

-- the marks that the entries leave, each clearing that of its tag; none where one names no busy request
unfoldable pub left_of : Ring → (ℕ → Tag) → ℕ → List Completion → Option ℕ
left_of g keep marks [] = Some marks
left_of g keep marks (c ∷ cs) =
    cond (names_none g c.tag c.serial (holder_in marks keep c.tag.0)) None (left_of g keep (clear_busy marks c.tag.0) cs)
