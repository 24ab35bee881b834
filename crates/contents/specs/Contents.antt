-- What the functions over a table of contents ask of a sheet, and how they read it.
use Rattle.std.specs.Prelude.{ℕ, ◌+◌, ◌*◌, ◌≤◌, ◌<◌, Bool, List, [], ◌∷◌, eqb, length, get_or, take, drop}
use Rattle.wire.specs.LittleEndian.{load}
use Rattle.model.specs.NodeSheet.{Entry, entry_count, last_node}

-- the table of contents lies in the sheet (rules 3.1 and 3.2)
pub record Contents (sheet : List ℕ) : Type 0 where
  pub some : 0 < length sheet
  pub few : entry_count sheet ≤ last_node
  pub whole : 1 + 4 * entry_count sheet ≤ length sheet

-- the reserved byte of an entry is zero (rule 3.2)
abbrev pub is_clear : Entry → Bool
is_clear e = eqb e.reserved 0

-- how many bytes the body of an entry has, by the entry's four bytes (rule 3.2)
abbrev pub length_of : List ℕ → ℕ
length_of e = load 2 e 2

-- the entries of a table of contents, by the four bytes of each, with their bodies, which stand one after another
-- (rules 3.2 and 3.3)
unfoldable pub entries_in : List (List ℕ) → List ℕ → List Entry
entries_in [] bodies = []
entries_in (e ∷ es) bodies =
    record { node = get_or e 0 0; reserved = get_or e 1 0; body = take (length_of e) bodies }
    ∷ entries_in es (drop (length_of e) bodies)
