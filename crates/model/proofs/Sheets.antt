-- Node sheets on both sides of each refusal (rules 7.11 to 7.15), computed.
use mathlib.Core.Path.{◌≡◌, refl}
use mathlib.Core.Bool.{Bool, true, false}
use mathlib.Core.List.{List, [], ◌∷◌, ◌++◌, map}
use Prim.Native.Nat.{ℕ, ◌%◌, ◌/◌}
use lib.ListN.{length, replicate}
use Rattle.std.specs.Prelude.{Ok, Err}
use Rattle.wire.specs.LittleEndian.{load}
use Rattle.wire.specs.Part.{part}
use Rattle.model.specs.Base.{all, same}
use Rattle.model.specs.NodeSheet.{Sheet, Entry, entry_at, body_length, entries_from, entries_of, bodies_end, well_formed, rising, is_digit, digits_from, capped, digits_of, number_of, choice_body, number_body, is_sector_size, is_allowed, body_of, after_body, after_bodies, value_of, absent, values_of, present, params_of, has_required, sheet_of}
use Rattle.model.specs.Numbers.{refusal_number}
use Rattle.model.specs.declared.Abi.{Abi}
use Rattle.model.specs.declared.Pages.{Pages}
use Rattle.model.specs.declared.Params.{Params}
use Rattle.model.specs.declared.SectorSize.{SectorSize}

-- ---- how a sheet is laid out

abbrev node : ℕ → List ℕ → Entry
node n body = record { node = n; reserved = 0; body = body }

contents : List Entry → List ℕ
contents [] = []
contents (e ∷ es) = e.node ∷ e.reserved ∷ length e.body % 256 ∷ length e.body / 256 ∷ contents es

bodies : List Entry → List ℕ
bodies [] = []
bodies (e ∷ es) = e.body ++ bodies es

-- the sheet that has these entries
laid : List Entry → List ℕ
laid es = length es ∷ contents es ++ bodies es

-- mode "w", sector-size "512", sectors "2008"
abbrev writable : Entry
writable = node 1 (119 ∷ [])

abbrev size512 : Entry
size512 = node 6 (53 ∷ 49 ∷ 50 ∷ [])

abbrev sectors2008 : Entry
sectors2008 = node 7 (50 ∷ 48 ∷ 48 ∷ 56 ∷ [])

-- protocol "x86_32-abi"
abbrev bits32 : Entry
bits32 = node 8 (120 ∷ 56 ∷ 54 ∷ 95 ∷ 51 ∷ 50 ∷ 45 ∷ 97 ∷ 98 ∷ 105 ∷ [])

-- ---- the sheets

-- a sheet, and the number that it is refused with
record Judged : Type 0 where
  number : ℕ
  sheet : List ℕ

abbrev judged : ℕ → List ℕ → Judged
judged n s = record { number = n; sheet = s }

refused : List Judged
refused =
    -- no byte
    judged 11 []
    -- ten entries
    ∷ judged 11 (10 ∷ replicate 40 0)
    -- a table of contents that is cut short (rule 3.13)
    ∷ judged 11 (3 ∷ 1 ∷ 0 ∷ [])
    -- a reserved byte that is set, before any 12
    ∷ judged 11 (laid (size512 ∷ record { node = 1; reserved = 1; body = [] } ∷ []))
    -- a byte too many
    ∷ judged 11 (laid (writable ∷ size512 ∷ sectors2008 ∷ []) ++ (0 ∷ []))
    -- a byte too few
    ∷ judged 11 (1 ∷ 1 ∷ 0 ∷ 1 ∷ 0 ∷ [])
    -- there is no node 0
    ∷ judged 12 (laid (node 0 [] ∷ writable ∷ size512 ∷ sectors2008 ∷ []))
    -- nor a node 10
    ∷ judged 12 (laid (writable ∷ size512 ∷ sectors2008 ∷ node 10 [] ∷ []))
    -- equal nodes, before a faulty body
    ∷ judged 12 (laid (node 1 [] ∷ writable ∷ size512 ∷ sectors2008 ∷ []))
    -- falling nodes
    ∷ judged 12 (laid (size512 ∷ writable ∷ sectors2008 ∷ []))
    -- mode "x"
    ∷ judged 13 (laid (node 1 (120 ∷ []) ∷ size512 ∷ sectors2008 ∷ []))
    -- discard-secure "2"
    ∷ judged 13 (laid (writable ∷ node 5 (50 ∷ []) ∷ size512 ∷ sectors2008 ∷ []))
    -- protocol "x86_32-ab"
    ∷ judged 13 (laid (writable ∷ size512 ∷ sectors2008 ∷ node 8 (120 ∷ 56 ∷ 54 ∷ 95 ∷ 51 ∷ 50 ∷ 45 ∷ 97 ∷ 98 ∷ []) ∷ []))
    -- sectors ""
    ∷ judged 13 (laid (writable ∷ size512 ∷ node 7 [] ∷ []))
    -- sectors "02008"
    ∷ judged 13 (laid (writable ∷ size512 ∷ node 7 (48 ∷ 50 ∷ 48 ∷ 48 ∷ 56 ∷ []) ∷ []))
    -- sectors "+8"
    ∷ judged 13 (laid (writable ∷ size512 ∷ node 7 (43 ∷ 56 ∷ []) ∷ []))
    -- ring-page-order "00", "01" and ""
    ∷ judged 13 (laid (writable ∷ size512 ∷ sectors2008 ∷ node 9 (48 ∷ 48 ∷ []) ∷ []))
    ∷ judged 13 (laid (writable ∷ size512 ∷ sectors2008 ∷ node 9 (48 ∷ 49 ∷ []) ∷ []))
    ∷ judged 13 (laid (writable ∷ size512 ∷ sectors2008 ∷ node 9 [] ∷ []))
    -- a faulty body comes before a missing node
    ∷ judged 13 (laid (node 3 [] ∷ []))
    -- sector-size "513" comes before a later protocol "x"
    ∷ judged 14 (laid (writable ∷ node 6 (53 ∷ 49 ∷ 51 ∷ []) ∷ sectors2008 ∷ node 8 (120 ∷ []) ∷ []))
    -- sectors 2^64
    ∷ judged 14 (laid (writable ∷ size512 ∷ node 7 (49 ∷ 56 ∷ 52 ∷ 52 ∷ 54 ∷ 55 ∷ 52 ∷ 52 ∷ 48 ∷ 55 ∷ 51 ∷ 55 ∷ 48 ∷ 57 ∷ 53 ∷ 53 ∷ 49 ∷ 54 ∷ 49 ∷ 54 ∷ []) ∷ []))
    -- ring-page-order "2" and "11"
    ∷ judged 14 (laid (writable ∷ size512 ∷ sectors2008 ∷ node 9 (50 ∷ []) ∷ []))
    ∷ judged 14 (laid (writable ∷ size512 ∷ sectors2008 ∷ node 9 (49 ∷ 49 ∷ []) ∷ []))
    -- no entry at all
    ∷ judged 15 (0 ∷ [])
    -- each of 1, 6 and 7 missing
    ∷ judged 15 (laid (size512 ∷ sectors2008 ∷ []))
    ∷ judged 15 (laid (writable ∷ sectors2008 ∷ []))
    ∷ judged 15 (laid (writable ∷ size512 ∷ []))
    ∷ []

-- a writable disk with these features
abbrev offering : Bool → Bool → Bool → Bool → Abi → Pages → ℕ → Params
offering barrier flush discard secure abi pages sectors = record {
  writable = true;
  barrier = barrier;
  flush = flush;
  discard = discard;
  secure = secure;
  sector = SectorSize.Bytes512;
  sectors = sectors;
  abi = abi;
  pages = pages;
}

-- one with none, for a guest of a layout, with a ring of so many pages
abbrev disk : Abi → Pages → ℕ → Params
disk = offering false false false false

-- the usual one with one of them, as its sheet says and as it is read
record One : Type 0 where
  by : ℕ
  params : Params

abbrev one : ℕ → Bool → Bool → Bool → Bool → One
one n barrier flush discard secure = record { by = n; params = offering barrier flush discard secure Abi.Bits64 Pages.One 2008 }

ones : List One
ones = one 2 true false false false ∷ one 3 false true false false ∷ one 4 false false true false ∷ one 5 false false false true ∷ []

-- the number that a sheet is refused with, 0 where it is not
abbrev opened_number : Sheet → ℕ
opened_number (Ok p) = 0
opened_number (Err e) = refusal_number e

record Computed : Type 0 where
  refusals : map (λ (j : Judged). opened_number (sheet_of j.sheet)) refused ≡ map (λ (j : Judged). j.number) refused
  -- the worked sheet (rule 3.12)
  whole :
      sheet_of (0x03 ∷ 0x01 ∷ 0x00 ∷ 0x01 ∷ 0x00 ∷ 0x06 ∷ 0x00 ∷ 0x03 ∷ 0x00 ∷ 0x07 ∷ 0x00 ∷ 0x04 ∷ 0x00 ∷ 0x77 ∷ 0x35 ∷ 0x31 ∷ 0x32 ∷ 0x32 ∷ 0x30 ∷ 0x30 ∷ 0x38 ∷ [])
      ≡ Ok (disk Abi.Bits64 Pages.One 2008)
  -- a disk without sectors is one (rule 3.5)
  no_sectors : sheet_of (laid (writable ∷ size512 ∷ node 7 (48 ∷ []) ∷ [])) ≡ Ok (disk Abi.Bits64 Pages.One 0)
  -- a 32-bit guest's (rule 3.5)
  narrow : sheet_of (laid (writable ∷ size512 ∷ sectors2008 ∷ bits32 ∷ [])) ≡ Ok (disk Abi.Bits32 Pages.One 2008)
  -- one with a ring of two pages (rule 3.5), and both
  two_pages : sheet_of (laid (writable ∷ size512 ∷ sectors2008 ∷ node 9 (49 ∷ []) ∷ [])) ≡ Ok (disk Abi.Bits64 Pages.Two 2008)
  narrow_two_pages : sheet_of (laid (writable ∷ size512 ∷ sectors2008 ∷ bits32 ∷ node 9 (49 ∷ []) ∷ [])) ≡ Ok (disk Abi.Bits32 Pages.Two 2008)
  -- each feature by its own node (rule 3.5)
  features : map (λ (o : One). sheet_of (laid (writable ∷ node o.by (49 ∷ []) ∷ size512 ∷ sectors2008 ∷ []))) ones ≡ map (λ (o : One). Ok o.params) ones
  -- every node, with the largest number of sectors
  every_node :
      sheet_of (laid (writable ∷ node 2 (49 ∷ []) ∷ node 3 (48 ∷ []) ∷ node 4 (49 ∷ []) ∷ node 5 (49 ∷ []) ∷ node 6 (52 ∷ 48 ∷ 57 ∷ 54 ∷ []) ∷ node 7 (49 ∷ 56 ∷ 52 ∷ 52 ∷ 54 ∷ 55 ∷ 52 ∷ 52 ∷ 48 ∷ 55 ∷ 51 ∷ 55 ∷ 48 ∷ 57 ∷ 53 ∷ 53 ∷ 49 ∷ 54 ∷ 49 ∷ 53 ∷ []) ∷ node 8 (120 ∷ 56 ∷ 54 ∷ 95 ∷ 54 ∷ 52 ∷ 45 ∷ 97 ∷ 98 ∷ 105 ∷ []) ∷ node 9 (48 ∷ []) ∷ []))
      ≡ Ok (record {
        writable = true;
        barrier = true;
        flush = false;
        discard = true;
        secure = true;
        sector = SectorSize.Bytes4096;
        sectors = 18446744073709551615;
        abi = Abi.Bits64;
        pages = Pages.One;
      })

computed : Computed
unfolding contents bodies laid refused ones load part all same entry_at body_length entries_from entries_of bodies_end well_formed rising is_digit digits_from capped digits_of number_of choice_body number_body is_sector_size is_allowed body_of after_body after_bodies value_of absent values_of present params_of has_required sheet_of
computed = record { refusals = refl; whole = refl; no_sectors = refl; narrow = refl; two_pages = refl; narrow_two_pages = refl; features = refl; every_node = refl }
