-- Section 3 of docs/RULES.md: what a node sheet says of a port, or why it is refused, 11 to 15 (rules 7.11 to 7.15). The sheet of rule 3.12 is
-- computed in proofs/Sheets.antt.
use Rattle.std.specs.Prelude.{ℕ, zero, suc, ◌+◌, ◌-◌, ◌*◌, ◌^◌, Bool, true, false, not, cond, ◌&&◌, ◌||◌, List, [], ◌∷◌, Result, Ok, Err, eqb, ltb, leb, length, get_or}
use Rattle.wire.specs.LittleEndian.{load}
use Rattle.wire.specs.Part.{part}
use Rattle.model.specs.Base.{◌⇒◌, first_of, all, same}
use Rattle.model.specs.Numbers.{number_refusal}
use Rattle.model.specs.declared.Abi.{Abi}
use Rattle.model.specs.declared.NumberError.{NumberError}
use Rattle.model.specs.declared.Pages.{Pages}
use Rattle.model.specs.declared.Params.{Params}
use Rattle.model.specs.declared.Refusal.{Refusal}
use Rattle.model.specs.declared.SectorSize.{SectorSize}

-- ---- the table of contents

-- an entry of the table of contents, with its body (rules 3.2 and 3.3)
pub record Entry : Type 0 where
  pub node : ℕ
  pub reserved : ℕ
  pub body : List ℕ

-- where entry i begins (rule 3.2)
unfoldable pub entry_at : ℕ → ℕ
entry_at i = 1 + 4 * i

-- how many bytes entry i's body has (rule 3.2)
unfoldable pub body_length : List ℕ → ℕ → ℕ
body_length sheet i = load 2 sheet (entry_at i + 2)

-- n entries from number i on, whose bodies begin at a place of the sheet, with nothing between them (rule 3.3)
unfoldable pub entries_from : ℕ → List ℕ → ℕ → ℕ → List Entry
entries_from zero sheet i at = []
entries_from (suc n) sheet i at =
    record { node = get_or sheet (entry_at i) 0; reserved = get_or sheet (entry_at i + 1) 0; body = part (body_length sheet i) sheet at }
    ∷ entries_from n sheet (suc i) (at + body_length sheet i)

-- the greatest node, and the most entries that a sheet can have (rules 3.1 and 3.5)
abbrev pub last_node : ℕ
last_node = 9

-- how many entries the sheet has (rule 3.1)
abbrev pub entry_count : List ℕ → ℕ
entry_count sheet = get_or sheet 0 0

-- all of them, with their bodies behind the table of contents (rules 3.1 and 3.3)
unfoldable pub entries_of : List ℕ → List Entry
entries_of sheet = entries_from (entry_count sheet) sheet 0 (entry_at (entry_count sheet))

-- where the bodies of n entries from number i on end, if they begin at a place of the sheet (rule 3.3)
unfoldable pub bodies_end : ℕ → List ℕ → ℕ → ℕ → ℕ
bodies_end zero sheet i at = at
bodies_end (suc n) sheet i at = bodies_end n sheet (suc i) (at + body_length sheet i)

-- nothing calls for 11 (rule 7.11); a table of contents that is cut short does (rule 3.13)
unfoldable pub well_formed : List ℕ → Bool
well_formed sheet =
    ltb 0 (length sheet)
    && leb (entry_count sheet) last_node
    && all (λ (e : Entry). eqb e.reserved 0) (entries_of sheet)
    && eqb (bodies_end (entry_count sheet) sheet 0 (entry_at (entry_count sheet))) (length sheet)

-- nothing calls for 12 (rules 3.4 and 7.12): the nodes rise from above the first argument, and stay within the last there is
unfoldable pub rising : ℕ → List Entry → Bool
rising before [] = true
rising before (e ∷ es) = ltb before e.node && leb e.node last_node && rising e.node es

-- ---- numbers

-- a decimal digit, as a byte of text (rule 3.7)
unfoldable pub is_digit : ℕ → Bool
is_digit d = leb 48 d && leb d 57

-- the value of the digits after those of value v, however many they are (rules 3.7 and 3.8)
unfoldable pub digits_from : ℕ → List ℕ → ℕ
digits_from v [] = v
digits_from v (d ∷ ds) = digits_from (v * 10 + (d - 48)) ds

-- what the decimal digits of a body spell, or why they are no number (rules 3.7 and 3.8)
abbrev pub Number : Type 0
Number = Result ℕ NumberError

-- a number that is too great is one all the same (rule 3.8)
unfoldable pub capped : ℕ → Number
capped v = cond (ltb v (2 ^ 64)) (Ok v) (Err NumberError.TooBig)

-- what digits alone spell (rule 3.7)
unfoldable pub digits_of : List ℕ → Number
digits_of text = cond (all is_digit text) (capped (digits_from 0 text)) (Err NumberError.NotANumber)

-- the number that a text spells: digits, with a 0 in front in "0" alone (rule 3.7)
unfoldable pub number_of : List ℕ → Number
number_of [] = Err NumberError.NotANumber
number_of (d ∷ []) = digits_of (d ∷ [])
number_of (d ∷ e ∷ ds) = cond (eqb d 48) (Err NumberError.NotANumber) (digits_of (d ∷ e ∷ ds))

-- ---- bodies: each gives a value, or a refusal (rule 3.9)

abbrev pub Body : Type 0
Body = Result ℕ Refusal

-- one of two texts, for 0 and for 1; any other is 13 (rules 3.5 and 7.13)
unfoldable pub choice_body : List ℕ → List ℕ → List ℕ → Body
choice_body text off on = first_of (same text off ⇒ Ok 0 ∷ same text on ⇒ Ok 1 ∷ []) (Err Refusal.SheetText)

-- a number, where the node allows it; no number is 13, another number 14 (rules 7.13 and 7.14)
unfoldable pub number_body : (ℕ → Bool) → Number → Body
number_body allowed (Ok v) = cond (allowed v) (Ok v) (Err Refusal.SheetNumber)
number_body allowed (Err e) = Err (number_refusal e)

-- the four sizes that a sector can have (rule 3.5)
unfoldable pub is_sector_size : ℕ → Bool
is_sector_size v = eqb v 512 || eqb v 1024 || eqb v 2048 || eqb v 4096

-- the texts "x86_64-abi" and "x86_32-abi" (rule 3.5)
abbrev pub protocol64 : List ℕ
protocol64 = 120 ∷ 56 ∷ 54 ∷ 95 ∷ 54 ∷ 52 ∷ 45 ∷ 97 ∷ 98 ∷ 105 ∷ []

abbrev pub protocol32 : List ℕ
protocol32 = 120 ∷ 56 ∷ 54 ∷ 95 ∷ 51 ∷ 50 ∷ 45 ∷ 97 ∷ 98 ∷ 105 ∷ []

-- which numbers may stand at a node: a sector size, any count of sectors, page order 0 or 1 (rules 3.5 and 7.14)
unfoldable pub is_allowed : ℕ → ℕ → Bool
is_allowed node v = first_of (eqb node 6 ⇒ is_sector_size v ∷ eqb node 7 ⇒ true ∷ []) (leb v 1)

-- a node's body, by the table of rule 3.5; a node that is not there was refused with 12 before (rule 3.10)
unfoldable pub body_of : ℕ → List ℕ → Body
body_of node text =
    first_of
    (eqb node 1 ⇒ choice_body text (114 ∷ []) (119 ∷ [])
    ∷ leb node 5 ⇒ choice_body text (48 ∷ []) (49 ∷ [])
    ∷ eqb node 8 ⇒ choice_body text protocol64 protocol32
    ∷ [])
    (number_body (is_allowed node) (number_of text))

-- what a whole sheet comes to: a port's params, or its refusal (rule 3.10)
abbrev pub Sheet : Type 0
Sheet = Result Params Refusal

-- a body at fault refuses the sheet, whatever else would be said: so the first one settles it (rule 3.11)
unfoldable pub after_body : Body → Sheet → Sheet
after_body (Ok v) then = then
after_body (Err e) then = Err e

-- and the bodies of these entries, one after another (rules 3.10 and 3.11)
unfoldable pub after_bodies : List Entry → Sheet → Sheet
after_bodies [] then = then
after_bodies (e ∷ es) then = after_body (body_of e.node e.body) (after_bodies es then)

-- ---- what the sheet says

-- the value of a body; one at fault has refused the sheet before this is asked (rule 3.9)
abbrev pub body_value : Body → ℕ
body_value (Ok v) = v
body_value (Err e) = 0

-- the value of a node: its body's, or what it is when absent (rule 3.5)
unfoldable pub value_of : ℕ → ℕ → List Entry → ℕ
value_of node a [] = a
value_of node a (e ∷ es) = cond (eqb e.node node) (body_value (body_of node e.body)) (value_of node a es)

-- the node has an entry (rule 3.6)
unfoldable pub present : ℕ → List Entry → Bool
present node [] = false
present node (e ∷ es) = cond (eqb e.node node) true (present node es)

-- a sector size that is allowed, as its case (rule 3.5)
abbrev pub sector_size_of : ℕ → SectorSize
sector_size_of v =
    first_of (eqb v 1024 ⇒ SectorSize.Bytes1024 ∷ eqb v 2048 ⇒ SectorSize.Bytes2048 ∷ eqb v 4096 ⇒ SectorSize.Bytes4096 ∷ []) SectorSize.Bytes512

-- what a node is without an entry (rule 3.5). Nodes 1, 6 and 7 are never seen without one, since 15 comes first: the 512 of node 6 is just some sector size.
unfoldable pub absent : ℕ → ℕ
absent node = cond (eqb node 6) 512 0

-- the value of each node (rule 3.5)
unfoldable pub values_of : List Entry → ℕ → ℕ
values_of es node = value_of node (absent node) es

-- a choice of two, as yes or no: "w" and "1" are yes, a page order of 1 too, and of the protocols the 32-bit one (rule 3.5)
abbrev pub is_on : ℕ → Bool
is_on v = eqb v 1

-- the layout of a protocol (rules 1.16 and 3.5)
abbrev pub abi_for : ℕ → Abi
abi_for v = cond (is_on v) Abi.Bits32 Abi.Bits64

-- the pages of a page order (rules 2.3 and 3.5)
abbrev pub pages_for : ℕ → Pages
pages_for v = cond (is_on v) Pages.Two Pages.One

-- what the values of the nodes say of a port (rule 3.5)
unfoldable pub params_of : (ℕ → ℕ) → Params
params_of value = record {
  writable = is_on (value 1);
  barrier = is_on (value 2);
  flush = is_on (value 3);
  discard = is_on (value 4);
  secure = is_on (value 5);
  sector = sector_size_of (value 6);
  sectors = value 7;
  abi = abi_for (value 8);
  pages = pages_for (value 9);
}

-- the nodes that no sheet may lack (rules 3.6 and 7.15)
unfoldable pub has_required : List Entry → Bool
has_required es = present 1 es && present 6 es && present 7 es

-- a whole sheet, examined in the order of rule 3.10
unfoldable pub sheet_of : List ℕ → Sheet
sheet_of sheet =
    first_of
    (not (well_formed sheet) ⇒ Err Refusal.SheetShape
    ∷ not (rising 0 (entries_of sheet)) ⇒ Err Refusal.SheetNodes
    ∷ [])
    (after_bodies (entries_of sheet)
    (cond (has_required (entries_of sheet)) (Ok (params_of (values_of (entries_of sheet)))) (Err Refusal.SheetMissing)))
