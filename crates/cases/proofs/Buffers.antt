-- What the computed cases lend: sheets, shares with requests in their slots, grants and words.
use mathlib.Core.List.{List, [], ◌∷◌, ◌++◌}
use Prim.Native.Nat.{ℕ, ◌+◌, ◌*◌}
use lib.ListN.{replicate}
use Rattle.wire.specs.LittleEndian.{store}
use Rattle.wire.specs.Part.{set_part}

-- a sheet with the three nodes that must be there: writable, sectors of 512 bytes, 2008 of them
abbrev pub sheet : List ℕ
sheet = 0x03 ∷ 0x01 ∷ 0x00 ∷ 0x01 ∷ 0x00 ∷ 0x06 ∷ 0x00 ∷ 0x03 ∷ 0x00 ∷ 0x07 ∷ 0x00 ∷ 0x04 ∷ 0x00 ∷ 0x77 ∷ 0x35 ∷ 0x31 ∷ 0x32 ∷ 0x32 ∷ 0x30 ∷ 0x30 ∷ 0x38 ∷ []

-- the same with the protocol "x86_32-abi"
abbrev pub sheet32 : List ℕ
sheet32 = 0x04 ∷ 0x01 ∷ 0x00 ∷ 0x01 ∷ 0x00 ∷ 0x06 ∷ 0x00 ∷ 0x03 ∷ 0x00 ∷ 0x07 ∷ 0x00 ∷ 0x04 ∷ 0x00 ∷ 0x08 ∷ 0x00 ∷ 0x0a ∷ 0x00 ∷ 0x77 ∷ 0x35 ∷ 0x31 ∷ 0x32 ∷ 0x32 ∷ 0x30 ∷ 0x30 ∷ 0x38 ∷ 0x78 ∷ 0x38 ∷ 0x36 ∷ 0x5f ∷ 0x33 ∷ 0x32 ∷ 0x2d ∷ 0x61 ∷ 0x62 ∷ 0x69 ∷ []

-- the first with the page order "1"
abbrev pub sheet_two : List ℕ
sheet_two = 0x04 ∷ 0x01 ∷ 0x00 ∷ 0x01 ∷ 0x00 ∷ 0x06 ∷ 0x00 ∷ 0x03 ∷ 0x00 ∷ 0x07 ∷ 0x00 ∷ 0x04 ∷ 0x00 ∷ 0x09 ∷ 0x00 ∷ 0x01 ∷ 0x00 ∷ 0x77 ∷ 0x35 ∷ 0x31 ∷ 0x32 ∷ 0x32 ∷ 0x30 ∷ 0x30 ∷ 0x38 ∷ 0x31 ∷ []

-- the second with the page order "1"
abbrev pub sheet32_two : List ℕ
sheet32_two = 0x05 ∷ 0x01 ∷ 0x00 ∷ 0x01 ∷ 0x00 ∷ 0x06 ∷ 0x00 ∷ 0x03 ∷ 0x00 ∷ 0x07 ∷ 0x00 ∷ 0x04 ∷ 0x00 ∷ 0x08 ∷ 0x00 ∷ 0x0a ∷ 0x00 ∷ 0x09 ∷ 0x00 ∷ 0x01 ∷ 0x00 ∷ 0x77 ∷ 0x35 ∷ 0x31 ∷ 0x32 ∷ 0x32 ∷ 0x30 ∷ 0x30 ∷ 0x38 ∷ 0x78 ∷ 0x38 ∷ 0x36 ∷ 0x5f ∷ 0x33 ∷ 0x32 ∷ 0x2d ∷ 0x61 ∷ 0x62 ∷ 0x69 ∷ 0x31 ∷ []

-- a share whose req_prod and rsp_event are these, and all else zero
unfoldable pub header : ℕ → ℕ → List ℕ
header produced event = store 4 (store 4 (replicate 64 0) 0 produced) 12 event ++ replicate 8128 0

-- a share with a request more, in a ring with slots of some bytes and the id at a place: in slot i an operation on one segment, sectors 0 to 7 of frame 5, at a
-- start sector
unfoldable pub asking : ℕ → ℕ → List ℕ → ℕ → ℕ → ℕ → ℕ → List ℕ
asking bytes id_at share i operation id start =
    let request = store 8 (store 8 (store 1 (store 1 (replicate bytes 0) 0 operation) 1 1) id_at id) (id_at + 8) start in
    set_part bytes share (64 + bytes * i) (store 1 (store 4 request (id_at + 16) 5) (id_at + 21) 7)

-- with one request, and rsp_event 2
abbrev pub page : ℕ → ℕ → ℕ → ℕ → ℕ → ℕ → ℕ → List ℕ
page bytes id_at produced i operation id start = asking bytes id_at (header produced 2) i operation id start

-- in the two layouts
abbrev pub page64 : ℕ → ℕ → ℕ → ℕ → ℕ → List ℕ
page64 = page 112 8

abbrev pub page32 : ℕ → ℕ → ℕ → ℕ → ℕ → List ℕ
page32 = page 108 4

-- every frame of every port may be read and written
unfoldable pub grants : List ℕ
grants = replicate 8192 2

unfoldable pub words : List ℕ
words = replicate 44 9

-- the rings with the shares of ports 2 and 3, the others zero
unfoldable pub rings : List ℕ → List ℕ → List ℕ
rings two three = replicate 16384 0 ++ (two ++ (three ++ replicate 32768 0))
