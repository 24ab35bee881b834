-- Section 9 of docs/RULES.md: the worked cases with a star, as one list of tests that the checker computes (rule 9.1). The others (rules 9.7, 9.12, 9.13, 9.19 to
-- 9.21, 9.25 and 9.42 to 9.44) are run through the code.
use Rattle.std.specs.Prelude.{ℕ, zero, suc, ◌+◌, ◌*◌, Bool, true, false, not, cond, List, [], ◌∷◌, Ok, Err, eqb, ℤ, pos, negsuc, replicate, set}
use Rattle.wire.specs.LittleEndian.{store}
use Rattle.model.specs.Ring.{Layout, layout_of, request_of, status_bits, read, write, barrier, discard}
use Rattle.model.specs.Numbers.{reason_number}
use Rattle.model.specs.Port.{in_flight_of, View, free}
use Rattle.model.specs.Plan.{Verdict, verdict_of}
use Rattle.model.specs.Turn.{pending_at}
use Rattle.model.specs.Complete.{status_of}
use Rattle.model.specs.declared.Abi.{Abi}
use Rattle.model.specs.declared.Pages.{Pages}
use Rattle.model.specs.declared.Params.{Params}
use Rattle.model.specs.declared.Pending.{Pending}
use Rattle.model.specs.declared.SectorSize.{SectorSize}
use Rattle.model.specs.declared.State.{State}
use Rattle.model.specs.declared.Status.{Status}

-- a disk with every feature, secure discards or not, and a ring of so many pages; `usual` is that of section 9
abbrev disk_with : Bool → Bool → SectorSize → ℕ → Pages → Params
disk_with secure writable size sectors pages = record {
  writable = writable;
  barrier = true;
  flush = true;
  discard = true;
  secure = secure;
  sector = size;
  sectors = sectors;
  abi = Abi.Bits64;
  pages = pages;
}

abbrev disk : Bool → SectorSize → ℕ → Params
disk writable size sectors = disk_with true writable size sectors Pages.One

abbrev usual : Params
usual = disk true SectorSize.Bytes512 2008

-- the usual one without secure discards (rules 9.35 and 9.38)
abbrev insecure : Bool → Params
insecure writable = disk_with false writable SectorSize.Bytes512 2008 Pages.One

-- grants that say one thing of frame 5, and nothing of any other
abbrev grant : ℕ → List ℕ
grant right = set (replicate 1024 0) 5 right

abbrev layout : Layout
layout = layout_of Abi.Bits64

-- a slot: operation, n, start sector, and the same segment of frame 5 in each place
abbrev segments : ℕ → ℕ → ℕ → List ℕ → List ℕ
segments zero first last slot = slot
segments (suc i) first last slot = store 1 (store 1 (store 4 (segments i first last slot) (24 + 8 * i) 5) (28 + 8 * i) first) (29 + 8 * i) last

abbrev slot : ℕ → ℕ → ℕ → ℕ → ℕ → List ℕ
slot operation n start first last = segments 11 first last (store 8 (store 1 (store 1 (replicate 112 0) 0 operation) 1 n) 16 start)

-- a discard from sector 2000 on: its flag, and how many sectors
abbrev discarding : ℕ → ℕ → List ℕ
discarding flag sectors = store 8 (slot discard flag 2000 0 0) 24 sectors

abbrev judge : Params → List ℕ → List ℕ → Verdict
judge p grants bytes = verdict_of p grants (request_of layout bytes)

-- the request is refused with this reason
abbrev refused : ℕ → Verdict → Bool
refused n (Ok plan) = false
refused n (Err f) = eqb n (reason_number f.reason)

-- the request starts, with this count
abbrev starts : ℕ → Verdict → Bool
starts count (Ok plan) = eqb count plan.count
starts count (Err f) = false

-- it starts, and its secure mark is this
abbrev marked : Bool → Verdict → Bool
marked secure (Ok plan) = cond secure plan.secure (not plan.secure)
marked secure (Err f) = false

abbrev waits : Pending → Bool
waits Pending.Nothing = false
waits Pending.Waits = true
waits Pending.Overrun = false

abbrev overruns : Pending → Bool
overruns Pending.Nothing = false
overruns Pending.Waits = false
overruns Pending.Overrun = true

-- open ports with both indices 5, and so no tag busy, and rings of so many pages
abbrev ports5 : Pages → View
ports5 n = record {
  state = λ k. State.Open;
  params = λ k. disk_with true true SectorSize.Bytes512 2008 n;
  consumed = λ k. 5;
  produced = λ k. 5;
  in_flight = λ k. in_flight_of 0;
  tag = λ k t. free;
  pointer = 0;
}

-- what req_prod says there (rules 9.17, 9.18, 9.40 and 9.41)
abbrev at5 : Pages → ℕ → Pending
at5 n req_prod = pending_at (ports5 n) (store 4 (replicate 16 0) 0 req_prod) 0

-- what a result comes to where 8 is expected (rules 9.22 to 9.24)
abbrev comes_to : ℤ → Status → Bool
comes_to result status = eqb (status_bits (status_of 8 result)) (status_bits status)

unfoldable pub starred : List Bool
starred =
    -- rule 9.2: a read that ends where the disk does
    starts 8 (judge usual (grant 2) (slot read 1 2000 0 7))
    -- rule 9.3: the disk is a sector shorter
    ∷ refused 28 (judge (disk true SectorSize.Bytes512 2007) (grant 2) (slot read 1 2000 0 7))
    -- rule 9.4: the frame may not be written
    ∷ refused 27 (judge usual (grant 1) (slot read 1 2000 0 7))
    -- rule 9.5: for a write it need not be
    ∷ starts 8 (judge usual (grant 1) (slot write 1 2000 0 7))
    -- rule 9.6: a segment too many
    ∷ refused 25 (judge usual (grant 2) (slot read 12 2000 0 7))
    -- rule 9.8: no segment
    ∷ refused 25 (judge usual (grant 2) (slot read 0 2000 0 7))
    -- rule 9.9: a barrier needs none
    ∷ starts 0 (judge usual (grant 2) (slot barrier 0 2000 0 7))
    -- rule 9.10: a segment that ends before it begins
    ∷ refused 26 (judge usual (grant 2) (slot read 1 2000 3 2))
    -- rule 9.11: one that ends past its frame
    ∷ refused 26 (judge usual (grant 2) (slot read 1 2000 0 8))
    -- rule 9.14: a whole sector of 4,096 bytes
    ∷ starts 8 (judge (disk true SectorSize.Bytes4096 2008) (grant 2) (slot read 1 8 0 7))
    -- rule 9.15: its start is half a sector off
    ∷ refused 29 (judge (disk true SectorSize.Bytes4096 2008) (grant 2) (slot read 1 4 0 7))
    -- rule 9.26: two halves of a sector, though together they have the sectors of a whole one
    ∷ refused 29 (judge (disk true SectorSize.Bytes4096 2008) (grant 2) (slot read 2 8 0 3))
    -- rule 9.27: on a disk of smaller sectors each is a whole one
    ∷ starts 8 (judge (disk true SectorSize.Bytes2048 2008) (grant 2) (slot read 2 8 0 3))
    -- rule 9.28: they end where a sector does, but do not begin so
    ∷ refused 29 (judge (disk true SectorSize.Bytes2048 2008) (grant 2) (slot read 2 8 2 3))
    -- rule 9.29: the sectors of a whole one, from the middle of one to that of the next
    ∷ refused 29 (judge (disk true SectorSize.Bytes2048 2008) (grant 2) (slot read 1 8 2 5))
    -- rule 9.30: on a disk of smaller sectors it is two of them
    ∷ starts 4 (judge (disk true SectorSize.Bytes1024 2008) (grant 2) (slot read 1 2 2 5))
    -- rule 9.31: a barrier is a write like others
    ∷ refused 29 (judge (disk true SectorSize.Bytes4096 2008) (grant 1) (slot barrier 2 8 0 3))
    -- rule 9.32: 28 comes before 29
    ∷ refused 28 (judge (disk true SectorSize.Bytes4096 2008) (grant 2) (slot read 1 2004 0 7))
    -- rule 9.33: a barrier without segments has no range
    ∷ starts 0 (judge (disk true SectorSize.Bytes4096 2008) (grant 2) (slot barrier 0 4 0 7))
    -- rule 9.34: a discard has no segments, but a range; its sectors stand where a segment would
    ∷ starts 8 (judge (disk true SectorSize.Bytes4096 2008) (grant 2) (store 8 (slot discard 0 8 0 0) 24 8))
    ∷ refused 29 (judge (disk true SectorSize.Bytes4096 2008) (grant 2) (store 8 (slot discard 0 8 0 0) 24 12))
    -- rule 9.35: a secure discard where there are none is a plain one
    ∷ starts 8 (judge (insecure true) (grant 0) (discarding 1 8))
    ∷ marked false (judge (insecure true) (grant 0) (discarding 1 8))
    -- rule 9.36: where there are, it is one
    ∷ marked true (judge usual (grant 0) (discarding 1 8))
    -- rule 9.37: bit 0 asks for it, whatever the others are
    ∷ marked false (judge usual (grant 0) (discarding 254 8))
    ∷ marked true (judge usual (grant 0) (discarding 255 8))
    -- rule 9.38: the other checks are made as of a plain one
    ∷ refused 28 (judge (insecure true) (grant 0) (discarding 1 9))
    ∷ refused 25 (judge (insecure true) (grant 0) (discarding 1 0))
    ∷ refused 24 (judge (insecure false) (grant 0) (discarding 1 9))
    -- rule 9.39: of a read the byte is no flag
    ∷ marked false (judge usual (grant 2) (slot read 1 2000 0 7))
    -- rule 9.16: 24 comes before 25
    ∷ refused 24 (judge (disk false SectorSize.Bytes512 2008) (grant 2) (slot write 12 2000 0 7))
    -- rule 9.17: a full ring
    ∷ waits (at5 Pages.One 37)
    -- rule 9.18: one more than that, and an index that moved back
    ∷ overruns (at5 Pages.One 38)
    ∷ overruns (at5 Pages.One 4)
    -- rule 9.40: a ring of two pages is full later
    ∷ waits (at5 Pages.Two 38)
    ∷ waits (at5 Pages.Two 69)
    -- rule 9.41
    ∷ overruns (at5 Pages.Two 70)
    ∷ overruns (at5 Pages.Two 4)
    -- rule 9.22
    ∷ comes_to (pos 8) Status.Okay
    -- rule 9.23
    ∷ comes_to (pos 7) Status.Error
    ∷ comes_to (pos 0) Status.Error
    ∷ comes_to (negsuc 4) Status.Error
    ∷ comes_to (negsuc 2147483647) Status.Error
    -- rule 9.24
    ∷ comes_to (negsuc 94) Status.NotSupported
    ∷ []
