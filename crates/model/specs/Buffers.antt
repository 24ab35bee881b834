-- Section 1 of docs/RULES.md: the buffers that the host lends, and each port's share of them.
use Rattle.std.specs.Prelude.{ℕ, ◌*◌, List, Bool, eqb, length}
use Rattle.wire.specs.Part.{part, set_part}
use Rattle.model.specs.Ring.{Ring}

-- the ports of a backend, one disk of one guest to each (rule 1.1)
abbrev pub ports : ℕ
ports = 8

-- a port's share of the rings, in bytes: room for two pages (rule 1.3)
abbrev pub ring_share : ℕ
ring_share = 8192

-- a port's share of the grants (rule 1.4)
abbrev pub grant_share : ℕ
grant_share = 1024

-- the rings whole (rule 1.3)
abbrev pub rings_length : ℕ
rings_length = ports * ring_share

-- the grants whole (rule 1.4)
abbrev pub grants_length : ℕ
grants_length = ports * grant_share

-- Port k's page or pages: the first bytes of its share, as many as its ring has. No rule sees another byte of the share, so the second half of a one-page
-- port's is never read (rules 1.3 and 1.20),
unfoldable pub pages_of : Ring → List ℕ → ℕ → List ℕ
pages_of g rings k = part g.bytes rings (ring_share * k)

-- nor written: these are the rings with other pages for port k, and every other byte stays (rule 1.20)
unfoldable pub set_pages : Ring → List ℕ → ℕ → List ℕ → List ℕ
set_pages g rings k pages = set_part g.bytes rings (ring_share * k) pages

-- port k's part of the grants (rule 1.4)
unfoldable pub grants_of : List ℕ → ℕ → List ℕ
grants_of grants k = part grant_share grants (grant_share * k)

-- rings and grants have their lengths: a call that is lent others is refused (rule 7.1)
abbrev pub are_rings : List ℕ → Bool
are_rings rings = eqb (length rings) rings_length

abbrev pub are_grants : List ℕ → Bool
are_grants grants = eqb (length grants) grants_length
