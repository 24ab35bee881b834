-- What a request is copied into. The copy has one layout, the 64-bit one, whatever its guest's: so what judges a
-- request has one layout too.
use Rattle.std.specs.Prelude.{List, ℕ}
use Rattle.model.specs.Ring.{Layout, Request, layout_of, request_of}
use Rattle.model.specs.declared.Abi.{Abi}

abbrev pub copy_layout : Layout
copy_layout = layout_of Abi.Bits64

-- the request in a copy (rules 2.5 and 2.8)
abbrev pub request_in : List ℕ → Request
request_in copy = request_of copy_layout copy
