-- The test against the ring's size is the one that the contract names.
use Rattle.layout.proofs.has_tag.Goals as goal

pub returns-else-t-lt-PAGE_SLOTS : goal.returns-else-t-lt-PAGE_SLOTS
returns-else-t-lt-PAGE_SLOTS c abi = rw (c.ring_size.ensures.0 abi)
