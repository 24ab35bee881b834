-- Where the words of backend memory stand (rule 14.1): one field to a word, port after port, each port's own words
-- before its tags', the pointer last.
use Rattle.std.specs.Prelude.{ℕ, ◌+◌, ◌*◌}
use Rattle.model.specs.Buffers.{ports}
use Rattle.model.specs.Port.{busy_bits}

-- the words of a port beside its tags, of a tag, and the places for tags, one to each mark, whatever the port's ring
-- (rules 4.7 and 14.1)
abbrev pub port_words : ℕ
port_words = 13

abbrev pub tag_words : ℕ
tag_words = 4

abbrev pub tags : ℕ
tags = busy_bits

-- from one port's first word to the next port's
abbrev pub stride : ℕ
stride = port_words + tag_words * tags

-- the pointer's word
abbrev pub pointer_word_of : ℕ
pointer_word_of = stride * ports

-- all of them
abbrev pub memory_words : ℕ
memory_words = pointer_word_of + 1

-- where a tag's words begin among its port's
abbrev pub tag_place : ℕ → ℕ
tag_place t = port_words + tag_words * t
