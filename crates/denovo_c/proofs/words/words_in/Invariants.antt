use Rattle.std.proofs.Common.{◌≡◌, map, string_bytes, drop, ◌++◌}
use Rattle.denovo_c.specs.Words.{block_words_from, block_words}
use Rattle.denovo_c.proofs.words.words_in.Given as goal

abbrev pub invariant-loop-byte : goal.invariant-loop-byte
invariant-loop-byte l =
    map string_bytes l.words.items ++ block_words_from l.begun.items (drop l.byte-index l.block) ≡ block_words l.block
