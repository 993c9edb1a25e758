use Rattle.std.proofs.Common.{◌≡◌, ◌++◌, map, drop}
use Rattle.word_cache.specs.Row.{place_word}
use Rattle.word_cache.proofs.row.words_of.Given as goal

abbrev pub invariant-loop-place : goal.invariant-loop-place
invariant-loop-place l =
    l.words.items ++ map place_word (drop l.place-index l.places) ≡ map place_word l.places
