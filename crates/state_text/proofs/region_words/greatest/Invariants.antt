use Rattle.std.proofs.Common.{◌≡◌, max, drop}
use Rattle.state_text.specs.ForReaders.{greatest}
use Rattle.state_text.proofs.region_words.greatest.Given as goal

abbrev pub invariant-loop-word : goal.invariant-loop-word
invariant-loop-word l = max l.greatest (greatest (drop l.word-index l.words)) ≡ greatest l.words
