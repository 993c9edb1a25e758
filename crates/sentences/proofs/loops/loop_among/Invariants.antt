use Rattle.std.proofs.Common.{◌≡◌, drop}
use Rattle.sentences.specs.Loops.{loop_among}
use Rattle.sentences.proofs.loops.loop_among.Given as goal

-- none so far closes a loop around the instruction
abbrev pub invariant-loop-word : goal.invariant-loop-word
invariant-loop-word l = loop_among l.pc l.address (drop l.word-index l.words) ≡ loop_among l.pc l.first l.words
