-- The word is `encoded`'s, and the registers of the instruction are below 32, so the laws of `encoded` hold of it.
use Rattle.rv_isa.proofs.EncodingLemmas.{row-encoded, decoded-encoded}
use Rattle.rv_isa.proofs.encoding.encode.Goals as goal

pub returns-clause-row : goal.returns-clause-row
returns-clause-row c = rw (c.word_of.ensures.value) (row-encoded _ c.word_of.ensures.registers c.requires)

pub returns-clause-again : goal.returns-clause-again
returns-clause-again c = rw (c.word_of.ensures.value) (decoded-encoded _ c.word_of.ensures.registers c.requires)
