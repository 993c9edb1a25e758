use Rattle.state_text.proofs.UnderRegions.{all-words, word-stands}
use Rattle.state_text.proofs.laws.each_data_word_stands_under_its_region.Goals as goal

pub returns-clause-once : goal.returns-clause-once
returns-clause-once c = λ regions memory tiled. all-words memory 0 regions tiled

pub returns-clause-place : goal.returns-clause-place
returns-clause-place c = word-stands
