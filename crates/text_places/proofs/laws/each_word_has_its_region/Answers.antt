use Rattle.text_places.proofs.WordLemmas.{each-word}
use Rattle.text_places.proofs.laws.each_word_has_its_region.Goals as goal

pub returns : goal.returns
returns c = each-word
