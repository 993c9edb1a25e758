use Rattle.text_places.proofs.LineLemmas.{code-of_line}
use Rattle.text_places.proofs.laws.a_code_word_is_one_of_its_line.Goals as goal

pub returns : goal.returns
returns c = code-of_line
