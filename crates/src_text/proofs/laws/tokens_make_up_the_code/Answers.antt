use Rattle.src_text.proofs.LawLemmas.{AreLexemesOf-lexemes_of}
use Rattle.src_text.proofs.laws.tokens_make_up_the_code.Goals as goal

pub returns : goal.returns
returns c = AreLexemesOf-lexemes_of
