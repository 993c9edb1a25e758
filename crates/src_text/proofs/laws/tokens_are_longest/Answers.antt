use Rattle.src_text.proofs.LawLemmas.{IsLongest-front}
use Rattle.src_text.proofs.laws.tokens_are_longest.Goals as goal

pub returns : goal.returns
returns c = IsLongest-front
