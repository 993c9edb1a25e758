use Rattle.explained_answer.proofs.VerdictLemmas.{line-repeated, line-quoted}
use Rattle.explained_answer.proofs.verdict_laws.a_verdict_quotes_its_text.Goals as goal

pub returns-clause-repeated : goal.returns-clause-repeated
returns-clause-repeated c = line-repeated

pub returns-clause-quoted : goal.returns-clause-quoted
returns-clause-quoted c = line-quoted
