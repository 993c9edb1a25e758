use Rattle.run_replay.proofs.Single.{document-within}
use Rattle.run_replay.proofs.laws.a_document_is_not_too_large.Goals as goal

pub returns : goal.returns
returns c = document-within
