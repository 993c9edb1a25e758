use Rattle.std.proofs.Common.{refl}
use Rattle.run_replay.specs.Document.{document_of}
use Rattle.run_replay.proofs.Single.{one-trace}
use Rattle.run_replay.proofs.laws.a_document_is_of_one_trace.Goals as goal

pub returns : goal.returns
returns c = λ t u told also same. one-trace (document_of t) t u (record { told = told; is = refl }) (record { told = also; is = same })
