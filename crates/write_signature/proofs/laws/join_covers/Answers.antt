use Rattle.write_signature.proofs.SignatureLemmas.{tag-joined_below, joined_covers_first, joined_covers_second}
use Rattle.write_signature.proofs.laws.join_covers.Goals as goal

pub returns-clause-tag : goal.returns-clause-tag
returns-clause-tag c = tag-joined_below

pub returns-clause-first : goal.returns-clause-first
returns-clause-first c = joined_covers_first

pub returns-clause-second : goal.returns-clause-second
returns-clause-second c = joined_covers_second
