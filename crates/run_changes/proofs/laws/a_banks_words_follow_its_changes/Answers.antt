use Rattle.run_changes.proofs.Homes.{homes-led}
use Rattle.run_changes.proofs.laws.a_banks_words_follow_its_changes.Goals as goal

pub returns : goal.returns
returns c = λ S e bank b k w machine may is found there. homes-led S e bank b machine may is found k there w
