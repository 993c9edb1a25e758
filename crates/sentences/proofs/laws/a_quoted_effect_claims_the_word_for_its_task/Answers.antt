use Rattle.sentences.proofs.TableClaims.{claimed-on, first-claim, second-claim}
use Rattle.sentences.proofs.laws.a_quoted_effect_claims_the_word_for_its_task.Goals as goal

pub returns-clause-effect : goal.returns-clause-effect
returns-clause-effect c = λ text program contender word line is place task among. claimed-on text program is contender word place task line among

pub returns-clause-first : goal.returns-clause-first
returns-clause-first c = λ text l fault contender line is places of among. first-claim text l is places fault contender line of among

pub returns-clause-second : goal.returns-clause-second
returns-clause-second c = λ text l fault contender line is places of among. second-claim text l is places fault contender line of among
