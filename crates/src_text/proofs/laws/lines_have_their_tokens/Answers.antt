use Rattle.src_text.proofs.LawLemmas.{AreTokensOf-line_of, AreInOrder-line_of, LeavesBlanks-line_of}
use Rattle.src_text.proofs.laws.lines_have_their_tokens.Goals as goal

pub returns-clause-tokens : goal.returns-clause-tokens
returns-clause-tokens c = AreTokensOf-line_of

pub returns-clause-order : goal.returns-clause-order
returns-clause-order c = AreInOrder-line_of

pub returns-clause-whole : goal.returns-clause-whole
returns-clause-whole c = LeavesBlanks-line_of
