use Rattle.message_net.proofs.MailLemmas.{actor_index-within, actor_index-own}
use Rattle.message_net.proofs.laws.actors_have_indices_of_their_own.Goals as goal

pub returns-clause-within : goal.returns-clause-within
returns-clause-within c = actor_index-within

pub returns-clause-own : goal.returns-clause-own
returns-clause-own c = actor_index-own
