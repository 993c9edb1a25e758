-- Tests on actors and on the ids of mails.
use Rattle.std.specs.Prelude.{Bool, true, false, ◌&&◌, ◌==◌}
use Rattle.message_net.specs.declared.actor.Actor.{Actor}
use Rattle.message_net.specs.declared.actor.Actor.TheVariants.{Core, Bank, Keeper}
use Rattle.message_net.specs.declared.actor.MailId.{MailId}

-- whether two actors are the same
abbrev pub same_actor : Actor → Actor → Bool
same_actor (Core a) (Core b) = a.0 == b.0
same_actor (Bank a) (Bank b) = a.0 == b.0
same_actor Keeper Keeper = true
same_actor _ _ = false

-- whether two ids are the same
abbrev pub same_id : MailId → MailId → Bool
same_id a b = (a.number == b.number) && same_actor a.sender b.sender
