-- How many mails may be in flight at once: how deep the queues of a network have to be that takes every mail.
use Rattle.std.specs.Prelude.{ℕ, ◌+◌, ◌*◌, ◌&&◌, length}
use Rattle.message_net.specs.declared.actor.Actor.{Actor}
use Rattle.message_net.specs.declared.actor.Actor.TheVariants.{Core, Bank, Keeper}
use Rattle.message_net.specs.declared.message.Mail.{Mail}
use Rattle.message_net.specs.Id.{same_actor}
use Rattle.registration_protocol.specs.Node.{Setting}
use Rattle.machine_rules.specs.State.{State}
use Rattle.machine_rules.specs.Flight.{bit, weighs}

-- how many entries a core's cache may have
abbrev pub entries_most : Setting → ℕ
entries_most C = C.shape.sets * C.shape.ways

-- for each core: one mail for each entry that its cache may have, and one for what the core waits for
abbrev pub core_mails_most : Setting → ℕ
core_mails_most C = entries_most C + 1

-- for all cores these, and for each lock the release of its holder
abbrev pub mails_most : Setting → ℕ
mails_most C = C.shape.cores * core_mails_most C + length C.program.locks

-- the mails in flight from one actor to another
abbrev pub is_between : Actor → Actor → Mail → ℕ
is_between from to m = bit (same_actor m.id.sender from && same_actor m.to to)

abbrev pub between : State → Actor → Actor → ℕ
between S from to = weighs S (is_between from to)

-- the most of them: to a core another sends what that core waits for and what frees its entries; to a bank a core sends what its
-- own entries need, releases, and for each core at most one read or acquire; to a core a bank sends no more than all cores have
abbrev pub between_most : Setting → Actor → Actor → ℕ
between_most C (Core a) (Core b) = core_mails_most C
between_most C (Core a) (Bank b) = entries_most C + C.shape.cores + length C.program.locks
between_most C (Core a) Keeper = 1
between_most C (Bank a) (Core b) = C.shape.cores * core_mails_most C
between_most C Keeper (Core b) = 1
between_most C _ _ = 0
