-- What a step of the keeper tells its caller.
use Rattle.std.specs.Prelude.{ℕ, ◌+◌, Option, Some, None}
use Rattle.message_net.specs.declared.actor.Actor.TheVariants.{Keeper}
use Rattle.message_net.specs.declared.message.Message.{Message}
use Rattle.message_net.specs.Mail.{mail_of}
use Rattle.grant_log.specs.declared.log.Stamped.{Stamped}
use Rattle.phase_barrier.specs.declared.keeper.Verdict.{Verdict}
use Rattle.phase_barrier.specs.Letters.{letter_of, to_number}
use Rattle.grant_log.specs.declared.posted.Posted.{Posted}

-- what was noted, the verdict, and the number of the first core's letter
pub record KeeperNote : Type 0 where
  pub stamped : Stamped
  pub verdict : Verdict
  pub first : ℕ

-- the letter to a core with this message, if there is one: the cores' letters are numbered in the order of the cores
abbrev pub letter_with : KeeperNote → ℕ → Option Message → Option Posted
letter_with note core None = None
letter_with note core (Some m) =
    Some (record { mail = mail_of Keeper (note.first + core) (to_number core m); stamp = note.stamped.stamp })

abbrev pub letter_to : KeeperNote → ℕ → Option Posted
letter_to note core = letter_with note core (letter_of note.verdict)
