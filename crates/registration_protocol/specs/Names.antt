-- What a message names, and to whom it goes, for the law `mails_are_of_the_machine`.
use Rattle.std.specs.Prelude.{◌<◌, length, ◌≡◌, true}
use Rattle.message_net.specs.declared.message.Message as message
use Rattle.message_net.specs.declared.message.Message.{Message}
use Rattle.message_net.specs.declared.message.Outgoing.{Outgoing}
use Rattle.message_net.specs.Mail.{has_actor}
use Rattle.registration_protocol.specs.Node.{Setting}

-- the word, the lock and the core that a message names exist in the machine
abbrev pub NamesOwn : Setting → Message → Type 0
NamesOwn C (message.TheVariants.ReadReq word reader) = (word.0 < length C.program.memory) × (reader.0 < C.shape.cores)
NamesOwn C (message.TheVariants.ReadFwd word reader) = (word.0 < length C.program.memory) × (reader.0 < C.shape.cores)
NamesOwn C (message.TheVariants.DataReply word value) = word.0 < length C.program.memory
NamesOwn C (message.TheVariants.RegReq word core) = (word.0 < length C.program.memory) × (core.0 < C.shape.cores)
NamesOwn C (message.TheVariants.RegFwd word core) = (word.0 < length C.program.memory) × (core.0 < C.shape.cores)
NamesOwn C (message.TheVariants.RegAck word) = word.0 < length C.program.memory
NamesOwn C (message.TheVariants.WriteBack word value core) = (word.0 < length C.program.memory) × (core.0 < C.shape.cores)
NamesOwn C (message.TheVariants.WbAck word) = word.0 < length C.program.memory
NamesOwn C (message.TheVariants.Acquire lock core) = (lock.0 < length C.program.locks) × (core.0 < C.shape.cores)
NamesOwn C (message.TheVariants.Release lock core signature) = (lock.0 < length C.program.locks) × (core.0 < C.shape.cores)
NamesOwn C (message.TheVariants.Grant lock signature) = lock.0 < length C.program.locks
NamesOwn C (message.TheVariants.Arrived core bad) = core.0 < C.shape.cores
NamesOwn C (message.TheVariants.Go phase) = Unit {0}
NamesOwn C message.TheVariants.Halt = Unit {0}

-- a message goes to an actor of the machine, and names only what exists in the machine
pub record IsFor (C : Setting) (out : Outgoing) : Type 0 where
  pub to : has_actor C.shape.cores C.shape.banks out.to ≡ true
  pub message : NamesOwn C out.message
