-- The letters by which the keeper tells the cores its verdict. `go_count` and `goes_to_core` are for laws.
use Rattle.std.specs.Prelude.{ℕ, ◌+◌, Bool, zero, suc, List, [], ◌∷◌, Option, Some, None}
use Rattle.message_net.specs.declared.actor.Actor.TheVariants.{Core}
use Rattle.message_net.specs.declared.message.Message as message
use Rattle.message_net.specs.declared.message.Message.{Message}
use Rattle.message_net.specs.declared.message.Outgoing.{Outgoing}
use Rattle.message_net.specs.Id.{same_actor}
use Rattle.phase_barrier.specs.declared.keeper.Verdict.{Verdict}
use Rattle.phase_barrier.specs.declared.keeper.Verdict.TheVariants.{Wait, Go, Halt}

-- the message that tells a verdict; none for Wait
abbrev pub letter_of : Verdict → Option Message
letter_of Wait = None
letter_of (Go phase) = Some (message.TheVariants.Go phase)
letter_of Halt = Some message.TheVariants.Halt

-- how many letters a verdict has for each core
abbrev pub letter_count : Verdict → ℕ
letter_count Wait = 0
letter_count _ = 1

-- by how many phases the run moves on at a verdict
abbrev pub go_count : Verdict → ℕ
go_count (Go phase) = 1
go_count _ = 0

-- a message to a core, by its number
abbrev pub to_number : ℕ → Message → Outgoing
to_number core m = record { to = Core (record { 0 = core }); message = m }

-- a message to each of `n` cores in their order, of which core `first` is the first
abbrev pub to_each : ℕ → ℕ → Message → List Outgoing
to_each first zero m = []
to_each first (suc n) m = to_number first m ∷ to_each (first + 1) n m

-- the letters to the cores of a machine: the verdict's message to each of them, and none at Wait
abbrev pub letters_to_all : ℕ → Option Message → List Outgoing
letters_to_all cores None = []
letters_to_all cores (Some m) = to_each 0 cores m

abbrev pub letters : ℕ → Verdict → List Outgoing
letters cores verdict = letters_to_all cores (letter_of verdict)

-- whether a letter goes to a core
abbrev pub goes_to_core : ℕ → Outgoing → Bool
goes_to_core core out = same_actor out.to (Core (record { 0 = core }))
