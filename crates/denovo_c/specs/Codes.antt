-- Events as numbers.
use Rattle.std.specs.Prelude.{ℕ, ◌==◌, if◌then◌else◌, List, ◌++◌, Option, Some, None, length, take, drop}
use Rattle.message_net.specs.declared.actor.Actor.{Actor}
use Rattle.message_net.specs.declared.actor.Actor.TheVariants.{Core, Bank, Keeper}
use Rattle.message_net.specs.declared.event.Event.{Event}
use Rattle.message_net.specs.declared.event.Event.TheVariants.{Instr, Evict, Arrive, Handle}
use Rattle.denovo_c.specs.declared.codes.EventCode.{EventCode}

abbrev pub coded : ℕ → ℕ → ℕ → EventCode
coded kind actor number = record { kind = kind; actor = actor; number = number }

-- the handling of the message with this number
abbrev pub handling_code : Actor → ℕ → EventCode
handling_code (Core core) number = coded 3 core.0 number
handling_code (Bank bank) number = coded 4 bank.0 number
handling_code Keeper number = coded 5 0 number

abbrev pub event_code : Event → EventCode
event_code (Instr core) = coded 0 core.0 0
event_code (Evict core word) = coded 1 core.0 word.0
event_code (Arrive core) = coded 2 core.0 0
event_code (Handle id) = handling_code id.sender id.number

-- the event of this kind, actor and number; none if there is no such kind
abbrev pub event_in : ℕ → ℕ → ℕ → Option Event
event_in kind actor number =
    if kind == 0 then Some (Instr (record { 0 = actor })) else
    if kind == 1 then Some (Evict (record { 0 = actor }) (record { 0 = number })) else
    if kind == 2 then Some (Arrive (record { 0 = actor })) else
    if kind == 3 then Some (Handle (record { sender = Core (record { 0 = actor }); number = number })) else
    if kind == 4 then Some (Handle (record { sender = Bank (record { 0 = actor }); number = number })) else
    if kind == 5 then Some (Handle (record { sender = Keeper; number = number })) else
    None

abbrev pub coded_event : EventCode → Option Event
coded_event code = event_in code.kind code.actor code.number

-- the codes, as far as the buffer has room, and then what the buffer held there
abbrev pub codes_shown : List EventCode → List EventCode → List EventCode
codes_shown codes buffer = take (length buffer) codes ++ drop (length codes) buffer
