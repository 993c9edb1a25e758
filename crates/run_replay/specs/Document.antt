-- The document of a run: what it tells of the machine and the run, and how that is written.
use Rattle.std.specs.Prelude.{◌≡◌, ℕ, ◌<◌, ◌≤◌, ◌^◌, All, List, [], ◌++◌, length, codes, flat_map}
use Rattle.dn_base.specs.declared.limits.TheConstants.{MOST_EVENTS, MOST_OF_TEXT, MOST_WORDS}
use Rattle.message_net.specs.declared.actor.Actor.{Actor}
use Rattle.message_net.specs.declared.actor.Actor.TheVariants.{Core, Bank, Keeper}
use Rattle.message_net.specs.declared.actor.MailId.{MailId}
use Rattle.message_net.specs.declared.event.Event.{Event}
use Rattle.message_net.specs.declared.event.Event.TheVariants.{Instr, Evict, Arrive, Handle}
use Rattle.text_pieces.specs.Pieces.{newline, space}
use Rattle.run_replay.specs.declared.trace.TraceShape.{TraceShape}
use Rattle.run_replay.specs.declared.trace.Trace.{Trace}
use Rattle.text_pieces.specs.Field.{field, IsFrom}
use Rattle.text_pieces.specs.Parts.{source_part}

-- ---- what may be told

-- a machine has 1 to 16 banks, 1 to 256 sets and 1 to 16 ways, and a task may retire 1 to 32,768 instructions
pub record IsTraceShape (s : TraceShape) : Type 0 where
  pub banks : IsFrom 1 16 s.banks
  pub sets : IsFrom 1 256 s.sets
  pub ways : IsFrom 1 16 s.ways
  pub fuel : IsFrom 1 32768 s.fuel

-- an actor has a number below 16
abbrev pub IsNamed : Actor → Type 0
IsNamed (Core core) = core.0 < 16
IsNamed (Bank bank) = bank.0 < 16
IsNamed Keeper = Unit {0}

-- a mail has a number below 2^32
abbrev pub IsMail : MailId → Type 0
IsMail id = IsNamed id.sender × (id.number < 2 ^ 32)

-- cores have numbers below 16, and words below 65,536
abbrev pub FitsDocument : Event → Type 0
FitsDocument (Instr core) = core.0 < 16
FitsDocument (Evict core word) = (core.0 < 16) × (word.0 < MOST_WORDS)
FitsDocument (Arrive core) = core.0 < 16
FitsDocument (Handle id) = IsMail id

-- what comes before the events: the machine, the source text of at most 1,048,576 bytes, and the number of events, at most
-- 25,169,664
pub record Head : Type 0 where
  pub shape : TraceShape
  pub text : List ℕ
  pub count : ℕ

pub record IsHead (h : Head) : Type 0 where
  pub shape : IsTraceShape h.shape
  pub text : length h.text ≤ MOST_OF_TEXT
  pub count : h.count ≤ MOST_EVENTS

abbrev pub head_of : Trace → Head
head_of t = record { shape = t.shape; text = t.text; count = length t.events }

pub record IsTrace (t : Trace) : Type 0 where
  pub head : IsHead (head_of t)
  pub events : All FitsDocument t.events

-- ---- how it is written

unfoldable pub shape_line : TraceShape → List ℕ
shape_line s =
    field (codes "banks ") space s.banks ++ field (codes "sets ") space s.sets ++ field (codes "ways ") space s.ways ++ field (codes "fuel ") newline s.fuel

-- the first line: the kind of document, and its version
unfoldable pub title : List ℕ
title = codes "denovo-trace 1" ++ newline

unfoldable pub head_text : Head → List ℕ
head_text h = title ++ shape_line h.shape ++ source_part h.text ++ field (codes "events ") newline h.count

-- the handling of a mail, by the mail's sender and number
unfoldable pub mail_line : Actor → ℕ → List ℕ
mail_line (Core core) number = field (codes "h c ") space core.0 ++ field [] newline number
mail_line (Bank bank) number = field (codes "h b ") space bank.0 ++ field [] newline number
mail_line Keeper number = field (codes "h k ") newline number

unfoldable pub event_line : Event → List ℕ
event_line (Instr core) = field (codes "i ") newline core.0
event_line (Evict core word) = field (codes "e ") space core.0 ++ field [] newline word.0
event_line (Arrive core) = field (codes "a ") newline core.0
event_line (Handle id) = mail_line id.sender id.number

-- the document of a trace: its head, and a line for each event
abbrev pub event_lines : List Event → List ℕ
event_lines events = flat_map event_line events

abbrev pub document_of : Trace → List ℕ
document_of t = head_text (head_of t) ++ event_lines t.events

-- the bytes are the document of a trace that is within the limits
pub record IsDocument (bytes : List ℕ) (t : Trace) : Type 0 where
  pub told : IsTrace t
  pub is : bytes ≡ document_of t
