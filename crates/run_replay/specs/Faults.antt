-- Why some bytes are no document.
use Rattle.std.specs.Prelude.{◌≡◌, ℕ, ◌<◌, ◌≤◌, All, List, ◌++◌, length}
use Rattle.message_net.specs.declared.event.Event.{Event}
use Rattle.run_replay.specs.declared.trace.TraceFault.{TraceFault}
use Rattle.run_replay.specs.declared.trace.TraceFault.TheVariants.{TooLarge, Head as NoHead, Line, Rest, Memory}
use Rattle.text_pieces.specs.Field.{NoneStands}
use Rattle.run_replay.specs.Document.{FitsDocument, Head, IsHead, head_text, event_line, event_lines}

-- a document has no more bytes than this
abbrev pub most_bytes : ℕ
most_bytes = 536870912

-- the bytes, which aren't too many, begin with a head and the lines of some events, and the rest follows
pub record BeginsWithEvents (bytes : List ℕ) (h : Head) (events : List Event) (rest : List ℕ) : Type 0 where
  pub within : length bytes ≤ most_bytes
  pub head : IsHead h
  pub told : All FitsDocument events
  pub parts : bytes ≡ head_text h ++ (event_lines events ++ rest)

-- the event line of this number, from 0, is the first that isn't complete and of its form; the head announces it
pub record IsBrokenAt (bytes : List ℕ) (number : ℕ) : Type 0 where
  pub head : Head
  pub before : List Event
  pub rest : List ℕ
  pub begins : BeginsWithEvents bytes head before rest
  pub place : length before ≡ number
  pub announced : number < head.count
  pub none : NoneStands FitsDocument event_line rest

-- bytes follow the last of the announced event lines
pub record GoesOn (bytes : List ℕ) : Type 0 where
  pub head : Head
  pub events : List Event
  pub rest : List ℕ
  pub begins : BeginsWithEvents bytes head events rest
  pub all : length events ≡ head.count
  pub some : 0 < length rest

-- the fault is true of the bytes; out of memory says nothing of them
abbrev pub HasFault : List ℕ → TraceFault → Type 0
HasFault bytes TooLarge = most_bytes < length bytes
HasFault bytes NoHead = (length bytes ≤ most_bytes) × NoneStands IsHead head_text bytes
HasFault bytes (Line number) = IsBrokenAt bytes number
HasFault bytes Rest = GoesOn bytes
HasFault bytes Memory = ⊥
