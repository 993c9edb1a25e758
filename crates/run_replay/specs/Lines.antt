-- What is read of a document, part by part.
use Rattle.std.specs.Prelude.{◌≡◌, ℕ, ◌<◌, All, List, [], ◌++◌, length}
use Rattle.message_net.specs.declared.actor.MailId.{MailId}
use Rattle.message_net.specs.declared.event.Event.{Event}
use Rattle.run_replay.specs.declared.head.Heading.{Heading}
use Rattle.run_replay.specs.declared.trace.TraceFault.{TraceFault}
use Rattle.run_replay.specs.declared.trace.TraceFault.TheVariants.{TooLarge, Head as NoHead, Line, Rest, Memory}
use Rattle.text_pieces.specs.Field.{field, IsFrom, NoneStands}
use Rattle.run_replay.specs.Document.{Head, FitsDocument, mail_line, event_line, event_lines}
use Rattle.text_pieces.specs.Pieces.{newline, space}

abbrev pub told_by : Heading → Head
told_by h = record { shape = h.shape; text = h.text.now; count = h.count }

-- two numbers, the first after a name, end a line
unfoldable pub two_fields : List ℕ → ℕ → ℕ → List ℕ
two_fields name first second = field name space first ++ field [] newline second

-- the bytes begin with a number below 16 and another of at most `most`, which end a line, and the rest follows
pub record StandTwo (name : List ℕ) (most : ℕ) (bytes : List ℕ) (first second : ℕ) (rest : List ℕ) : Type 0 where
  pub first_from : IsFrom 0 15 first
  pub second_from : IsFrom 0 most second
  pub parts : bytes ≡ two_fields name first second ++ rest

-- the line of the handling of a mail
abbrev pub mail_text : MailId → List ℕ
mail_text id = mail_line id.sender id.number

-- the bytes begin with the lines of events, and the rest follows
pub record AreLines (bytes : List ℕ) (events : List Event) (rest : List ℕ) : Type 0 where
  pub told : All FitsDocument events
  pub parts : bytes ≡ event_lines events ++ rest

-- the line of this number, which is below the count, is the first that isn't there
pub record IsBroken (bytes : List ℕ) (count number : ℕ) : Type 0 where
  pub before : List Event
  pub rest : List ℕ
  pub lines : AreLines bytes before rest
  pub place : length before ≡ number
  pub announced : number < count
  pub none : NoneStands FitsDocument event_line rest

-- bytes follow the last of `count` lines
pub record IsLonger (bytes : List ℕ) (count : ℕ) : Type 0 where
  pub events : List Event
  pub rest : List ℕ
  pub lines : AreLines bytes events rest
  pub all : length events ≡ count
  pub some : 0 < length rest

-- why some bytes aren't `count` lines
abbrev pub FailsLines : List ℕ → ℕ → TraceFault → Type 0
FailsLines bytes count TooLarge = ⊥
FailsLines bytes count NoHead = ⊥
FailsLines bytes count (Line number) = IsBroken bytes count number
FailsLines bytes count Rest = IsLonger bytes count
FailsLines bytes count Memory = Unit {0}
