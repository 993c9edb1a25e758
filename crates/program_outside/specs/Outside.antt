-- The source and the sink before and after a call: what was read, and what was written.
use Rattle.std.specs.Prelude.{◌≡◌, ℕ, ◌<◌, ◌≤◌, Bool, true, List, ◌++◌, length, Option, IfSome}
use Rattle.std.specs.Io.KnownBytes.{Consumes, Appends, IsAtEnd}
use Rattle.dn_base.specs.Faults.{Rose}
use Rattle.dn_base.specs.declared.outside.Source as source_trait
use Rattle.dn_base.specs.declared.outside.Sink as sink_trait

-- the state of a source: the bytes that are left, if it tells them, and how many of its calls have failed
pub record SourceState : Type 0 where
  pub bytes : Option (List ℕ)
  pub faults : ℕ

abbrev pub source_at : Option (List ℕ) → ℕ → SourceState
source_at bytes faults = record { bytes = bytes; faults = faults }

-- the state of a sink: the bytes that it has taken and whether all of them are flushed, if it tells these, and how many of its
-- calls have failed
pub record SinkState : Type 0 where
  pub bytes : Option (List ℕ)
  pub flushed : Option Bool
  pub faults : ℕ

abbrev pub sink_at : Option (List ℕ) → Option Bool → ℕ → SinkState
sink_at bytes flushed faults = record { bytes = bytes; flushed = flushed; faults = faults }

pub record Devices : Type 0 where
  pub source : SourceState
  pub sink : SinkState

-- the state of a source and of a sink, by what their types tell
abbrev pub source_of : {S : Type 0} → source_trait.Ghosts S → S → SourceState
source_of tells source = source_at (tells.content source) (tells.faults source)

abbrev pub sink_of : {K : Type 0} → sink_trait.Ghosts K → K → SinkState
sink_of tells sink = sink_at (tells.content sink) (tells.flushed sink) (tells.faults sink)

-- both devices of a call at a moment
abbrev pub devices_of : {S K : Type 0} → source_trait.Ghosts S → sink_trait.Ghosts K → S → K → Devices
devices_of source_tells sink_tells source sink = record { source = source_of source_tells source; sink = sink_of sink_tells sink }

-- a call failed between the two states
abbrev pub SourceFailed : SourceState → SourceState → Type 0
SourceFailed before after = Rose before.faults after.faults

abbrev pub SinkFailed : SinkState → SinkState → Type 0
SinkFailed before after = Rose before.faults after.faults

-- a device that the call left alone: all that is known of it is as before
abbrev pub IsUntouched : {D : Type 0} → D → D → Type 0
IsUntouched before after = after ≡ before

-- the text was read to its end, or its first `most` bytes were read, and no read failed
pub record IsRead (before after : SourceState) (most : ℕ) (text : List ℕ) : Type 0 where
  pub bytes : Consumes before.bytes after.bytes text
  pub within : length text ≤ most
  pub whole : length text < most → IsAtEnd after.bytes
  pub faultless : after.faults ≡ before.faults

-- at most `most` bytes were taken from a source
pub record GaveAtMost (before after : SourceState) (most : ℕ) : Type 0 where
  pub bytes : List ℕ
  pub taken : Consumes before.bytes after.bytes bytes
  pub within : length bytes ≤ most

-- the sink took exactly these bytes
abbrev pub Took : SinkState → SinkState → List ℕ → Type 0
Took before after output = Appends before.bytes after.bytes output

-- all that the sink took is flushed, if it tells that
abbrev pub IsFlushed : SinkState → Type 0
IsFlushed sink = IfSome sink.flushed (λ all. all ≡ true)

-- the sink took exactly these bytes, all is flushed, and no write or flush failed
pub record Delivered (before after : SinkState) (output : List ℕ) : Type 0 where
  pub took : Took before after output
  pub flushed : IsFlushed after
  pub faultless : after.faults ≡ before.faults

-- the sink took a prefix of the output
pub record TookFront (before after : SinkState) (output : List ℕ) : Type 0 where
  pub front : List ℕ
  pub rest : List ℕ
  pub parts : output ≡ front ++ rest
  pub taken : Took before after front

-- a text was read of a source that nobody sees afterwards: to its end, or its first `most` bytes
pub record IsReadOnce (before : SourceState) (most : ℕ) (text : List ℕ) : Type 0 where
  pub after : SourceState
  pub read : IsRead before after most text
