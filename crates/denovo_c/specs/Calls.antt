-- What the caller of a library sees of a call: a source with its bytes, a buffer, a length and an exit code.
use Rattle.std.specs.Prelude.{◌≡◌, ℕ, ℤ, pos, true, Bool, List, [], length, Some}
use Rattle.program_outside.specs.Outside.{Devices, source_at, sink_at}
use Rattle.denovo_c.specs.Shown.{shown_in}

-- a source that has these bytes left and whose reads never fail, and a sink that has taken these bytes
abbrev pub memory_at : List ℕ → List ℕ → Bool → ℕ → Devices
memory_at left taken flushed faults = record { source = source_at (Some left) 0; sink = sink_at (Some taken) (Some flushed) faults }

-- the devices when a call begins: the whole source is left, and the sink has taken nothing
abbrev pub before_call : List ℕ → Devices
before_call source = memory_at source [] true 0

-- a program was served with devices in memory, and left a status. The result is its exit code. The sink's bytes are the answer:
-- `written` is their number, and the buffer has them, as far as it has room
pub record IsHandedOut {E : Type 0} (code_of : E → ℕ) (Served : Devices → E → Type 0) (before after : List ℕ) (written : ℕ) (code : ℤ) : Type 0 where
  pub status : E
  pub left : List ℕ
  pub bytes : List ℕ
  pub flushed : Bool
  pub faults : ℕ
  pub serves : Served (memory_at left bytes flushed faults) status
  pub ends : code ≡ pos (code_of status)
  pub shown : after ≡ shown_in bytes before
  pub told : written ≡ length bytes
