-- What a call of a program reads and writes, and what its status says of that.
use Rattle.std.specs.Prelude.{◌≡◌, ◌⊎◌, ℕ, List, ◌++◌, length, codes, Option, Some, None, IfSome, Result, Ok, Err}
use Rattle.std.specs.Io.KnownBytes.{Consumes}
use Rattle.dn_base.specs.declared.failure.Memory.{Memory}
use Rattle.program_outside.specs.declared.ends.Failure.{Failure}
use Rattle.program_outside.specs.declared.ends.Failure as failure
use Rattle.program_outside.specs.declared.ends.Output.{Output}
use Rattle.program_outside.specs.declared.reading.ReadError.{ReadError}
use Rattle.program_outside.specs.declared.reading.ReadError as reading
use Rattle.program_outside.specs.Outside.{SourceState, SinkState, Devices, SourceFailed, SinkFailed, GaveAtMost, IsUntouched, IsRead, Delivered, TookFront}

-- the line that refuses command words
abbrev pub usage_line : List ℕ
usage_line = codes "refused usage\n"

-- which failure it is to have no text
abbrev pub IsUnreadFor : ReadError → Failure
IsUnreadFor reading.TheVariants.Failed = failure.TheVariants.ReadFault
IsUnreadFor reading.TheVariants.NoMemory = failure.TheVariants.Memory

-- what answers the first bytes of a text, as many as are read at most, answers the text
abbrev pub IsEnough : {O : Type 0} → (List ℕ → O → Type 0) → ℕ → Type 0
IsEnough {O} IsAnswer most = (text rest : List ℕ) (out : O) → length text ≡ most → IsAnswer text out → IsAnswer (text ++ rest) out

-- `told` is the status that tells a failure
module _ {E : Type 0} (told : Failure → E) where
  -- ---- what is written

  -- the output was delivered, with its status; or the sink failed and took a prefix of it
  abbrev pub IsWritten : Output E → SinkState → SinkState → E → Type 0
  IsWritten out before after status =
      ((status ≡ out.status) × Delivered before after out.bytes)
      ⊎ ((status ≡ told failure.TheVariants.WriteFault) × (SinkFailed before after × TookFront before after out.bytes))

  -- there was no memory, and the sink was left alone
  abbrev pub IsStarved : SinkState → SinkState → E → Type 0
  IsStarved before after status = (status ≡ told failure.TheVariants.Memory) × IsUntouched before after

  -- what was made was written, or there was no memory to make it
  abbrev pub IsMade : Result (Output E) Memory → SinkState → SinkState → E → Type 0
  IsMade (Ok out) before after status = IsWritten out before after status
  IsMade (Err memory) before after status = IsStarved before after status

  -- an answer was written
  pub record IsGiven (IsAnswer : Output E → Type 0) (before after : SinkState) (status : E) : Type 0 where
    pub output : Output E
    pub answer : IsAnswer output
    pub written : IsWritten output before after status

  -- or there was no memory for it
  abbrev pub IsReplied : (Output E → Type 0) → SinkState → SinkState → E → Type 0
  IsReplied IsAnswer before after status = IsGiven IsAnswer before after status ⊎ IsStarved before after status

  -- ---- what is read

  -- the source failed, and the sink was left alone
  abbrev pub IsUnread : Devices → Devices → E → Type 0
  IsUnread before after status =
      (status ≡ told failure.TheVariants.ReadFault) × (SourceFailed before.source after.source × IsUntouched before.sink after.sink)

  -- there was no memory for the text: no read failed, and the sink was left alone
  abbrev pub IsUnheld : Devices → Devices → E → Type 0
  IsUnheld before after status = (after.source.faults ≡ before.source.faults) × IsStarved before.sink after.sink status

  -- a text was obtained from the source, and answered
  pub record IsServed (IsObtained : SourceState → SourceState → List ℕ → Type 0) (IsAnswer : List ℕ → Output E → Type 0) (before after : Devices) (status : E) : Type 0 where
    pub text : List ℕ
    pub obtained : IsObtained before.source after.source text
    pub reply : IsReplied (IsAnswer text) before.sink after.sink status

  -- a text was answered, or there was none
  abbrev pub IsDone : (SourceState → SourceState → List ℕ → Type 0) → (List ℕ → Output E → Type 0) → Devices → Devices → E → Type 0
  IsDone IsObtained IsAnswer before after status =
      IsServed IsObtained IsAnswer before after status ⊎ (IsUnread before after status ⊎ IsUnheld before after status)

  -- what answers a text answers all that the source has, if it tells that
  abbrev pub StandsForAll : (List ℕ → Output E → Type 0) → SourceState → List ℕ → Type 0
  StandsForAll IsAnswer source text = IfSome source.bytes (λ all. (out : Output E) → IsAnswer text out → IsAnswer all out)

  -- a text was read: to the source's end, or its first `most` bytes, which stand for all that the source had
  pub record IsReadFor (IsAnswer : List ℕ → Output E → Type 0) (most : ℕ) (before after : SourceState) (text : List ℕ) : Type 0 where
    pub read : IsRead before after most text
    pub all : StandsForAll IsAnswer before text

  -- a text was read and answered, or there was none. The source gives at most `most` bytes. Its count of faults is as before except
  -- with ReadFault, the sink's except with WriteFault
  abbrev pub IsSourceServed : ℕ → (List ℕ → Output E → Type 0) → Devices → Devices → E → Type 0
  IsSourceServed most IsAnswer before after status =
      GaveAtMost before.source after.source most
      × IsDone (λ (old new : SourceState) (text : List ℕ). IsReadFor IsAnswer most old new text) IsAnswer before after status

  -- some bytes were taken of the source and no read failed; they stand for all that the source had
  pub record IsTakenFor (IsAnswer : List ℕ → Output E → Type 0) (before after : SourceState) (text : List ℕ) : Type 0 where
    pub bytes : Consumes before.bytes after.bytes text
    pub faultless : after.faults ≡ before.faults
    pub all : StandsForAll IsAnswer before text

  -- the same for every program, whatever it reads at most: all that the source had was answered, or there was no text. The source
  -- gives at most one byte more than a document may have
  abbrev pub IsInputServed : (List ℕ → Output E → Type 0) → Devices → Devices → E → Type 0
  IsInputServed IsAnswer before after status =
      GaveAtMost before.source after.source 536870913
      × IsDone (λ (old new : SourceState) (text : List ℕ). IsTakenFor IsAnswer old new text) IsAnswer before after status

  -- ---- a call with command words

  -- what refuses the words
  abbrev pub usage : Output E
  usage = record { status = told failure.TheVariants.Usage; bytes = usage_line }

  -- the words were refused, and the source was left alone
  abbrev pub AreWordsRefused : Devices → Devices → E → Type 0
  AreWordsRefused before after status =
      IsUntouched before.source after.source × (IsWritten usage before.sink after.sink status ⊎ IsStarved before.sink after.sink status)

  -- how a call ends whose words make this request; None if the command doesn't take them. At most `most` bytes are read
  abbrev pub ServesWithin : ℕ → {Asked : Type 0} → (Asked → List ℕ → Output E → Type 0) → Option Asked → Devices → Devices → E → Type 0
  ServesWithin most IsAnswer None before after status = AreWordsRefused before after status
  ServesWithin most IsAnswer (Some asked) before after status = IsSourceServed most (IsAnswer asked) before after status

  -- the same for every program, whatever it reads at most
  abbrev pub Serves : {Asked : Type 0} → (Asked → List ℕ → Output E → Type 0) → Option Asked → Devices → Devices → E → Type 0
  Serves IsAnswer None before after status = AreWordsRefused before after status
  Serves IsAnswer (Some asked) before after status = IsInputServed (IsAnswer asked) before after status
