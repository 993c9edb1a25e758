-- How a program ends.
use Rattle.std.specs.Prelude.{◌≡◌, ◌⊎◌, ℕ}
use Rattle.std.specs.Process.{exit_status}
use Rattle.std.specs.declared.process.ExitCode.{ExitCode}
use Rattle.program_outside.specs.Outside.{Devices, IsUntouched}

module _ {E : Type 0} (code_of : E → ℕ) where
  -- the exit code of a status
  abbrev pub IsCodeOf : E → ExitCode → Type 0
  IsCodeOf status code = exit_status code ≡ code_of status

  -- the exit code of some status, or 9 if the runtime couldn't give the command words
  abbrev pub IsExitCode : ExitCode → Type 0
  IsExitCode code = ((status : E) × IsCodeOf status code) ⊎ (exit_status code ≡ 9)

  -- a call that was given words ended so, with the exit code of its status
  pub record HasEnded (Serves : E → Type 0) (code : ExitCode) : Type 0 where
    pub status : E
    pub serves : Serves status
    pub ends : IsCodeOf status code

-- no words were given: the exit code is 9, and the devices were left alone
abbrev pub IsWithoutWords : Devices → Devices → ExitCode → Type 0
IsWithoutWords before after code = (exit_status code ≡ 9) × IsUntouched before after
