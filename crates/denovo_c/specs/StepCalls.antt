-- What a C caller sees of a call: the machine behind its handle before and after, and the result.
use Rattle.std.specs.Prelude.{◌≡◌, ◌⊎◌, ℕ, ℤ, pos, List, Option, Some, None, map, length}
use Rattle.machine_rules.specs.Runs.{IsOver}
use Rattle.dn_machine.specs.Kept.{Made}
use Rattle.state_text.specs.Coming.{enabled_events}
use Rattle.denovo_c.specs.declared.codes.EventCode.{EventCode}
use Rattle.denovo_c.specs.declared.steps.Sizes.{Sizes}
use Rattle.denovo_c.specs.declared.steps.Unopened.{Unopened}
use Rattle.denovo_c.specs.declared.steps.StepResult.{StepResult}
use Rattle.denovo_c.specs.Codes.{event_code, codes_shown}
use Rattle.denovo_c.specs.Steps.{IsOpened, IsUnopened, IsCodeTried, why_code, result_code}

-- the handle has the text's machine, and the result is 0; or it has none, and the result says why
abbrev pub IsOpenCall : List ℕ → Sizes → Option Made → ℤ → Type 0
IsOpenCall text sizes (Some m) result = (result ≡ pos 0) × IsOpened text sizes m
IsOpenCall text sizes None result = (why : Unopened) × (result ≡ why_code why) × IsUnopened text sizes why

-- the list is shown and counted; or there is no machine; or an event is enabled, and there is no memory
abbrev pub IsListCall : Option Made → List EventCode → List EventCode → ℕ → ℤ → Type 0
IsListCall None before after written result = (result ≡ pos 1) × (after ≡ before) × (written ≡ 0)
IsListCall (Some m) before after written result =
    ((result ≡ pos 0) × (after ≡ codes_shown (map event_code (enabled_events m.state)) before) × (written ≡ length (map event_code (enabled_events m.state))))
    ⊎ ((result ≡ pos 8) × (IsOver m.state → ⊥) × (after ≡ before) × (written ≡ 0))

-- the event of the code was tried, and the handle has the machine after it
abbrev pub IsStepCall : Option Made → Option Made → EventCode → ℤ → Type 0
IsStepCall None after code result = (result ≡ pos 1) × (after ≡ None)
IsStepCall (Some before) after code result = (m : Made) × (after ≡ Some m) × (r : StepResult) × (result ≡ result_code r) × IsCodeTried before m code r
