-- Calls of one handle, one after the other: denovo_open, and then calls of denovo_step. The other calls leave its machine as it is.
use Rattle.std.specs.Prelude.{◌≡◌, ◌==◌, ℕ, ℤ, pos, negsuc, List, [], ◌∷◌, filter_map, Option, Some, None, if◌then◌else◌}
use Rattle.message_net.specs.declared.event.Event.{Event}
use Rattle.dn_machine.specs.Kept.{Made}
use Rattle.state_text.specs.Stepping.{IsInRun}
use Rattle.denovo_c.specs.declared.codes.EventCode.{EventCode}
use Rattle.denovo_c.specs.declared.steps.Sizes.{Sizes}
use Rattle.denovo_c.specs.Codes.{coded_event}
use Rattle.denovo_c.specs.Steps.{IsOpened}
use Rattle.denovo_c.specs.StepCalls.{IsStepCall}

-- a call of denovo_step: the code that it is given, and its result
pub record StepCall : Type 0 where
  pub code : EventCode
  pub result : ℤ

-- these calls lead from what the handle has before them to what it has after them
abbrev pub AreStepCalls : Option Made → List StepCall → Option Made → Type 0
AreStepCalls before [] after = after ≡ before
AreStepCalls before (call ∷ calls) after = (between : Option Made) × IsStepCall before between call.code call.result × AreStepCalls between calls after

-- the event of a call whose result is 0
abbrev pub event_if_made : Option Event → ℤ → Option Event
event_if_made event (pos result) = if result == 0 then event else None
event_if_made event (negsuc result) = None

abbrev pub event_of_call : StepCall → Option Event
event_of_call call = event_if_made (coded_event call.code) call.result

-- the events that calls have made, in their order
abbrev pub events_made : List StepCall → List Event
events_made calls = filter_map event_of_call calls

-- the handle has a machine that is in the state of a run: the events are a run of the machine that was opened of this text, and lead to it
pub record IsHandleInRun (text : List ℕ) (sizes : Sizes) (events : List Event) (handle : Option Made) : Type 0 where
  pub first : Made
  pub opened : IsOpened text sizes first
  pub machine : Made
  pub behind : handle ≡ Some machine
  pub run : IsInRun first.state.setting events machine
