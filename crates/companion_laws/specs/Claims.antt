-- The claims of the runs of the multicore machine.
use Rattle.std.specs.Prelude.{◌≡◌, ℕ, List, Ok, IfSome}
use Rattle.rv_assembler.specs.Source.{source}
use Rattle.message_net.specs.declared.event.Event.{Event}
use Rattle.registration_protocol.specs.Node.{Setting}
use Rattle.flat_machine.specs.declared.ending.TaskLoads.{TaskLoads}
use Rattle.machine_rules.specs.State.{initial_state}
use Rattle.machine_rules.specs.Runs.{IsCompleteRun, grants_of, all_loads, ending_of_run}
use Rattle.machine_rules.specs.Sound.{IsReady}
use Rattle.run_report.specs.Answer.{answer_of}
use Rattle.claims.specs.declared.claim.Claim.{Claim}
use Rattle.claims.specs.Claim.{IsClaimDocument}
use Rattle.referee_top.specs.Answers.{HasTold}

-- the claim is true of a complete run of the machine of this setting, however its events were picked: of its grants, of the
-- loads of each task, if loads are claimed, and of the answer that is printed
pub record IsClaimOf (C : Setting) (events : List Event) (c : Claim) : Type 0 where
  -- the setting is that of a checked program, with its plans, and a shape and fuel that fit it
  pub ready : IsReady C
  pub fuel : C.fuel ≡ c.question.fuel
  pub run : IsCompleteRun (initial_state C) events
  pub grants : c.grants ≡ grants_of (initial_state C) events
  pub loads : IfSome c.loads (λ (claimed : List TaskLoads). claimed ≡ all_loads (initial_state C) events)
  pub answer : c.answer ≡ answer_of (ending_of_run (initial_state C) events)

-- the claim is of some run of the program of its text
pub record IsOfRun (c : Claim) : Type 0 where
  pub setting : Setting
  pub program : source c.question.text ≡ Ok setting.program
  pub events : List Event
  pub is : IsClaimOf setting events c

-- the bytes claim what a run of the multicore machine did
abbrev pub IsClaimOfRun : List ℕ → Type 0
IsClaimOfRun document = HasTold IsClaimDocument document IsOfRun
