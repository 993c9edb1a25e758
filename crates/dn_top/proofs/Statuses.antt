-- The statuses of answers.
use Rattle.std.proofs.Common.{◌≡◌, inl, inr, ℕ, Bool, true, false, List, None, IfSome, is_some, refl, sym, ap, subst, ◌∙◌}
use Rattle.dn_base.specs.declared.status.Status.{Status}
use Rattle.dn_base.specs.declared.status.Status as status
use Rattle.dn_base.specs.declared.status.Outcome.{Outcome}
use Rattle.dn_base.specs.declared.status.Outcome as outcome
use Rattle.dn_base.specs.Status.{status_of}
use Rattle.dn_top.specs.declared.options.Mode.{Mode}
use Rattle.dn_top.specs.declared.options.Mode as mode
use Rattle.dn_top.specs.declared.options.Options.{Options}
use Rattle.dn_top.specs.declared.output.Output.{Output}
use Rattle.dn_top.specs.Serving.{IsRunWithStatus, IsOutcomeOrRefusal}
use Rattle.dn_top.specs.Answers.{done_in, makes_run, runs_tasks, IsDone, IsRefusal, IsAnswer, IsOutcome}

-- whether a status is a refusal's
refuses : Status → Bool
refuses status.TheVariants.SourceRefused = true
refuses _ = false

-- whether a status is one of those that no answer has
abbrev pub other : Status → Bool
other status.TheVariants.Usage = true
other status.TheVariants.ReadFault = true
other status.TheVariants.WriteFault = true
other status.TheVariants.Memory = true
other _ = false

-- whether a status is that of a failed device or of want of memory
abbrev pub fails : Status → Bool
fails status.TheVariants.ReadFault = true
fails status.TheVariants.WriteFault = true
fails status.TheVariants.Memory = true
fails _ = false

fails_of : (o : Outcome) → fails (status_of o) ≡ false
fails_of outcome.TheVariants.Done = refl
fails_of outcome.TheVariants.Trapped = refl
fails_of outcome.TheVariants.Fuel = refl
fails_of outcome.TheVariants.Stuck = refl

-- no outcome and no refusal is one of these
pub outcome_or_refusal-fails : (s : Status) → IsOutcomeOrRefusal s → fails s ≡ false
outcome_or_refusal-fails s (inl (o, e)) = ap fails e ∙ fails_of o
outcome_or_refusal-fails s (inr (inl e)) = ap fails e
outcome_or_refusal-fails s (inr (inr e)) = ap fails e

other_of : (o : Outcome) → other (status_of o) ≡ false
other_of outcome.TheVariants.Done = refl
other_of outcome.TheVariants.Trapped = refl
other_of outcome.TheVariants.Fuel = refl
other_of outcome.TheVariants.Stuck = refl

refuses_of : (o : Outcome) → refuses (status_of o) ≡ false
unfolding refuses
refuses_of outcome.TheVariants.Done = refl
refuses_of outcome.TheVariants.Trapped = refl
refuses_of outcome.TheVariants.Fuel = refl
refuses_of outcome.TheVariants.Stuck = refl

pub outcome_refused : (s : Status) → IsOutcome s → s ≡ status.TheVariants.SourceRefused → ⊥
unfolding refuses
outcome_refused s (o, e) r = let no_refusal : refuses status.TheVariants.SourceRefused ≡ false = ap refuses (sym r ∙ e) ∙ refuses_of o in cc

pub outcome-other : (s : Status) → IsOutcome s → other s ≡ false
outcome-other s (o, e) = ap other e ∙ other_of o

status_in : (out p : Output) → out ≡ p → out.status ≡ p.status
status_in out p e = ap (λ (x : Output). x.status) e

-- what was done has an outcome's status
done_outcome : (m : Mode) (o : Options) (text : List ℕ) (out : Output) → done_in m o text out → IsOutcome out.status
done_outcome mode.TheVariants.Run o text out h = (h.holds.run.ending.outcome, status_in out _ h.holds.answer)
done_outcome mode.TheVariants.Work o text out h = (h.holds.run.ending.outcome, status_in out _ h.holds.answer)
done_outcome mode.TheVariants.Check o text out h = (outcome.TheVariants.Done, status_in out _ h.holds)
done_outcome mode.TheVariants.List o text out h = (outcome.TheVariants.Done, status_in out _ h.holds.answer)
done_outcome mode.TheVariants.Flat o text out h = (h.holds.end.ending.outcome, status_in out _ h.holds.answer)
done_outcome mode.TheVariants.Trace o text out h = (h.holds.run.ending.outcome, status_in out _ h.holds.answer)
done_outcome mode.TheVariants.Replay o text out h = (h.holds.holds.run.ending.outcome, status_in out _ h.holds.holds.answer)
done_outcome mode.TheVariants.Time o text out h = (h.holds.run.ending.outcome, status_in out _ h.holds.timed.answer)
done_outcome mode.TheVariants.Prove o text out h = (outcome.TheVariants.Done, status_in out _ h.holds.answer)

-- the status of an answer is that of an outcome or of a refusal
pub answer-other : (o : Options) (text : List ℕ) (out : Output) → IsAnswer o text out → other out.status ≡ false
answer-other o text out (inl done) = outcome-other out.status (done_outcome o.mode o text out done)
answer-other o text out (inr was) = ap other (status_in out _ was.answer)

-- what was done hands a run back exactly in the modes that make one
pub done-comes : (m : Mode) (o : Options) (text : List ℕ) (out : Output) → done_in m o text out → is_some out.run ≡ makes_run m
done-comes mode.TheVariants.Run o text out h = ap (λ (x : Output). is_some x.run) h.holds.answer
done-comes mode.TheVariants.Work o text out h = ap (λ (x : Output). is_some x.run) h.holds.answer
done-comes mode.TheVariants.Check o text out h = ap (λ (x : Output). is_some x.run) h.holds
done-comes mode.TheVariants.List o text out h = ap (λ (x : Output). is_some x.run) h.holds.answer
done-comes mode.TheVariants.Flat o text out h = ap (λ (x : Output). is_some x.run) h.holds.answer
done-comes mode.TheVariants.Trace o text out h = ap (λ (x : Output). is_some x.run) h.holds.answer
done-comes mode.TheVariants.Replay o text out h = ap (λ (x : Output). is_some x.run) h.holds.holds.answer
done-comes mode.TheVariants.Time o text out h = ap (λ (x : Output). is_some x.run) h.holds.timed.answer
done-comes mode.TheVariants.Prove o text out h = ap (λ (x : Output). is_some x.run) h.holds.answer

-- where no task is run the outcome is Done
pub done-plain : (m : Mode) (o : Options) (text : List ℕ) (out : Output) → done_in m o text out → runs_tasks m ≡ false → out.status ≡ status.TheVariants.Done
done-plain mode.TheVariants.Run o text out h runs = absurd cc
done-plain mode.TheVariants.Work o text out h runs = absurd cc
done-plain mode.TheVariants.Check o text out h none = status_in out _ h.holds
done-plain mode.TheVariants.List o text out h none = status_in out _ h.holds.answer
done-plain mode.TheVariants.Flat o text out h runs = absurd cc
done-plain mode.TheVariants.Trace o text out h runs = absurd cc
done-plain mode.TheVariants.Replay o text out h runs = absurd cc
done-plain mode.TheVariants.Time o text out h runs = absurd cc
done-plain mode.TheVariants.Prove o text out h none = status_in out _ h.holds.answer

-- the run is one that the mode makes
abbrev RunsWell : Mode → Options → Output → Type 0
RunsWell m o out = IfSome out.run (IsRunWithStatus m o out.status)

pub done-run : (m : Mode) (o : Options) (text : List ℕ) (out : Output) → done_in m o text out → IfSome out.run (IsRunWithStatus m o out.status)
done-run mode.TheVariants.Run o text out h =
    subst (RunsWell mode.TheVariants.Run o) (sym h.holds.answer) (record { program = h.program; checked = h.checked; run = h.holds.is; ends = refl })
done-run mode.TheVariants.Work o text out h =
    subst (RunsWell mode.TheVariants.Work o) (sym h.holds.answer) (record { program = h.program; checked = h.checked; run = h.holds.is; ends = refl })
done-run mode.TheVariants.Check o text out h = subst (RunsWell mode.TheVariants.Check o) (sym h.holds) tt
done-run mode.TheVariants.List o text out h = subst (RunsWell mode.TheVariants.List o) (sym h.holds.answer) tt
done-run mode.TheVariants.Flat o text out h = subst (RunsWell mode.TheVariants.Flat o) (sym h.holds.answer) tt
done-run mode.TheVariants.Trace o text out h =
    subst (RunsWell mode.TheVariants.Trace o) (sym h.holds.answer) (record { program = h.program; checked = h.checked; run = h.holds.is; ends = refl })
done-run mode.TheVariants.Replay o text out h =
    subst (RunsWell mode.TheVariants.Replay o) (sym h.holds.holds.answer)
    (record { program = h.holds.program; checked = h.holds.checked; run = (h.trace.shape, h.is.told.head.shape, h.holds.holds.told.is); ends = refl })
done-run mode.TheVariants.Time o text out h =
    subst (RunsWell mode.TheVariants.Time o) (sym h.holds.timed.answer) (record { program = h.program; checked = h.checked; run = h.holds.is; ends = refl })
done-run mode.TheVariants.Prove o text out h = subst (RunsWell mode.TheVariants.Prove o) (sym h.holds.answer) tt

-- an answer with another status hands no run back
pub answer-no_run : (o : Options) (text : List ℕ) (out : Output) → IsAnswer o text out → (IsOutcome out.status → ⊥) → out.run ≡ None
answer-no_run o text out (inl done) none = absurd (none (done_outcome o.mode o text out done))
answer-no_run o text out (inr was) none = ap (λ (x : Output). x.run) was.answer

-- an answer with an outcome's status says what was done, and one with the other that the text was refused
pub answer-done : (o : Options) (text : List ℕ) (out : Output) → IsAnswer o text out → IsOutcome out.status → IsDone o text out
answer-done o text out (inl done) is = done
answer-done o text out (inr was) is = absurd (outcome_refused out.status is (status_in out _ was.answer))

pub answer-refused : (o : Options) (text : List ℕ) (out : Output) → IsAnswer o text out → out.status ≡ status.TheVariants.SourceRefused → IsRefusal o text out
answer-refused o text out (inl done) is = absurd (outcome_refused out.status (done_outcome o.mode o text out done) is)
answer-refused o text out (inr was) is = was
