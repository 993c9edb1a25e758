-- A text has one answer to options.
use Rattle.std.proofs.Common.{◌≡◌, ◌⊎◌, inl, inr, ℕ, true, false, List, ◌++◌, Some, refl, sym, ap, ◌∙◌}
use Rattle.dn_base.specs.declared.ids.Grant.{Grant}
use Rattle.dn_base.specs.declared.status.Status as status
use Rattle.dn_base.specs.Status.{status_of}
use Rattle.region_table.specs.Program.{ProgramParts}
use Rattle.flat_machine.specs.declared.ending.FlatEnd.{FlatEnd}
use Rattle.flat_machine.specs.Phases.{initial_flat}
use Rattle.flat_machine.specs.Ending.{flat_end}
use Rattle.flat_machine.proofs.RunLemmas.{least-one}
use Rattle.run_report.specs.Answer.{answer_of}
use Rattle.run_report.specs.Grants.{grant_lines}
use Rattle.run_report.specs.Summary.{checked_of}
use Rattle.dn_top.specs.declared.options.Mode.{Mode}
use Rattle.dn_top.specs.declared.options.Mode as mode
use Rattle.dn_top.specs.declared.options.Options.{Options}
use Rattle.dn_top.specs.declared.output.Output.{Output}
use Rattle.dn_top.specs.Answers.{IsFlatRun, IsListing, IsProof, answered, done_in, refused_in, picks_events, IsRefusal, IsAnswer}
use Rattle.checked_runs.specs.Runs.{reported, summed_up}
use Rattle.dn_top.specs.Runs.{IsPrintedRun, IsTimedRun}
use Rattle.dn_top.specs.Documents.{IsTracedRun}
use Rattle.dn_top.specs.Laws.{IsDecided}
use Rattle.run_report.proofs.OneProgram.{program-or_fault, no_program-one, unfit-one, program-one, checked-one, checked-fit}
use Rattle.dn_top.proofs.OneRun.{one-output, timed-one}
use Rattle.dn_top.proofs.OneProof.{one-proof}
use Rattle.dn_top.proofs.OneReplay.{traced-one, replayed-one, refused_document-one, replayed-or_refused}

-- ---- by the mode

abbrev flat_output : FlatEnd → List Grant → Output
flat_output e gs = answered (status_of e.ending.outcome) (answer_of e.ending ++ grant_lines gs)

flat_run-one : (P : ProgramParts) (fuel : ℕ) (out other : Output) → IsFlatRun P fuel out → IsFlatRun P fuel other → out ≡ other
flat_run-one P fuel out other is also =
    let grants : is.grants ≡ also.grants = least-one P fuel (Some (initial_flat P fuel)) is.grants also.grants is.least also.least in
    let end : is.end ≡ also.end = one-end is.end also.end (sym is.flat ∙ ap (λ (gs : List Grant). flat_end P fuel gs) grants ∙ also.flat) in
    is.answer
    ∙ ap (λ (e : FlatEnd). flat_output e is.grants) end
    ∙ ap (λ (gs : List Grant). flat_output also.end gs) grants
    ∙ sym also.answer
  where
    one-end : (e f : FlatEnd) → Some e ≡ Some f → e ≡ f
    one-end e f h = cc

-- one worker was asked for, or the mode picks no events
abbrev IsDecidedIn : Mode → Options → Type 0
IsDecidedIn m o = (o.workers ≡ 1) ⊎ (picks_events m ≡ false)

-- a mode that picks its events is decided by one worker
by-one : (m : Mode) (o : Options) → IsDecidedIn m o → picks_events m ≡ true → o.workers ≡ 1
by-one m o (inl one) picks = one
by-one m o (inr none) picks = let bad : true ≡ false = sym picks ∙ none in absurd cc

done-one : (m : Mode) (o : Options) (text : List ℕ) (out other : Output) → IsDecidedIn m o → done_in m o text out → done_in m o text other → out ≡ other
done-one mode.TheVariants.Run o text out other decided is also =
    checked-one text (λ P x. IsPrintedRun P o reported x) out other (λ P. one-output P o reported out other (by-one mode.TheVariants.Run o decided refl)) is also
done-one mode.TheVariants.Work o text out other decided is also =
    checked-one text (λ P x. IsPrintedRun P o summed_up x) out other (λ P. one-output P o summed_up out other (by-one mode.TheVariants.Work o decided refl)) is also
done-one mode.TheVariants.Check o text out other decided is also =
    checked-one text (λ P x. x ≡ answered status.TheVariants.Done (checked_of P)) out other (λ P a b. a ∙ sym b) is also
done-one mode.TheVariants.List o text out other decided is also =
    program-one text (λ P x. IsListing P o.addresses x) out other (λ P a b. a.answer ∙ sym b.answer) is also
done-one mode.TheVariants.Flat o text out other decided is also = checked-one text (λ P x. IsFlatRun P o.fuel x) out other (λ P. flat_run-one P o.fuel out other) is also
done-one mode.TheVariants.Trace o text out other decided is also =
    checked-one text (λ P x. IsTracedRun P o text x) out other (λ P. traced-one P o text out other (by-one mode.TheVariants.Trace o decided refl)) is also
done-one mode.TheVariants.Replay o text out other decided is also = replayed-one text out other is also
done-one mode.TheVariants.Time o text out other decided is also =
    checked-one text (λ P x. IsTimedRun P o x) out other (λ P. timed-one P o out other (by-one mode.TheVariants.Time o decided refl)) is also
done-one mode.TheVariants.Prove o text out other decided is also = checked-one text IsProof out other (λ P. one-proof P out other) is also

refused-one : (m : Mode) (text l k : List ℕ) → refused_in m text l → refused_in m text k → l ≡ k
refused-one mode.TheVariants.Run text l k is also = unfit-one text l k is also
refused-one mode.TheVariants.Work text l k is also = unfit-one text l k is also
refused-one mode.TheVariants.Check text l k is also = unfit-one text l k is also
refused-one mode.TheVariants.List text l k is also = no_program-one text l k is also
refused-one mode.TheVariants.Flat text l k is also = unfit-one text l k is also
refused-one mode.TheVariants.Trace text l k is also = unfit-one text l k is also
refused-one mode.TheVariants.Replay text l k is also = refused_document-one text l k is also
refused-one mode.TheVariants.Time text l k is also = unfit-one text l k is also
refused-one mode.TheVariants.Prove text l k is also = unfit-one text l k is also

done-or_refused : (m : Mode) (o : Options) (text line : List ℕ) (out : Output) → done_in m o text out → refused_in m text line → ⊥
done-or_refused mode.TheVariants.Run o text line out is was = checked-fit text line _ is was
done-or_refused mode.TheVariants.Work o text line out is was = checked-fit text line _ is was
done-or_refused mode.TheVariants.Check o text line out is was = checked-fit text line _ is was
done-or_refused mode.TheVariants.List o text line out is was = program-or_fault text is.program was.fault is.is was.is
done-or_refused mode.TheVariants.Flat o text line out is was = checked-fit text line _ is was
done-or_refused mode.TheVariants.Trace o text line out is was = checked-fit text line _ is was
done-or_refused mode.TheVariants.Replay o text line out is was = replayed-or_refused text line out is was
done-or_refused mode.TheVariants.Time o text line out is was = checked-fit text line _ is was
done-or_refused mode.TheVariants.Prove o text line out is was = checked-fit text line _ is was

-- ---- the answer

refusal-one : (o : Options) (text : List ℕ) (out other : Output) → IsRefusal o text out → IsRefusal o text other → out ≡ other
refusal-one o text out other was also =
    was.answer ∙ ap (λ (line : List ℕ). answered status.TheVariants.SourceRefused line) (refused-one o.mode text was.line also.line was.why also.why) ∙ sym also.answer

pub one-answer : (o : Options) (text : List ℕ) (out other : Output) → IsDecided o → IsAnswer o text out → IsAnswer o text other → out ≡ other
one-answer o text out other decided (inl is) (inl also) = done-one o.mode o text out other decided is also
one-answer o text out other decided (inl is) (inr was) = absurd (done-or_refused o.mode o text was.line out is was.why)
one-answer o text out other decided (inr was) (inl also) = absurd (done-or_refused o.mode o text was.line other also was.why)
one-answer o text out other decided (inr was) (inr also) = refusal-one o text out other was also

-- a refusal is the only answer, by any number of workers
pub one-refusal : (o : Options) (text : List ℕ) (out other : Output) → IsRefusal o text out → IsAnswer o text other → out ≡ other
one-refusal o text out other was (inl also) = absurd (done-or_refused o.mode o text was.line other also was.why)
one-refusal o text out other was (inr also) = refusal-one o text out other was also
