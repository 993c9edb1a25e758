-- Where the answer is settled and done, the locks have an order: by the ways that lead from each of them.
use Rattle.std.proofs.Common.{◌≡◌, inl, inr, ℕ, zero, suc, ◌+◌, ◌-◌, ◌<◌, ◌≤◌, Bool, true, false, if◌then◌else◌, List, [], ◌∷◌, ◌++◌, map, get_or, slice_get, Option, Some, None, refl, sym, ap, ◌∙◌, subst, arith}
use Rattle.std.specs.List.{All, list_all, list_any}
use Rattle.std.proofs.lemmas.Bool.{false≢true, true≢false}
use Rattle.std.proofs.lemmas.List.Elements.{All-tail}
use Rattle.std.proofs.lemmas.Option.{none-some, same_Some, slice_get_within, slice_get-get_or, get_or_from_slice_get}
use Rattle.dn_base.specs.declared.ids.Grant.{Grant}
use Rattle.dn_base.specs.declared.ids.LockId.{LockId}
use Rattle.dn_base.specs.declared.ids.PhaseId.{PhaseId}
use Rattle.dn_base.specs.declared.status.Outcome as outcome
use Rattle.region_table.specs.Program.{ProgramParts}
use Rattle.region_table.specs.declared.declared.Phase.{Phase}
use Rattle.rv_core.specs.Access.{is_held}
use Rattle.rv_core.specs.declared.task.End.{End}
use Rattle.rv_core.specs.declared.task.End as cause
use Rattle.rv_core.specs.declared.task.TaskState.{TaskState}
use Rattle.rv_core.specs.declared.need.Need.TheVariants.{Acquire}
use Rattle.rv_core.specs.declared.ending.TaskEnd.{TaskEnd}
use Rattle.rv_core.specs.Ending.{is_waiting, is_trapped, is_spent, outcome_of}
use Rattle.flat_machine.specs.Step.{Started, wish}
use Rattle.flat_machine.specs.Phases.{Flat, finished_by, initial}
use Rattle.flat_machine.specs.Grants.{so_far}
use Rattle.flat_machine.specs.LockOrder.{TakesInOrder, IsLockOrder}
use Rattle.flat_machine.proofs.CauseLemmas.{picked, none-passes, all-pass}
use Rattle.flat_machine.proofs.Rest.{wish-open}
use Rattle.flat_machine.proofs.Rights.{wish-need}
use Rattle.flat_machine.proofs.SettleLaws.{next-left}
use Rattle.run_agreement.proofs.Places.{map-place, place-map}
use Rattle.common_outcomes.specs.declared.value.Value.{Value}
use Rattle.common_outcomes.specs.declared.answer.Common.{Common}
use Rattle.common_outcomes.specs.declared.answer.Open.{Open}
use Rattle.common_outcomes.specs.declared.answer.Outcomes.{Outcomes}
use Rattle.common_outcomes.specs.declared.answer.Outcomes as answer
use Rattle.common_outcomes.specs.Alone.{Alone, alone}
use Rattle.common_outcomes.specs.Phases.{Summary, summaries, after_from}
use Rattle.common_outcomes.specs.Answer.{open_of, shown_or, end_alone, settled_with, has_ended_well, answer_by, answer_from}
use Rattle.common_outcomes.specs.Agreeing.{Side, FitsAlone}
use Rattle.common_outcomes.proofs.Circles.{rank, rank-most}
use Rattle.common_outcomes.proofs.GivenUp.{alone-free}
use Rattle.common_outcomes.proofs.Running.{memory_before, IsShut, phase-shut, IsAnswered, InPhase, side-ended, Holds, run-holds}
use Rattle.common_outcomes.proofs.Settling.{are-ranked, phase-answers}
use Rattle.common_outcomes.proofs.Summing.{summary_of, sums, are-sums}

-- the tasks of a phase alone
abbrev pub phase_sums : ProgramParts → ℕ → Option Phase → List Value → List Summary
phase_sums P fuel None first = []
phase_sums P fuel (Some p) first = summaries P fuel p first

-- the rank of a lock in a phase: from the more locks fewer ways lead on
abbrev pub lock_rank : ProgramParts → ℕ → ℕ → ℕ → ℕ
lock_rank P fuel phase lock = 32 - rank (phase_sums P fuel (slice_get P.phases phase) (memory_before P fuel phase)) lock

all-rest : {X : Type 0} (Q : X → Type 0) (xs ys : List X) → All Q (xs ++ ys) → All Q ys
all-rest Q [] ys all = all
all-rest Q (x ∷ xs) ys all = all-rest Q xs ys (All-tail Q x (xs ++ ys) all)

all-there : {X : Type 0} (Q : X → Type 0) (xs : List X) (i : ℕ) (x : X) → slice_get xs i ≡ Some x → All Q xs → Q x
all-there Q xs i x there all = subst Q (get_or_from_slice_get xs i x x there) (all i x (slice_get_within xs i x there))

-- where a run is done no task has trapped and none is out of fuel
done-parts : (a b c : Bool) → picked a b c ≡ outcome.TheVariants.Done → (b ≡ false) × (c ≡ false)
done-parts true b c e = absurd (cc)
done-parts false true c e = absurd (cc)
done-parts false false true e = absurd (cc)
done-parts false false false e = (refl, refl)

record EndsWell (ends : List TaskEnd) : Type 0 where
  untrapped : All (λ (t : TaskEnd). is_trapped t.end ≡ false) ends
  unspent : All (λ (t : TaskEnd). is_spent t.end ≡ false) ends

ends-well : (ends : List TaskEnd) → outcome_of ends ≡ outcome.TheVariants.Done → EndsWell ends
unfolding outcome_of
ends-well ends done =
    let parts = done-parts (list_any (λ (t : TaskEnd). is_waiting t.end) ends) (list_any (λ (t : TaskEnd). is_trapped t.end) ends) (list_any (λ (t : TaskEnd). is_spent t.end) ends) done in
    record { untrapped = none-passes (λ (t : TaskEnd). is_trapped t.end) ends parts.0; unspent = none-passes (λ (t : TaskEnd). is_spent t.end) ends parts.1 }

module _ (P : ProgramParts) (fuel : ℕ) (common : Common) (F : Flat) (h : InPhase P fuel common F) where
  abbrev rs : List Summary
  rs = summaries P fuel h.phase h.first

  is-sums : rs ≡ sums h.sides
  is-sums = are-sums P fuel h.phase h.first h.sides h.stand.are

  -- the phase is that of its number
  is-phase : phase_sums P fuel (slice_get P.phases h.place) (memory_before P fuel h.place) ≡ sums h.sides
  is-phase =
      let there : slice_get P.phases h.place ≡ Some h.phase = (next-left P (record { begun = h.place; past = []; tasks = []; memory = [] }) h.phase h.left h.there).there in
      ap (λ (o : Option Phase). phase_sums P fuel o (memory_before P fuel h.place)) there ∙ ap (summaries P fuel h.phase) (sym h.before) ∙ is-sums

  -- where the answer is done each task alone finishes
  finishes-by : (i : ℕ) (r : Summary) (by : End) → slice_get rs i ≡ Some r → r.alone.state.end ≡ Some by → common.outcome ≡ outcome.TheVariants.Done → by ≡ cause.TheVariants.Finished
  finishes-by i r by there ends done = by_test (list_all has_ended_well rs) refl answered where
    now : List TaskEnd
    now = h.ends ++ map (end_alone h.place) rs

    after : List Value
    after = after_from 0 rs h.first

    later : Outcomes
    later = answer_from P fuel (h.place + 1) h.left now after

    answered : answer_by None (list_all has_ended_well rs) (settled_with now after) later ≡ answer.TheVariants.Settled common
    answered = ap (λ (o : Option Open). answer_by o (list_all has_ended_well rs) (settled_with now after) later) (sym (phase-answers P fuel common F h)) ∙ h.answers

    outcome-same : (x y : Common) → answer.TheVariants.Settled x ≡ answer.TheVariants.Settled y → x.outcome ≡ y.outcome
    outcome-same x y e = cc

    by_end : (b : End) → r.alone.state.end ≡ Some b → EndsWell now → b ≡ cause.TheVariants.Finished
    by_end cause.TheVariants.Finished e well = refl
    by_end cause.TheVariants.Fuel e well =
        let x : TaskEnd = end_alone h.place r in
        let spent : is_spent x.end ≡ false = all-there (λ (t : TaskEnd). is_spent t.end ≡ false) (map (end_alone h.place) rs) i x (place-map (end_alone h.place) rs i r there)
        (all-rest (λ (t : TaskEnd). is_spent t.end ≡ false) h.ends (map (end_alone h.place) rs) well.unspent) in
        absurd (true≢false (sym (ap (λ (o : Option End). is_spent (shown_or o)) e) ∙ spent))
    by_end (cause.TheVariants.Trap kind pc value) e well =
        let x : TaskEnd = end_alone h.place r in
        let trapped : is_trapped x.end ≡ false = all-there (λ (t : TaskEnd). is_trapped t.end ≡ false) (map (end_alone h.place) rs) i x (place-map (end_alone h.place) rs i r there)
        (all-rest (λ (t : TaskEnd). is_trapped t.end ≡ false) h.ends (map (end_alone h.place) rs) well.untrapped) in
        absurd (true≢false (sym (ap (λ (o : Option End). is_trapped (shown_or o)) e) ∙ trapped))

    by_test : (b : Bool) → list_all has_ended_well rs ≡ b → answer_by None b (settled_with now after) later ≡ answer.TheVariants.Settled common → by ≡ cause.TheVariants.Finished
    by_test false is e = by_end by ends (ends-well now (outcome-same (record { outcome = outcome_of now; tasks = now; memory = after }) common e ∙ done))
    by_test true is e =
        let test : has_ended_well r ≡ true = all-there (λ (x : Summary). has_ended_well x ≡ true) rs i r there (all-pass has_ended_well rs is) in
        same_Some by cause.TheVariants.Finished (sym ends ∙ well-finished r.alone.state.end test)
      where
        well-finished : (o : Option End) → finished_by o ≡ true → o ≡ Some cause.TheVariants.Finished
        well-finished None x = absurd (false≢true x)
        well-finished (Some cause.TheVariants.Finished) x = refl
        well-finished (Some cause.TheVariants.Fuel) x = absurd (false≢true x)
        well-finished (Some (cause.TheVariants.Trap kind pc value)) x = absurd (false≢true x)

  shut : IsShut h.place (sums h.sides)
  shut = subst (IsShut h.place) is-sums (phase-shut h.place rs (phase-answers P fuel common F h))

  takes-ordered : (gs : List Grant) → so_far P fuel gs ≡ Some F → common.outcome ≡ outcome.TheVariants.Done → (i : ℕ) (r : Started) → slice_get F.tasks i ≡ Some r → TakesInOrder P fuel (lock_rank P fuel h.place) r
  takes-ordered gs leads done i r there =
      record {
        rises = λ lock held wants holds.
            let runs = wish-open P fuel r (Acquire lock) wants in
            let needs = wish-need P fuel r (Acquire lock) wants in
            let falls = (are-ranked P fuel common F h shut).falls i r held there runs holds lock needs in
            let most = rank-most (sums h.sides) held in
            let one : lock_rank P fuel h.place held ≡ 32 - rank (sums h.sides) held = ap (λ (x : List Summary). 32 - rank x held) is-phase in
            let two : lock_rank P fuel h.place lock.0 ≡ 32 - rank (sums h.sides) lock.0 = ap (λ (x : List Summary). 32 - rank x lock.0) is-phase in
            omega (arith, falls, most, one, two);
        gives_up = λ by e.
            let found = map-place (λ (s : Side). s.run) h.sides i r (ap (λ (l : List Started). slice_get l i) h.runs ∙ there) in
            let s : Side = found.0 in
            let ended = side-ended P fuel h.phase h.first h.sides F.memory i s by h.settled h.stand found.1 (ap (λ (x : Started). x.state.end) found.2 ∙ e) in
            let here : slice_get rs i ≡ Some (summary_of s.setup) = ap (λ (l : List Summary). slice_get l i) is-sums ∙ place-map (λ (x : Side). summary_of x.setup) h.sides i s found.1 in
            let at' : (alone s.setup).state.end ≡ Some ended.by = ap (λ (x : Alone). x.state.end) (sym ended.is) ∙ ended.ends in
            let finished : ended.by ≡ cause.TheVariants.Finished = finishes-by i (summary_of s.setup) ended.by here at' done in
            let over : (alone s.setup).state.end ≡ Some cause.TheVariants.Finished = at' ∙ ap Some finished in
            let fits : FitsAlone s.setup s.base s.alone s.run F.memory = h.stand.agrees.all.each i s found.1 in
            ap (λ (x : Started). x.state.held) (sym found.2) ∙ ap (λ (t : TaskState). t.held) fits.state ∙ ap (λ (x : Alone). x.state.held) ended.is
            ∙ alone-free s.setup over;
      }

pub lock-order : (P : ProgramParts) (fuel : ℕ) (common : Common) → IsAnswered P fuel common → common.outcome ≡ outcome.TheVariants.Done → IsLockOrder P fuel (lock_rank P fuel)
lock-order P fuel common a done gs F leads k d within = by_point (run-holds P fuel common gs F a leads) where
  r : Started
  r = get_or F.tasks k d

  there : slice_get F.tasks k ≡ Some r
  there = slice_get-get_or F.tasks k d within

  by_point : Holds P fuel common F → TakesInOrder P fuel (lock_rank P fuel r.phase.0) r
  by_point (inl is) = absurd (none-some r (sym (ap (λ (x : Flat). slice_get x.tasks k) is) ∙ there))
  by_point (inr h) =
      subst (λ (n : ℕ). TakesInOrder P fuel (lock_rank P fuel n) r) (sym (ap (λ (x : PhaseId). x.0) (h.numbers k r there))) (takes-ordered P fuel common F h gs leads done k r there)
