-- Of an answer that has the grants and the tasks of a run, it is said where its tasks stand that wait or are out of fuel, and where
-- their locks were acquired.
use Rattle.std.proofs.Common.{◌≡◌, ◌≢◌, ℕ, zero, suc, ◌<◌, ◌≤◌, Bool, true, false, ◌&&◌, ◌||◌, ◌⊎◌, inl, inr, ◌==◌, cond, nat_le, length, List, [], ◌∷◌, map, find, get_or, Option, Some, None, option_map, refl, sym, ap, ◌∙◌, subst, arith}
use Rattle.std.specs.List.{All, IsAmong, list_any}
use Rattle.std.proofs.lemmas.Bool.{true≢false}
use Rattle.std.proofs.lemmas.Bool.Decides.{nat_tests}
use Rattle.std.proofs.lemmas.List.Elements.{All-cons, All-nil, All-head, All-tail}
use Rattle.std.proofs.lemmas.Option.{none-some, same_Some}
use Rattle.dn_base.specs.declared.ids.Grant.{Grant}
use Rattle.dn_base.specs.declared.ids.LockId.{LockId}
use Rattle.region_table.specs.Program.{ProgramParts}
use Rattle.rv_core.specs.declared.ending.EndShown as shown
use Rattle.rv_core.specs.declared.ending.EndShown.{EndShown}
use Rattle.rv_core.specs.declared.ending.EndShown.TheVariants.{Waits}
use Rattle.rv_core.specs.declared.ending.TaskEnd.{TaskEnd}
use Rattle.rv_core.specs.Ending.{is_spent}
use Rattle.flat_machine.specs.declared.acquires.Acquire.{Acquire}
use Rattle.flat_machine.specs.declared.ending.FlatEnd.{FlatEnd}
use Rattle.flat_machine.specs.Step.{Started}
use Rattle.flat_machine.specs.Phases.{Flat, all_tasks, initial_flat}
use Rattle.flat_machine.specs.Grants.{so_far}
use Rattle.flat_machine.specs.Acquires.{acquires_from, acquires_so_far}
use Rattle.flat_machine.specs.Ending.{task_end, flat_end}
use Rattle.flat_machine.specs.Laws.{HasUsedUp}
use Rattle.flat_machine.proofs.CauseLemmas.{run-ended, run-spent}
use Rattle.flat_machine.proofs.MoreFuel.{unspent-same}
use Rattle.sentences.specs.declared.stopping.Stop.{Stop}
use Rattle.sentences.specs.Stops.{stop_of, stops_in, stops_by}
use Rattle.explained_answer.specs.declared.line.AnswerLine.{AnswerLine}
use Rattle.explained_answer.specs.Acquires.{last_acquire, pc_if_in, awaited_acquire}
use Rattle.explained_answer.specs.Ended.{answer_tasks}
use Rattle.explained_answer.specs.Holders.{last_grant, core_if_in, holder_of, answer_grants}
use Rattle.explained_answer.specs.RunAgain.{is_unfinished, fuel_by, fuel_of, same_way, same_end, are_ends, stops_within, stops_if, stops_with, stops_of_run, acquires_with, acquires_within, acquires_of_run, run_again, pc_of_end}
use Rattle.explained_answer.proofs.AcquireLemmas.{all-passed, last-is, none-of-lock, last-from}

-- ---- a task stands as itself

same-way : (e : EndShown) → same_way e e ≡ true
same-way shown.TheVariants.Finished = refl
same-way shown.TheVariants.Fuel = refl
same-way (shown.TheVariants.Trap kind pc value) = grind (arith, nat_tests)
same-way (shown.TheVariants.Waits lock) = grind (arith, nat_tests)

same-itself : (t : TaskEnd) → same_end t t ≡ true
same-itself t = let way = same-way t.end in grind (arith, nat_tests, way)

both : (a b : Bool) → a ≡ true → b ≡ true → (a && b) ≡ true
both a b x y = cc

are-themselves : (P : ProgramParts) (fuel : ℕ) (rs : List Started) → are_ends (map (task_end P fuel) rs) (map (stop_of P fuel) rs) ≡ true
are-themselves P fuel [] = refl
are-themselves P fuel (r ∷ rs) = both (same_end (task_end P fuel r) (task_end P fuel r)) _ (same-itself (task_end P fuel r)) (are-themselves P fuel rs)

-- a task of the run has a place there
has-place : (P : ProgramParts) (fuel : ℕ) (rs : List Started) (t : TaskEnd) (i : ℕ) → i < length (map (task_end P fuel) rs) → t ≡ get_or (map (task_end P fuel) rs) i t
    → pc_of_end (map (stop_of P fuel) rs) t ≢ None
has-place P fuel [] t i within is none = absurd (omega arith)
has-place P fuel (r ∷ rs) t i within is none = by_test (same_end t (task_end P fuel r)) refl none i within is (λ k inside at' rest. has-place P fuel rs t k inside at' rest)
  where
    others : Option ℕ
    others = option_map (λ (s : Stop). s.pc) (find (λ (s : Stop). same_end t s.end) (map (stop_of P fuel) rs))

    by_place : (k : ℕ) → k < length (map (task_end P fuel) (r ∷ rs)) → t ≡ get_or (map (task_end P fuel) (r ∷ rs)) k t → same_end t (task_end P fuel r) ≡ false → others ≡ None
        → ((j : ℕ) → j < length (map (task_end P fuel) rs) → t ≡ get_or (map (task_end P fuel) rs) j t → others ≡ None → ⊥) → ⊥
    by_place zero inside at' e rest more = absurd (true≢false (sym (same-itself t) ∙ ap (same_end t) at' ∙ e))
    by_place (suc k) inside at' e rest more = more k (omega (arith, inside)) at' rest

    by_test : (b : Bool) → same_end t (task_end P fuel r) ≡ b
        → option_map (λ (s : Stop). s.pc) (cond b (Some (stop_of P fuel r)) (find (λ (s : Stop). same_end t s.end) (map (stop_of P fuel) rs))) ≡ None
        → (k : ℕ) → k < length (map (task_end P fuel) (r ∷ rs)) → t ≡ get_or (map (task_end P fuel) (r ∷ rs)) k t
        → ((j : ℕ) → j < length (map (task_end P fuel) rs) → t ≡ get_or (map (task_end P fuel) rs) j t → others ≡ None → ⊥) → ⊥
    by_test true e rest k inside at' more = none-some r.state.pc (sym rest)
    by_test false e rest k inside at' more = by_place k inside at' e rest more

-- ---- the fuel

spent-is : (e : EndShown) → is_spent e ≡ true → e ≡ shown.TheVariants.Fuel
spent-is shown.TheVariants.Finished e = absurd (cc)
spent-is shown.TheVariants.Fuel e = refl
spent-is (shown.TheVariants.Trap kind pc value) e = absurd (cc)
spent-is (shown.TheVariants.Waits lock) e = absurd (cc)

abbrev Unspent : TaskEnd → Type 0
Unspent t = is_spent t.end ≡ false

none-spent : (ts : List TaskEnd) → find (λ (t : TaskEnd). is_spent t.end) ts ≡ None → All Unspent ts
none-spent [] e = All-nil Unspent
none-spent (t ∷ ts) e = by_test (is_spent t.end) refl e (none-spent ts)
  where
    by_test : (b : Bool) → is_spent t.end ≡ b → cond b (Some t) (find (λ (x : TaskEnd). is_spent x.end) ts) ≡ None
        → (find (λ (x : TaskEnd). is_spent x.end) ts ≡ None → All Unspent ts) → All Unspent (t ∷ ts)
    by_test true test none rest = absurd (none-some t (sym none))
    by_test false test none rest = All-cons Unspent t ts test (rest none)

first-spent : (fuel : ℕ) (ts : List TaskEnd) (s : TaskEnd) → All (HasUsedUp fuel) ts → find (λ (t : TaskEnd). is_spent t.end) ts ≡ Some s → s.retired ≡ fuel
first-spent fuel [] s all e = absurd (none-some s e)
first-spent fuel (t ∷ ts) s all e = by_test (is_spent t.end) refl e (first-spent fuel ts s (All-tail (HasUsedUp fuel) t ts all))
  where
    by_test : (b : Bool) → is_spent t.end ≡ b → cond b (Some t) (find (λ (x : TaskEnd). is_spent x.end) ts) ≡ Some s
        → (find (λ (x : TaskEnd). is_spent x.end) ts ≡ Some s → s.retired ≡ fuel) → s.retired ≡ fuel
    by_test true test found rest = ap (λ (x : TaskEnd). x.retired) (sym (same_Some t s found)) ∙ All-head (HasUsedUp fuel) t ts all (spent-is t.end test)
    by_test false test found rest = rest found

-- with this fuel the run of these grants ends so
record EndsWith (P : ProgramParts) (gs : List Grant) (e : FlatEnd) (fuel : ℕ) : Type 0 where
  some : 1 ≤ fuel
  most : fuel ≤ 32768
  ends : flat_end P fuel gs ≡ Some e

-- a run ends so with the fuel that its end tells
tells-fuel : (P : ProgramParts) (fuel : ℕ) (gs : List Grant) (e : FlatEnd) → 1 ≤ fuel → fuel ≤ 32768 → flat_end P fuel gs ≡ Some e → EndsWith P gs e (fuel_of e.ending.tasks)
tells-fuel P fuel gs e some most ends = by_spent (find (λ (t : TaskEnd). is_spent t.end) e.ending.tasks) refl
  where
    by_spent : (o : Option TaskEnd) → find (λ (t : TaskEnd). is_spent t.end) e.ending.tasks ≡ o → EndsWith P gs e (fuel_by o)
    by_spent None is = record { some = omega arith; most = omega arith; ends = unspent-same P fuel 32768 gs e most ends (none-spent e.ending.tasks is) }
    by_spent (Some s) is =
        subst (EndsWith P gs e) (sym (first-spent fuel e.ending.tasks s (run-spent P fuel gs e ends) is))
        (record { some = some; most = most; ends = ends })

within-test : (fuel : ℕ) → 1 ≤ fuel → fuel ≤ 32768 → (nat_le 1 fuel && nat_le fuel 32768) ≡ true
within-test fuel some most = grind (arith, nat_tests, some, most)

-- ---- where its tasks stand

-- the state in which a run ends, where its tasks stand so
record IsRunOf (P : ProgramParts) (gs : List Grant) (tasks : List TaskEnd) (fuel : ℕ) : Type 0 where
  state : Flat
  leads : so_far P fuel gs ≡ Some state
  are : tasks ≡ map (task_end P fuel) (all_tasks state)
  stops : stops_within P fuel gs ≡ Some (map (stop_of P fuel) (all_tasks state))

run-of : (P : ProgramParts) (gs : List Grant) (e : FlatEnd) (fuel : ℕ) → EndsWith P gs e fuel → IsRunOf P gs e.ending.tasks fuel
unfolding stops_by
run-of P gs e fuel h =
    let run = run-ended P fuel gs e h.ends in
    let here = Some (map (stop_of P fuel) (all_tasks run.last)) in
    let whole : Bool → Option (List Stop) = λ b. cond b here None in
    let allowed : Bool → Option (List Stop) = λ b. cond b (stops_in P fuel (so_far P fuel gs)) None in
    record {
      state = run.last;
      leads = run.leads;
      are = run.tasks;
      stops = ap allowed (within-test fuel h.some h.most) ∙ ap (stops_in P fuel) run.leads ∙ ap whole run.whole;
    }

either : (b c : Bool) → (b ≡ true) ⊎ (c ≡ true) → (b || c) ≡ true
either true c h = refl
either false c (inl h) = absurd (true≢false (sym h))
either false c (inr h) = h

any-there : (ts : List TaskEnd) (t : TaskEnd) (i : ℕ) → i < length ts → t ≡ get_or ts i t → is_unfinished t ≡ true → list_any is_unfinished ts ≡ true
any-there [] t i within is passes = absurd (omega arith)
any-there (x ∷ xs) t zero within is passes = either (is_unfinished x) (list_any is_unfinished xs) (inl (ap is_unfinished (sym is) ∙ passes))
any-there (x ∷ xs) t (suc i) within is passes = either (is_unfinished x) (list_any is_unfinished xs) (inr (any-there xs t i (omega (arith, within)) is passes))

-- the run once more is this run
again-is : (P : ProgramParts) (lines : List AnswerLine) (r : IsRunOf P (answer_grants lines) (answer_tasks lines) (fuel_of (answer_tasks lines))) → list_any is_unfinished (answer_tasks lines) ≡ true
    → stops_of_run P lines ≡ map (stop_of P (fuel_of (answer_tasks lines))) (all_tasks r.state)
unfolding stops_of_run
again-is P lines r some =
    let tasks = answer_tasks lines in
    let fuel = fuel_of tasks in
    let ss = map (stop_of P fuel) (all_tasks r.state) in
    let asked : Bool → List Stop = λ b. cond b (stops_with P tasks (answer_grants lines)) [] in
    let ended : Bool → List Stop = λ b. cond b ss [] in
    let same : are_ends tasks ss ≡ true = ap (λ (ts : List TaskEnd). are_ends ts ss) r.are ∙ are-themselves P fuel (all_tasks r.state) in
    ap asked some ∙ ap (stops_if tasks) r.stops ∙ ap ended same

the-run : (P : ProgramParts) (fuel : ℕ) (lines : List AnswerLine) (e : FlatEnd) → 1 ≤ fuel → fuel ≤ 32768 → flat_end P fuel (answer_grants lines) ≡ Some e → answer_tasks lines ≡ e.ending.tasks
    → IsRunOf P (answer_grants lines) (answer_tasks lines) (fuel_of (answer_tasks lines))
the-run P fuel lines e some most ends are =
    subst (λ (ts : List TaskEnd). IsRunOf P (answer_grants lines) ts (fuel_of ts)) (sym are)
    (run-of P (answer_grants lines) e (fuel_of e.ending.tasks) (tells-fuel P fuel (answer_grants lines) e some most ends))

pub placed : (P : ProgramParts) (fuel : ℕ) (lines : List AnswerLine) (e : FlatEnd) (t : TaskEnd) → 1 ≤ fuel → fuel ≤ 32768 → flat_end P fuel (answer_grants lines) ≡ Some e → answer_tasks lines ≡ e.ending.tasks
    → IsAmong (answer_tasks lines) t → is_unfinished t ≡ true → pc_of_end (stops_of_run P lines) t ≢ None
placed P fuel lines e t some most ends are among open' none =
    let r = the-run P fuel lines e some most ends are in
    let f = fuel_of (answer_tasks lines) in
    let again = again-is P lines r (any-there (answer_tasks lines) t among.0 among.1.0 among.1.1 open') in
    let there = subst (λ (ts : List TaskEnd). IsAmong ts t) r.are among in
    has-place P f (all_tasks r.state) t there.0 there.1.0 there.1.1 (ap (λ (ss : List Stop). pc_of_end ss t) (sym again) ∙ none)

-- ---- where its locks were acquired

waits-open : (t : TaskEnd) (lock : LockId) → t.end ≡ Waits lock → is_unfinished t ≡ true
waits-open t lock e = cc

with-some : (P : ProgramParts) (fuel : ℕ) (gs : List Grant) (rs : List Started) (i : ℕ) → i < length (map (task_end P fuel) rs) → acquires_with P fuel gs (map (stop_of P fuel) rs) ≡ acquires_within P fuel gs
with-some P fuel gs [] i within = absurd (omega arith)
with-some P fuel gs (r ∷ rs) i within = refl

last-known : (P : ProgramParts) (fuel : ℕ) (gs : List Grant) (phase lock : ℕ) (F : Flat) → so_far P fuel gs ≡ Some F → holder_of gs phase lock ≢ None → pc_if_in phase (last_acquire lock (acquires_so_far P fuel gs)) ≢ None
unfolding acquires_so_far
last-known P fuel gs phase lock F leads held = by_last (last_acquire lock (acquires_from P fuel (Some (initial_flat P fuel)) gs)) refl
  where
    by_phase : (a : Acquire) (b : Bool) → (a.grant.phase.0 == phase) ≡ b → cond b (Some a.grant.core.0) None ≢ None → cond b (Some a.pc) None ≢ None
    by_phase a true test some = λ none. none-some a.pc (sym none)
    by_phase a false test some = λ none. some refl

    by_last : (o : Option Acquire) → last_acquire lock (acquires_from P fuel (Some (initial_flat P fuel)) gs) ≡ o → pc_if_in phase o ≢ None
    by_last None is =
        let others = none-of-lock P fuel lock (Some (initial_flat P fuel)) gs F leads is in
        let unheld : last_grant gs lock ≡ None = all-passed lock [] gs others in
        absurd (held (ap (core_if_in phase) unheld))
    by_last (Some a) is =
        let h = last-from P fuel lock (Some (initial_flat P fuel)) gs F a leads is in
        let given : last_grant gs lock ≡ Some a.grant = ap (λ (xs : List Grant). last_grant xs lock) h.are ∙ last-is lock h.before h.behind a.grant h.of_lock h.last in
        by_phase a (a.grant.phase.0 == phase) refl (λ none. held (ap (core_if_in phase) given ∙ none))

pub acquire-placed : (P : ProgramParts) (fuel : ℕ) (lines : List AnswerLine) (e : FlatEnd) (t : TaskEnd) (lock : LockId) → 1 ≤ fuel → fuel ≤ 32768 → flat_end P fuel (answer_grants lines) ≡ Some e
    → answer_tasks lines ≡ e.ending.tasks → IsAmong (answer_tasks lines) t → t.end ≡ Waits lock → holder_of (answer_grants lines) t.phase.0 lock.0 ≢ None
    → awaited_acquire (run_again P lines).acquires t.phase.0 t.end ≢ None
unfolding acquires_of_run
acquire-placed P fuel lines e t lock some most ends are among waits held none =
    let f = fuel_of (answer_tasks lines) in
    let gs = answer_grants lines in
    let ended = tells-fuel P fuel gs e some most ends in
    let r = the-run P fuel lines e some most ends are in
    let again = again-is P lines r (any-there (answer_tasks lines) t among.0 among.1.0 among.1.1 (waits-open t lock waits)) in
    let there = subst (λ (ts : List TaskEnd). IsAmong ts t) r.are among in
    let same : f ≡ fuel_of e.ending.tasks = ap fuel_of are in
    let allowed : Bool → List Acquire = λ b. cond b (acquires_so_far P f gs) [] in
    let acquires : (run_again P lines).acquires ≡ acquires_so_far P f gs =
    ap (acquires_with P f gs) again ∙ with-some P f gs (all_tasks r.state) there.0 there.1.0
    ∙ ap allowed (within-test f (subst (λ k. 1 ≤ k) (sym same) ended.some) (subst (λ k. k ≤ 32768) (sym same) ended.most)) in
    last-known P f gs t.phase.0 lock.0 r.state r.leads held
    (ap (λ (all : List Acquire). pc_if_in t.phase.0 (last_acquire lock.0 all)) (sym acquires)
    ∙ ap (awaited_acquire (run_again P lines).acquires t.phase.0) (sym waits) ∙ none)
