-- Where the holder of a lock acquired it.
use Rattle.std.proofs.Common.{◌≡◌, ◌≢◌, ℕ, ◌+◌, ◌<◌, Bool, true, false, ◌&&◌, ◌==◌, cond, nat_le, List, [], ◌∷◌, ◌++◌, length, drop, get_or, Option, Some, None, refl, sym, ap, ◌∙◌, subst, arith, append_assoc}
use Rattle.std.specs.Option.{option_or}
use Rattle.std.specs.List.{All, list_any}
use Rattle.std.proofs.lemmas.Bool.{eqb-true}
use Rattle.std.proofs.lemmas.Bool.Decides.{nat_tests}
use Rattle.std.proofs.lemmas.List.{append-nil, at_drop_more}
use Rattle.std.proofs.lemmas.List.Elements.{All-cons, All-nil, All-head, All-tail}
use Rattle.std.proofs.lemmas.Option.{none-some, same_Some}
use Rattle.dn_base.specs.declared.ids.Grant.{Grant}
use Rattle.dn_base.specs.declared.ids.LockId.{LockId}
use Rattle.region_table.specs.Program.{ProgramParts}
use Rattle.rv_core.specs.declared.ending.EndShown.TheVariants.{Waits}
use Rattle.rv_core.specs.declared.ending.TaskEnd.{TaskEnd}
use Rattle.flat_machine.specs.declared.acquires.Acquire.{Acquire}
use Rattle.flat_machine.specs.Phases.{Flat, initial_flat}
use Rattle.flat_machine.specs.Grants.{granted, grants_from, so_far}
use Rattle.flat_machine.specs.Acquires.{acquires_from, acquires_so_far, IsAcquiredAt}
use Rattle.flat_machine.proofs.GrantLemmas.{grants-none}
use Rattle.flat_machine.proofs.LegalLaws.{takes}
use Rattle.flat_machine.proofs.AcquireLaws.{first-acquire}
use Rattle.sentences.specs.declared.stopping.Stop.{Stop}
use Rattle.sentences.specs.Stops.{stops_in, stops_by}
use Rattle.explained_answer.specs.declared.line.AnswerLine.{AnswerLine}
use Rattle.explained_answer.specs.Acquires.{if_of_lock, last_acquire, pc_if_in, awaited_acquire, IsLastAcquire}
use Rattle.explained_answer.specs.Ended.{answer_tasks}
use Rattle.explained_answer.specs.Holders.{last_grant, core_if_in, answer_grants}
use Rattle.explained_answer.specs.RunAgain.{is_unfinished, fuel_of, stops_within, stops_if, stops_with, stops_of_run, acquires_within, acquires_of_run, run_again}
use Rattle.explained_answer.proofs.GrantLemmas.{last-push}

-- ---- the last acquire of a lock

or-assoc : (a b c : Option Acquire) → option_or (option_or a b) c ≡ option_or a (option_or b c)
or-assoc None b c = refl
or-assoc (Some x) b c = refl

pub acquire-more : (lock i : ℕ) (acquires : List Acquire) (d : Acquire) (last after all : Option Acquire) → i < length acquires → after ≡ option_or (if_of_lock lock (get_or acquires i d)) last
    → option_or (last_acquire lock (drop i acquires)) last ≡ all → option_or (last_acquire lock (drop (i + 1) acquires)) after ≡ all
acquire-more lock i acquires d last after all within is so_far =
    let rest = last_acquire lock (drop (i + 1) acquires) in
    ap (option_or rest) is ∙ sym (or-assoc rest (if_of_lock lock (get_or acquires i d)) last)
    ∙ sym (at_drop_more (λ (xs : List Acquire). option_or (last_acquire lock xs) last) acquires i d within) ∙ so_far

-- ---- the last grant of a lock

abbrev pub OtherLock : ℕ → Grant → Type 0
OtherLock lock g = g.lock.0 ≢ lock

passed : (lock : ℕ) (gs : List Grant) (g : Grant) → OtherLock lock g → last_grant (gs ++ g ∷ []) lock ≡ last_grant gs lock
passed lock gs g other = last-push gs g lock ∙ by_test (g.lock.0 == lock) refl
  where
    by_test : (b : Bool) → (g.lock.0 == lock) ≡ b → cond b (Some g) (last_grant gs lock) ≡ last_grant gs lock
    by_test true e = absurd (other (eqb-true g.lock.0 lock e))
    by_test false e = refl

pub all-passed : (lock : ℕ) (gs behind : List Grant) → All (OtherLock lock) behind → last_grant (gs ++ behind) lock ≡ last_grant gs lock
all-passed lock gs [] others = ap (λ (xs : List Grant). last_grant xs lock) (append-nil gs)
all-passed lock gs (h ∷ hs) others =
    ap (λ (xs : List Grant). last_grant xs lock) (sym (append_assoc gs (h ∷ []) hs))
    ∙ all-passed lock (gs ++ h ∷ []) hs (All-tail (OtherLock lock) h hs others)
    ∙ passed lock gs h (All-head (OtherLock lock) h hs others)

same-lock : (lock : ℕ) (g : Grant) → g.lock.0 ≡ lock → (g.lock.0 == lock) ≡ true
same-lock lock g e = grind (arith, nat_tests)

pub last-is : (lock : ℕ) (before behind : List Grant) (g : Grant) → g.lock.0 ≡ lock → All (OtherLock lock) behind → last_grant (before ++ g ∷ behind) lock ≡ Some g
last-is lock before behind g is others =
    ap (λ (xs : List Grant). last_grant xs lock) (sym (append_assoc before (g ∷ []) behind))
    ∙ all-passed lock (before ++ g ∷ []) behind others
    ∙ last-push before g lock ∙ ap (λ (b : Bool). cond b (Some g) (last_grant before lock)) (same-lock lock g is)

-- ---- the last acquire is that of the last grant

-- where grants lead from here, the last acquire of a lock among theirs
pub record IsLastFrom (P : ProgramParts) (fuel : ℕ) (o : Option Flat) (gs : List Grant) (lock : ℕ) (a : Acquire) : Type 0 where
  pub before : List Grant
  pub behind : List Grant
  pub are : gs ≡ before ++ a.grant ∷ behind
  pub of_lock : a.grant.lock.0 ≡ lock
  pub last : All (OtherLock lock) behind
  pub state : Flat
  pub leads : grants_from P fuel o before ≡ Some state
  pub place : IsAcquiredAt P fuel state a.grant (Some a)

legal-first : (P : ProgramParts) (fuel : ℕ) (F G : Flat) (g : Grant) (gs : List Grant) → grants_from P fuel (Some F) (g ∷ gs) ≡ Some G → granted P fuel g F ≢ None
legal-first P fuel F G g gs leads = λ none. none-some G (sym (grants-none P fuel gs) ∙ ap (λ (p : Option Flat). grants_from P fuel p gs) (sym none) ∙ leads)

both-none : (a b : Option Acquire) → option_or a b ≡ None → (a ≡ None) × (b ≡ None)
both-none None b e = (refl, e)
both-none (Some x) b e = absurd (none-some x (sym e))

not-of-lock : (lock : ℕ) (a : Acquire) → if_of_lock lock a ≡ None → OtherLock lock a.grant
not-of-lock lock a none = λ is. none-some a (sym none ∙ ap (λ (b : Bool). cond b (Some a) None) (same-lock lock a.grant is))

-- where no acquire is of the lock, no grant is
pub none-of-lock : (P : ProgramParts) (fuel lock : ℕ) (o : Option Flat) (gs : List Grant) (G : Flat) → grants_from P fuel o gs ≡ Some G
    → last_acquire lock (acquires_from P fuel o gs) ≡ None → All (OtherLock lock) gs
none-of-lock P fuel lock o [] G leads none = All-nil (OtherLock lock)
none-of-lock P fuel lock None (g ∷ gs) G leads none = absurd (none-some G (sym (grants-none P fuel gs) ∙ leads))
none-of-lock P fuel lock (Some F) (g ∷ gs) G leads none =
    let first = first-acquire P fuel F g gs (legal-first P fuel F G g gs leads) in
    let here : Acquire = record { grant = g; pc = first.0.task.state.pc } in
    let both = both-none (last_acquire lock (acquires_from P fuel (granted P fuel g F) gs)) (if_of_lock lock here) (ap (last_acquire lock) (sym first.1) ∙ none) in
    All-cons (OtherLock lock) g gs (not-of-lock lock here both.1) (none-of-lock P fuel lock (granted P fuel g F) gs G leads both.0)

-- the acquire of the first grant is the last one of its lock, where no other grant is of the lock
first-last : (P : ProgramParts) (fuel lock : ℕ) (F : Flat) (g : Grant) (gs : List Grant) (here a : Acquire) → IsAcquiredAt P fuel F g (Some here) → here.grant ≡ g
    → All (OtherLock lock) gs → if_of_lock lock here ≡ Some a → IsLastFrom P fuel (Some F) (g ∷ gs) lock a
first-last P fuel lock F g gs here a there same others e = by_test (here.grant.lock.0 == lock) refl e
  where
    by_test : (b : Bool) → (here.grant.lock.0 == lock) ≡ b → cond b (Some here) None ≡ Some a → IsLastFrom P fuel (Some F) (g ∷ gs) lock a
    by_test false test is = absurd (none-some a is)
    by_test true test is =
        let of : here.grant.lock.0 ≡ lock = eqb-true here.grant.lock.0 lock test in
        subst (IsLastFrom P fuel (Some F) (g ∷ gs) lock) (same_Some here a is)
        (record {
          before = [];
          behind = gs;
          are = ap (λ (x : Grant). x ∷ gs) (sym same);
          of_lock = of;
          last = others;
          state = F;
          leads = refl;
          place = subst (λ (x : Grant). IsAcquiredAt P fuel F x (Some here)) (sym same) there;
        })

-- one grant before
one-before : (P : ProgramParts) (fuel lock : ℕ) (F : Flat) (g : Grant) (gs : List Grant) (a : Acquire) → IsLastFrom P fuel (granted P fuel g F) gs lock a
    → IsLastFrom P fuel (Some F) (g ∷ gs) lock a
one-before P fuel lock F g gs a h =
    record {
      before = g ∷ h.before;
      behind = h.behind;
      are = ap (λ (xs : List Grant). g ∷ xs) h.are;
      of_lock = h.of_lock;
      last = h.last;
      state = h.state;
      leads = h.leads;
      place = h.place;
    }

pub last-from : (P : ProgramParts) (fuel lock : ℕ) (o : Option Flat) (gs : List Grant) (G : Flat) (a : Acquire) → grants_from P fuel o gs ≡ Some G
    → last_acquire lock (acquires_from P fuel o gs) ≡ Some a → IsLastFrom P fuel o gs lock a
last-from P fuel lock None [] G a leads e = absurd (none-some a e)
last-from P fuel lock (Some F) [] G a leads e = absurd (none-some a e)
last-from P fuel lock None (g ∷ gs) G a leads e = absurd (none-some G (sym (grants-none P fuel gs) ∙ leads))
last-from P fuel lock (Some F) (g ∷ gs) G a leads e =
    let first = first-acquire P fuel F g gs (legal-first P fuel F G g gs leads) in
    let h = takes P fuel F.tasks g first.0.task first.0.passes in
    let here : Acquire = record { grant = g; pc = first.0.task.state.pc } in
    let there : IsAcquiredAt P fuel F g (Some here) = record { task = first.0.task; started = first.0.among; named = h.named; waits = h.waits; is = refl } in
    by_more here there refl (last_acquire lock (acquires_from P fuel (granted P fuel g F) gs)) refl (ap (last_acquire lock) (sym first.1) ∙ e)
    (λ b more. last-from P fuel lock (granted P fuel g F) gs G b leads more)
  where
    by_more : (here : Acquire) → IsAcquiredAt P fuel F g (Some here) → here.grant ≡ g → (o : Option Acquire) → last_acquire lock (acquires_from P fuel (granted P fuel g F) gs) ≡ o
        → option_or o (if_of_lock lock here) ≡ Some a
        → ((b : Acquire) → last_acquire lock (acquires_from P fuel (granted P fuel g F) gs) ≡ Some b → IsLastFrom P fuel (granted P fuel g F) gs lock b)
        → IsLastFrom P fuel (Some F) (g ∷ gs) lock a
    by_more here there same None is both rest = first-last P fuel lock F g gs here a there same (none-of-lock P fuel lock (granted P fuel g F) gs G leads is) both
    by_more here there same (Some b) is both rest = one-before P fuel lock F g gs a (rest a (is ∙ both))

-- ---- the run of an answer

record Reaches (P : ProgramParts) (fuel : ℕ) (grants : List Grant) : Type 0 where
  state : Flat
  leads : so_far P fuel grants ≡ Some state

in-reaches : (P : ProgramParts) (fuel : ℕ) (grants : List Grant) (o : Option Flat) (ss : List Stop) → so_far P fuel grants ≡ o → stops_in P fuel o ≡ Some ss → Reaches P fuel grants
in-reaches P fuel grants None ss is e = absurd (none-some ss e)
in-reaches P fuel grants (Some F) ss is e = record { state = F; leads = is }

by-reaches : (P : ProgramParts) (fuel : ℕ) (grants : List Grant) (ss : List Stop) → stops_by P fuel grants ≡ Some ss → Reaches P fuel grants
unfolding stops_by
by-reaches P fuel grants ss e = in-reaches P fuel grants (so_far P fuel grants) ss refl e

within-reaches : (P : ProgramParts) (fuel : ℕ) (grants : List Grant) (ss : List Stop) → stops_within P fuel grants ≡ Some ss → Reaches P fuel grants
within-reaches P fuel grants ss e = by_test (nat_le 1 fuel && nat_le fuel 32768) e
  where
    by_test : (b : Bool) → cond b (stops_by P fuel grants) None ≡ Some ss → Reaches P fuel grants
    by_test true h = by-reaches P fuel grants ss h
    by_test false h = absurd (none-some ss h)

no-stop : (s : Stop) (ss : List Stop) → [] ≡ s ∷ ss → ⊥
no-stop s ss e = cc

if-reaches : (P : ProgramParts) (fuel : ℕ) (grants : List Grant) (ends : List TaskEnd) (o : Option (List Stop)) (s : Stop) (ss : List Stop) → stops_within P fuel grants ≡ o
    → stops_if ends o ≡ s ∷ ss → Reaches P fuel grants
if-reaches P fuel grants ends None s ss is e = absurd (no-stop s ss e)
if-reaches P fuel grants ends (Some found) s ss is e = within-reaches P fuel grants found is

run-reaches : (P : ProgramParts) (lines : List AnswerLine) (s : Stop) (ss : List Stop) → stops_of_run P lines ≡ s ∷ ss → Reaches P (fuel_of (answer_tasks lines)) (answer_grants lines)
unfolding stops_of_run
run-reaches P lines s ss e = by_test (list_any is_unfinished (answer_tasks lines)) e
  where
    by_test : (b : Bool) → cond b (stops_with P (answer_tasks lines) (answer_grants lines)) [] ≡ s ∷ ss → Reaches P (fuel_of (answer_tasks lines)) (answer_grants lines)
    by_test true h = if-reaches P (fuel_of (answer_tasks lines)) (answer_grants lines) (answer_tasks lines) (stops_within P (fuel_of (answer_tasks lines)) (answer_grants lines)) s ss refl h
    by_test false h = absurd (no-stop s ss h)

-- the acquires of a run that goes through
so-far-named : (P : ProgramParts) (fuel : ℕ) (grants : List Grant) (phase lock pc : ℕ) → Reaches P fuel grants → pc_if_in phase (last_acquire lock (acquires_so_far P fuel grants)) ≡ Some pc
    → IsLastAcquire P fuel grants phase lock pc
unfolding acquires_so_far
so-far-named P fuel grants phase lock pc reaches e = by_last (last_acquire lock (acquires_from P fuel (Some (initial_flat P fuel)) grants)) refl e
  where
    by_phase : (a : Acquire) → IsLastFrom P fuel (Some (initial_flat P fuel)) grants lock a → (b : Bool) → (a.grant.phase.0 == phase) ≡ b → cond b (Some a.pc) None ≡ Some pc
        → IsLastAcquire P fuel grants phase lock pc
    by_phase a h false test found = absurd (none-some pc found)
    by_phase a h true test found =
        record {
          before = h.before;
          grant = a.grant;
          behind = h.behind;
          are = h.are;
          of_lock = h.of_lock;
          in_phase = eqb-true a.grant.phase.0 phase test;
          last = h.last;
          holder =
              ap (λ (xs : List Grant). core_if_in phase (last_grant xs lock)) h.are
              ∙ ap (core_if_in phase) (last-is lock h.before h.behind a.grant h.of_lock h.last)
              ∙ ap (λ (b : Bool). cond b (Some a.grant.core.0) None) test;
          state = h.state;
          leads = h.leads;
          place = subst (λ (k : ℕ). IsAcquiredAt P fuel h.state a.grant (Some (record { grant = a.grant; pc = k }))) (same_Some a.pc pc found) h.place;
        }

    by_last : (o : Option Acquire) → last_acquire lock (acquires_from P fuel (Some (initial_flat P fuel)) grants) ≡ o → pc_if_in phase o ≡ Some pc → IsLastAcquire P fuel grants phase lock pc
    by_last None is found = absurd (none-some pc found)
    by_last (Some a) is found = by_phase a (last-from P fuel lock (Some (initial_flat P fuel)) grants reaches.state a reaches.leads is) (a.grant.phase.0 == phase) refl found

within-named : (P : ProgramParts) (fuel : ℕ) (grants : List Grant) (phase lock pc : ℕ) → Reaches P fuel grants → pc_if_in phase (last_acquire lock (acquires_within P fuel grants)) ≡ Some pc
    → IsLastAcquire P fuel grants phase lock pc
within-named P fuel grants phase lock pc reaches e = by_test (nat_le 1 fuel && nat_le fuel 32768) e
  where
    by_test : (b : Bool) → pc_if_in phase (last_acquire lock (cond b (acquires_so_far P fuel grants) [])) ≡ Some pc → IsLastAcquire P fuel grants phase lock pc
    by_test true h = so-far-named P fuel grants phase lock pc reaches h
    by_test false h = absurd (none-some pc h)

of-run-named : (P : ProgramParts) (lines : List AnswerLine) (stops : List Stop) (phase lock pc : ℕ) → stops_of_run P lines ≡ stops
    → pc_if_in phase (last_acquire lock (acquires_of_run P lines stops)) ≡ Some pc → IsLastAcquire P (fuel_of (answer_tasks lines)) (answer_grants lines) phase lock pc
unfolding acquires_of_run
of-run-named P lines [] phase lock pc are e = absurd (none-some pc e)
of-run-named P lines (s ∷ ss) phase lock pc are e =
    within-named P (fuel_of (answer_tasks lines)) (answer_grants lines) phase lock pc (run-reaches P lines s ss are) e

pub named-acquire : (P : ProgramParts) (lines : List AnswerLine) (t : TaskEnd) (lock : LockId) (pc : ℕ) → t.end ≡ Waits lock
    → awaited_acquire (run_again P lines).acquires t.phase.0 t.end ≡ Some pc
    → IsLastAcquire P (fuel_of (answer_tasks lines)) (answer_grants lines) t.phase.0 lock.0 pc
named-acquire P lines t lock pc waits e =
    of-run-named P lines (stops_of_run P lines) t.phase.0 lock.0 pc refl
    (ap (awaited_acquire (run_again P lines).acquires t.phase.0) (sym waits) ∙ e)
