-- States to which moves of the interleaving machine lead: one more move, and a task that runs on.
use Rattle.std.proofs.Common.{◌≡◌, ℕ, ◌<◌, List, [], ◌∷◌, ◌++◌, length, slice_get, slice_set, Option, Some, None, refl, sym, ap, ◌∙◌, subst, append_assoc, append-nil, arith}
use Rattle.std.proofs.lemmas.List.{set-set, get_or-set_same, length-set}
use Rattle.std.proofs.lemmas.Option.{slice_get-get_or}
use Rattle.dn_base.specs.declared.ids.Grant.{Grant}
use Rattle.region_table.specs.Program.{ProgramParts}
use Rattle.rv_core.specs.declared.need.Need.{Need}
use Rattle.rv_core.specs.declared.need.Need as need
use Rattle.flat_machine.specs.Step.{Started, At, wish, step_by, flat_step}
use Rattle.flat_machine.specs.Phases.{Flat, initial}
use Rattle.flat_machine.specs.Grants.{with_task}
use Rattle.run_agreement.specs.Worlds.{stepped}
use Rattle.run_agreement.specs.Interleaving.{Move, acts, instruction, instruction_at, move_made, move_made_if, interleaved, lock_taken_by, lock_taken_at, locks_taken, locks_taken_if, all_locks_taken}
use Rattle.claims.specs.DiagnosisLaws.{IsReachedBy}

module _ (P : ProgramParts) (fuel : ℕ) where
  -- ---- one more move

  moves-push : (o : Option Flat) (ms : List Move) (m : Move) → interleaved P fuel o (ms ++ m ∷ []) ≡ move_made_if P fuel (interleaved P fuel o ms) m
  moves-push o [] m = refl
  moves-push o (x ∷ ms) m = moves-push (move_made_if P fuel o x) ms m

  locks-push : (o : Option Flat) (ms : List Move) (m : Move) → all_locks_taken P fuel o (ms ++ m ∷ []) ≡ all_locks_taken P fuel o ms ++ locks_taken_if P fuel (interleaved P fuel o ms) m
  locks-push o [] m = append-nil (locks_taken_if P fuel o m)
  locks-push o (x ∷ ms) m =
      ap (λ (gs : List Grant). locks_taken_if P fuel o x ++ gs) (locks-push (move_made_if P fuel o x) ms m)
      ∙ sym (append_assoc (locks_taken_if P fuel o x) (all_locks_taken P fuel (move_made_if P fuel o x) ms) (locks_taken_if P fuel (interleaved P fuel (move_made_if P fuel o x) ms) m))

  pub reached-first : IsReachedBy P fuel [] (initial P)
  reached-first = record { moves = []; leads = refl; locks = refl }

  pub reached-next : (gs hs : List Grant) (W V : Flat) (m : Move) → IsReachedBy P fuel gs W → move_made P fuel W m ≡ Some V → locks_taken P fuel W m ≡ hs → IsReachedBy P fuel (gs ++ hs) V
  reached-next gs hs W V m h makes takes =
      record {
        moves = h.moves ++ m ∷ [];
        leads = moves-push (Some (initial P)) h.moves m ∙ ap (λ (o : Option Flat). move_made_if P fuel o m) h.leads ∙ makes;
        locks =
            locks-push (Some (initial P)) h.moves m
            ∙ ap (λ (xs : List Grant). xs ++ locks_taken_if P fuel (interleaved P fuel (Some (initial P)) h.moves) m) h.locks
            ∙ ap (λ (o : Option Flat). gs ++ locks_taken_if P fuel o m) h.leads
            ∙ ap (λ (xs : List Grant). gs ++ xs) takes;
      }

  -- a move that takes no lock
  pub reached-freely : (gs : List Grant) (W V : Flat) (m : Move) → IsReachedBy P fuel gs W → move_made P fuel W m ≡ Some V → locks_taken P fuel W m ≡ [] → IsReachedBy P fuel gs V
  reached-freely gs W V m h makes none = subst (λ (xs : List Grant). IsReachedBy P fuel xs V) (append-nil gs) (reached-next gs [] W V m h makes none)

  -- ---- a task runs on

  pub placed : (W : Flat) (i : ℕ) (s : At) → i < length W.tasks → slice_get (with_task W i s).tasks i ≡ Some s.task
  placed W i s inside =
      slice_get-get_or (slice_set W.tasks i s.task) i s.task (omega (arith, inside, length-set W.tasks i s.task))
      ∙ ap (λ (x : Started). Some x) (get_or-set_same W.tasks i s.task s.task inside)

  -- one instruction that takes no lock
  acted : (gs : List Grant) (W : Flat) (i : ℕ) (s : At) (n : Need) → i < length W.tasks → wish P fuel s.task ≡ Some n
      → instruction P fuel (with_task W i s) i s.task (Some n) ≡ Some (stepped P fuel (with_task W i s) i s.task) → lock_taken_by s.task (Some n) ≡ []
      → IsReachedBy P fuel gs (with_task W i s) → IsReachedBy P fuel gs (with_task W i (step_by P s (Some n)))
  acted gs W i s n inside wants possible none h =
      let V : Flat = with_task W i s in
      let next : Flat = stepped P fuel V i s.task in
      let there : slice_get V.tasks i ≡ Some s.task = placed W i s inside in
      let makes : move_made P fuel V (acts i) ≡ Some next = ap (instruction_at P fuel V i) there ∙ ap (instruction P fuel V i s.task) wants ∙ possible in
      let takes : locks_taken P fuel V (acts i) ≡ [] = ap (lock_taken_at P fuel) there ∙ ap (lock_taken_by s.task) wants ∙ none in
      let once : next ≡ with_task W i (flat_step P fuel s) = ap (λ (ts : List Started). record W { tasks = ts; memory = (flat_step P fuel s).memory }) (set-set W.tasks i s.task (flat_step P fuel s).task) in
      let is : next ≡ with_task W i (step_by P s (Some n)) = once ∙ ap (λ (o : Option Need). with_task W i (step_by P s o)) wants in
      subst (IsReachedBy P fuel gs) is (reached-freely gs V next (acts i) h makes takes)

  step-by : (gs : List Grant) (W : Flat) (i : ℕ) (s : At) (n : Option Need) → i < length W.tasks → wish P fuel s.task ≡ n → IsReachedBy P fuel gs (with_task W i s) → IsReachedBy P fuel gs (with_task W i (step_by P s n))
  step-by gs W i s None inside wants h = h
  step-by gs W i s (Some (need.TheVariants.Acquire lock)) inside wants h = h
  step-by gs W i s (Some need.TheVariants.Local) inside wants h = acted gs W i s need.TheVariants.Local inside wants refl refl h
  step-by gs W i s (Some (need.TheVariants.Load word)) inside wants h = acted gs W i s (need.TheVariants.Load word) inside wants refl refl h
  step-by gs W i s (Some (need.TheVariants.Store word whole)) inside wants h = acted gs W i s (need.TheVariants.Store word whole) inside wants refl refl h
  step-by gs W i s (Some (need.TheVariants.Release lock)) inside wants h = acted gs W i s (need.TheVariants.Release lock) inside wants refl refl h
  step-by gs W i s (Some (need.TheVariants.End cause)) inside wants h = acted gs W i s (need.TheVariants.End cause) inside wants refl refl h

  pub reached-step : (gs : List Grant) (W : Flat) (i : ℕ) (s : At) → i < length W.tasks → IsReachedBy P fuel gs (with_task W i s) → IsReachedBy P fuel gs (with_task W i (flat_step P fuel s))
  reached-step gs W i s inside h = step-by gs W i s (wish P fuel s.task) inside refl h
