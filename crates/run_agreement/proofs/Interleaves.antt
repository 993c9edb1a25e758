-- The flat machine's run by a list of grants is an interleaving: its segments one after the other.
use Rattle.std.proofs.Common.{◌≡◌, ℕ, zero, suc, ◌+◌, Bool, true, false, if◌then◌else◌, List, [], ◌∷◌, ◌++◌, length, map, get_or, slice_get, slice_set, position, is_none, Option, Some, None, refl, sym, ap, ◌∙◌, subst, append_assoc, append-nil, arith}
use Rattle.std.specs.List.{list_all}
use Rattle.std.proofs.lemmas.List.{set-set, set_at, set-get_or, get_or-set_same, length-set}
use Rattle.std.proofs.lemmas.List.Quantifiers.{position-Some}
use Rattle.std.specs.Option.{option_or}
use Rattle.std.proofs.lemmas.Option.{none-some, same_Some, slice_get_within, slice_get-get_or, get_or_from_slice_get}
use Rattle.dn_base.specs.declared.ids.CoreId.{CoreId}
use Rattle.dn_base.specs.declared.ids.Grant.{Grant}
use Rattle.dn_base.specs.declared.ids.PhaseId.{PhaseId}
use Rattle.region_table.specs.Program.{ProgramParts}
use Rattle.region_table.specs.declared.declared.Phase.{Phase}
use Rattle.region_table.specs.declared.declared.TaskDecl.{TaskDecl}
use Rattle.rv_core.specs.declared.need.Need.{Need}
use Rattle.rv_core.specs.declared.need.Need as need
use Rattle.flat_machine.specs.declared.ending.FlatEnd.{FlatEnd}
use Rattle.flat_machine.specs.Step.{Started, At, fresh, wish, step_by, flat_step, flat_steps, segment}
use Rattle.flat_machine.specs.Phases.{Flat, Ran, run_all, begin, begin_with, has_finished, settled, next_phase, initial, initial_flat}
use Rattle.flat_machine.specs.Grants.{is_free, grant_of, grant_by, grant_for, can_take, go_on, with_task, resumed, granted, granted_at, grants_from, so_far, next_grant, first_grant, grants_are_whole}
use Rattle.flat_machine.specs.Ending.{flat_end_of, whole_only, flat_end}
use Rattle.flat_machine.specs.Laws.{at_memory, EndsSegment}
use Rattle.flat_machine.proofs.CauseLemmas.{IsResting, HasSettled, run-resting}
use Rattle.flat_machine.proofs.LegalLaws.{Takes, takes}
use Rattle.flat_machine.proofs.SettleLaws.{settled-kept, settled-last}
use Rattle.run_agreement.specs.Worlds.{stepped, past_acquire, world_after_grant, with_phase}
use Rattle.run_agreement.specs.Interleaving.{Move, acts, begins, instruction, instruction_at, phase_begun, move_made, move_made_if, interleaved, lock_taken_by, lock_taken_at, locks_taken, locks_taken_if, all_locks_taken, HasNoMove, IsInterleaving}

module _ (P : ProgramParts) (fuel : ℕ) where
  -- ---- moves that lead from one state to another

  record Reaches (W : Flat) (gs : List Grant) (V : Flat) : Type 0 where
    pub moves : List Move
    pub leads : interleaved P fuel (Some W) moves ≡ Some V
    pub locks : all_locks_taken P fuel (Some W) moves ≡ gs

  stays : (W : Flat) → Reaches W [] W
  stays W = record { moves = []; leads = refl; locks = refl }

  one : (W V : Flat) (m : Move) (gs : List Grant) → move_made P fuel W m ≡ Some V → locks_taken P fuel W m ≡ gs → Reaches W gs V
  one W V m gs came took = record { moves = m ∷ []; leads = came; locks = append-nil (locks_taken P fuel W m) ∙ took }

  leads-on : (o : Option Flat) (ms ns : List Move) → interleaved P fuel o (ms ++ ns) ≡ interleaved P fuel (interleaved P fuel o ms) ns
  leads-on o [] ns = refl
  leads-on o (m ∷ ms) ns = leads-on (move_made_if P fuel o m) ms ns

  takes-on : (o : Option Flat) (ms ns : List Move) → all_locks_taken P fuel o (ms ++ ns) ≡ all_locks_taken P fuel o ms ++ all_locks_taken P fuel (interleaved P fuel o ms) ns
  takes-on o [] ns = refl
  takes-on o (m ∷ ms) ns =
      ap (λ (x : List Grant). locks_taken_if P fuel o m ++ x) (takes-on (move_made_if P fuel o m) ms ns)
      ∙ sym (append_assoc (locks_taken_if P fuel o m) (all_locks_taken P fuel (move_made_if P fuel o m) ms) (all_locks_taken P fuel (interleaved P fuel (move_made_if P fuel o m) ms) ns))

  on : (W V U : Flat) (gs hs : List Grant) → Reaches W gs V → Reaches V hs U → Reaches W (gs ++ hs) U
  on W V U gs hs a b =
      record {
        moves = a.moves ++ b.moves;
        leads = leads-on (Some W) a.moves b.moves ∙ ap (λ (o : Option Flat). interleaved P fuel o b.moves) a.leads ∙ b.leads;
        locks =
            takes-on (Some W) a.moves b.moves ∙ ap (λ (x : List Grant). x ++ all_locks_taken P fuel (interleaved P fuel (Some W) a.moves) b.moves) a.locks
            ∙ ap (λ (o : Option Flat). gs ++ all_locks_taken P fuel o b.moves) a.leads ∙ ap (λ (x : List Grant). gs ++ x) b.locks;
      }

  becomes : (W V U : Flat) (gs : List Grant) → V ≡ U → Reaches W gs V → Reaches W gs U
  becomes W V U gs same a = subst (Reaches W gs) same a

  -- ---- a segment

  itself : (W : Flat) (i : ℕ) (r : Started) → slice_get W.tasks i ≡ Some r → with_task W i (at_memory r W.memory) ≡ W
  itself W i r there =
      let is : slice_set W.tasks i r ≡ W.tasks = ap (slice_set W.tasks i) (sym (get_or_from_slice_get W.tasks i r r there)) ∙ set-get_or W.tasks i r in
      ap (λ (ts : List Started). record W { tasks = ts }) is

  placed : (W : Flat) (i : ℕ) (r : Started) (s : At) → slice_get W.tasks i ≡ Some r → slice_get (with_task W i s).tasks i ≡ Some s.task
  placed W i r s there =
      let inside = slice_get_within W.tasks i r there in
      slice_get-get_or (slice_set W.tasks i s.task) i r (omega (arith, inside, length-set W.tasks i s.task)) ∙ ap (λ (x : Started). Some x) (get_or-set_same W.tasks i s.task r inside)

  twice : (W : Flat) (i : ℕ) (s t : At) → with_task (with_task W i s) i t ≡ with_task W i t
  twice W i s t = ap (λ (ts : List Started). record W { tasks = ts; memory = t.memory }) (set-set W.tasks i s.task t.task)

  -- one instruction that is no acquire
  acted : (W : Flat) (i : ℕ) (r : Started) (n : Need) → slice_get W.tasks i ≡ Some r → wish P fuel r ≡ Some n → instruction P fuel W i r (Some n) ≡ Some (stepped P fuel W i r) → lock_taken_by r (Some n) ≡ []
      → Reaches W [] (with_task W i (step_by P (at_memory r W.memory) (Some n)))
  acted W i r n there wants possible takes_none =
      becomes W (stepped P fuel W i r) (with_task W i (step_by P (at_memory r W.memory) (Some n))) [] (ap (λ (o : Option Need). with_task W i (step_by P (at_memory r W.memory) o)) wants)
      (one W (stepped P fuel W i r) (acts i) []
      (ap (instruction_at P fuel W i) there ∙ ap (instruction P fuel W i r) wants ∙ possible)
      (ap (lock_taken_at P fuel) there ∙ ap (lock_taken_by r) wants ∙ takes_none))

  -- or none, where the task has ended or wants a lock
  step-by : (W : Flat) (i : ℕ) (r : Started) (n : Option Need) → slice_get W.tasks i ≡ Some r → wish P fuel r ≡ n → Reaches W [] (with_task W i (step_by P (at_memory r W.memory) n))
  step-by W i r None there wants = becomes W W (with_task W i (at_memory r W.memory)) [] (sym (itself W i r there)) (stays W)
  step-by W i r (Some (need.TheVariants.Acquire lock)) there wants = becomes W W (with_task W i (at_memory r W.memory)) [] (sym (itself W i r there)) (stays W)
  step-by W i r (Some need.TheVariants.Local) there wants = acted W i r need.TheVariants.Local there wants refl refl
  step-by W i r (Some (need.TheVariants.Load word)) there wants = acted W i r (need.TheVariants.Load word) there wants refl refl
  step-by W i r (Some (need.TheVariants.Store word whole)) there wants = acted W i r (need.TheVariants.Store word whole) there wants refl refl
  step-by W i r (Some (need.TheVariants.Release lock)) there wants = acted W i r (need.TheVariants.Release lock) there wants refl refl
  step-by W i r (Some (need.TheVariants.End cause)) there wants = acted W i r (need.TheVariants.End cause) there wants refl refl

  steps : (n : ℕ) (W : Flat) (i : ℕ) (r : Started) → slice_get W.tasks i ≡ Some r → Reaches W [] (with_task W i (flat_steps P fuel n (at_memory r W.memory)))
  steps zero W i r there = becomes W W (with_task W i (at_memory r W.memory)) [] (sym (itself W i r there)) (stays W)
  steps (suc n) W i r there =
      let s : At = flat_step P fuel (at_memory r W.memory) in
      let V : Flat = with_task W i s in
      becomes W (with_task V i (flat_steps P fuel n (at_memory s.task V.memory))) (with_task W i (flat_steps P fuel n s)) [] (twice W i s (flat_steps P fuel n s))
      (on W V (with_task V i (flat_steps P fuel n (at_memory s.task V.memory))) [] []
      (step-by W i r (wish P fuel r) there refl) (steps n V i s.task (placed W i r s there)))

  segment-reached : (W : Flat) (i : ℕ) (r : Started) → slice_get W.tasks i ≡ Some r → Reaches W [] (with_task W i (segment P fuel (at_memory r W.memory)))
  unfolding segment
  segment-reached W i r there = steps (suc fuel) W i r there

  -- ---- a phase

  -- the world in which some tasks of a phase have run their first segments, and these others haven't begun
  abbrev begun_by : ℕ → List Started → List Started → List TaskDecl → List ℕ → Flat
  begun_by phase past done ds m = record { begun = phase + 1; past = past; tasks = done ++ map (fresh phase) ds; memory = m }

  at-length : (done rest : List Started) (r : Started) → slice_get (done ++ r ∷ rest) (length done) ≡ Some r
  at-length [] rest r = refl
  at-length (x ∷ done) rest r = at-length done rest r

  all-run : (phase : ℕ) (past done : List Started) (ds : List TaskDecl) (m : List ℕ)
      → Reaches (begun_by phase past done ds m) [] (record { begun = phase + 1; past = past; tasks = done ++ (run_all P fuel phase ds m).tasks; memory = (run_all P fuel phase ds m).memory })
  all-run phase past done [] m = stays (begun_by phase past done [] m)
  all-run phase past done (d ∷ ds) m =
      let W : Flat = begun_by phase past done (d ∷ ds) m in
      let r : Started = fresh phase d in
      let s : At = segment P fuel (at_memory r m) in
      let rest : Ran = run_all P fuel phase ds s.memory in
      let tasks_then : with_task W (length done) s ≡ begun_by phase past (done ++ s.task ∷ []) ds s.memory =
      ap (λ (ts : List Started). record { begun = phase + 1; past = past; tasks = ts; memory = s.memory })
      (set_at done r (map (fresh phase) ds) s.task (length done) refl ∙ sym (append_assoc done (s.task ∷ []) (map (fresh phase) ds))) in
      let whole : (record { begun = phase + 1; past = past; tasks = (done ++ s.task ∷ []) ++ rest.tasks; memory = rest.memory })
      ≡ (record { begun = phase + 1; past = past; tasks = done ++ (run_all P fuel phase (d ∷ ds) m).tasks; memory = (run_all P fuel phase (d ∷ ds) m).memory }) =
      ap (λ (ts : List Started). record { begun = phase + 1; past = past; tasks = ts; memory = rest.memory }) (append_assoc done (s.task ∷ []) rest.tasks) in
      becomes W _ _ [] whole
      (on W (begun_by phase past (done ++ s.task ∷ []) ds s.memory) (record { begun = phase + 1; past = past; tasks = (done ++ s.task ∷ []) ++ rest.tasks; memory = rest.memory }) [] []
      (becomes W (with_task W (length done) s) (begun_by phase past (done ++ s.task ∷ []) ds s.memory) [] tasks_then (segment-reached W (length done) r (at-length done (map (fresh phase) ds) r)))
      (all-run phase past (done ++ s.task ∷ []) ds s.memory))

  phase-next : (F : Flat) (p : Phase) → slice_get P.phases F.begun ≡ Some p → list_all has_finished F.tasks ≡ true → next_phase P F ≡ Some p
  phase-next F p there done = let choice : Bool → Option Phase = λ b. if b then slice_get P.phases F.begun else None in ap choice done ∙ there

  begin-reached : (F : Flat) (p : Phase) → next_phase P F ≡ Some p → Reaches F [] (begin P fuel p F)
  unfolding begin
  begin-reached F p next =
      on F (with_phase F p) (begin_with F (run_all P fuel F.begun p.tasks F.memory)) [] []
      (one F (with_phase F p) begins [] (ap (phase_begun F) next) refl) (all-run F.begun (F.past ++ F.tasks) [] p.tasks F.memory)

  settled-reached : (W F : Flat) (gs : List Grant) → Reaches W gs F → Reaches W gs (settled P fuel F)
  settled-reached W F gs h =
      settled-kept P fuel (Reaches W gs) F (record {
        keeps = λ p G there done reached.
            subst (λ (xs : List Grant). Reaches W xs (begin P fuel p G)) (append-nil gs) (on W G (begin P fuel p G) gs [] reached (begin-reached G p (phase-next G p there done)));
      }) h

  -- ---- a grant

  inside : (p : Started → Bool) (xs : List Started) (i : ℕ) → position p xs ≡ Some i → (r : Started) × (slice_get xs i ≡ Some r) × (p r ≡ true)
  inside p [] i e = absurd (none-some i e)
  inside p (x ∷ xs) i e =
      let at' = position-Some p (x ∷ xs) i x e in
      (get_or (x ∷ xs) i x, slice_get-get_or (x ∷ xs) i x at'.0, at'.1)

  -- the grant that a task takes is that of its lock
  its-grant : (tasks : List Started) (g : Grant) (r : Started) → Takes P fuel tasks g r → grant_of r g.lock ≡ g
  its-grant tasks g r t =
      let phase : r.phase ≡ g.phase = ap (λ (n : ℕ). record { 0 = n }) t.phase in
      ap (λ (x : PhaseId). record { phase = x; core = r.decl.core; lock = g.lock }) phase ∙ ap (λ (c : CoreId). record { phase = g.phase; core = c; lock = g.lock }) t.named

  granted-reached : (F G : Flat) (g : Grant) → granted P fuel g F ≡ Some G → Reaches F (g ∷ []) G
  unfolding granted
  granted-reached F G g e = by_place (position (can_take P fuel F.tasks g) F.tasks) refl e where
    by_task : (i : ℕ) (r : Started) → slice_get F.tasks i ≡ Some r → Takes P fuel F.tasks g r → settled P fuel (resumed P fuel F i (slice_get F.tasks i)) ≡ G → Reaches F (g ∷ []) G
    by_task i r there t is =
        let W : Flat = world_after_grant P F i r in
        let next : Flat = with_task F i (go_on P fuel r F.memory) in
        let took : move_made P fuel F (acts i) ≡ Some W =
        ap (instruction_at P fuel F i) there ∙ ap (instruction P fuel F i r) t.waits ∙ ap (λ (b : Bool). if b then Some W else None) t.free in
        let lock : locks_taken P fuel F (acts i) ≡ g ∷ [] = ap (lock_taken_at P fuel) there ∙ ap (lock_taken_by r) t.waits ∙ ap (λ (x : Grant). x ∷ []) (its-grant F.tasks g r t) in
        let run : Reaches W [] (with_task W i (segment P fuel (at_memory (past_acquire P r) F.memory))) = segment-reached W i (past_acquire P r) (placed F i r (at_memory (past_acquire P r) F.memory) there) in
        let same : with_task W i (segment P fuel (at_memory (past_acquire P r) F.memory)) ≡ next = twice F i (at_memory (past_acquire P r) F.memory) (go_on P fuel r F.memory) in
        let here : settled P fuel next ≡ G = ap (λ (o : Option Started). settled P fuel (resumed P fuel F i o)) (sym there) ∙ is in
        becomes F (settled P fuel next) G (g ∷ []) here
        (settled-reached F next (g ∷ []) (on F W next (g ∷ []) [] (one F W (acts i) (g ∷ []) took lock) (becomes W (with_task W i (segment P fuel (at_memory (past_acquire P r) F.memory))) next [] same run)))

    by_place : (o : Option ℕ) → position (can_take P fuel F.tasks g) F.tasks ≡ o → granted_at P fuel F o ≡ Some G → Reaches F (g ∷ []) G
    by_place None at' e = absurd (none-some G e)
    by_place (Some i) at' e =
        let r = inside (can_take P fuel F.tasks g) F.tasks i at' in
        by_task i r.0 r.1 (takes P fuel F.tasks g r.0 r.2) (same_Some (settled P fuel (resumed P fuel F i (slice_get F.tasks i))) G e)

  none-granted : (gs : List Grant) (G : Flat) → grants_from P fuel None gs ≡ Some G → ⊥
  none-granted [] G is = none-some G is
  none-granted (g ∷ gs) G is = none-granted gs G is

  grants-reached : (gs : List Grant) (F G : Flat) → grants_from P fuel (Some F) gs ≡ Some G → Reaches F gs G
  grants-reached [] F G is = becomes F F G [] (same_Some F G is) (stays F)
  grants-reached (g ∷ gs) F G is = by_next (λ H rest. grants-reached gs H G rest) (granted P fuel g F) refl is where
    by_next : ((H : Flat) → grants_from P fuel (Some H) gs ≡ Some G → Reaches H gs G) → (o : Option Flat) → granted P fuel g F ≡ o → grants_from P fuel o gs ≡ Some G → Reaches F (g ∷ gs) G
    by_next further None took is = absurd (none-granted gs G is)
    by_next further (Some H) took is = on F H G (g ∷ []) gs (granted-reached F H g took) (further H is)

  opened-reached : Reaches (initial P) [] (initial_flat P fuel)
  unfolding initial_flat
  opened-reached = settled-reached (initial P) (initial P) [] (stays (initial P))

  so-far-reached : (gs : List Grant) (G : Flat) → so_far P fuel gs ≡ Some G → Reaches (initial P) gs G
  so-far-reached gs G is = on (initial P) (initial_flat P fuel) G [] gs opened-reached (grants-reached gs (initial_flat P fuel) G is)

  -- ---- the end

  granted-last : (F G : Flat) (g : Grant) → granted P fuel g F ≡ Some G → next_phase P G ≡ None
  unfolding granted
  granted-last F G g e = by_place (position (can_take P fuel F.tasks g) F.tasks) e where
    by_place : (o : Option ℕ) → granted_at P fuel F o ≡ Some G → next_phase P G ≡ None
    by_place None e = absurd (none-some G e)
    by_place (Some i) e =
        let F' : Flat = resumed P fuel F i (slice_get F.tasks i) in
        ap (next_phase P) (sym (same_Some (settled P fuel F') G e)) ∙ settled-last P fuel F'

  -- no phase can begin after a list of grants
  no-phase-from : (gs : List Grant) (F G : Flat) → next_phase P F ≡ None → grants_from P fuel (Some F) gs ≡ Some G → next_phase P G ≡ None
  no-phase-from [] F G none is = ap (next_phase P) (sym (same_Some F G is)) ∙ none
  no-phase-from (g ∷ gs) F G none is = by_next (λ H last rest. no-phase-from gs H G last rest) (granted P fuel g F) refl is where
    by_next : ((H : Flat) → next_phase P H ≡ None → grants_from P fuel (Some H) gs ≡ Some G → next_phase P G ≡ None)
        → (o : Option Flat) → granted P fuel g F ≡ o → grants_from P fuel o gs ≡ Some G → next_phase P G ≡ None
    by_next further None took is = absurd (none-granted gs G is)
    by_next further (Some H) took is = further H (granted-last F H g took) is

  no-phase : (gs : List Grant) (G : Flat) → so_far P fuel gs ≡ Some G → next_phase P G ≡ None
  unfolding initial_flat
  no-phase gs G is = no-phase-from gs (settled P fuel (initial P)) G (settled-last P fuel (initial P)) is

  -- in a whole run no task can take a lock
  none-first : (tasks rs : List Started) → first_grant P fuel tasks rs ≡ None → (i : ℕ) (r : Started) → slice_get rs i ≡ Some r → grant_for P fuel tasks r ≡ None
  none-first tasks [] none i r there = absurd (none-some r there)
  none-first tasks (x ∷ rs) none i r there = by_head (λ rest j here. none-first tasks rs rest j r here) (grant_for P fuel tasks x) refl none i there where
    by_head : (first_grant P fuel tasks rs ≡ None → (j : ℕ) → slice_get rs j ≡ Some r → grant_for P fuel tasks r ≡ None)
        → (o : Option Grant) → grant_for P fuel tasks x ≡ o → option_or o (first_grant P fuel tasks rs) ≡ None → (i : ℕ) → slice_get (x ∷ rs) i ≡ Some r → grant_for P fuel tasks r ≡ None
    by_head further (Some g) head none i there = absurd (none-some g (sym none))
    by_head further None head none zero there = ap (grant_for P fuel tasks) (sym (same_Some x r there)) ∙ head
    by_head further None head none (suc i) there = further none i there

  over-by : (F : Flat) (i : ℕ) (r : Started) (n : Option Need) → EndsSegment n → grant_by F.tasks r n ≡ None → instruction P fuel F i r n ≡ None
  over-by F i r None rest none = refl
  over-by F i r (Some (need.TheVariants.Acquire lock)) rest none = by_free (is_free F.tasks lock.0) none where
    by_free : (b : Bool) → (if b then Some (grant_of r lock) else None) ≡ None → (if b then Some (world_after_grant P F i r) else None) ≡ None
    by_free true none = absurd (none-some (grant_of r lock) (sym none))
    by_free false none = refl
  over-by F i r (Some need.TheVariants.Local) rest none = absurd rest
  over-by F i r (Some (need.TheVariants.Load word)) rest none = absurd rest
  over-by F i r (Some (need.TheVariants.Store word whole)) rest none = absurd rest
  over-by F i r (Some (need.TheVariants.Release lock)) rest none = absurd rest
  over-by F i r (Some (need.TheVariants.End cause)) rest none = absurd rest

  no-next : (F : Flat) → grants_are_whole P fuel F ≡ true → first_grant P fuel F.tasks F.tasks ≡ None
  unfolding next_grant
  no-next F whole = by_first (first_grant P fuel F.tasks F.tasks) whole where
    by_first : (o : Option Grant) → is_none o ≡ true → o ≡ None
    by_first None whole = refl
    by_first (Some g) whole = absurd (cc)

  is-over : (gs : List Grant) (F : Flat) → so_far P fuel gs ≡ Some F → grants_are_whole P fuel F ≡ true → HasNoMove P fuel F
  is-over gs F is whole (acts i) = by_task (slice_get F.tasks i) refl where
    resting : IsResting P fuel F
    resting = run-resting P fuel gs F is

    by_task : (o : Option Started) → slice_get F.tasks i ≡ o → instruction_at P fuel F i o ≡ None
    by_task None there = refl
    by_task (Some r) there =
        let settled_task : HasSettled P fuel r = subst (HasSettled P fuel) (get_or_from_slice_get F.tasks i r r there) (resting.tasks i r (slice_get_within F.tasks i r there)) in
        over-by F i r (wish P fuel r) settled_task.rest (none-first F.tasks F.tasks (no-next F whole) i r there)
  is-over gs F is whole begins = ap (phase_begun F) (no-phase gs F is)

  pub flat-interleaves : (gs : List Grant) (e : FlatEnd) → flat_end P fuel gs ≡ Some e → IsInterleaving P fuel gs e
  unfolding flat_end
  flat-interleaves gs e is = by_run (so_far P fuel gs) refl is where
    by_whole : (F : Flat) → so_far P fuel gs ≡ Some F → (b : Bool) → grants_are_whole P fuel F ≡ b → (if b then Some (flat_end_of P fuel F) else None) ≡ Some e → IsInterleaving P fuel gs e
    by_whole F run false whole is = absurd (none-some e is)
    by_whole F run true whole is =
        let reached : Reaches (initial P) gs F = so-far-reached gs F run in
        record {
          moves = reached.moves;
          last = F;
          leads = reached.leads;
          over = is-over gs F run whole;
          locks = reached.locks;
          shows = same_Some (flat_end_of P fuel F) e is;
        }

    by_run : (o : Option Flat) → so_far P fuel gs ≡ o → whole_only P fuel o ≡ Some e → IsInterleaving P fuel gs e
    by_run None run is = absurd (none-some e is)
    by_run (Some F) run is = by_whole F run (grants_are_whole P fuel F) refl is
