-- Each load of the one thread is made, in a state to which moves of the interleaving machine lead, by a load of its word, which a line of
-- the text gives.
use Rattle.std.proofs.Common.{◌≡◌, ℕ, ℤ, zero, suc, ◌+◌, ◌-◌, ◌/◌, ◌%◌, ◌<◌, Bool, true, false, ◌&&◌, nat_le, ◌==◌, cond, if◌then◌else◌, List, [], ◌∷◌, ◌++◌, length, map, get_or, take, drop, position, count_by, slice_get, slice_index, Option, Some, None, Ok, refl, sym, ap, ◌∙◌, subst, append_assoc, length-append, length-drop, arith}
use Rattle.std.specs.List.{IsAmong, list_all}
use Rattle.std.proofs.lemmas.List.{take-append-drop, take_more, drop_more, set_at}
use Rattle.std.proofs.lemmas.List.Quantifiers.{position-Some}
use Rattle.std.proofs.lemmas.List.Sums.{sum_by-cons}
use Rattle.std.proofs.lemmas.Option.{none-some, slice_get_within, slice_get-get_or}
use Rattle.dn_base.specs.declared.ids.CoreId.{CoreId}
use Rattle.dn_base.specs.declared.ids.Grant.{Grant}
use Rattle.dn_base.specs.declared.ids.PhaseId.{PhaseId}
use Rattle.dn_base.specs.declared.ids.WordId.{WordId}
use Rattle.region_table.specs.Program.{ProgramParts}
use Rattle.region_table.specs.declared.declared.TaskDecl.{TaskDecl}
use Rattle.region_table.specs.declared.declared.Phase.{Phase}
use Rattle.rv_isa.specs.Encoding.{decoded}
use Rattle.rv_isa.specs.Meaning.{taken_of}
use Rattle.rv_isa.specs.declared.instr.Instr as instr
use Rattle.rv_isa.specs.declared.instr.Instr.{Instr}
use Rattle.rv_isa.specs.declared.instr.Width.{Width}
use Rattle.rv_core.specs.declared.task.TaskState.{TaskState}
use Rattle.rv_core.specs.declared.need.Need.{Need}
use Rattle.rv_core.specs.declared.need.Need as need
use Rattle.rv_core.specs.declared.need.Need.TheVariants.{Load}
use Rattle.rv_core.specs.Access.{may_load}
use Rattle.rv_core.specs.Address.{code_at, data_at, size_of, is_whole}
use Rattle.rv_core.specs.Registers.{value_in}
use Rattle.rv_core.specs.Need.{fetch_need, word_need, instr_need, load_need, address_of, jump_target, register_target}
use Rattle.rv_core.proofs.Needs.{neither, first_taken, fuelled, no_jump, no_store, no_call}
use Rattle.rv_assembler.specs.Source.{source}
use Rattle.text_places.specs.declared.places.CodePlace.{CodePlace}
use Rattle.text_places.specs.Places.{text_places}
use Rattle.text_places.proofs.LineLemmas.{all-code, code-of_line}
use Rattle.flat_machine.specs.declared.accesses.AccessKind as kind
use Rattle.flat_machine.specs.declared.accesses.FlatAccess.{FlatAccess}
use Rattle.flat_machine.specs.declared.accesses.FlatAction.{FlatAction}
use Rattle.flat_machine.specs.declared.accesses.FlatAction.TheVariants.{Accesses, Takes}
use Rattle.flat_machine.specs.declared.ending.TaskLoads.{TaskLoads}
use Rattle.flat_machine.specs.Laws.{at_memory}
use Rattle.flat_machine.specs.Step.{Started, At, fresh, wish, flat_step, flat_steps, segment}
use Rattle.flat_machine.specs.Phases.{Flat, Ran, run_all, begin, has_finished, next_phase, settle, settled, initial, initial_flat}
use Rattle.flat_machine.specs.Grants.{can_take, grant_of, go_on, with_task, resumed, granted, granted_at}
use Rattle.flat_machine.specs.Accesses.{flat_access, actions_by, actions_at, actions_in, segment_actions, begun_at, run_actions, begin_actions, settle_actions, settled_actions, initial_actions, resumed_actions, granted_actions_at, granted_actions, grants_actions, actions_so_far}
use Rattle.flat_machine.proofs.LegalLaws.{Takes as TakesGrant, takes, found}
use Rattle.flat_machine.proofs.PhaseLemmas.{begin-begun}
use Rattle.flat_machine.proofs.Rights.{wish-need}
use Rattle.flat_machine.proofs.SettleLaws.{next-left}
use Rattle.run_agreement.specs.Worlds.{past_acquire, world_after_grant, with_phase}
use Rattle.run_agreement.specs.Interleaving.{acts, begins, instruction, instruction_at, phase_begun, move_made, lock_taken_by, lock_taken_at, locks_taken}
use Rattle.claims.specs.declared.diagnosis.WrongLoad.{WrongLoad}
use Rattle.claims.specs.Diagnosis.{is_take}
use Rattle.claims.specs.DiagnosisLaws.{IsReachedBy, IsLoadAt, HasLine, IsFirstToDiffer}
use Rattle.claims.proofs.Reached.{placed, reached-first, reached-next, reached-freely, reached-step}

-- ---- an instruction that loads

-- the instruction is a load of this word
record IsLoadOf (P : ProgramParts) (t : TaskState) (word : ℕ) (i : Instr) : Type 0 where
  width : Width
  rd : ℕ
  base : ℕ
  offset : ℤ
  is : i ≡ instr.TheVariants.Load width rd base offset
  of : data_at (length P.memory) (address_of t base offset) ≡ Some word

abbrev Loads : WordId → Need → Type 0
Loads word n = n ≡ Load word

same-load : (v w : WordId) → Load v ≡ Load w → v.0 ≡ w.0
same-load v w is = ap number is
  where
    number : Need → ℕ
    number (Load x) = x.0
    number _ = v.0

loaded-word : (d : TaskDecl) (t : TaskState) (address : ℕ) (word : WordId) (o : Option ℕ) → Loads word (load_need d t address o) → o ≡ Some word.0
loaded-word d t address word None is = absurd (cc)
loaded-word d t address word (Some v) is =
    let taken = first_taken (Loads word) (may_load d t.held v) (Load (record { 0 = v })) _ (λ e. cc) is in
    ap Some (same-load (record { 0 = v }) word taken.1)

module _ (P : ProgramParts) (d : TaskDecl) (t : TaskState) (word : WordId) where
  no-local : Loads word need.TheVariants.Local → ⊥
  no-local is = cc

  no-end : (c : _) → Loads word (need.TheVariants.End c) → ⊥
  no-end c is = cc

  load-instr : (i : Instr) → Loads word (instr_need P d t i) → IsLoadOf P t word.0 i
  load-instr (instr.TheVariants.Lui rd imm) is = absurd (no-local is)
  load-instr (instr.TheVariants.Auipc rd imm) is = absurd (no-local is)
  load-instr (instr.TheVariants.Jal rd offset) is = absurd (no_jump (Loads word) t (jump_target t offset) no-local no-end is)
  load-instr (instr.TheVariants.Jalr rd base offset) is = absurd (no_jump (Loads word) t (register_target t base offset) no-local no-end is)
  load-instr (instr.TheVariants.Branch test a b offset) is =
      absurd (neither (Loads word) (taken_of test (value_in t.regs a) (value_in t.regs b)) _ _ (no_jump (Loads word) t (jump_target t offset) no-local no-end) no-local is)
  load-instr (instr.TheVariants.Load width rd base offset) is =
      let address = address_of t base offset in
      let need_is = (first_taken (Loads word) (address % size_of width == 0) _ _ (no-end _) is).1 in
      record { width = width; rd = rd; base = base; offset = offset; is = refl; of = loaded-word d t address word (data_at (length P.memory) address) need_is }
  load-instr (instr.TheVariants.Store width src base offset) is =
      let address = address_of t base offset in
      absurd (neither (Loads word) (address % size_of width == 0) _ _ (no_store (Loads word) d t (is_whole width) address (data_at (length P.memory) address) (λ x y z. cc) no-end) (no-end _) is)
  load-instr (instr.TheVariants.OpImm op rd a imm) is = absurd (no-local is)
  load-instr (instr.TheVariants.Op op rd a b) is = absurd (no-local is)
  load-instr instr.TheVariants.Fence is = absurd (no-local is)
  load-instr instr.TheVariants.Ecall is =
      absurd (no_call (Loads word) P t (slice_index t.regs 17) (slice_index t.regs 10) (λ x y. cc) (λ x y. cc) no-end is)
  load-instr instr.TheVariants.Ebreak is = absurd (no-end _ is)

  -- the code word at the program counter
  record IsFetched (o : Option ℕ) : Type 0 where
    code : ℕ
    there : o ≡ Some code
    instruction : Instr
    decodes : decoded code ≡ Some instruction
    loads : IsLoadOf P t word.0 instruction

  fetched : (o : Option ℕ) → Loads word (fetch_need P d t o) → IsFetched o
  fetched None is = absurd (no-end _ is)
  fetched (Some code) is = by_decoded (decoded code) refl is
    where
      by_decoded : (i : Option Instr) → decoded code ≡ i → Loads word (word_need P d t code i) → IsFetched (Some code)
      by_decoded None e is = absurd (no-end _ is)
      by_decoded (Some i) e is = record { code = code; there = refl; instruction = i; decodes = e; loads = load-instr i is }

-- a task whose next instruction loads does so in the state in which it stands
load-at : (P : ProgramParts) (fuel : ℕ) (gs : List Grant) (W : Flat) (i : ℕ) (r : Started) (word : WordId) → IsReachedBy P fuel gs W → slice_get W.tasks i ≡ Some r → wish P fuel r ≡ Some (Load word)
    → IsLoadAt P fuel gs (flat_access r kind.TheVariants.Load word (slice_index W.memory word.0))
load-at P fuel gs W i r word reached there wished =
    let t : TaskState = r.state in
    let needs = wish-need P fuel r (Load word) wished in
    let fetch = (fuelled P r.decl fuel t (Loads word) (λ is. cc) needs).1 in
    let read = fetched P r.decl t word (code_at P.code t.pc) fetch in
    let l = read.loads in
    record {
      state = W;
      reached = reached;
      place = i;
      task = r;
      found = there;
      does = ap (actions_by P (at_memory r W.memory)) wished;
      phase = refl;
      core = refl;
      number = refl;
      stands = refl;
      code = read.code;
      there = read.there;
      width = l.width;
      rd = l.rd;
      base = l.base;
      offset = l.offset;
      loads = read.decodes ∙ ap Some l.is;
      of = l.of;
      reads = refl;
    }

-- ---- the loads of the thread

module _ (P : ProgramParts) (fuel : ℕ) (all : List Grant) where
  -- some moves that take the first k grants lead to the state
  abbrev Reached : ℕ → Flat → Type 0
  Reached k W = IsReachedBy P fuel (take k all) W

  -- each load among the actions is made in a state to which the grants before it lead, if k grants were taken before all
  abbrev AreMade : ℕ → List FlatAction → Type 0
  AreMade k [] = Unit {0}
  AreMade k (Takes g ∷ xs) = AreMade (k + 1) xs
  AreMade k (Accesses a ∷ xs) = (a.kind ≡ kind.TheVariants.Load → IsLoadAt P fuel (take k all) a) × AreMade k xs

  -- ---- a segment

  made-at : (k : ℕ) (W : Flat) (i : ℕ) (s : At) (xs : List FlatAction) → i < length W.tasks → Reached k (with_task W i s) → AreMade k xs → AreMade k (actions_at P fuel s ++ xs)
  made-at k W i s xs inside h rest = by_wish (wish P fuel s.task) refl
    where
      by_wish : (o : Option Need) → wish P fuel s.task ≡ o → AreMade k (actions_by P s o ++ xs)
      by_wish None is = rest
      by_wish (Some need.TheVariants.Local) is = rest
      by_wish (Some (need.TheVariants.Load word)) is = ((λ loads. load-at P fuel (take k all) (with_task W i s) i s.task word h (placed P fuel W i s inside) is), rest)
      by_wish (Some (need.TheVariants.Store word whole)) is = ((λ loads. absurd (cc)), rest)
      by_wish (Some (need.TheVariants.Acquire lock)) is = rest
      by_wish (Some (need.TheVariants.Release lock)) is = rest
      by_wish (Some (need.TheVariants.End by)) is = rest

  made-in : (n k : ℕ) (W : Flat) (i : ℕ) (s : At) (xs : List FlatAction) → i < length W.tasks → Reached k (with_task W i s) → (Reached k (with_task W i (flat_steps P fuel n s)) → AreMade k xs)
      → AreMade k (actions_in P fuel n s ++ xs)
  made-in zero k W i s xs inside h on = on h
  made-in (suc n) k W i s xs inside h on =
      let t : At = flat_step P fuel s in
      subst (AreMade k) (sym (append_assoc (actions_at P fuel s) (actions_in P fuel n t) xs))
      (made-at k W i s (actions_in P fuel n t ++ xs) inside h (made-in n k W i t xs inside (reached-step P fuel (take k all) W i s inside h) on))

  made-segment : (k : ℕ) (W : Flat) (i : ℕ) (s : At) (xs : List FlatAction) → i < length W.tasks → Reached k (with_task W i s) → (Reached k (with_task W i (segment P fuel s)) → AreMade k xs)
      → AreMade k (segment_actions P fuel s ++ xs)
  unfolding segment_actions segment
  made-segment k W i s xs inside h on = made-in (suc fuel) k W i s xs inside h on

  -- ---- a phase

  -- the state in which some tasks of a phase have run their first segments, and these others haven't begun
  abbrev begun_by : ℕ → List Started → List Started → List TaskDecl → List ℕ → Flat
  begun_by phase past done ds m = record { begun = phase + 1; past = past; tasks = done ++ map (fresh phase) ds; memory = m }

  -- the state in which all of them have
  abbrev begun_after : ℕ → List Started → List Started → Ran → Flat
  begun_after phase past done ran = record { begun = phase + 1; past = past; tasks = done ++ ran.tasks; memory = ran.memory }

  made-run : (k phase : ℕ) (past done : List Started) (ds : List TaskDecl) (m : List ℕ) (xs : List FlatAction) → Reached k (begun_by phase past done ds m)
      → (Reached k (begun_after phase past done (run_all P fuel phase ds m)) → AreMade k xs) → AreMade k (run_actions P fuel phase ds m ++ xs)
  made-run k phase past done [] m xs h on = on h
  made-run k phase past done (d ∷ ds) m xs h on =
      subst (AreMade k) (sym (append_assoc (segment_actions P fuel s) (run_actions P fuel phase ds t.memory) xs))
      (made-segment k W (length done) s (run_actions P fuel phase ds t.memory ++ xs) inside (subst (Reached k) (sym (placed-in s)) h)
      (λ g. made-run k phase past (done ++ t.task ∷ []) ds t.memory xs (subst (Reached k) (placed-in t ∙ joined) g) (λ l. on (subst (Reached k) whole l))))
    where
      W : Flat
      W = begun_by phase past done (d ∷ ds) m

      s : At
      s = begun_at phase d m

      t : At
      t = segment P fuel s

      ran : Ran
      ran = run_all P fuel phase ds t.memory

      inside : length done < length W.tasks
      inside = omega (arith, length-append done (map (fresh phase) (d ∷ ds)))

      placed-in : (x : At) → with_task W (length done) x ≡ record { begun = phase + 1; past = past; tasks = done ++ x.task ∷ map (fresh phase) ds; memory = x.memory }
      placed-in x =
          ap (λ (ts : List Started). record { begun = phase + 1; past = past; tasks = ts; memory = x.memory })
          (set_at done (fresh phase d) (map (fresh phase) ds) x.task (length done) refl)

      joined : record { begun = phase + 1; past = past; tasks = done ++ t.task ∷ map (fresh phase) ds; memory = t.memory } ≡ begun_by phase past (done ++ t.task ∷ []) ds t.memory
      joined =
          ap (λ (ts : List Started). record { begun = phase + 1; past = past; tasks = ts; memory = t.memory }) (sym (append_assoc done (t.task ∷ []) (map (fresh phase) ds)))

      whole : begun_after phase past (done ++ t.task ∷ []) ran ≡ begun_after phase past done (run_all P fuel phase (d ∷ ds) m)
      whole = ap (λ (ts : List Started). record { begun = phase + 1; past = past; tasks = ts; memory = ran.memory }) (append_assoc done (t.task ∷ []) ran.tasks)

  made-begin : (k : ℕ) (F : Flat) (p : Phase) (xs : List FlatAction) → next_phase P F ≡ Some p → Reached k F → (Reached k (begin P fuel p F) → AreMade k xs) → AreMade k (begin_actions P fuel p F ++ xs)
  unfolding begin
  made-begin k F p xs next h on =
      made-run k F.begun (F.past ++ F.tasks) [] p.tasks F.memory xs (reached-freely P fuel (take k all) F (with_phase F p) begins h (ap (phase_begun F) next) refl) on

  made-settle : (k : ℕ) (left : List Phase) (F : Flat) (xs : List FlatAction) → drop F.begun P.phases ≡ left → Reached k F → (Reached k (settle P fuel left F) → AreMade k xs)
      → AreMade k (settle_actions P fuel left F ++ xs)
  made-settle k [] F xs is h on = on h
  made-settle k (p ∷ left) F xs is h on = by_test (λ behind g. made-settle k left (begin P fuel p F) xs behind g) (list_all has_finished F.tasks) refl on
    where
      by_test : (drop (begin P fuel p F).begun P.phases ≡ left → Reached k (begin P fuel p F) → (Reached k (settle P fuel left (begin P fuel p F)) → AreMade k xs) → AreMade k (settle_actions P fuel left (begin P fuel p F) ++ xs))
          → (b : Bool) → list_all has_finished F.tasks ≡ b → (Reached k (if b then settle P fuel left (begin P fuel p F) else F) → AreMade k xs)
          → AreMade k ((if b then begin_actions P fuel p F ++ settle_actions P fuel left (begin P fuel p F) else []) ++ xs)
      by_test later false done on = on h
      by_test later true done on =
          let next = next-left P F p left is in
          let choice : Bool → Option Phase = λ b. if b then slice_get P.phases F.begun else None in
          let behind : drop (begin P fuel p F).begun P.phases ≡ left = ap (λ (n : ℕ). drop n P.phases) (begin-begun P fuel p F) ∙ next.behind in
          subst (AreMade k) (sym (append_assoc (begin_actions P fuel p F) (settle_actions P fuel left (begin P fuel p F)) xs))
          (made-begin k F p (settle_actions P fuel left (begin P fuel p F) ++ xs) (ap choice done ∙ next.there) h (λ g. later behind g on))

  -- ---- a grant

  -- one more grant is taken, where it is the first of those that are left
  left-parts : (k : ℕ) (g : Grant) (gs : List Grant) → drop k all ≡ g ∷ gs → (k < length all) × (g ∷ gs ≡ get_or all k g ∷ drop (k + 1) all)
  left-parts k g gs left =
      let short = length-drop k all in
      let more = ap length left in
      let within : k < length all = omega arith in
      (within, sym left ∙ drop_more all k g within)

  front-more : (k : ℕ) (g : Grant) (gs : List Grant) → drop k all ≡ g ∷ gs → take k all ++ g ∷ [] ≡ take (k + 1) all
  front-more k g gs left =
      let parts = left-parts k g gs left in
      let first : List Grant → Grant = λ l. get_or l 0 g in
      ap (λ (x : Grant). take k all ++ x ∷ []) (ap first parts.1) ∙ sym (take_more all k g parts.0)

  left-more : (k : ℕ) (g : Grant) (gs : List Grant) → drop k all ≡ g ∷ gs → drop (k + 1) all ≡ gs
  left-more k g gs left = sym (ap (drop 1) (left-parts k g gs left).1)

  -- the grant that a task takes is that of its lock
  its-grant : (F : Flat) (g : Grant) (r : Started) → TakesGrant P fuel F.tasks g r → grant_of r g.lock ≡ g
  its-grant F g r t =
      let phase : r.phase ≡ g.phase = ap (λ (n : ℕ). record { 0 = n }) t.phase in
      ap (λ (x : PhaseId). record { phase = x; core = r.decl.core; lock = g.lock }) phase ∙ ap (λ (c : CoreId). record { phase = g.phase; core = c; lock = g.lock }) t.named

  -- what follows the grant to the task at place i, and the actions of the grants behind it
  abbrev goes_on : Flat → ℕ → List Grant → Option Started → List FlatAction
  goes_on F i gs o =
      (resumed_actions P fuel F o ++ settled_actions P fuel (resumed P fuel F i o)) ++ grants_actions P fuel (Some (settled P fuel (resumed P fuel F i o))) gs

  made-taken : (k : ℕ) (F : Flat) (g : Grant) (gs : List Grant) → drop k all ≡ g ∷ gs → ((V : Flat) → Reached (k + 1) V → AreMade (k + 1) (grants_actions P fuel (Some V) gs)) → Reached k F
      → (i : ℕ) (r : Started) → i < length F.tasks → slice_get F.tasks i ≡ Some r → TakesGrant P fuel F.tasks g r → AreMade (k + 1) (goes_on F i gs (Some r))
  made-taken k F g gs left further h i r inside there t =
      let s : At = at_memory (past_acquire P r) F.memory in
      let W : Flat = world_after_grant P F i r in
      let V : Flat = with_task F i (go_on P fuel r F.memory) in
      let rest : List FlatAction = grants_actions P fuel (Some (settled P fuel V)) gs in
      let took : move_made P fuel F (acts i) ≡ Some W =
      ap (instruction_at P fuel F i) there ∙ ap (instruction P fuel F i r) t.waits ∙ ap (λ (b : Bool). if b then Some W else None) t.free in
      let lock : locks_taken P fuel F (acts i) ≡ g ∷ [] = ap (lock_taken_at P fuel) there ∙ ap (lock_taken_by r) t.waits ∙ ap (λ (x : Grant). x ∷ []) (its-grant F g r t) in
      let now : Reached (k + 1) W = subst (λ (l : List Grant). IsReachedBy P fuel l W) (front-more k g gs left) (reached-next P fuel (take k all) (g ∷ []) F W (acts i) h took lock) in
      subst (AreMade (k + 1)) (sym (append_assoc (segment_actions P fuel s) (settled_actions P fuel V) rest))
      (made-segment (k + 1) F i s (settled_actions P fuel V ++ rest) inside now
      (λ l. made-settle (k + 1) (drop V.begun P.phases) V rest refl l (λ m. further (settled P fuel V) m)))

  none-made : (k : ℕ) (gs : List Grant) → AreMade k (grants_actions P fuel None gs)
  none-made k [] = tt
  none-made k (g ∷ gs) = tt

  made-granted : (k : ℕ) (F : Flat) (g : Grant) (gs : List Grant) → drop k all ≡ g ∷ gs → ((V : Flat) → Reached (k + 1) V → AreMade (k + 1) (grants_actions P fuel (Some V) gs)) → Reached k F
      → AreMade k (granted_actions P fuel g F ++ grants_actions P fuel (granted P fuel g F) gs)
  unfolding granted_actions granted
  made-granted k F g gs left further h = by_place (position (can_take P fuel F.tasks g) F.tasks) refl
    where
      by_place : (o : Option ℕ) → position (can_take P fuel F.tasks g) F.tasks ≡ o → AreMade k (granted_actions_at P fuel g F o ++ grants_actions P fuel (granted_at P fuel F o) gs)
      by_place None at' = none-made k gs
      by_place (Some i) at' =
          let d : Started = (found (can_take P fuel F.tasks g) F.tasks i at').0 in
          let here = position-Some (can_take P fuel F.tasks g) F.tasks i d at' in
          let r : Started = get_or F.tasks i d in
          let there : slice_get F.tasks i ≡ Some r = slice_get-get_or F.tasks i d here.0 in
          subst (λ (o : Option Started). AreMade (k + 1) (goes_on F i gs o)) (sym there) (made-taken k F g gs left further h i r here.0 there (takes P fuel F.tasks g r here.1))

  made-grants : (gs : List Grant) (k : ℕ) (F : Flat) → drop k all ≡ gs → Reached k F → AreMade k (grants_actions P fuel (Some F) gs)
  made-grants [] k F left h = tt
  made-grants (g ∷ gs) k F left h = made-granted k F g gs left (λ V l. made-grants gs (k + 1) V (left-more k g gs left) l) h

  made-all : AreMade 0 (actions_so_far P fuel all)
  unfolding actions_so_far initial_actions initial_flat
  made-all =
      made-settle 0 (drop 0 P.phases) (initial P) (grants_actions P fuel (Some (settled P fuel (initial P))) all) refl (reached-first P fuel)
      (λ l. made-grants all 0 (settled P fuel (initial P)) refl l)

  -- the load behind some actions
  made-behind : (before behind : List FlatAction) (a : FlatAccess) (k : ℕ) → AreMade k (before ++ Accesses a ∷ behind) → a.kind ≡ kind.TheVariants.Load → IsLoadAt P fuel (take (k + count_by is_take before) all) a
  made-behind [] behind a k made loads =
      let none : count_by is_take [] ≡ 0 = refl in
      let same : k ≡ k + count_by is_take [] = omega (arith, none) in
      subst (λ (n : ℕ). IsLoadAt P fuel (take n all) a) same (made.0 loads)
  made-behind (Takes g ∷ before) behind a k made loads =
      let one : count_by is_take (Takes g ∷ before) ≡ 1 + count_by is_take before = sum_by-cons (λ (x : FlatAction). cond (is_take x) 1 0) (Takes g) before in
      let same : k + 1 + count_by is_take before ≡ k + count_by is_take (Takes g ∷ before) = omega (arith, one) in
      subst (λ (n : ℕ). IsLoadAt P fuel (take n all) a) same (made-behind before behind a (k + 1) made loads)
  made-behind (Accesses b ∷ before) behind a k made loads =
      let none : count_by is_take (Accesses b ∷ before) ≡ 0 + count_by is_take before = sum_by-cons (λ (x : FlatAction). cond (is_take x) 1 0) (Accesses b) before in
      let same : k + count_by is_take before ≡ k + count_by is_take (Accesses b ∷ before) = omega (arith, none) in
      subst (λ (n : ℕ). IsLoadAt P fuel (take n all) a) same (made-behind before behind a k made.1 loads)

pub load-made : (P : ProgramParts) (fuel : ℕ) (gs : List Grant) (before behind : List FlatAction) (a : FlatAccess) → actions_so_far P fuel gs ≡ before ++ Accesses a ∷ behind → a.kind ≡ kind.TheVariants.Load
    → IsLoadAt P fuel (take (count_by is_take before) gs) a
load-made P fuel gs before behind a parts loads =
    let same : 0 + count_by is_take before ≡ count_by is_take before = omega arith in
    subst (λ (n : ℕ). IsLoadAt P fuel (take n gs) a) same (made-behind P fuel gs before behind a 0 (subst (AreMade P fuel gs 0) parts (made-all P fuel gs)) loads)

-- the load that a diagnosis names is made behind as many grants as it says
pub named-made : (P : ProgramParts) (fuel : ℕ) (gs : List Grant) (claimed : List TaskLoads) (w : WrongLoad) → IsFirstToDiffer claimed (actions_so_far P fuel gs) w → IsLoadAt P fuel (take w.grants gs) w.load
named-made P fuel gs claimed w h =
    subst (λ (n : ℕ). IsLoadAt P fuel (take n gs) w.load) (sym h.taken) (load-made P fuel gs h.before h.behind w.load h.parts h.loads)

-- ---- its line

code-number : (code : List ℕ) (pc word : ℕ) → code_at code pc ≡ Some word → code_at code pc ≡ slice_get code ((pc - 4096) / 4)
code-number code pc word there = by_test (nat_le 4096 pc && pc % 4 == 0) there
  where
    by_test : (b : Bool) → (if b then slice_get code ((pc - 4096) / 4) else None) ≡ Some word → (if b then slice_get code ((pc - 4096) / 4) else None) ≡ slice_get code ((pc - 4096) / 4)
    by_test true e = refl
    by_test false e = absurd (none-some word e)

pub load-line : (text : List ℕ) (P : ProgramParts) (fuel : ℕ) (gs : List Grant) (a : FlatAccess) → source text ≡ Ok P → IsAmong (actions_so_far P fuel gs) (Accesses a)
    → a.kind ≡ kind.TheVariants.Load → HasLine text P a.pc
load-line text P fuel gs a is among loads =
    let actions : List FlatAction = actions_so_far P fuel gs in
    let from_it : drop among.0 actions ≡ Accesses a ∷ drop (among.0 + 1) actions =
    drop_more actions among.0 (Accesses a) among.1.0 ∙ ap (λ (x : FlatAction). x ∷ drop (among.0 + 1) actions) (sym among.1.1) in
    let parts = sym (take-append-drop among.0 actions) ∙ ap (λ (l : List FlatAction). take among.0 actions ++ l) from_it in
    let made = load-made P fuel gs (take among.0 actions) (drop (among.0 + 1) actions) a parts loads in
    let number = code-number P.code a.pc made.code made.there in
    let within = slice_get_within P.code ((a.pc - 4096) / 4) made.code (sym number ∙ made.there) in
    let many = all-code text P is in
    let d : CodePlace = record { line = 0; part = 0 } in
    let place = slice_get-get_or (text_places text).code ((a.pc - 4096) / 4) d (omega arith) in
    record { place = _; is = place; gives = code-of_line text ((a.pc - 4096) / 4) _ place; number = number }
