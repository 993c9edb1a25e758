-- Where control is apart from memory, control registers are known, so that each task alone comes to an end.
use Rattle.std.proofs.Common.{◌≡◌, ◌≢◌, ℕ, zero, suc, ◌+◌, ◌==◌, ◌||◌, ◌&&◌, not, Bool, true, false, if◌then◌else◌, List, [], ◌∷◌, ◌++◌, map, slice_get, slice_index, slice_index_or, slice_set, Option, Some, None, is_none, refl, sym, ap, ◌∙◌, subst, arith}
use Rattle.std.specs.List.{All, IsAmong, find, list_all, list_any}
use Rattle.std.specs.Option.{option_or, option_map}
use Rattle.std.proofs.lemmas.Bool.{false≢true, true≢false, and_from, and_parts, or_right}
use Rattle.std.proofs.lemmas.Bool.Decides.{nat_tests}
use Rattle.std.proofs.lemmas.List.Elements.{All-tail}
use Rattle.std.proofs.lemmas.Option.{none-some, same_Some}
use Rattle.dn_base.specs.declared.ids.CoreId.{CoreId}
use Rattle.dn_base.specs.declared.ids.PhaseId.{PhaseId}
use Rattle.region_table.specs.Program.{ProgramParts}
use Rattle.region_table.specs.Plan.{task_guards}
use Rattle.region_table.specs.declared.declared.TaskDecl.{TaskDecl}
use Rattle.region_table.specs.declared.declared.Phase.{Phase}
use Rattle.rv_isa.specs.Encoding.{decoded}
use Rattle.rv_isa.specs.declared.instr.AluOp.{AluOp}
use Rattle.rv_isa.specs.declared.instr.Instr.{Instr}
use Rattle.rv_isa.specs.declared.instr.Instr as instr
use Rattle.rv_core.specs.declared.task.End.{End}
use Rattle.rv_core.specs.declared.task.TaskState.{TaskState}
use Rattle.rv_core.specs.declared.need.Need.{Need}
use Rattle.rv_core.specs.declared.ending.TaskEnd.{TaskEnd}
use Rattle.rv_core.specs.Ending.{outcome_of}
use Rattle.rv_core.specs.declared.need.Need as need
use Rattle.rv_core.specs.Access.{is_held}
use Rattle.rv_core.specs.Address.{code_at}
use Rattle.rv_core.specs.Need.{need_of}
use Rattle.rv_core.specs.Next.{instr_within}
use Rattle.rv_core.specs.Step.{read_instr, instr_at}
use Rattle.rv_core.proofs.HeldLemmas.{holds-none}
use Rattle.flat_machine.proofs.Rest.{IsOneMore}
use Rattle.common_outcomes.specs.declared.value.Kind.{Kind}
use Rattle.common_outcomes.specs.declared.value.Kind.TheVariants.{Known, Offset, Varying}
use Rattle.common_outcomes.specs.declared.value.Value.{Value}
use Rattle.common_outcomes.specs.declared.answer.Common.{Common}
use Rattle.common_outcomes.specs.declared.answer.Open.{Open}
use Rattle.common_outcomes.specs.declared.answer.Open.TheVariants.{Control, Held, Stuck}
use Rattle.common_outcomes.specs.declared.answer.Outcomes.{Outcomes}
use Rattle.common_outcomes.specs.declared.answer.Outcomes as answer
use Rattle.common_outcomes.specs.Values.{known, is_known, alu_kind, register_kind, with_kind, kinds_fetched, part_kind, kinds_loaded}
use Rattle.common_outcomes.specs.Alone.{Setup, Alone, is_settled_call, is_settled_if, is_settled_next, left_by, alone_by, alone_step, alone_steps, start_alone, alone, seen}
use Rattle.common_outcomes.specs.Phases.{Summary, setup, summary, summaries, is_control_open, takes_elsewhere, is_on_circle, after_from}
use Rattle.common_outcomes.specs.Answer.{locks_up_to, control_of, held_lock, first_held, first_stuck, open_of, settled_with, end_alone, has_ended_well, answer_by, answer_from, outcomes}
use Rattle.common_outcomes.specs.Apart.{WritesOnlyIf, KeepsControlApart, IsControlApart, AreLocksInOrder}
use Rattle.common_outcomes.proofs.Circles.{circle-way}
use Rattle.common_outcomes.proofs.Lockless.{one-more, last-step}
use Rattle.common_outcomes.proofs.Phase.{ended-still}
use Rattle.common_outcomes.proofs.Starting.{all-same}
use Rattle.common_outcomes.proofs.Steps.{alone-goes}

-- ---- the kinds of control registers

abbrev ControlKnown : (ℕ → Bool) → List Kind → Type 0
ControlKnown control kinds = (r : ℕ) → control r ≡ true → register_kind kinds r ≡ Known

-- a register is known after a write, if it was known before, and what is written to it is
set-known : (kinds : List Kind) (rd : ℕ) (k : Kind) (r : ℕ) → (r ≡ rd → k ≡ Known) → slice_index_or kinds r Known ≡ Known → slice_index_or (slice_set kinds rd k) r Known ≡ Known
set-known [] rd k r new old = old
set-known (x ∷ xs) zero k zero new old = new refl
set-known (x ∷ xs) zero k (suc r) new old = old
set-known (x ∷ xs) (suc rd) k zero new old = old
set-known (x ∷ xs) (suc rd) k (suc r) new old = set-known xs rd k r (λ e. new (ap suc e)) old

write-known : (kinds : List Kind) (rd : ℕ) (k : Kind) (r : ℕ) → (rd ≢ 0 → r ≡ rd → k ≡ Known) → register_kind kinds r ≡ Known → register_kind (with_kind kinds rd k) r ≡ Known
write-known kinds rd k r new old = by_x0 (r == 0) refl old where
  by_rd : (b : Bool) → (rd == 0) ≡ b → slice_index_or kinds r Known ≡ Known → slice_index_or (if b then kinds else slice_set kinds rd k) r Known ≡ Known
  by_rd true e known' = known'
  by_rd false e known' = set-known kinds rd k r (new (λ z. grind (arith, nat_tests, e, z))) known'

  by_x0 : (b : Bool) → (r == 0) ≡ b → (if b then Known else slice_index_or kinds r Known) ≡ Known → (if b then Known else slice_index_or (with_kind kinds rd k) r Known) ≡ Known
  by_x0 true e old = refl
  by_x0 false e old = by_rd (rd == 0) refl old

map-known : (d : TaskDecl) (lock : ℕ) (kinds : List Kind) (r : ℕ) → slice_index_or kinds r Known ≡ Known → slice_index_or (map (left_by d lock) kinds) r Known ≡ Known
map-known d lock [] r old = refl
map-known d lock (x ∷ xs) zero old = ap (left_by d lock) old
map-known d lock (x ∷ xs) (suc r) old = map-known d lock xs r old

leave-known : (d : TaskDecl) (lock : ℕ) (kinds : List Kind) (r : ℕ) → register_kind kinds r ≡ Known → register_kind (map (left_by d lock) kinds) r ≡ Known
leave-known d lock kinds r old = by_x0 (r == 0) old where
  by_x0 : (b : Bool) → (if b then Known else slice_index_or kinds r Known) ≡ Known → (if b then Known else slice_index_or (map (left_by d lock) kinds) r Known) ≡ Known
  by_x0 true old = refl
  by_x0 false old = map-known d lock kinds r old

-- what the instruction at the program counter keeps
abbrev KeepsIf : (ℕ → Bool) → Option Instr → Type 0
KeepsIf control None = Unit {0}
KeepsIf control (Some i) = KeepsControlApart control i

keeps-at : (P : ProgramParts) (control : ℕ → Bool) (t : TaskState) → IsControlApart P control → KeepsIf control (instr_at P t)
keeps-at P control t apart = by_word (code_at P.code t.pc) refl where
  by_instr : (word : ℕ) → code_at P.code t.pc ≡ Some word → (o : Option Instr) → decoded word ≡ o → KeepsIf control o
  by_instr word there None is = tt
  by_instr word there (Some i) is = apart t.pc word i there is

  by_word : (o : Option ℕ) → code_at P.code t.pc ≡ o → KeepsIf control (read_instr o)
  by_word None there = tt
  by_word (Some word) there = by_instr word there (decoded word) refl

module _ (control : ℕ → Bool) (kinds : List Kind) (h : ControlKnown control kinds) where
  computed : (op : AluOp) (a b : Kind) → a ≡ Known → b ≡ Known → alu_kind op a b ≡ Known
  computed op a b e f = ap (λ (k : Kind). alu_kind op k b) e ∙ ap (alu_kind op Known) f

  fetched-known : (o : Option Instr) → KeepsIf control o → ControlKnown control (kinds_fetched kinds o)
  fetched-known None keeps r c = h r c
  fetched-known (Some (instr.TheVariants.Lui rd imm)) keeps r c = write-known kinds rd Known r (λ some e. refl) (h r c)
  fetched-known (Some (instr.TheVariants.Auipc rd imm)) keeps r c = write-known kinds rd Known r (λ some e. refl) (h r c)
  fetched-known (Some (instr.TheVariants.Jal rd offset)) keeps r c = write-known kinds rd Known r (λ some e. refl) (h r c)
  fetched-known (Some (instr.TheVariants.Jalr rd base offset)) keeps r c = write-known kinds rd Known r (λ some e. refl) (h r c)
  fetched-known (Some (instr.TheVariants.OpImm op rd a imm)) keeps r c =
      write-known kinds rd (alu_kind op (register_kind kinds a) Known) r
      (λ some e. computed op (register_kind kinds a) Known (h a (keeps some (sym (ap control e) ∙ c))) refl) (h r c)
  fetched-known (Some (instr.TheVariants.Op op rd a b)) keeps r c =
      write-known kinds rd (alu_kind op (register_kind kinds a) (register_kind kinds b)) r
      (λ some e. (let both = keeps some (sym (ap control e) ∙ c) in computed op (register_kind kinds a) (register_kind kinds b) (h a both.0) (h b both.1))) (h r c)
  fetched-known (Some (instr.TheVariants.Branch test a b offset)) keeps r c = h r c
  fetched-known (Some (instr.TheVariants.Load width rd base offset)) keeps r c = h r c
  fetched-known (Some (instr.TheVariants.Store width src base offset)) keeps r c = h r c
  fetched-known (Some instr.TheVariants.Fence) keeps r c = h r c
  fetched-known (Some instr.TheVariants.Ecall) keeps r c = h r c
  fetched-known (Some instr.TheVariants.Ebreak) keeps r c = h r c

  loaded-known : (k : Kind) (o : Option Instr) → KeepsIf control o → ControlKnown control (kinds_loaded kinds k o)
  loaded-known k (Some (instr.TheVariants.Load width rd base offset)) keeps r c =
      write-known kinds rd (part_kind width k) r (λ some e. absurd (keeps.1 some (sym (ap control e) ∙ c))) (h r c)
  loaded-known k None keeps r c = h r c
  loaded-known k (Some (instr.TheVariants.Lui rd imm)) keeps r c = h r c
  loaded-known k (Some (instr.TheVariants.Auipc rd imm)) keeps r c = h r c
  loaded-known k (Some (instr.TheVariants.Jal rd offset)) keeps r c = h r c
  loaded-known k (Some (instr.TheVariants.Jalr rd base offset)) keeps r c = h r c
  loaded-known k (Some (instr.TheVariants.OpImm op rd a imm)) keeps r c = h r c
  loaded-known k (Some (instr.TheVariants.Op op rd a b)) keeps r c = h r c
  loaded-known k (Some (instr.TheVariants.Branch test a b offset)) keeps r c = h r c
  loaded-known k (Some (instr.TheVariants.Store width src base offset)) keeps r c = h r c
  loaded-known k (Some instr.TheVariants.Fence) keeps r c = h r c
  loaded-known k (Some instr.TheVariants.Ecall) keeps r c = h r c
  loaded-known k (Some instr.TheVariants.Ebreak) keeps r c = h r c

  is-known : (r : ℕ) → control r ≡ true → is_known (register_kind kinds r) ≡ true
  is-known r c = ap is_known (h r c)

  settled-if : (t : TaskState) (o : Option Instr) → KeepsIf control o → is_settled_if kinds t o ≡ true
  settled-if t None keeps = refl
  settled-if t (Some (instr.TheVariants.Jalr rd base offset)) keeps = is-known base keeps
  settled-if t (Some (instr.TheVariants.Branch test a b offset)) keeps =
      or_right (a == b) (is_known (register_kind kinds a) && is_known (register_kind kinds b)) (and_from (is_known (register_kind kinds a)) (is_known (register_kind kinds b)) (is-known a keeps.0) (is-known b keeps.1))
  settled-if t (Some (instr.TheVariants.Load width rd base offset)) keeps = is-known base keeps.0
  settled-if t (Some (instr.TheVariants.Store width src base offset)) keeps = is-known base keeps
  settled-if t (Some instr.TheVariants.Ecall) keeps =
      let n : ℕ = slice_index t.regs 17 in
      and_from (is_known (register_kind kinds 17)) (is_settled_call kinds n) (is-known 17 keeps.1) (or_right (not (n == 1 || n == 2)) (is_known (register_kind kinds 10)) (is-known 10 keeps.0))
  settled-if t (Some (instr.TheVariants.Lui rd imm)) keeps = refl
  settled-if t (Some (instr.TheVariants.Auipc rd imm)) keeps = refl
  settled-if t (Some (instr.TheVariants.Jal rd offset)) keeps = refl
  settled-if t (Some (instr.TheVariants.OpImm op rd a imm)) keeps = refl
  settled-if t (Some (instr.TheVariants.Op op rd a b)) keeps = refl
  settled-if t (Some instr.TheVariants.Fence) keeps = refl
  settled-if t (Some instr.TheVariants.Ebreak) keeps = refl

-- ---- a task alone

module _ (S : Setup) (control : ℕ → Bool) (apart : IsControlApart S.program control) where
  next-settled : (a : Alone) → ControlKnown control a.kinds → is_settled_next S a ≡ true
  next-settled a h = by_fuel (a.state.retired == S.fuel) where
    by_fuel : (b : Bool) → is_settled_if a.kinds a.state (if b then None else instr_at S.program a.state) ≡ true
    by_fuel true = refl
    by_fuel false = settled-if control a.kinds h a.state (instr_at S.program a.state) (keeps-at S.program control a.state apart)

  known-step : (a : Alone) → ControlKnown control a.kinds → ControlKnown control (alone_step S a).kinds
  known-step a h = by_test (is_none a.state.end && is_settled_next S a) where
    keeps : KeepsIf control (instr_at S.program a.state)
    keeps = keeps-at S.program control a.state apart

    goes : ControlKnown control (kinds_fetched a.kinds (instr_at S.program a.state))
    goes = fetched-known control a.kinds h (instr_at S.program a.state) keeps

    by_need : (n : Need) → ControlKnown control (alone_by S a n).kinds
    by_need need.TheVariants.Local = goes
    by_need (need.TheVariants.Load word) = loaded-known control a.kinds h (seen S a.cells word.0).kind (instr_at S.program a.state) keeps
    by_need (need.TheVariants.Store word whole) = goes
    by_need (need.TheVariants.Acquire lock) = goes
    by_need (need.TheVariants.Release lock) = λ r c. leave-known S.decl lock.0 (kinds_fetched a.kinds (instr_at S.program a.state)) r (goes r c)
    by_need (need.TheVariants.End by) = h

    by_test : (b : Bool) → ControlKnown control (if b then alone_by S a (need_of S.program S.decl S.fuel a.state) else a).kinds
    by_test true = by_need (need_of S.program S.decl S.fuel a.state)
    by_test false = h

  known-steps : (n : ℕ) (a : Alone) → ControlKnown control a.kinds → ControlKnown control (alone_steps S n a).kinds
  known-steps zero a h = h
  known-steps (suc n) a h = known-steps n (alone_step S a) (known-step a h)

  known-start : ControlKnown control (start_alone S).kinds
  known-start r c = by_x0 (r == 0) where
    by_x0 : (b : Bool) → (if b then Known else slice_index_or (start_alone S).kinds r Known) ≡ Known
    by_x0 true = refl
    by_x0 false = all-same 32 r Known

  -- where it goes on after n + 1 instructions, it went on after n, and has retired one more
  record HasGoneOn (n : ℕ) : Type 0 where
    pub before : (alone_steps S n (start_alone S)).state.end ≡ None
    pub more : IsOneMore S.fuel (alone_steps S n (start_alone S)).state (alone_steps S (suc n) (start_alone S)).state

  gone-on : (n : ℕ) → (alone_steps S (suc n) (start_alone S)).state.end ≡ None → HasGoneOn n
  gone-on n on = by_end (alone_steps S n (start_alone S)).state.end refl where
    a : Alone
    a = alone_steps S n (start_alone S)

    later : (alone_step S a).state.end ≡ None
    later = ap (λ (x : Alone). x.state.end) (sym (last-step S n)) ∙ on

    by_end : (o : Option End) → a.state.end ≡ o → HasGoneOn n
    by_end None e =
        record { before = e; more = subst (λ (x : Alone). IsOneMore S.fuel a.state x.state) (sym (last-step S n)) (one-more S a e (next-settled a (known-steps n (start_alone S) known-start)) later) }
    by_end (Some by) e = absurd (none-some by (sym later ∙ ap (λ (x : Alone). x.state.end) (ended-still S a by e) ∙ e))

  retires : (n : ℕ) → (alone_steps S n (start_alone S)).state.end ≡ None → (alone_steps S n (start_alone S)).state.retired ≡ n
  retires zero on = refl
  retires (suc n) on =
      let w = gone-on n on in
      let before = retires n w.before in
      let more = w.more.retired in
      omega (arith, before, more)

  pub apart-ends : (alone S).state.end ≢ None
  unfolding alone
  apart-ends on = let w = gone-on S.fuel on in w.more.unspent (retires S.fuel w.before)

-- ---- the answer

module _ (P : ProgramParts) (fuel : ℕ) (control : ℕ → Bool) (apart : IsControlApart P control) where
  none-open : (p : Phase) (first : List Value) (ds : List TaskDecl) → find is_control_open (map (summary P fuel p first) ds) ≡ None
  none-open p first [] = refl
  none-open p first (d ∷ ds) = by_end (alone (setup P fuel p first d)).state.end refl (none-open p first ds) where
    by_end : (o : Option End) → (alone (setup P fuel p first d)).state.end ≡ o → find is_control_open (map (summary P fuel p first) ds) ≡ None
        → (if is_none o then Some (summary P fuel p first d) else find is_control_open (map (summary P fuel p first) ds)) ≡ None
    by_end None e rest = absurd (apart-ends (setup P fuel p first d) control apart e)
    by_end (Some by) e rest = rest

  open-is : (phase : ℕ) (p : Phase) (first : List Value) → open_of phase (summaries P fuel p first) ≡ option_or (first_held phase (summaries P fuel p first) (summaries P fuel p first)) (first_stuck phase (summaries P fuel p first))
  open-is phase p first =
      ap (λ (o : Option Summary). option_or (option_map (control_of phase) o) (option_or (first_held phase (summaries P fuel p first) (summaries P fuel p first)) (first_stuck phase (summaries P fuel p first)))) (none-open p first p.tasks)

  -- why the answer is open
  abbrev IsOfLocks : Open → Type 0
  IsOfLocks (Control phase core pc) = ⊥
  IsOfLocks (Held phase core lock) = Unit {0}
  IsOfLocks (Stuck phase lock) = Unit {0}

  held-first : (phase : ℕ) (rs left : List Summary) (why : Open) → first_held phase rs left ≡ Some why → IsOfLocks why
  held-first phase rs [] why e = absurd (none-some why e)
  held-first phase rs (r ∷ left) why e = by_lock (held_lock rs r) e (held-first phase rs left why) where
    by_lock : (o : Option ℕ) → option_or (option_map (λ (l : ℕ). Held (record { 0 = phase }) r.decl.core (record { 0 = l })) o) (first_held phase rs left) ≡ Some why
        → (first_held phase rs left ≡ Some why → IsOfLocks why) → IsOfLocks why
    by_lock None e rest = rest e
    by_lock (Some l) e rest = subst IsOfLocks (same_Some (Held (record { 0 = phase }) r.decl.core (record { 0 = l })) why e) tt

  of-locks : (phase : ℕ) (p : Phase) (first : List Value) (why : Open) → open_of phase (summaries P fuel p first) ≡ Some why → IsOfLocks why
  of-locks phase p first why e = by_held (first_held phase (summaries P fuel p first) (summaries P fuel p first)) refl (sym (open-is phase p first) ∙ e) where
    by_stuck : (o : Option ℕ) → option_map (λ (l : ℕ). Stuck (record { 0 = phase }) (record { 0 = l })) o ≡ Some why → IsOfLocks why
    by_stuck None e = absurd (none-some why e)
    by_stuck (Some l) e = subst IsOfLocks (same_Some (Stuck (record { 0 = phase }) (record { 0 = l })) why e) tt

    by_held : (o : Option Open) → first_held phase (summaries P fuel p first) (summaries P fuel p first) ≡ o → option_or o (first_stuck phase (summaries P fuel p first)) ≡ Some why → IsOfLocks why
    by_held None is e = by_stuck (find (is_on_circle (summaries P fuel p first)) locks_up_to) e
    by_held (Some x) is e = held-first phase (summaries P fuel p first) (summaries P fuel p first) why (is ∙ e)

  answer-of-locks : (phase : ℕ) (left : List Phase) (ends : List TaskEnd) (memory : List Value) (why : Open) → answer_from P fuel phase left ends memory ≡ answer.TheVariants.Open why → IsOfLocks why
  answer-of-locks phase [] ends memory why e = absurd (cc)
  answer-of-locks phase (p ∷ left) ends memory why e =
      by_open (open_of phase rs) refl (list_all has_ended_well rs) e (answer-of-locks (phase + 1) left now after why)
    where
      rs : List Summary
      rs = summaries P fuel p memory

      now : List TaskEnd
      now = ends ++ map (end_alone phase) rs

      after : List Value
      after = after_from 0 rs memory

      open-same : (x y : Open) → answer.TheVariants.Open x ≡ answer.TheVariants.Open y → x ≡ y
      open-same x y e = cc

      by_open : (o : Option Open) → open_of phase rs ≡ o → (b : Bool) → answer_by o b (settled_with now after) (answer_from P fuel (phase + 1) left now after) ≡ answer.TheVariants.Open why
          → (answer_from P fuel (phase + 1) left now after ≡ answer.TheVariants.Open why → IsOfLocks why) → IsOfLocks why
      by_open (Some x) is b e rest = subst IsOfLocks (open-same x why e) (of-locks phase p memory x is)
      by_open None is true e rest = rest e
      by_open None is false e rest = absurd (cc)

  pub never-control : (phase : PhaseId) (core : CoreId) (pc : ℕ) → outcomes P fuel ≡ answer.TheVariants.Open (Control phase core pc) → ⊥
  unfolding outcomes
  never-control phase core pc e = answer-of-locks 0 P.phases [] (map known P.memory) (Control phase core pc) e

  -- ---- where locks are in order, the answer is settled

  found-not : {X : Type 0} (test : X → Bool) (xs : List X) → ((x : X) → test x ≡ true → ⊥) → find test xs ≡ None
  found-not test [] never = refl
  found-not {X} test (x ∷ xs) never = by_test (test x) refl (found-not test xs never) where
    by_test : (b : Bool) → test x ≡ b → find test xs ≡ None → (if b then Some x else find test xs) ≡ None
    by_test true e rest = absurd (never x e)
    by_test false e rest = rest

  held-none : (phase : ℕ) (rs left : List Summary) → All (λ (r : Summary). r.alone.state.held ≡ 0) left → first_held phase rs left ≡ None
  held-none phase rs [] given = refl
  held-none phase rs (r ∷ left) given =
      ap (λ (o : Option ℕ). option_or (option_map (λ (l : ℕ). Held (record { 0 = phase }) r.decl.core (record { 0 = l })) o) (first_held phase rs left)) none
      ∙ held-none phase rs left (All-tail (λ (r : Summary). r.alone.state.held ≡ 0) r left given)
    where
      free : r.alone.state.held ≡ 0
      free = given 0 r (omega arith)

      none : held_lock rs r ≡ None
      none = found-not (λ (l : ℕ). is_held r.alone.state.held l && list_any (takes_elsewhere r.decl l) rs) locks_up_to
          (λ l e. true≢false (sym (and_parts (is_held r.alone.state.held l) (list_any (takes_elsewhere r.decl l) rs) e).0 ∙ ap (λ (x : ℕ). is_held x l) free ∙ holds-none l))

  shut : (phase : ℕ) (p : Phase) (first : List Value) → AreLocksInOrder (summaries P fuel p first) → open_of phase (summaries P fuel p first) ≡ None
  shut phase p first h =
      open-is phase p first
      ∙ ap (λ (o : Option Open). option_or o (first_stuck phase (summaries P fuel p first))) (held-none phase (summaries P fuel p first) (summaries P fuel p first) h.given_up)
      ∙ ap (option_map (λ (l : ℕ). Stuck (record { 0 = phase }) (record { 0 = l })))
      (found-not (is_on_circle (summaries P fuel p first)) locks_up_to (λ l e. h.straight l (circle-way (summaries P fuel p first) l e)))

  answer-settled : (phase : ℕ) (left : List Phase) (ends : List TaskEnd) (memory : List Value) → ((p : Phase) (first : List Value) → IsAmong left p → AreLocksInOrder (summaries P fuel p first))
      → (common : Common) × (answer_from P fuel phase left ends memory ≡ answer.TheVariants.Settled common)
  answer-settled phase [] ends memory order = (record { outcome = outcome_of ends; tasks = ends; memory = memory }, refl)
  answer-settled phase (p ∷ left) ends memory order =
      by_well (list_all has_ended_well rs) (answer-settled (phase + 1) left now after (λ q first among. order q first (suc among.0, (let l = among.1.0 in omega arith, among.1.1))))
    where
      rs : List Summary
      rs = summaries P fuel p memory

      now : List TaskEnd
      now = ends ++ map (end_alone phase) rs

      after : List Value
      after = after_from 0 rs memory

      none : open_of phase rs ≡ None
      none = shut phase p memory (order p memory (0, (omega arith, refl)))

      goes : (b : Bool) → answer_by (open_of phase rs) b (settled_with now after) (answer_from P fuel (phase + 1) left now after) ≡ answer_by None b (settled_with now after) (answer_from P fuel (phase + 1) left now after)
      goes b = ap (λ (o : Option Open). answer_by o b (settled_with now after) (answer_from P fuel (phase + 1) left now after)) none

      by_well : (b : Bool) → ((common : Common) × (answer_from P fuel (phase + 1) left now after ≡ answer.TheVariants.Settled common))
          → (common : Common) × (answer_by (open_of phase rs) b (settled_with now after) (answer_from P fuel (phase + 1) left now after) ≡ answer.TheVariants.Settled common)
      by_well true rest = (rest.0, goes true ∙ rest.1)
      by_well false rest = (record { outcome = outcome_of now; tasks = now; memory = after }, goes false)

  pub settles : ((p : Phase) (first : List Value) → IsAmong P.phases p → AreLocksInOrder (summaries P fuel p first)) → (common : Common) × (outcomes P fuel ≡ answer.TheVariants.Settled common)
  unfolding outcomes
  settles order = answer-settled 0 P.phases [] (map known P.memory) order
