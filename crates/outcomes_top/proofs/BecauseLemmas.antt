-- What a reason names is so: the register, the load, and the acquires.
use Rattle.std.proofs.Common.{◌≡◌, ◌⊎◌, inl, inr, ℕ, zero, suc, ◌+◌, ◌==◌, Bool, true, false, ◌&&◌, not, if◌then◌else◌, List, [], ◌∷◌, ◌++◌, map, flat_map, replicate, slice_get, slice_index_or, slice_set, Option, Some, None, is_none, refl, sym, ap, ◌∙◌, subst, arith, ⊎_elim}
use Rattle.std.specs.List.{IsAmong, find, list_all}
use Rattle.std.specs.Option.{option_or, option_map}
use Rattle.std.proofs.lemmas.Bool.{false≢true, and_parts}
use Rattle.std.proofs.lemmas.Option.{none-some, same_Some}
use Rattle.region_table.specs.Program.{ProgramParts}
use Rattle.region_table.specs.declared.declared.TaskDecl.{TaskDecl}
use Rattle.region_table.specs.declared.declared.Phase.{Phase}
use Rattle.rv_isa.specs.declared.instr.Instr.{Instr}
use Rattle.rv_isa.specs.declared.instr.Instr as instr
use Rattle.dn_base.specs.declared.ids.WordId.{WordId}
use Rattle.rv_core.specs.Access.{is_held}
use Rattle.rv_core.specs.Need.{need_of}
use Rattle.rv_core.specs.Next.{instr_within}
use Rattle.rv_core.specs.declared.need.Need.{Need}
use Rattle.rv_core.specs.declared.need.Need as need
use Rattle.rv_core.specs.declared.task.End.{End}
use Rattle.rv_core.specs.declared.ending.TaskEnd.{TaskEnd}
use Rattle.common_outcomes.specs.declared.value.Kind.{Kind}
use Rattle.common_outcomes.specs.declared.value.Value.{Value}
use Rattle.common_outcomes.specs.declared.answer.Open.{Open}
use Rattle.common_outcomes.specs.declared.answer.Open.TheVariants.{Control, Held, Stuck}
use Rattle.common_outcomes.specs.declared.answer.Outcomes as answer
use Rattle.common_outcomes.specs.Values.{known, is_known, register_kind}
use Rattle.common_outcomes.specs.Alone.{Setup, Alone, seen, is_settled_next, alone_step, alone_steps, start_alone, alone}
use Rattle.common_outcomes.specs.Phases.{Summary, setup, summaries, after_from}
use Rattle.common_outcomes.specs.Answer.{locks_up_to, open_of, end_alone, settled_with, has_ended_well, answer_by, answer_from, outcomes}
use Rattle.common_outcomes.proofs.Lockless.{last-step}
use Rattle.common_outcomes.proofs.Starting.{all-same}
use Rattle.outcomes_top.specs.declared.reasons.Read.{Read}
use Rattle.outcomes_top.specs.declared.reasons.Dependence.{Dependence}
use Rattle.outcomes_top.specs.declared.reasons.Reason.{Reason}
use Rattle.outcomes_top.specs.declared.reasons.Sought.{Sought}
use Rattle.outcomes_top.specs.declared.reasons.Sought.TheVariants.{Own, Other, Onward, Back}
use Rattle.outcomes_top.specs.declared.reasons.Taken.{Taken}
use Rattle.outcomes_top.specs.declared.reasons.Taking.{Taking}
use Rattle.outcomes_top.specs.Reasons.{makes_one, guard_of, read_of, origin_read, written_origin, origins_fetched, origins_loaded, origins_by, origins_step, origins_from, origins_alone, if_open, first_open, depends_on, dependence_of, taking_by, taken_at, takings_from, takings_of, takings_in, holds, is_way, taken, sought_in, last_sought, reason_in, reason_by, reason_from, reason_of}
use Rattle.outcomes_top.specs.ReasonLaws.{ComesTo, IsLoadOf, IsDependence, IsAcquireOf, IsMadeIn}

-- ---- the answer is open for this reason

same-why : (P : ProgramParts) (fuel : ℕ) (p : Phase) (first : List Value) (why : Open) → (reason_in P fuel p first why).why ≡ why
same-why P fuel p first (Control phase core pc) = refl
same-why P fuel p first (Held phase core lock) = refl
same-why P fuel p first (Stuck phase lock) = refl

open-from : (P : ProgramParts) (fuel n : ℕ) (left : List Phase) (ends : List TaskEnd) (memory : List Value) (r : Reason) → reason_from P fuel n left memory ≡ Some r
    → answer_from P fuel n left ends memory ≡ answer.TheVariants.Open r.why
open-from P fuel n [] ends memory r e = absurd (none-some r e)
open-from P fuel n (p ∷ left) ends memory r e =
    by_open (open_of n rs) refl (list_all has_ended_well rs) refl e (open-from P fuel (n + 1) left now after r)
  where
    rs : List Summary
    rs = summaries P fuel p memory

    now : List TaskEnd
    now = ends ++ map (end_alone n) rs

    after : List Value
    after = after_from 0 rs memory

    by_open : (o : Option Open) → open_of n rs ≡ o → (b : Bool) → list_all has_ended_well rs ≡ b
        → reason_by o b (reason_in P fuel p memory) (reason_from P fuel (n + 1) left after) ≡ Some r
        → (reason_from P fuel (n + 1) left after ≡ Some r → answer_from P fuel (n + 1) left now after ≡ answer.TheVariants.Open r.why)
        → answer_by o b (settled_with now after) (answer_from P fuel (n + 1) left now after) ≡ answer.TheVariants.Open r.why
    by_open (Some why) is b well e rest =
        ap answer.TheVariants.Open (sym (same-why P fuel p memory why) ∙ ap (λ (x : Reason). x.why) (same_Some (reason_in P fuel p memory why) r e))
    by_open None is true well e rest = rest e
    by_open None is false well e rest = absurd (none-some r e)

pub reason-opens : (P : ProgramParts) (fuel : ℕ) (r : Reason) → reason_of P fuel ≡ Some r → outcomes P fuel ≡ answer.TheVariants.Open r.why
unfolding reason_of outcomes
reason-opens P fuel r e = open-from P fuel 0 P.phases [] (map known P.memory) r e

-- a reason that is found, for this
abbrev HasReason : Option Reason → Open → Type 0
HasReason o why = (r : Reason) × (o ≡ Some r) × (r.why ≡ why)

found-from : (P : ProgramParts) (fuel n : ℕ) (left : List Phase) (ends : List TaskEnd) (memory : List Value) (why : Open) → answer_from P fuel n left ends memory ≡ answer.TheVariants.Open why
    → HasReason (reason_from P fuel n left memory) why
found-from P fuel n [] ends memory why e = absurd (cc)
found-from P fuel n (p ∷ left) ends memory why e =
    by_open (open_of n rs) refl (list_all has_ended_well rs) refl e (found-from P fuel (n + 1) left now after why)
  where
    rs : List Summary
    rs = summaries P fuel p memory

    now : List TaskEnd
    now = ends ++ map (end_alone n) rs

    after : List Value
    after = after_from 0 rs memory

    open-same : (x y : Open) → answer.TheVariants.Open x ≡ answer.TheVariants.Open y → x ≡ y
    open-same x y same = cc

    by_open : (o : Option Open) → open_of n rs ≡ o → (b : Bool) → list_all has_ended_well rs ≡ b
        → answer_by o b (settled_with now after) (answer_from P fuel (n + 1) left now after) ≡ answer.TheVariants.Open why
        → (answer_from P fuel (n + 1) left now after ≡ answer.TheVariants.Open why → HasReason (reason_from P fuel (n + 1) left after) why)
        → HasReason (reason_by o b (reason_in P fuel p memory) (reason_from P fuel (n + 1) left after)) why
    by_open (Some x) is b well e rest = (reason_in P fuel p memory x, refl, same-why P fuel p memory x ∙ open-same x why e)
    by_open None is true well e rest = rest e
    by_open None is false well e rest = absurd (cc)

pub open-has_reason : (P : ProgramParts) (fuel : ℕ) (why : Open) → outcomes P fuel ≡ answer.TheVariants.Open why → HasReason (reason_of P fuel) why
unfolding reason_of outcomes
open-has_reason P fuel why e = found-from P fuel 0 P.phases [] (map known P.memory) why e

-- ---- lists

set-or : (os : List (Option Read)) (rd r : ℕ) (o : Option Read) (read : Read) → slice_index_or (slice_set os rd o) r None ≡ Some read → (o ≡ Some read) ⊎ (slice_index_or os r None ≡ Some read)
set-or [] rd r o read e = inr e
set-or (x ∷ xs) zero zero o read e = inl e
set-or (x ∷ xs) zero (suc r) o read e = inr e
set-or (x ∷ xs) (suc rd) zero o read e = inr e
set-or (x ∷ xs) (suc rd) (suc r) o read e = set-or xs rd r o read e

-- ---- one task alone

abbrev the_dependence : ℕ → Read → Dependence
the_dependence r read = record { register = r; read = read }

module _ (S : Setup) where
  -- each load that a register's value comes from is one that the task has made
  abbrev AreLoads : List (Option Read) → Type 0
  AreLoads os = (r : ℕ) (read : Read) → slice_index_or os r None ≡ Some read → IsLoadOf S read

  abbrev IsLoadIf : Option Read → Type 0
  IsLoadIf o = (read : Read) → o ≡ Some read → IsLoadOf S read

  origin-loads : (os : List (Option Read)) (r : ℕ) → AreLoads os → IsLoadIf (origin_read os r)
  origin-loads os r h = by_test (r == 0) where
    by_test : (b : Bool) → IsLoadIf (if b then None else slice_index_or os r None)
    by_test true read e = absurd (none-some read e)
    by_test false read e = h r read e

  write-loads : (os : List (Option Read)) (rd : ℕ) (o : Option Read) → AreLoads os → IsLoadIf o → AreLoads (written_origin os rd o)
  write-loads os rd o h k = by_test (rd == 0) where
    by_test : (b : Bool) → AreLoads (if b then os else slice_set os rd o)
    by_test true r read e = h r read e
    by_test false r read e = ⊎_elim (λ (new : o ≡ Some read). k read new) (λ (old : slice_index_or os r None ≡ Some read). h r read old) (set-or os rd r o read e)

  or-loads : (a b : Option Read) → IsLoadIf a → IsLoadIf b → IsLoadIf (option_or a b)
  or-loads None b h k = k
  or-loads (Some x) b h k = h

  no-load : IsLoadIf None
  no-load read e = absurd (none-some read e)

  fetched-loads : (os : List (Option Read)) (o : Option Instr) → AreLoads os → AreLoads (origins_fetched os o)
  fetched-loads os None h = h
  fetched-loads os (Some (instr.TheVariants.Lui rd imm)) h = write-loads os rd None h no-load
  fetched-loads os (Some (instr.TheVariants.Auipc rd imm)) h = write-loads os rd None h no-load
  fetched-loads os (Some (instr.TheVariants.Jal rd offset)) h = write-loads os rd None h no-load
  fetched-loads os (Some (instr.TheVariants.Jalr rd base offset)) h = write-loads os rd None h no-load
  fetched-loads os (Some (instr.TheVariants.OpImm op rd a imm)) h = write-loads os rd (origin_read os a) h (origin-loads os a h)
  fetched-loads os (Some (instr.TheVariants.Op op rd a b)) h =
      write-loads os rd (option_or (origin_read os a) (origin_read os b)) h (or-loads (origin_read os a) (origin_read os b) (origin-loads os a h) (origin-loads os b h))
  fetched-loads os (Some (instr.TheVariants.Branch test a b offset)) h = h
  fetched-loads os (Some (instr.TheVariants.Load width rd base offset)) h = h
  fetched-loads os (Some (instr.TheVariants.Store width src base offset)) h = h
  fetched-loads os (Some instr.TheVariants.Fence) h = h
  fetched-loads os (Some instr.TheVariants.Ecall) h = h
  fetched-loads os (Some instr.TheVariants.Ebreak) h = h

  loaded-loads : (os : List (Option Read)) (read : Option Read) (o : Option Instr) → AreLoads os → IsLoadIf read → AreLoads (origins_loaded os read o)
  loaded-loads os read (Some (instr.TheVariants.Load width rd base offset)) h k = write-loads os rd read h k
  loaded-loads os read None h k = h
  loaded-loads os read (Some (instr.TheVariants.Lui rd imm)) h k = h
  loaded-loads os read (Some (instr.TheVariants.Auipc rd imm)) h k = h
  loaded-loads os read (Some (instr.TheVariants.Jal rd offset)) h k = h
  loaded-loads os read (Some (instr.TheVariants.Jalr rd base offset)) h k = h
  loaded-loads os read (Some (instr.TheVariants.OpImm op rd a imm)) h k = h
  loaded-loads os read (Some (instr.TheVariants.Op op rd a b)) h k = h
  loaded-loads os read (Some (instr.TheVariants.Branch test a b offset)) h k = h
  loaded-loads os read (Some (instr.TheVariants.Store width src base offset)) h k = h
  loaded-loads os read (Some instr.TheVariants.Fence) h k = h
  loaded-loads os read (Some instr.TheVariants.Ecall) h k = h
  loaded-loads os read (Some instr.TheVariants.Ebreak) h k = h

  -- a task that goes on
  none-end : (o : Option End) → is_none o ≡ true → o ≡ None
  none-end None e = refl
  none-end (Some by) e = absurd (false≢true e)

  comes-to : (n : ℕ) (a : Alone) → a ≡ alone_steps S n (start_alone S) → makes_one S a ≡ true → ComesTo S n a
  comes-to n a is e =
      let both = and_parts (is_none a.state.end) (is_settled_next S a) e in
      record { is = is; runs = none-end a.state.end both.0; settled = both.1 }

  read-loads : (n : ℕ) (a : Alone) (word : WordId) → ComesTo S n a → need_of S.program S.decl S.fuel a.state ≡ need.TheVariants.Load word → IsLoadIf (read_of S a word.0)
  read-loads n a word comes is = by_known (is_known (seen S a.cells word.0).kind) refl where
    made : Read
    made = record { pc = a.state.pc; word = word; lock = guard_of S.decl a.state.held word.0 }

    by_known : (b : Bool) → is_known (seen S a.cells word.0).kind ≡ b → IsLoadIf (if b then None else Some made)
    by_known true e read f = absurd (none-some read f)
    by_known false e read f =
        subst (IsLoadOf S) (same_Some made read f) (record { steps = n; before = a; comes = comes; loads = is; here = refl; open' = e; under = refl })

  by-loads : (n : ℕ) (a : Alone) (os : List (Option Read)) → ComesTo S n a → AreLoads os → (d : Need) → need_of S.program S.decl S.fuel a.state ≡ d → (i : Option Instr) → AreLoads (origins_by S a os d i)
  by-loads n a os comes h need.TheVariants.Local e i = fetched-loads os i h
  by-loads n a os comes h (need.TheVariants.Load word) e i = loaded-loads os (read_of S a word.0) i h (read-loads n a word comes e)
  by-loads n a os comes h (need.TheVariants.Store word whole) e i = fetched-loads os i h
  by-loads n a os comes h (need.TheVariants.Acquire lock) e i = fetched-loads os i h
  by-loads n a os comes h (need.TheVariants.Release lock) e i = fetched-loads os i h
  by-loads n a os comes h (need.TheVariants.End by) e i = h

  step-loads : (n : ℕ) (a : Alone) (os : List (Option Read)) → a ≡ alone_steps S n (start_alone S) → AreLoads os → AreLoads (origins_step S a os)
  step-loads n a os is h = by_test (makes_one S a) refl where
    by_test : (b : Bool) → makes_one S a ≡ b → AreLoads (if b then origins_by S a os (need_of S.program S.decl S.fuel a.state) (instr_within S.program S.fuel a.state) else os)
    by_test true e = by-loads n a os (comes-to n a is e) h (need_of S.program S.decl S.fuel a.state) refl (instr_within S.program S.fuel a.state)
    by_test false e = h

  next-is : (n : ℕ) (a : Alone) → a ≡ alone_steps S n (start_alone S) → alone_step S a ≡ alone_steps S (suc n) (start_alone S)
  next-is n a is = ap (alone_step S) is ∙ sym (last-step S n)

  from-loads : (m n : ℕ) (a : Alone) (os : List (Option Read)) → a ≡ alone_steps S n (start_alone S) → AreLoads os → AreLoads (origins_from S m a os)
  from-loads zero n a os is h = h
  from-loads (suc m) n a os is h = from-loads m (suc n) (alone_step S a) (origins_step S a os) (next-is n a is) (step-loads n a os is h)

  alone-loads : AreLoads (origins_alone S)
  unfolding origins_alone
  alone-loads = from-loads (suc S.fuel) 0 (start_alone S) (replicate 32 None) refl (λ r read e. absurd (none-some read (sym (all-same 32 r None) ∙ e)))

  -- ---- what control depends on

  if-open : (kinds : List Kind) (r found : ℕ) → if_open kinds r ≡ Some found → is_known (register_kind kinds found) ≡ false
  if-open kinds r found e = by_known (is_known (register_kind kinds r)) refl e where
    by_known : (b : Bool) → is_known (register_kind kinds r) ≡ b → (if b then None else Some r) ≡ Some found → is_known (register_kind kinds found) ≡ false
    by_known true is f = absurd (none-some found f)
    by_known false is f = subst (λ (x : ℕ). is_known (register_kind kinds x) ≡ false) (same_Some r found f) is

  either-open : (kinds : List Kind) (a b found : ℕ) → option_or (if_open kinds a) (if_open kinds b) ≡ Some found → is_known (register_kind kinds found) ≡ false
  either-open kinds a b found e = by_first (if_open kinds a) refl e where
    by_first : (o : Option ℕ) → if_open kinds a ≡ o → option_or o (if_open kinds b) ≡ Some found → is_known (register_kind kinds found) ≡ false
    by_first None is f = if-open kinds b found f
    by_first (Some r) is f = if-open kinds a found (is ∙ f)

  first-is_open : (kinds : List Kind) (o : Option Instr) (found : ℕ) → first_open kinds o ≡ Some found → is_known (register_kind kinds found) ≡ false
  first-is_open kinds (Some (instr.TheVariants.Jalr rd base offset)) found e = if-open kinds base found e
  first-is_open kinds (Some (instr.TheVariants.Branch test a b offset)) found e = either-open kinds a b found e
  first-is_open kinds (Some (instr.TheVariants.Load width rd base offset)) found e = if-open kinds base found e
  first-is_open kinds (Some (instr.TheVariants.Store width src base offset)) found e = if-open kinds base found e
  first-is_open kinds (Some instr.TheVariants.Ecall) found e = either-open kinds 17 10 found e
  first-is_open kinds None found e = absurd (none-some found e)
  first-is_open kinds (Some (instr.TheVariants.Lui rd imm)) found e = absurd (none-some found e)
  first-is_open kinds (Some (instr.TheVariants.Auipc rd imm)) found e = absurd (none-some found e)
  first-is_open kinds (Some (instr.TheVariants.Jal rd offset)) found e = absurd (none-some found e)
  first-is_open kinds (Some (instr.TheVariants.OpImm op rd a imm)) found e = absurd (none-some found e)
  first-is_open kinds (Some (instr.TheVariants.Op op rd a b)) found e = absurd (none-some found e)
  first-is_open kinds (Some instr.TheVariants.Fence) found e = absurd (none-some found e)
  first-is_open kinds (Some instr.TheVariants.Ebreak) found e = absurd (none-some found e)

  pub dependence-is : (d : Dependence) → dependence_of S ≡ Some d → IsDependence S d
  dependence-is d e = by_end (is_none (alone S).state.end) refl e where
    i : Option Instr
    i = instr_within S.program S.fuel (alone S).state

    by_origin : (r : ℕ) → first_open (alone S).kinds i ≡ Some r → (alone S).state.end ≡ None → (o : Option Read) → origin_read (origins_alone S) r ≡ o
        → option_map (λ (read : Read). the_dependence r read) o ≡ Some d → IsDependence S d
    by_origin r is runs None from f = absurd (none-some d f)
    by_origin r is runs (Some read) from f =
        subst (IsDependence S) (same_Some (the_dependence r read) d f)
        (record { stops = runs; decides = is; open' = first-is_open (alone S).kinds i r is; load = origin-loads (origins_alone S) r alone-loads read from })

    by_register : (o : Option ℕ) → first_open (alone S).kinds i ≡ o → (alone S).state.end ≡ None → depends_on (origins_alone S) o ≡ Some d → IsDependence S d
    by_register None is runs f = absurd (none-some d f)
    by_register (Some r) is runs f = by_origin r is runs (origin_read (origins_alone S) r) refl f

    by_end : (b : Bool) → is_none (alone S).state.end ≡ b → (if b then depends_on (origins_alone S) (first_open (alone S).kinds i) else None) ≡ Some d → IsDependence S d
    by_end true is f = by_register (first_open (alone S).kinds i) refl (none-end (alone S).state.end is) f
    by_end false is f = absurd (none-some d f)

  -- ---- acquires

  abbrev AreAcquires : List Taking → Type 0
  AreAcquires ts = (i : ℕ) (t : Taking) → slice_get ts i ≡ Some t → IsAcquireOf S t

  by-acquires : (n : ℕ) (a : Alone) → ComesTo S n a → (d : Need) → need_of S.program S.decl S.fuel a.state ≡ d → AreAcquires (taking_by S a d)
  by-acquires n a comes (need.TheVariants.Acquire lock) e zero t f =
      subst (IsAcquireOf S) (same_Some (record { core = S.decl.core; pc = a.state.pc; lock = lock; held = a.state.held }) t f)
      (record { steps = n; before = a; comes = comes; acquires = e; here = refl; holds = refl; own = refl })
  by-acquires n a comes (need.TheVariants.Acquire lock) e (suc i) t f = absurd (none-some t f)
  by-acquires n a comes need.TheVariants.Local e i t f = absurd (none-some t f)
  by-acquires n a comes (need.TheVariants.Load word) e i t f = absurd (none-some t f)
  by-acquires n a comes (need.TheVariants.Store word whole) e i t f = absurd (none-some t f)
  by-acquires n a comes (need.TheVariants.Release lock) e i t f = absurd (none-some t f)
  by-acquires n a comes (need.TheVariants.End by) e i t f = absurd (none-some t f)

  at-acquires : (n : ℕ) (a : Alone) → a ≡ alone_steps S n (start_alone S) → AreAcquires (taken_at S a)
  at-acquires n a is = by_test (makes_one S a) refl where
    by_test : (b : Bool) → makes_one S a ≡ b → AreAcquires (if b then taking_by S a (need_of S.program S.decl S.fuel a.state) else [])
    by_test true e = by-acquires n a (comes-to n a is e) (need_of S.program S.decl S.fuel a.state) refl
    by_test false e = λ i t f. absurd (none-some t f)

  both-acquires : (xs ys : List Taking) → AreAcquires xs → AreAcquires ys → AreAcquires (xs ++ ys)
  both-acquires [] ys h k i t e = k i t e
  both-acquires (x ∷ xs) ys h k zero t e = h zero t e
  both-acquires (x ∷ xs) ys h k (suc i) t e = both-acquires xs ys (λ j. h (suc j)) k i t e

  from-acquires : (m n : ℕ) (a : Alone) → a ≡ alone_steps S n (start_alone S) → AreAcquires (takings_from S m a)
  from-acquires zero n a is = λ i t e. absurd (none-some t e)
  from-acquires (suc m) n a is = both-acquires (taken_at S a) (takings_from S m (alone_step S a)) (at-acquires n a is) (from-acquires m (suc n) (alone_step S a) (next-is n a is))

  alone-acquires : AreAcquires (takings_of S)
  unfolding takings_of
  alone-acquires = from-acquires (suc S.fuel) 0 (start_alone S) refl

-- ---- the acquires of a phase

module _ (P : ProgramParts) (fuel : ℕ) (p : Phase) (first : List Value) where
  -- an acquire of one of these tasks, alone
  record IsOfSome (ds : List TaskDecl) (t : Taking) : Type 0 where
    decl : TaskDecl
    among : IsAmong ds decl
    is : IsAcquireOf (setup P fuel p first decl) t

  abbrev all_takings : List TaskDecl → List Taking
  all_takings ds = flat_map (λ (d : TaskDecl). takings_of (setup P fuel p first d)) ds

  append-cases : (Q : Taking → Type 0) (xs ys : List Taking) → ((i : ℕ) (t : Taking) → slice_get xs i ≡ Some t → Q t) → ((i : ℕ) (t : Taking) → slice_get ys i ≡ Some t → Q t)
      → (i : ℕ) (t : Taking) → slice_get (xs ++ ys) i ≡ Some t → Q t
  append-cases Q [] ys h k i t e = k i t e
  append-cases Q (x ∷ xs) ys h k zero t e = h zero t e
  append-cases Q (x ∷ xs) ys h k (suc i) t e = append-cases Q xs ys (λ j. h (suc j)) k i t e

  among-next : (d : TaskDecl) (ds : List TaskDecl) (t : Taking) → IsOfSome ds t → IsOfSome (d ∷ ds) t
  among-next d ds t h = record { decl = h.decl; among = (suc h.among.0, (let low = h.among.1.0 in omega arith, h.among.1.1)); is = h.is }

  all-of_some : (ds : List TaskDecl) (i : ℕ) (t : Taking) → slice_get (all_takings ds) i ≡ Some t → IsOfSome ds t
  all-of_some [] i t e = absurd (none-some t e)
  all-of_some (d ∷ ds) i t e =
      append-cases (IsOfSome (d ∷ ds)) (takings_of (setup P fuel p first d)) (all_takings ds)
      (λ j x f. record { decl = d; among = (0, (omega arith, refl)); is = alone-acquires (setup P fuel p first d) j x f })
      (λ j x f. among-next d ds x (all-of_some ds j x f)) i t e

  -- an acquire that is sought, as it is named
  record IsNamedBy (t : Taking) (named : Taken) : Type 0 where
    core : t.core ≡ named.core
    pc : t.pc ≡ named.pc
    lock : t.lock ≡ named.lock

  named-so : (t : Taking) (holding : Option ℕ) (named : Taken) → Some (taken t holding) ≡ Some named → IsNamedBy t named
  named-so t holding named e = subst (IsNamedBy t) (same_Some (taken t holding) named e) (record { core = refl; pc = refl; lock = refl })

  named-if : (b : Bool) (t : Taking) (holding : Option ℕ) (named : Taken) → (if b then Some (taken t holding) else None) ≡ Some named → IsNamedBy t named
  named-if true t holding named e = named-so t holding named e
  named-if false t holding named e = absurd (none-some named e)

  named-back : (t : Taking) (o : Option ℕ) (named : Taken) → option_map (λ (k : ℕ). taken t (Some k)) o ≡ Some named → IsNamedBy t named
  named-back t None named e = absurd (none-some named e)
  named-back t (Some k) named e = named-so t (Some k) named e

  back-if : (b : Bool) (t : Taking) (o : Option ℕ) (named : Taken) → (if b then option_map (λ (k : ℕ). taken t (Some k)) o else None) ≡ Some named → IsNamedBy t named
  back-if true t o named e = named-back t o named e
  back-if false t o named e = absurd (none-some named e)

  named-by : (rs : List Summary) (s : Sought) (t : Taking) (named : Taken) → sought_in rs s t ≡ Some named → IsNamedBy t named
  named-by rs (Own core lock) t named e = named-if (t.core.0 == core.0 && t.lock.0 == lock.0) t None named e
  named-by rs (Other core lock) t named e = named-if (not (t.core.0 == core.0) && t.lock.0 == lock.0) t None named e
  named-by rs (Onward lock) t named e = named-if (holds t.held lock.0 && is_way rs t.lock.0 lock.0) t (Some lock.0) named e
  named-by rs (Back lock) t named e = back-if (t.lock.0 == lock.0) t (find (λ (k : ℕ). is_held t.held k && is_way rs lock.0 k) locks_up_to) named e

  -- the acquire that is named is one of these
  record HasNamed (ts : List Taking) (named : Taken) : Type 0 where
    place : ℕ
    taking : Taking
    there : slice_get ts place ≡ Some taking
    is : IsNamedBy taking named

  last-named : (rs : List Summary) (s : Sought) (ts : List Taking) (named : Taken) → last_sought rs s ts ≡ Some named → HasNamed ts named
  last-named rs s [] named e = absurd (none-some named e)
  last-named rs s (t ∷ ts) named e = by_later (last_sought rs s ts) refl e (last-named rs s ts named) where
    by_later : (o : Option Taken) → last_sought rs s ts ≡ o → option_or o (sought_in rs s t) ≡ Some named → (last_sought rs s ts ≡ Some named → HasNamed ts named) → HasNamed (t ∷ ts) named
    by_later None is f rest = record { place = 0; taking = t; there = refl; is = named-by rs s t named f }
    by_later (Some x) is f rest = let h = rest (is ∙ f) in record { place = suc h.place; taking = h.taking; there = h.there; is = h.is }

  pub named-taken : (rs : List Summary) (s : Sought) (named : Taken) → last_sought rs s (takings_in P fuel p first) ≡ Some named → IsMadeIn P fuel p first named
  named-taken rs s named e =
      let h = last-named rs s (takings_in P fuel p first) named e in
      let of' = all-of_some p.tasks h.place h.taking h.there in
      record { decl = of'.decl; among = of'.among; taking = h.taking; is = of'.is; core = h.is.core; pc = h.is.pc; lock = h.is.lock }
