-- From the tables of all tasks to the answer for a program.
use Rattle.std.proofs.Common.{◌≡◌, ◌⊎◌, ℕ, ◌+◌, ◌<◌, ◌≤◌, Bool, true, false, List, length, get_or, slice_get, Option, Some, None, Result, Ok, Err, IfOk, refl, sym, ap, ◌∙◌, subst, arith, ⊎_elim, Decides}
use Rattle.std.specs.List.{All, AllPairs, IsAmong}
use Rattle.std.proofs.lemmas.Bool.{false≢true, cases_eq, cases_lt, cases_order}
use Rattle.std.proofs.lemmas.Option.{none-some, same_Some, slice_get-get_or, slice_get_within, get_or_from_slice_get}
use Rattle.std.proofs.lemmas.List.{get_or_past}
use Rattle.dn_base.specs.declared.failure.Memory.{Memory}
use Rattle.region_table.specs.Program.{ProgramParts, IsProgram}
use Rattle.region_table.specs.Tasks.{declared, IsDeclaration}
use Rattle.region_table.specs.declared.declared.TaskDecl.{TaskDecl}
use Rattle.region_table.specs.declared.declared.Phase.{Phase}
use Rattle.region_table.proofs.TaskLemmas.{declared-tells, declared-only}
use Rattle.rv_isa.specs.declared.instr.Instr.{Instr}
use Rattle.effect_checker.specs.Least.{IsFirst}
use Rattle.effect_prover.specs.declared.row.Row.{Row}
use Rattle.effect_prover.specs.declared.proved.Proved.{Proved}
use Rattle.effect_prover.specs.declared.proved.Proved.TheVariants.{Inside, Unbounded}
use Rattle.effect_prover.specs.Table.{Table, row_at, address_at, instr_of, IsLeastTable}
use Rattle.effect_prover.specs.Inside.{IsInside, IsInsideAt, AreInside, IsOutsideAt, IsFirstOutside}
use Rattle.effect_prover.specs.Answer.{IsProvenTask, IsProven, IsUnbounded, IsTaskAnswer, IsUnprovenPhase, IsProversAnswer, RunsInside}
use Rattle.effect_prover.proofs.TableLemmas.{one-least}

-- ---- one word

pub word-missing : (P : ProgramParts) (d : TaskDecl) (t : Table) (i : ℕ) → ((row : Row) (instr : Instr) → row_at t i ≡ Some row → instr_of P.code i ≡ Some instr → ⊥) → Decides true (IsInsideAt P d t i)
word-missing P d t i none = (λ e row instr reached there. absurd (none row instr reached there), λ h. refl)

pub word-decided : (P : ProgramParts) (d : TaskDecl) (t : Table) (i : ℕ) (row : Row) (instr : Instr) (b : Bool) → row_at t i ≡ Some row → instr_of P.code i ≡ Some instr
    → Decides b (IsInside P d row instr) → Decides b (IsInsideAt P d t i)
word-decided P d t i row instr b reached there h = (
  λ e x j is read.
      subst (λ (y : Row). IsInside P d y j) (same_Some row x (sym reached ∙ is)) (subst (IsInside P d row) (same_Some instr j (sym there ∙ read)) (h.0 e)),
  λ k. h.1 (k row instr reached there),
)

-- ---- one table

inside-past : (P : ProgramParts) (d : TaskDecl) (t : Table) (i : ℕ) → length t ≤ i → IsInsideAt P d t i
inside-past P d t i past row instr reached there = absurd (none-some row (sym (get_or_past t i None past) ∙ reached))

pub all-inside : (P : ProgramParts) (d : TaskDecl) (t : Table) (n : ℕ) → length t ≤ n → ((i : ℕ) → i < n → IsInsideAt P d t i) → AreInside P d t
all-inside P d t n past h i = ⊎_elim (λ (inside : i < n). h i inside) (λ (late : n ≤ i). inside-past P d t i (omega arith)) (cases_lt i n)

-- a word whose test fails
pub found-outside : (P : ProgramParts) (d : TaskDecl) (t : Table) (i : ℕ) → Decides false (IsInsideAt P d t i) → (row : Row) → row_at t i ≡ Some row → (instr : Instr) → instr_of P.code i ≡ Some instr
    → IsOutsideAt P d t i
found-outside P d t i h row reached instr there =
    record {
      row = row;
      reached = reached;
      instr = instr;
      there = there;
      outside = λ k. false≢true (h.1 (λ x j is read.
          subst (λ (y : Row). IsInside P d y j) (same_Some row x (sym reached ∙ is)) (subst (IsInside P d row) (same_Some instr j (sym there ∙ read)) k)));
    }

-- some row and instruction stand at a word whose test fails
pub outside-at : (P : ProgramParts) (d : TaskDecl) (t : Table) (i : ℕ) → Decides false (IsInsideAt P d t i) → IsOutsideAt P d t i
outside-at P d t i h = by_row (row_at t i) refl
  where
    missing : ((row : Row) (instr : Instr) → row_at t i ≡ Some row → instr_of P.code i ≡ Some instr → ⊥) → ⊥
    missing none = false≢true (h.1 (λ row instr reached there. absurd (none row instr reached there)))

    by_instr : (row : Row) → row_at t i ≡ Some row → (o : Option Instr) → instr_of P.code i ≡ o → IsOutsideAt P d t i
    by_instr row reached None e = absurd (missing (λ x j is read. none-some j (sym e ∙ read)))
    by_instr row reached (Some instr) e = found-outside P d t i h row reached instr e

    by_row : (o : Option Row) → row_at t i ≡ o → IsOutsideAt P d t i
    by_row None e = absurd (missing (λ x j is read. none-some x (sym e ∙ is)))
    by_row (Some row) e = by_instr row e (instr_of P.code i) refl

-- ---- one task

pub task-answer : (P : ProgramParts) (d : TaskDecl) (t : Table) (o : Option ℕ) → IsLeastTable P d t → IsFirstOutside P d t o → IsTaskAnswer P d o
task-answer P d t None least h = record { table = t; least = least; inside = h }
task-answer P d t (Some place) least h = record { table = t; least = least; outside = h.0; before = h.1 }

proven-bounded : (P : ProgramParts) (d : TaskDecl) (phase core pc : ℕ) → IsProvenTask P d → (u : IsUnbounded P phase core pc) → u.decl ≡ d → ⊥
proven-bounded P d phase core pc h u e =
    let task : IsProvenTask P u.decl = subst (IsProvenTask P) (sym e) h in
    let same : task.table ≡ u.table = one-least P u.decl task.table u.table task.least u.least in
    u.outside (task.inside u.place u.row u.instr (subst (λ (t : Table). row_at t u.place ≡ Some u.row) (sym same) u.reached) u.there)

-- ---- the tasks of a phase, and the phases

among-at : (tasks : List TaskDecl) (k : ℕ) (d : TaskDecl) → slice_get tasks k ≡ Some d → IsAmong tasks d
among-at tasks k d there = (k, (slice_get_within tasks k d there, sym (get_or_from_slice_get tasks k d d there)))

-- the cores of tasks that rise tell their places
places-rise : (tasks : List TaskDecl) → AllPairs (λ (a b : TaskDecl). a.core.0 < b.core.0) tasks → (j k : ℕ) (a b : TaskDecl) → slice_get tasks j ≡ Some a → slice_get tasks k ≡ Some b
    → a.core.0 < b.core.0 → j < k
places-rise tasks rising j k a b at_j at_k less =
    ⊎_elim
    (λ (same : j ≡ k). let one' : a ≡ b = same_Some a b (sym at_j ∙ ap (slice_get tasks) same ∙ at_k) in
    let core : a.core.0 ≡ b.core.0 = ap (λ (d : TaskDecl). d.core.0) one' in absurd (omega arith))
    (λ (others : (j < k) ⊎ (k < j)).
    ⊎_elim
    (λ (before : j < k). before)
    (λ (behind : k < j).
    let wrong : b.core.0 < a.core.0 =
    subst (λ (x : TaskDecl). x.core.0 < a.core.0) (get_or_from_slice_get tasks k b a at_k)
    (subst (λ (x : TaskDecl). (get_or tasks k a).core.0 < x.core.0) (get_or_from_slice_get tasks j a a at_j) (rising k j a behind (slice_get_within tasks j a at_j))) in
    absurd (omega arith))
    others)
    (cases_order j k)

pub phase-at : (P : ProgramParts) (phases : List Phase) (n : ℕ) (p : Phase) → phases ≡ P.phases → p ≡ get_or phases n p → n < length phases → slice_get P.phases n ≡ Some p
phase-at P phases n p same is within = subst (λ (x : List Phase). slice_get x n ≡ Some p) same (slice_get-get_or phases n p within ∙ ap Some (sym is))

pub first-unbounded : (P : ProgramParts) (number : ℕ) (p : Phase) (core place pc : ℕ) → IsProgram P → slice_get P.phases number ≡ Some p → pc ≡ address_at place
    → ((k : ℕ) (q : Phase) → k < number → slice_get P.phases k ≡ Some q → All (IsProvenTask P) q.tasks)
    → IsUnprovenPhase P p.tasks core place → IsFirst (IsUnbounded P) number core pc
first-unbounded P number p core place pc good there at' earlier h =
    record {
      pair = record {
        holds = record {
          decl = h.decl;
          task = task;
          table = h.unproven.table;
          least = h.unproven.least;
          place = place;
          address = at';
          row = h.unproven.outside.row;
          reached = h.unproven.outside.reached;
          instr = h.unproven.outside.instr;
          there = h.unproven.outside.there;
          outside = h.unproven.outside.outside;
        };
        lesser = λ m w less u. lesser_core m w less u;
        least = λ w u. least w u;
      };
      lesser = λ a b w less u. lesser_phase a b w less u;
    }
  where
    task : declared P number core ≡ Some h.decl
    task = subst (λ (c : ℕ). declared P number c ≡ Some h.decl) h.own (declared-only P number p h.decl good there (among-at p.tasks h.number h.decl h.there))

    rising : AllPairs (λ (a b : TaskDecl). a.core.0 < b.core.0) p.tasks
    rising = subst (λ (q : Phase). AllPairs (λ (a b : TaskDecl). a.core.0 < b.core.0) q.tasks) (get_or_from_slice_get P.phases number p p there)
        (good.each_phase number p (slice_get_within P.phases number p there)).rising

    lesser_core : (m w : ℕ) → m < core → IsUnbounded P number m w → ⊥
    lesser_core m w less u =
        let d : IsDeclaration P number m u.decl = declared-tells P number m u.decl u.task in
        let same : d.phase ≡ p = same_Some d.phase p (sym d.there ∙ there) in
        let among : IsAmong p.tasks u.decl = subst (λ (q : Phase). IsAmong q.tasks u.decl) same d.among in
        let place' : slice_get p.tasks among.0 ≡ Some u.decl = slice_get-get_or p.tasks among.0 u.decl among.1.0 ∙ ap Some (sym among.1.1) in
        let mine = d.own in
        let own = h.own in
        let before : among.0 < h.number = places-rise p.tasks rising among.0 h.number u.decl h.decl place' h.there (omega arith) in
        proven-bounded P u.decl number m w (h.before among.0 u.decl before place') u refl

    least : (w : ℕ) → IsUnbounded P number core w → pc ≤ w
    least w u =
        ⊎_elim
        (λ (less : w < pc).
        let decl : u.decl ≡ h.decl = same_Some u.decl h.decl (sym u.task ∙ task) in
        let mine : IsLeastTable P h.decl u.table = subst (λ (d : TaskDecl). IsLeastTable P d u.table) decl u.least in
        let same : u.table ≡ h.unproven.table = one-least P h.decl u.table h.unproven.table mine h.unproven.least in
        let address = u.address in
        let early : u.place < place = omega arith in
        let inside : IsInside P h.decl u.row u.instr =
        h.unproven.before u.place early u.row u.instr (subst (λ (t : Table). row_at t u.place ≡ Some u.row) same u.reached) u.there in
        absurd (u.outside (subst (λ (d : TaskDecl). IsInside P d u.row u.instr) (sym decl) inside)))
        (λ (more : pc ≤ w). more)
        (cases_lt w pc)

    lesser_phase : (a b w : ℕ) → a < number → IsUnbounded P a b w → ⊥
    lesser_phase a b w less u =
        let d : IsDeclaration P a b u.decl = declared-tells P a b u.decl u.task in
        let tasks : All (IsProvenTask P) d.phase.tasks = earlier a d.phase less d.there in
        let proven : IsProvenTask P u.decl = subst (IsProvenTask P) (sym d.among.1.1) (tasks d.among.0 u.decl d.among.1.0) in
        proven-bounded P u.decl a b w proven u refl

pub tasks-more : (P : ProgramParts) (tasks : List TaskDecl) (n : ℕ) (t : TaskDecl) → t ≡ get_or tasks n t → n < length tasks → IsProvenTask P t
    → ((k : ℕ) (d : TaskDecl) → k < n → slice_get tasks k ≡ Some d → IsProvenTask P d) → (k : ℕ) (d : TaskDecl) → k < n + 1 → slice_get tasks k ≡ Some d → IsProvenTask P d
tasks-more P tasks n t is within proven before k d l there =
    ⊎_elim
    (λ (same : k ≡ n).
    let found : slice_get tasks n ≡ Some t = slice_get-get_or tasks n t within ∙ ap Some (sym is) in
    subst (IsProvenTask P) (same_Some t d (sym found ∙ ap (slice_get tasks) (sym same) ∙ there)) proven)
    (λ (apart : k ≡ n → ⊥). before k d (omega arith) there)
    (cases_eq k n)

pub tasks-all : (P : ProgramParts) (tasks : List TaskDecl) (n : ℕ) → length tasks ≤ n → ((k : ℕ) (d : TaskDecl) → k < n → slice_get tasks k ≡ Some d → IsProvenTask P d) → All (IsProvenTask P) tasks
tasks-all P tasks n past h k d within = h k (get_or tasks k d) (omega arith) (slice_get-get_or tasks k d within)

pub phases-more : (P : ProgramParts) (phases : List Phase) (n : ℕ) (p : Phase) → phases ≡ P.phases → p ≡ get_or phases n p → n < length phases → All (IsProvenTask P) p.tasks
    → ((k : ℕ) (q : Phase) → k < n → slice_get P.phases k ≡ Some q → All (IsProvenTask P) q.tasks) → (k : ℕ) (q : Phase) → k < n + 1 → slice_get P.phases k ≡ Some q → All (IsProvenTask P) q.tasks
phases-more P phases n p same is within proven before k q l there =
    ⊎_elim
    (λ (here : k ≡ n).
    subst (λ (x : Phase). All (IsProvenTask P) x.tasks) (same_Some p q (sym (phase-at P phases n p same is within) ∙ ap (slice_get P.phases) (sym here) ∙ there)) proven)
    (λ (apart : k ≡ n → ⊥). before k q (omega arith) there)
    (cases_eq k n)

pub phases-all : (P : ProgramParts) (phases : List Phase) (n : ℕ) → phases ≡ P.phases → length phases ≤ n
    → ((k : ℕ) (q : Phase) → k < n → slice_get P.phases k ≡ Some q → All (IsProvenTask P) q.tasks) → IsProven P
phases-all P phases n same past h k d within =
    let lengths : length phases ≡ length P.phases = ap (λ (x : List Phase). length x) same in
    h k (get_or P.phases k d) (omega arith) (slice_get-get_or P.phases k d within)

-- what a sound proof says of the answer
pub sound-answer : (P : ProgramParts) (r : Result Proved Memory) → (IsProven P → RunsInside P) → IfOk r (IsProversAnswer P) → IfOk r (λ answer. answer ≡ Inside → RunsInside P)
sound-answer P (Ok Inside) f h = λ e. f h
sound-answer P (Ok (Unbounded phase core pc)) f h = λ e. absurd (cc)
sound-answer P (Err m) f h = tt

pub ruleset answers = (task-answer, all-inside, outside-at, word-missing, word-decided)
