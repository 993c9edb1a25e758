-- The last task of each core, and the first task that some lines give: what one more line changes.
use Rattle.std.proofs.Common.{◌≡◌, ℕ, zero, suc, ◌+◌, ◌<◌, ◌≤◌, Bool, true, false, cond, ◌==◌, List, [], ◌∷◌, ◌++◌, length, take, get_or, find, reverse, nat_lt, slice_index_or, slice_set, Option, Some, None, refl, sym, ap, subst, ◌∙◌, arith}
use Rattle.std.specs.Option.{option_or}
use Rattle.std.proofs.lemmas.Bool.{eqb-true, eqb-false, ltb-true, ltb-false}
use Rattle.std.proofs.lemmas.List.{reverse-append, append-nil, length-set, map_more, get_or-set_same, get_or-set_other}
use Rattle.dn_base.specs.declared.status.Outcome.{Outcome}
use Rattle.rv_core.specs.declared.ending.TaskEnd.{TaskEnd}
use Rattle.explained_answer.specs.declared.line.AnswerLine as line
use Rattle.explained_answer.specs.declared.line.AnswerLine.{AnswerLine}
use Rattle.explained_answer.specs.declared.parsing.ReadLine.{ReadLine}
use Rattle.explained_answer.specs.Ended.{told_task, answer_tasks, is_on_core, last_of_core, AreLastTasks, with_last_task, ended_holder, first_by, named_on}
use Rattle.explained_answer.specs.Holders.{answer_grants}
use Rattle.explained_answer.specs.Lines.{line_read, lines_in}
use Rattle.explained_answer.proofs.GrantLemmas.{flat-more}

-- ---- the last task of each core

-- a task of another core is passed over, and one of the core is its last
last-push : (ts : List TaskEnd) (t : TaskEnd) (core : ℕ) → nat_lt core 16 ≡ true → last_of_core (ts ++ t ∷ []) core ≡ cond (t.core.0 == core) (Some t) (last_of_core ts core)
last-push ts t core below =
    ap (λ (b : Bool). cond b (find (is_on_core core) (reverse (ts ++ t ∷ []))) None) below
    ∙ ap (find (is_on_core core)) (reverse-append ts (t ∷ []))
    ∙ ap (λ (b : Bool). cond (t.core.0 == core) (Some t) (cond b (find (is_on_core core) (reverse ts)) None)) (sym below)

last-above : (ts : List TaskEnd) (core : ℕ) → nat_lt core 16 ≡ false → last_of_core ts core ≡ None
last-above ts core above = ap (λ (b : Bool). cond b (find (is_on_core core) (reverse ts)) None) above

-- past the end of a table there is nothing
past-end : (table : List (Option TaskEnd)) (core : ℕ) → length table ≤ core → slice_index_or table core None ≡ None
past-end [] core past = refl
past-end (o ∷ os) zero past = absurd (omega (arith, past))
past-end (o ∷ os) (suc core) past = past-end os core (omega (arith, past))

-- the place of a core has its new task, and the others what they had
set-at : (table : List (Option TaskEnd)) (t : TaskEnd) (core : ℕ) (b : Bool) → (t.core.0 == core) ≡ b → core < length table
    → slice_index_or (slice_set table t.core.0 (Some t)) core None ≡ cond b (Some t) (slice_index_or table core None)
set-at table t core true e within =
    let same : t.core.0 ≡ core = eqb-true t.core.0 core e in
    ap (λ (k : ℕ). slice_index_or (slice_set table t.core.0 (Some t)) k None) (sym same)
    ∙ get_or-set_same table t.core.0 (Some t) None (omega (arith, same, within))
set-at table t core false e within = get_or-set_other table t.core.0 core (Some t) None (λ same. eqb-false t.core.0 core e (sym same))

one-task : (table : List (Option TaskEnd)) (ts : List TaskEnd) (t : TaskEnd) → length table ≡ 16 → AreLastTasks ts table
    → AreLastTasks (ts ++ t ∷ []) (slice_set table t.core.0 (Some t))
one-task table ts t size so_far = λ core. by_test core (nat_lt core 16) refl where
  by_test : (core : ℕ) (b : Bool) → nat_lt core 16 ≡ b → slice_index_or (slice_set table t.core.0 (Some t)) core None ≡ last_of_core (ts ++ t ∷ []) core
  by_test core true e =
      set-at table t core (t.core.0 == core) refl (omega (arith, size, ltb-true core 16 e))
      ∙ ap (λ (o : Option TaskEnd). cond (t.core.0 == core) (Some t) o) (so_far core) ∙ sym (last-push ts t core e)
  by_test core false e =
      past-end (slice_set table t.core.0 (Some t)) core (omega (arith, size, length-set table t.core.0 (Some t), ltb-false core 16 e))
      ∙ sym (last-above (ts ++ t ∷ []) core e)

no-task : (table : List (Option TaskEnd)) (ts : List TaskEnd) → AreLastTasks ts table → AreLastTasks (ts ++ []) table
no-task table ts so_far = subst (λ (us : List TaskEnd). AreLastTasks us table) (sym (append-nil ts)) so_far

with_last_task-is : (table : List (Option TaskEnd)) (ts : List TaskEnd) (x : AnswerLine) → length table ≡ 16 → AreLastTasks ts table
    → AreLastTasks (ts ++ told_task x) (with_last_task table x)
with_last_task-is table ts (line.TheVariants.Task t) size so_far = one-task table ts t size so_far
with_last_task-is table ts (line.TheVariants.Outcome o) size so_far = no-task table ts so_far
with_last_task-is table ts (line.TheVariants.Word w v) size so_far = no-task table ts so_far
with_last_task-is table ts (line.TheVariants.Grant g) size so_far = no-task table ts so_far
with_last_task-is table ts (line.TheVariants.Count c n) size so_far = no-task table ts so_far
with_last_task-is table ts (line.TheVariants.Sum v) size so_far = no-task table ts so_far
with_last_task-is table ts (line.TheVariants.Time t) size so_far = no-task table ts so_far
with_last_task-is table ts (line.TheVariants.Network t) size so_far = no-task table ts so_far
with_last_task-is table ts (line.TheVariants.Link k) size so_far = no-task table ts so_far
with_last_task-is table ts (line.TheVariants.Checked a b c) size so_far = no-task table ts so_far
with_last_task-is table ts (line.TheVariants.Unbounded a b c) size so_far = no-task table ts so_far
with_last_task-is table ts (line.TheVariants.Varies w) size so_far = no-task table ts so_far
with_last_task-is table ts (line.TheVariants.OpenControl a b c) size so_far = no-task table ts so_far
with_last_task-is table ts (line.TheVariants.OpenHeld a b c) size so_far = no-task table ts so_far
with_last_task-is table ts (line.TheVariants.OpenStuck a b) size so_far = no-task table ts so_far
with_last_task-is table ts (line.TheVariants.Fixed f) size so_far = no-task table ts so_far

length-with_last_task : (table : List (Option TaskEnd)) (x : AnswerLine) → length (with_last_task table x) ≡ length table
length-with_last_task table (line.TheVariants.Task t) = length-set table t.core.0 (Some t)
length-with_last_task table (line.TheVariants.Outcome o) = refl
length-with_last_task table (line.TheVariants.Word w v) = refl
length-with_last_task table (line.TheVariants.Grant g) = refl
length-with_last_task table (line.TheVariants.Count c n) = refl
length-with_last_task table (line.TheVariants.Sum v) = refl
length-with_last_task table (line.TheVariants.Time t) = refl
length-with_last_task table (line.TheVariants.Network t) = refl
length-with_last_task table (line.TheVariants.Link k) = refl
length-with_last_task table (line.TheVariants.Checked a b c) = refl
length-with_last_task table (line.TheVariants.Unbounded a b c) = refl
length-with_last_task table (line.TheVariants.Varies w) = refl
length-with_last_task table (line.TheVariants.OpenControl a b c) = refl
length-with_last_task table (line.TheVariants.OpenHeld a b c) = refl
length-with_last_task table (line.TheVariants.OpenStuck a b) = refl
length-with_last_task table (line.TheVariants.Fixed f) = refl

-- the table that one more line leaves
pub more-tasks : (read : List ReadLine) (table after : List (Option TaskEnd)) (i : ℕ) (d : ReadLine) → i < length read → length table ≡ 16
    → AreLastTasks (answer_tasks (lines_in (take i read))) table → after ≡ with_last_task table (get_or read i d).line
    → AreLastTasks (answer_tasks (lines_in (take (i + 1) read))) after × (length after ≡ 16)
more-tasks read table after i d within size so_far note =
    let x = (get_or read i d).line in
    let ts = answer_tasks (lines_in (take i read)) in
    let more_here : AreLastTasks (ts ++ told_task x) (with_last_task table x) = with_last_task-is table ts x size so_far in (
      subst (λ (us : List TaskEnd). AreLastTasks us after) (sym (flat-more told_task read i d within)) (subst (AreLastTasks (ts ++ told_task x)) (sym note) more_here),
      ap length note ∙ length-with_last_task table x ∙ size,
    )

-- ---- the first task that lines give

or-none : (o : Option TaskEnd) → option_or o None ≡ option_or None o
or-none None = refl
or-none (Some t) = refl

or-grouped : (a b c : Option TaskEnd) → option_or a (option_or b c) ≡ option_or (option_or a b) c
or-grouped None b c = refl
or-grouped (Some t) b c = refl

first-push : (f : AnswerLine → Option TaskEnd) (xs : List AnswerLine) (x : AnswerLine) → first_by f (xs ++ x ∷ []) ≡ option_or (first_by f xs) (f x)
first-push f [] x = or-none (f x)
first-push f (y ∷ ys) x = ap (option_or (f y)) (first-push f ys x) ∙ or-grouped (f y) (first_by f ys) (f x)

pub first-more : (f : AnswerLine → Option TaskEnd) (read : List ReadLine) (i : ℕ) (d : ReadLine) (before after : Option TaskEnd) → i < length read
    → before ≡ first_by f (lines_in (take i read)) → after ≡ option_or before (f (get_or read i d).line) → after ≡ first_by f (lines_in (take (i + 1) read))
first-more f read i d before after within so_far is =
    let x = (get_or read i d).line in
    is ∙ ap (λ (o : Option TaskEnd). option_or o (f x)) so_far ∙ sym (first-push f (lines_in (take i read)) x)
    ∙ ap (first_by f) (sym (map_more line_read read i d within))

-- ---- the task that is named after a line

-- after a line that is no outcome it is the holder of the lock for which the line's task waits
pub named-other : (lines : List AnswerLine) (x : AnswerLine) → ((o : Outcome) → x ≡ line.TheVariants.Outcome o → ⊥)
    → named_on lines x ≡ ended_holder (answer_grants lines) (answer_tasks lines) x
named-other lines (line.TheVariants.Outcome o) other = absurd (other o refl)
named-other lines (line.TheVariants.Task t) other = refl
named-other lines (line.TheVariants.Word w v) other = refl
named-other lines (line.TheVariants.Grant g) other = refl
named-other lines (line.TheVariants.Count c n) other = refl
named-other lines (line.TheVariants.Sum v) other = refl
named-other lines (line.TheVariants.Time t) other = refl
named-other lines (line.TheVariants.Network t) other = refl
named-other lines (line.TheVariants.Link k) other = refl
named-other lines (line.TheVariants.Checked a b c) other = refl
named-other lines (line.TheVariants.Unbounded a b c) other = refl
named-other lines (line.TheVariants.Varies w) other = refl
named-other lines (line.TheVariants.OpenControl a b c) other = refl
named-other lines (line.TheVariants.OpenHeld a b c) other = refl
named-other lines (line.TheVariants.OpenStuck a b) other = refl
named-other lines (line.TheVariants.Fixed f) other = refl
