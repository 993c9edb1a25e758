-- The tasks that explain names as causes and holders stand in the answer.
use Rattle.std.proofs.Common.{◌≡◌, ◌⊎◌, inl, inr, ℕ, Bool, true, false, cond, not, ◌&&◌, ◌||◌, ◌==◌, List, [], ◌∷◌, find, reverse, nat_lt, Option, Some, None, refl, sym, subst, ◌∙◌}
use Rattle.std.specs.List.{IsAmong}
use Rattle.std.specs.Option.{option_or}
use Rattle.std.proofs.lemmas.Bool.{eqb-true}
use Rattle.std.proofs.lemmas.Option.{none-some, same_Some}
use Rattle.std.proofs.lemmas.List.{reverse-append}
use Rattle.dn_base.specs.declared.ids.LockId.{LockId}
use Rattle.dn_base.specs.declared.status.Outcome as outcome
use Rattle.rv_core.specs.declared.ending.EndShown as shown
use Rattle.rv_core.specs.declared.ending.EndShown.{EndShown}
use Rattle.rv_core.specs.declared.ending.TaskEnd.{TaskEnd}
use Rattle.rv_core.specs.Ending.{is_waiting, is_trapped, is_spent}
use Rattle.sentences.proofs.TableClaims.{among-none, among-head, among-tail, among-cons, among-either}
use Rattle.explained_answer.specs.declared.line.AnswerLine as line
use Rattle.explained_answer.specs.declared.line.AnswerLine.{AnswerLine}
use Rattle.explained_answer.specs.Holders.{answer_grants, holder_of, awaited_holder}
use Rattle.explained_answer.specs.Ended.{answer_tasks, is_on_core, last_of_core, ended_in, ended_task, ended_holder, trapped_on, if_cut, first_by, keeper_on, cause_of}
use Rattle.explained_answer.specs.CauseLaws.{IsEndedHolder, IsStuckBy, IsTrappedBy}

-- ---- among the tasks of an answer

found-among : (p : TaskEnd → Bool) (ts : List TaskEnd) (t : TaskEnd) → find p ts ≡ Some t → IsAmong ts t × (p t ≡ true)
found-among p [] t e = absurd (none-some t e)
found-among p (u ∷ us) t e = by_test (λ h. found-among p us t h) (p u) refl e where
  by_test : (find p us ≡ Some t → IsAmong us t × (p t ≡ true)) → (b : Bool) → p u ≡ b → cond b (Some u) (find p us) ≡ Some t → IsAmong (u ∷ us) t × (p t ≡ true)
  by_test behind true passes e =
      let same : u ≡ t = same_Some u t e in
      (subst (IsAmong (u ∷ us)) same (among-head u us), subst (λ (x : TaskEnd). p x ≡ true) same passes)
  by_test behind false fails e = let rest = behind e in (among-tail u us t rest.0, rest.1)

reversed-among : (ts : List TaskEnd) (t : TaskEnd) → IsAmong (reverse ts) t → IsAmong ts t
reversed-among [] t h = h
reversed-among (u ∷ us) t h = by_side (λ b. reversed-among us t b) (among-either (reverse us) (u ∷ []) t (subst (λ (xs : List TaskEnd). IsAmong xs t) (reverse-append (u ∷ []) us) h)) where
  by_own : (t ≡ u) ⊎ IsAmong [] t → IsAmong (u ∷ us) t
  by_own (inl same) = subst (IsAmong (u ∷ us)) (sym same) (among-head u us)
  by_own (inr none) = absurd (among-none t none)

  by_side : (IsAmong (reverse us) t → IsAmong us t) → IsAmong (reverse us) t ⊎ IsAmong (u ∷ []) t → IsAmong (u ∷ us) t
  by_side behind (inl before) = among-tail u us t (behind before)
  by_side behind (inr last) = by_own (among-cons u [] t last)

tasks-among : (lines : List AnswerLine) (t : TaskEnd) → IsAmong (answer_tasks lines) t → IsAmong lines (line.TheVariants.Task t)
tasks-among [] t h = absurd (among-none t h)
tasks-among (line.TheVariants.Task u ∷ xs) t h = by_side (λ b. tasks-among xs t b) (among-cons u (answer_tasks xs) t h) where
  by_side : (IsAmong (answer_tasks xs) t → IsAmong xs (line.TheVariants.Task t)) → (t ≡ u) ⊎ IsAmong (answer_tasks xs) t
      → IsAmong (line.TheVariants.Task u ∷ xs) (line.TheVariants.Task t)
  by_side behind (inl same) =
      subst (λ (x : TaskEnd). IsAmong (line.TheVariants.Task u ∷ xs) (line.TheVariants.Task x)) (sym same) (among-head (line.TheVariants.Task u) xs)
  by_side behind (inr rest) = among-tail (line.TheVariants.Task u) xs (line.TheVariants.Task t) (behind rest)
tasks-among (line.TheVariants.Outcome o ∷ xs) t h = among-tail (line.TheVariants.Outcome o) xs (line.TheVariants.Task t) (tasks-among xs t h)
tasks-among (line.TheVariants.Word w v ∷ xs) t h = among-tail (line.TheVariants.Word w v) xs (line.TheVariants.Task t) (tasks-among xs t h)
tasks-among (line.TheVariants.Grant g ∷ xs) t h = among-tail (line.TheVariants.Grant g) xs (line.TheVariants.Task t) (tasks-among xs t h)
tasks-among (line.TheVariants.Count c n ∷ xs) t h = among-tail (line.TheVariants.Count c n) xs (line.TheVariants.Task t) (tasks-among xs t h)
tasks-among (line.TheVariants.Sum v ∷ xs) t h = among-tail (line.TheVariants.Sum v) xs (line.TheVariants.Task t) (tasks-among xs t h)
tasks-among (line.TheVariants.Time k ∷ xs) t h = among-tail (line.TheVariants.Time k) xs (line.TheVariants.Task t) (tasks-among xs t h)
tasks-among (line.TheVariants.Network k ∷ xs) t h = among-tail (line.TheVariants.Network k) xs (line.TheVariants.Task t) (tasks-among xs t h)
tasks-among (line.TheVariants.Link k ∷ xs) t h = among-tail (line.TheVariants.Link k) xs (line.TheVariants.Task t) (tasks-among xs t h)
tasks-among (line.TheVariants.Checked a b c ∷ xs) t h = among-tail (line.TheVariants.Checked a b c) xs (line.TheVariants.Task t) (tasks-among xs t h)
tasks-among (line.TheVariants.Unbounded a b c ∷ xs) t h = among-tail (line.TheVariants.Unbounded a b c) xs (line.TheVariants.Task t) (tasks-among xs t h)
tasks-among (line.TheVariants.Varies w ∷ xs) t h = among-tail (line.TheVariants.Varies w) xs (line.TheVariants.Task t) (tasks-among xs t h)
tasks-among (line.TheVariants.OpenControl a b c ∷ xs) t h = among-tail (line.TheVariants.OpenControl a b c) xs (line.TheVariants.Task t) (tasks-among xs t h)
tasks-among (line.TheVariants.OpenHeld a b c ∷ xs) t h = among-tail (line.TheVariants.OpenHeld a b c) xs (line.TheVariants.Task t) (tasks-among xs t h)
tasks-among (line.TheVariants.OpenStuck a b ∷ xs) t h = among-tail (line.TheVariants.OpenStuck a b) xs (line.TheVariants.Task t) (tasks-among xs t h)
tasks-among (line.TheVariants.Fixed f ∷ xs) t h = among-tail (line.TheVariants.Fixed f) xs (line.TheVariants.Task t) (tasks-among xs t h)

-- the last task of a core is one of them
last-among : (ts : List TaskEnd) (core : ℕ) (t : TaskEnd) → last_of_core ts core ≡ Some t → IsAmong ts t × (t.core.0 ≡ core)
last-among ts core t e = by_test (nat_lt core 16) e where
  by_test : (b : Bool) → cond b (find (is_on_core core) (reverse ts)) None ≡ Some t → IsAmong ts t × (t.core.0 ≡ core)
  by_test true e = let found = found-among (is_on_core core) (reverse ts) t e in (reversed-among ts t found.0, eqb-true t.core.0 core found.1)
  by_test false e = absurd (none-some t e)

-- ---- a holder that ended

pub holder-ended : (lines : List AnswerLine) (w t : TaskEnd) → ended_holder (answer_grants lines) (answer_tasks lines) (line.TheVariants.Task w) ≡ Some t
    → IsEndedHolder lines w t
holder-ended lines w t e = by_end w.end refl e where
  ts : List TaskEnd
  ts = answer_tasks lines

  by_test : (lock : LockId) (core : ℕ) (u : TaskEnd) (a b : Bool) → w.end ≡ shown.TheVariants.Waits lock → holder_of (answer_grants lines) w.phase.0 lock.0 ≡ Some core
      → last_of_core ts core ≡ Some u → (u.phase.0 == w.phase.0) ≡ a → is_waiting u.end ≡ b → cond (a && not b) (Some u) None ≡ Some t → IsEndedHolder lines w t
  by_test lock core u true false is holds last phase ended e =
      let found = last-among ts core u last in
      subst (IsEndedHolder lines w) (same_Some u t e)
      (record {
        lock = lock;
        waits = is;
        holds = holds ∙ (λ i. Some (sym found.1 i));
        phase = eqb-true u.phase.0 w.phase.0 phase;
        among = tasks-among lines u found.0;
        has_ended = ended;
      })
  by_test lock core u true true is holds last phase ended e = absurd (none-some t e)
  by_test lock core u false b is holds last phase ended e = absurd (none-some t e)

  by_last : (lock : LockId) (core : ℕ) (o : Option TaskEnd) → w.end ≡ shown.TheVariants.Waits lock → holder_of (answer_grants lines) w.phase.0 lock.0 ≡ Some core
      → last_of_core ts core ≡ o → ended_in w.phase.0 o ≡ Some t → IsEndedHolder lines w t
  by_last lock core (Some u) is holds last e = by_test lock core u (u.phase.0 == w.phase.0) (is_waiting u.end) is holds last refl refl e
  by_last lock core None is holds last e = absurd (none-some t e)

  by_holder : (lock : LockId) (o : Option ℕ) → w.end ≡ shown.TheVariants.Waits lock → holder_of (answer_grants lines) w.phase.0 lock.0 ≡ o
      → ended_task ts w.phase.0 o ≡ Some t → IsEndedHolder lines w t
  by_holder lock (Some core) is holds e = by_last lock core (last_of_core ts core) is holds refl e
  by_holder lock None is holds e = absurd (none-some t e)

  by_end : (s : EndShown) → w.end ≡ s → ended_task ts w.phase.0 (awaited_holder (answer_grants lines) w.phase.0 s) ≡ Some t → IsEndedHolder lines w t
  by_end (shown.TheVariants.Waits lock) is e = by_holder lock (holder_of (answer_grants lines) w.phase.0 lock.0) is refl e
  by_end shown.TheVariants.Finished is e = absurd (none-some t e)
  by_end shown.TheVariants.Fuel is e = absurd (none-some t e)
  by_end (shown.TheVariants.Trap k pc value) is e = absurd (none-some t e)

-- ---- the cause

-- a line that gives a task
record GivenBy (f : AnswerLine → Option TaskEnd) (lines : List AnswerLine) (t : TaskEnd) : Type 0 where
  by : AnswerLine
  among : IsAmong lines by
  gives : f by ≡ Some t

first-given : (f : AnswerLine → Option TaskEnd) (lines : List AnswerLine) (t : TaskEnd) → first_by f lines ≡ Some t → GivenBy f lines t
first-given f [] t e = absurd (none-some t e)
first-given f (x ∷ xs) t e = by_value (λ h. first-given f xs t h) (f x) refl e where
  by_value : (first_by f xs ≡ Some t → GivenBy f xs t) → (o : Option TaskEnd) → f x ≡ o → option_or o (first_by f xs) ≡ Some t → GivenBy f (x ∷ xs) t
  by_value behind (Some u) is e = record { by = x; among = among-head x xs; gives = is ∙ e }
  by_value behind None is e =
      let rest = behind e in
      record { by = rest.by; among = among-tail x xs rest.by rest.among; gives = rest.gives }

trapped-given : (lines : List AnswerLine) (x : AnswerLine) (t : TaskEnd) → IsAmong lines x → trapped_on x ≡ Some t → IsTrappedBy lines t
trapped-given lines (line.TheVariants.Task u) t among e = by_test (is_trapped u.end) refl e where
  by_test : (b : Bool) → is_trapped u.end ≡ b → cond b (Some u) None ≡ Some t → IsTrappedBy lines t
  by_test true is e = subst (IsTrappedBy lines) (same_Some u t e) (record { among = among; trapped = is })
  by_test false is e = absurd (none-some t e)
trapped-given lines (line.TheVariants.Outcome o) t among e = absurd (none-some t e)
trapped-given lines (line.TheVariants.Word w v) t among e = absurd (none-some t e)
trapped-given lines (line.TheVariants.Grant g) t among e = absurd (none-some t e)
trapped-given lines (line.TheVariants.Count c n) t among e = absurd (none-some t e)
trapped-given lines (line.TheVariants.Sum v) t among e = absurd (none-some t e)
trapped-given lines (line.TheVariants.Time k) t among e = absurd (none-some t e)
trapped-given lines (line.TheVariants.Network k) t among e = absurd (none-some t e)
trapped-given lines (line.TheVariants.Link k) t among e = absurd (none-some t e)
trapped-given lines (line.TheVariants.Checked a b c) t among e = absurd (none-some t e)
trapped-given lines (line.TheVariants.Unbounded a b c) t among e = absurd (none-some t e)
trapped-given lines (line.TheVariants.Varies w) t among e = absurd (none-some t e)
trapped-given lines (line.TheVariants.OpenControl a b c) t among e = absurd (none-some t e)
trapped-given lines (line.TheVariants.OpenHeld a b c) t among e = absurd (none-some t e)
trapped-given lines (line.TheVariants.OpenStuck a b) t among e = absurd (none-some t e)
trapped-given lines (line.TheVariants.Fixed f) t among e = absurd (none-some t e)

cut-given : (o : Option TaskEnd) (t : TaskEnd) → if_cut o ≡ Some t → (o ≡ Some t) × ((is_trapped t.end || is_spent t.end) ≡ true)
cut-given None t e = absurd (none-some t e)
cut-given (Some u) t e = by_test (is_trapped u.end || is_spent u.end) refl e where
  by_test : (b : Bool) → (is_trapped u.end || is_spent u.end) ≡ b → cond b (Some u) None ≡ Some t
      → (Some u ≡ Some t) × ((is_trapped t.end || is_spent t.end) ≡ true)
  by_test true is e = (e, subst (λ (x : TaskEnd). (is_trapped x.end || is_spent x.end) ≡ true) (same_Some u t e) is)
  by_test false is e = absurd (none-some t e)

keeper-given : (lines : List AnswerLine) (x : AnswerLine) (t : TaskEnd) → IsAmong lines x → keeper_on (answer_grants lines) (answer_tasks lines) x ≡ Some t
    → IsStuckBy lines t
keeper-given lines (line.TheVariants.Task w) t among e =
    let found = cut-given (ended_holder (answer_grants lines) (answer_tasks lines) (line.TheVariants.Task w)) t e in
    record { waiting = w; among = among; holder = holder-ended lines w t found.0; cut_off = found.1 }
keeper-given lines (line.TheVariants.Outcome o) t among e = absurd (none-some t e)
keeper-given lines (line.TheVariants.Word w v) t among e = absurd (none-some t e)
keeper-given lines (line.TheVariants.Grant g) t among e = absurd (none-some t e)
keeper-given lines (line.TheVariants.Count c n) t among e = absurd (none-some t e)
keeper-given lines (line.TheVariants.Sum v) t among e = absurd (none-some t e)
keeper-given lines (line.TheVariants.Time k) t among e = absurd (none-some t e)
keeper-given lines (line.TheVariants.Network k) t among e = absurd (none-some t e)
keeper-given lines (line.TheVariants.Link k) t among e = absurd (none-some t e)
keeper-given lines (line.TheVariants.Checked a b c) t among e = absurd (none-some t e)
keeper-given lines (line.TheVariants.Unbounded a b c) t among e = absurd (none-some t e)
keeper-given lines (line.TheVariants.Varies w) t among e = absurd (none-some t e)
keeper-given lines (line.TheVariants.OpenControl a b c) t among e = absurd (none-some t e)
keeper-given lines (line.TheVariants.OpenHeld a b c) t among e = absurd (none-some t e)
keeper-given lines (line.TheVariants.OpenStuck a b) t among e = absurd (none-some t e)
keeper-given lines (line.TheVariants.Fixed f) t among e = absurd (none-some t e)

pub trapped-by : (lines : List AnswerLine) (t : TaskEnd) → cause_of outcome.TheVariants.Trapped lines ≡ Some t → IsTrappedBy lines t
trapped-by lines t e = let given = first-given trapped_on lines t e in trapped-given lines given.by t given.among given.gives

pub stuck-by : (lines : List AnswerLine) (t : TaskEnd) → cause_of outcome.TheVariants.Stuck lines ≡ Some t → IsStuckBy lines t
stuck-by lines t e =
    let given = first-given (keeper_on (answer_grants lines) (answer_tasks lines)) lines t e in
    keeper-given lines given.by t given.among given.gives
