-- What is taken stays taken, and what two who share no word have.
use Rattle.std.proofs.Common.{◌≡◌, ℕ, ◌+◌, ◌<◌, ◌≤◌, ◌||◌, Bool, true, false, IsTrue, List, [], ◌∷◌, ◌++◌, length, get_or, take, refl, sym, ap, ◌∙◌, arith, ⊎_elim}
use Rattle.std.specs.List.{list_any}
use Rattle.std.proofs.lemmas.Bool.{or_cases}
use Rattle.std.proofs.lemmas.List.{take_more}
use Rattle.std.proofs.Math.Seq.{take-length}
use Rattle.std.proofs.lemmas.List.Folds.{list_any_more, list_any-from_Any}
use Rattle.region_table.specs.declared.interval.Interval.{Interval}
use Rattle.region_table.specs.declared.declared.TaskDecl.{TaskDecl}
use Rattle.region_table.specs.declared.declared.Phase.{Phase}
use Rattle.region_table.specs.Words.{has, in_interval}
use Rattle.region_table.specs.Program.{AreEffects, LiesIn, IsPhase}
use Rattle.region_table.specs.Plan.{uses_plainly}
use Rattle.region_table.proofs.WordLemmas.{has-append}
use Rattle.effect_checker.specs.Checked.{lock_guards}
use Rattle.effect_checker.specs.Faults.{IsGuardedPlain, AreTwoLocks}
use Rattle.effect_checker.specs.Least.{HaveLocks}
use Rattle.effect_checker.specs.Takers.{taker_of, AreTaken, KeepTakers, UseWordsBelow}
use Rattle.effect_checker.proofs.CoreLemmas.{on_core-some}

pub KeepTakers-refl : (takers : List ℕ) → KeepTakers takers takers
KeepTakers-refl takers = record { words = refl; taken = λ w h. refl }

pub KeepTakers-trans : (a b c : List ℕ) → KeepTakers a b → KeepTakers b c → KeepTakers a c
KeepTakers-trans a b c h k = record {
  words = k.words ∙ h.words;
  taken = λ w n. k.taken w (λ e. n (sym (h.taken w n) ∙ e)) ∙ h.taken w n;
}

-- words that are taken by a taker stay so
pub AreTaken-kept : (test : ℕ → Bool) (taker : ℕ) (before after : List ℕ) → 0 < taker → AreTaken test taker before → KeepTakers before after → AreTaken test taker after
AreTaken-kept test taker before after some h k w p =
    let e : taker_of before w ≡ taker = h w p in
    k.taken w (λ z. let bad : ⊥ = omega arith in bad) ∙ e

-- one interval more
pub has_taken-more : (is : List Interval) (k : ℕ) (d : Interval) (taker : ℕ) (before after : List ℕ) → k < length is → 0 < taker
    → AreTaken (has (take k is)) taker before → KeepTakers before after → AreTaken (in_interval (get_or is k d)) taker after → AreTaken (has (take (k + 1) is)) taker after
has_taken-more is k d taker before after l some h keep here w p =
    let split : take (k + 1) is ≡ take k is ++ get_or is k d ∷ [] = take_more is k d l in
    let parts : has (take (k + 1) is) w ≡ (has (take k is) w || (in_interval (get_or is k d) w || false)) = ap (λ (x : List Interval). has x w) split ∙ has-append (take k is) (get_or is k d ∷ []) w in
    ⊎_elim (λ a. AreTaken-kept (has (take k is)) taker before after some h keep w a)
    (λ b. ⊎_elim (λ c. here w c) (λ (e : false ≡ true). absurd cc) (or_cases (in_interval (get_or is k d) w) false b))
    (or_cases (has (take k is) w) (in_interval (get_or is k d) w || false) (sym parts ∙ p))

-- one task more
pub any_taken-more : (test : TaskDecl → ℕ → Bool) (tasks : List TaskDecl) (k : ℕ) (t : TaskDecl) (taker : ℕ) (before after : List ℕ) → k < length tasks → t ≡ get_or tasks k t → 0 < taker
    → AreTaken (λ w. list_any (λ (t : TaskDecl). test t w) (take k tasks)) taker before → KeepTakers before after → AreTaken (test t) taker after
    → AreTaken (λ w. list_any (λ (t : TaskDecl). test t w) (take (k + 1) tasks)) taker after
any_taken-more test tasks k t taker before after l e some h keep here w p =
    let parts = list_any_more (λ (t : TaskDecl). test t w) tasks k t l in
    ⊎_elim (λ a. AreTaken-kept (λ w. list_any (λ (t : TaskDecl). test t w) (take k tasks)) taker before after some h keep w a)
    (λ b. here w (ap (λ (x : TaskDecl). test x w) e ∙ b))
    (or_cases (list_any (λ (t : TaskDecl). test t w) (take k tasks)) (test (get_or tasks k t) w) (sym parts ∙ p))

-- all tasks
pub taken_whole : (test : TaskDecl → ℕ → Bool) (tasks : List TaskDecl) (k taker : ℕ) (takers : List ℕ) → k ≤ length tasks → length tasks ≤ k
    → AreTaken (λ w. list_any (λ (t : TaskDecl). test t w) (take k tasks)) taker takers → AreTaken (λ w. list_any (λ (t : TaskDecl). test t w) tasks) taker takers
taken_whole test tasks k taker takers l m h =
    let e : k ≡ length tasks = omega arith in
    let whole : take k tasks ≡ tasks = ap (λ i. take i tasks) e ∙ take-length tasks in
    rw whole at h

-- a word that is used plainly on a core is used plainly by some task
used_by-some : (tasks : List TaskDecl) (lock core w : ℕ) → IsGuardedPlain tasks lock core w → IsTrue (list_any (λ (t : TaskDecl). uses_plainly t w) tasks)
used_by-some tasks lock core w h =
    let p = on_core-some uses_plainly tasks core w h.1 in
    list_any-from_Any (λ (t : TaskDecl). uses_plainly t w) tasks (p.place, p.task, p.at_place.within, sym p.at_place.is, p.passes)

-- the words of each of the locks are its own
abbrev pub AreOwn : List TaskDecl → ℕ → List ℕ → Type 0
AreOwn tasks locks takers = (lock : ℕ) → lock < locks → AreTaken (lock_guards tasks lock) (lock + 2) takers

-- a word that two take has two takers
pub none_guarded_plain : (tasks : List TaskDecl) (locks : ℕ) (plain takers : List ℕ) → HaveLocks locks tasks
    → AreTaken (λ w. list_any (λ (t : TaskDecl). uses_plainly t w) tasks) 1 plain → KeepTakers plain takers → AreOwn tasks locks takers
    → (lock core w : ℕ) → IsGuardedPlain tasks lock core w → ⊥
none_guarded_plain tasks locks plain takers have used keep own lock core w h =
    let a : taker_of takers w ≡ 1 = AreTaken-kept (λ w. list_any (λ (t : TaskDecl). uses_plainly t w) tasks) 1 plain takers (omega arith) used keep w (used_by-some tasks lock core w h) in
    let b : taker_of takers w ≡ lock + 2 = own lock (have lock w h.0) w h.0 in
    omega arith

pub none_two_locks : (tasks : List TaskDecl) (locks : ℕ) (takers : List ℕ) → HaveLocks locks tasks → AreOwn tasks locks takers → (a b w : ℕ) → AreTwoLocks tasks a b w → ⊥
none_two_locks tasks locks takers have own a b w h =
    let l : a < b = h.0 in
    let x : taker_of takers w ≡ a + 2 = own a (have a w h.1) w h.1 in
    let y : taker_of takers w ≡ b + 2 = own b (have b w h.2) w h.2 in
    omega arith

-- what one lock guards, and what is used plainly
pub none_plain : (tasks : List TaskDecl) (lock : ℕ) (plain takers : List ℕ) → AreTaken (λ w. list_any (λ (t : TaskDecl). uses_plainly t w) tasks) 1 plain → KeepTakers plain takers
    → AreTaken (lock_guards tasks lock) 2 takers → (core w : ℕ) → IsGuardedPlain tasks lock core w → ⊥
none_plain tasks lock plain takers used keep own core w h =
    let a : taker_of takers w ≡ 1 = AreTaken-kept (λ w. list_any (λ (t : TaskDecl). uses_plainly t w) tasks) 1 plain takers (omega arith) used keep w (used_by-some tasks lock core w h) in
    let b : taker_of takers w ≡ 2 = own w h.0 in
    omega arith

-- the words of each of the locks behind a lock are the others'
abbrev pub AreOthers : List TaskDecl → ℕ → ℕ → List ℕ → Type 0
AreOthers tasks lock locks takers = (other : ℕ) → lock < other → other < locks → AreTaken (lock_guards tasks other) 2 takers

-- what one lock guards, and what the locks behind it guard
pub none_later : (tasks : List TaskDecl) (lock locks : ℕ) (own takers : List ℕ) → HaveLocks locks tasks → AreTaken (lock_guards tasks lock) 1 own → KeepTakers own takers
    → AreOthers tasks lock locks takers → (other w : ℕ) → AreTwoLocks tasks lock other w → ⊥
none_later tasks lock locks own takers have mine keep others other w h =
    let a : taker_of takers w ≡ 1 = AreTaken-kept (lock_guards tasks lock) 1 own takers (omega arith) mine keep w h.1 in
    let b : taker_of takers w ≡ 2 = others other h.0 (have other w h.2) w h.2 in
    omega arith

LiesIn-more : (words more : ℕ) (set : List Interval) → words ≤ more → LiesIn words set → LiesIn more set
LiesIn-more words more set l h = λ k d m. let i = h k d m in omega arith

-- effects in a memory are effects in a greater one
AreEffects-more : (words more locks : ℕ) (t : TaskDecl) → words ≤ more → AreEffects words locks t.effects → AreEffects more locks t.effects
AreEffects-more words more locks t l h = record {
  reads = LiesIn-more words more t.effects.reads l h.reads;
  writes = LiesIn-more words more t.effects.writes l h.writes;
  guarded_reads = λ k d m. LiesIn-more words more (get_or t.effects.guarded_reads k d) l (h.guarded_reads k d m);
  guarded_writes = λ k d m. LiesIn-more words more (get_or t.effects.guarded_writes k d) l (h.guarded_writes k d m);
  reads_by_lock = h.reads_by_lock;
  writes_by_lock = h.writes_by_lock;
}

-- the tasks of a well-formed phase use words of the memory
pub phase-words : (words locks : ℕ) (p : Phase) → words ≤ 65536 → IsPhase words locks p → UseWordsBelow 65536 p.tasks
phase-words words locks p l h = λ k d m. (locks, AreEffects-more words 65536 locks (get_or p.tasks k d) l (h.tasks k d m).effects)

-- the same where the words are counted in another way
pub same-words : (words more : ℕ) (tasks : List TaskDecl) → more ≡ words → UseWordsBelow words tasks → UseWordsBelow more tasks
same-words words more tasks e h = rw e h

-- the words of a task are below the same number
pub task_words : (words more : ℕ) (tasks : List TaskDecl) (k : ℕ) (t : TaskDecl) → more ≡ words → UseWordsBelow words tasks → k < length tasks → t ≡ get_or tasks k t
    → (locks : ℕ) × AreEffects more locks t.effects
task_words words more tasks k t e h l is =
    let found : (locks : ℕ) × AreEffects words locks (get_or tasks k t).effects = h k t l in
    let own : (locks : ℕ) × AreEffects words locks t.effects = rw (sym is) at found in
    rw e own
