-- The end of a task's line, by how the task stands; and what is counted.
use Rattle.std.proofs.Common.{◌≡◌, ◌≢◌, ℕ, List, [], ◌++◌, length, codes, Option, Some, None, IfNone, refl, ap, ◌∙◌, arith, append_assoc}
use Rattle.std.specs.List.{All}
use Rattle.std.specs.Fmt.{decimal}
use Rattle.dn_base.specs.declared.status.Outcome as outcome
use Rattle.dn_base.specs.declared.status.Outcome.{Outcome}
use Rattle.message_net.specs.declared.event.EventKind as event
use Rattle.message_net.specs.declared.event.EventKind.{EventKind}
use Rattle.rv_core.specs.declared.task.TrapKind as kind
use Rattle.rv_core.specs.declared.task.TrapKind.{TrapKind}
use Rattle.rv_core.specs.declared.ending.EndShown as shown
use Rattle.rv_core.specs.declared.ending.EndShown.{EndShown}
use Rattle.rv_core.specs.declared.ending.TaskEnd.{TaskEnd}
use Rattle.text_pieces.specs.Pieces.{newline, space, hexadecimal}
use Rattle.text_pieces.specs.Field.{field, NoneStands}
use Rattle.run_report.specs.Answer.{outcome_line, task_line, words_line, word_line, end_text}
use Rattle.run_report.specs.Grants.{grant_line}
use Rattle.run_report.specs.Run.{all_kinds, counted_line}
use Rattle.run_report.specs.Summary.{count_line}
use Rattle.explained_answer.specs.declared.line.AnswerLine as line
use Rattle.explained_answer.specs.declared.line.Count as count
use Rattle.explained_answer.specs.declared.line.Count.{Count}
use Rattle.explained_answer.specs.Parts.{IsNumber, pair_fields, StandPair}
use Rattle.explained_answer.specs.AnswerLines.{HasGrantNumbers, HasTrapNumbers, HasEndNumbers, HasStopNumbers, HasTaskNumbers, IsShownWord, IsAnswerLine, answer_line, trap_front, trap_rest, stop_by, stop_text, all_traps, count_front, count_line_of, NoCount, all_counts, IsOtherLine}

-- what holds of all kinds in a list of them holds of each
pub each-trap : (P : TrapKind → Type 0) → All P all_traps → (k : TrapKind) → P k
unfolding all_traps
each-trap P all kind.TheVariants.Fetch = all 0 kind.TheVariants.Fetch (omega arith)
each-trap P all kind.TheVariants.Illegal = all 1 kind.TheVariants.Fetch (omega arith)
each-trap P all kind.TheVariants.Target = all 2 kind.TheVariants.Fetch (omega arith)
each-trap P all kind.TheVariants.Misaligned = all 3 kind.TheVariants.Fetch (omega arith)
each-trap P all kind.TheVariants.Outside = all 4 kind.TheVariants.Fetch (omega arith)
each-trap P all kind.TheVariants.Break = all 5 kind.TheVariants.Fetch (omega arith)
each-trap P all kind.TheVariants.Call = all 6 kind.TheVariants.Fetch (omega arith)
each-trap P all kind.TheVariants.NoLock = all 7 kind.TheVariants.Fetch (omega arith)
each-trap P all kind.TheVariants.Held = all 8 kind.TheVariants.Fetch (omega arith)
each-trap P all kind.TheVariants.NotHeld = all 9 kind.TheVariants.Fetch (omega arith)
each-trap P all kind.TheVariants.HeldEnd = all 10 kind.TheVariants.Fetch (omega arith)

pub each-count : (P : Count → Type 0) → All P all_counts → (c : Count) → P c
unfolding all_counts
each-count P all count.TheVariants.Words = all 0 count.TheVariants.Words (omega arith)
each-count P all count.TheVariants.Events = all 1 count.TheVariants.Words (omega arith)
each-count P all (count.TheVariants.Kind event.TheVariants.Instr) = all 2 count.TheVariants.Words (omega arith)
each-count P all (count.TheVariants.Kind event.TheVariants.Evict) = all 3 count.TheVariants.Words (omega arith)
each-count P all (count.TheVariants.Kind event.TheVariants.Arrive) = all 4 count.TheVariants.Words (omega arith)
each-count P all (count.TheVariants.Kind event.TheVariants.ReadReq) = all 5 count.TheVariants.Words (omega arith)
each-count P all (count.TheVariants.Kind event.TheVariants.ReadFwd) = all 6 count.TheVariants.Words (omega arith)
each-count P all (count.TheVariants.Kind event.TheVariants.DataReply) = all 7 count.TheVariants.Words (omega arith)
each-count P all (count.TheVariants.Kind event.TheVariants.RegReq) = all 8 count.TheVariants.Words (omega arith)
each-count P all (count.TheVariants.Kind event.TheVariants.RegFwd) = all 9 count.TheVariants.Words (omega arith)
each-count P all (count.TheVariants.Kind event.TheVariants.RegAck) = all 10 count.TheVariants.Words (omega arith)
each-count P all (count.TheVariants.Kind event.TheVariants.WriteBack) = all 11 count.TheVariants.Words (omega arith)
each-count P all (count.TheVariants.Kind event.TheVariants.WbAck) = all 12 count.TheVariants.Words (omega arith)
each-count P all (count.TheVariants.Kind event.TheVariants.Acquire) = all 13 count.TheVariants.Words (omega arith)
each-count P all (count.TheVariants.Kind event.TheVariants.Release) = all 14 count.TheVariants.Words (omega arith)
each-count P all (count.TheVariants.Kind event.TheVariants.Grant) = all 15 count.TheVariants.Words (omega arith)
each-count P all (count.TheVariants.Kind event.TheVariants.Arrived) = all 16 count.TheVariants.Words (omega arith)
each-count P all (count.TheVariants.Kind event.TheVariants.Go) = all 17 count.TheVariants.Words (omega arith)
each-count P all (count.TheVariants.Kind event.TheVariants.Halt) = all 18 count.TheVariants.Words (omega arith)
each-count P all count.TheVariants.Tasks = all 19 count.TheVariants.Words (omega arith)
each-count P all count.TheVariants.Retired = all 20 count.TheVariants.Words (omega arith)
each-count P all count.TheVariants.Links = all 21 count.TheVariants.Words (omega arith)
each-count P all count.TheVariants.WholeEvents = all 22 count.TheVariants.Words (omega arith)
each-count P all count.TheVariants.EnabledEvents = all 23 count.TheVariants.Words (omega arith)

pub each-kind : (P : EventKind → Type 0) → All P all_kinds → (k : EventKind) → P k
unfolding all_kinds
each-kind P all event.TheVariants.Instr = all 0 event.TheVariants.Instr (omega arith)
each-kind P all event.TheVariants.Evict = all 1 event.TheVariants.Instr (omega arith)
each-kind P all event.TheVariants.Arrive = all 2 event.TheVariants.Instr (omega arith)
each-kind P all event.TheVariants.ReadReq = all 3 event.TheVariants.Instr (omega arith)
each-kind P all event.TheVariants.ReadFwd = all 4 event.TheVariants.Instr (omega arith)
each-kind P all event.TheVariants.DataReply = all 5 event.TheVariants.Instr (omega arith)
each-kind P all event.TheVariants.RegReq = all 6 event.TheVariants.Instr (omega arith)
each-kind P all event.TheVariants.RegFwd = all 7 event.TheVariants.Instr (omega arith)
each-kind P all event.TheVariants.RegAck = all 8 event.TheVariants.Instr (omega arith)
each-kind P all event.TheVariants.WriteBack = all 9 event.TheVariants.Instr (omega arith)
each-kind P all event.TheVariants.WbAck = all 10 event.TheVariants.Instr (omega arith)
each-kind P all event.TheVariants.Acquire = all 11 event.TheVariants.Instr (omega arith)
each-kind P all event.TheVariants.Release = all 12 event.TheVariants.Instr (omega arith)
each-kind P all event.TheVariants.Grant = all 13 event.TheVariants.Instr (omega arith)
each-kind P all event.TheVariants.Arrived = all 14 event.TheVariants.Instr (omega arith)
each-kind P all event.TheVariants.Go = all 15 event.TheVariants.Instr (omega arith)
each-kind P all event.TheVariants.Halt = all 16 event.TheVariants.Instr (omega arith)

pub kinds-length : length all_kinds ≡ 17
unfolding all_kinds
kinds-length = refl

pub traps-length : length all_traps ≡ 11
unfolding all_traps
traps-length = refl

pub counts-length : length all_counts ≡ 24
unfolding all_counts
counts-length = refl

-- ---- the end of a task's line

-- no end of a task's line stands there where none of its forms does
no-stop-by : (bytes : List ℕ) → NoneStands IsNumber (field (codes "finished retired ") newline) bytes → NoneStands IsNumber (field (codes "fuel retired ") newline) bytes
    → ((a b : ℕ) (rest : List ℕ) → StandPair (codes "waits ") (codes "retired ") 10 bytes a b rest → ⊥)
    → ((k : TrapKind) → NoneStands HasTrapNumbers (trap_rest (trap_front k)) bytes)
    → (e : EndShown) (n : ℕ) (rest : List ℕ) → HasEndNumbers e n → bytes ≡ stop_by e n ++ rest → ⊥
no-stop-by bytes done spent waits traps shown.TheVariants.Finished n rest fits is = done n rest (record { fits = fits; parts = is })
no-stop-by bytes done spent waits traps shown.TheVariants.Fuel n rest fits is = spent n rest (record { fits = fits; parts = is })
no-stop-by bytes done spent waits traps (shown.TheVariants.Trap k pc value) n rest fits is = traps k _ rest (record { fits = fits; parts = is })
no-stop-by bytes done spent waits traps (shown.TheVariants.Waits lock) n rest fits is = waits lock.0 n rest (record { first_from = fits.0; second_from = fits.1; parts = is })

pub no-stop : (bytes : List ℕ) → NoneStands IsNumber (field (codes "finished retired ") newline) bytes → NoneStands IsNumber (field (codes "fuel retired ") newline) bytes
    → ((a b : ℕ) (rest : List ℕ) → StandPair (codes "waits ") (codes "retired ") 10 bytes a b rest → ⊥)
    → ((k : TrapKind) → NoneStands HasTrapNumbers (trap_rest (trap_front k)) bytes)
    → NoneStands HasStopNumbers stop_text bytes
no-stop bytes done spent waits traps s rest st = no-stop-by bytes done spent waits traps s.end s.retired rest st.fits st.parts

waits-regroup : (w l s t n e : List ℕ) → ((w ++ l) ++ (s ++ t)) ++ n ++ e ≡ (w ++ l ++ s) ++ (t ++ n ++ e)
waits-regroup w l s t n e = simp append_assoc

trap-regroup : (x t n e : List ℕ) → x ++ t ++ n ++ e ≡ x ++ (t ++ n ++ e)
trap-regroup x t n e = simp append_assoc

-- the end of a task's line is written as a task's line is
stop-is : (e : EndShown) (n : ℕ) → end_text e ++ codes " retired " ++ decimal n ++ newline ≡ stop_by e n
unfolding pair_fields field trap_rest
stop-is shown.TheVariants.Finished n = refl
stop-is shown.TheVariants.Fuel n = refl
stop-is (shown.TheVariants.Trap k pc value) n =
    trap-regroup (trap_front k ++ hexadecimal pc ++ codes " value " ++ hexadecimal value) (codes " retired ") (decimal n) newline
stop-is (shown.TheVariants.Waits lock) n = waits-regroup (codes "waits ") (decimal lock.0) space (codes "retired ") (decimal n) newline

task-regroup : (name a b e t n r : List ℕ) → (name ++ a ++ space ++ b ++ space ++ e ++ t ++ n ++ newline) ++ r ≡ ((name ++ a ++ space) ++ (b ++ space)) ++ ((e ++ t ++ n ++ newline) ++ r)
task-regroup name a b e t n r = simp append_assoc

-- a task's line begins with its phase and core
pub task-parts : (t : TaskEnd) (r : List ℕ) → task_line t ++ r ≡ pair_fields (codes "task ") [] 32 t.phase.0 t.core.0 ++ (stop_by t.end t.retired ++ r)
unfolding task_line pair_fields field
task-parts t r =
    task-regroup (codes "task ") (decimal t.phase.0) (decimal t.core.0) (end_text t.end) (codes " retired ") (decimal t.retired) r
    ∙ ap (λ xs. ((codes "task " ++ decimal t.phase.0 ++ space) ++ (decimal t.core.0 ++ space)) ++ (xs ++ r)) (stop-is t.end t.retired)

-- ---- outcomes

pub no-outcome : (bytes : List ℕ) → ((rest : List ℕ) → bytes ≢ (codes "outcome done" ++ newline) ++ rest) → ((rest : List ℕ) → bytes ≢ (codes "outcome trapped" ++ newline) ++ rest)
    → ((rest : List ℕ) → bytes ≢ (codes "outcome fuel" ++ newline) ++ rest) → ((rest : List ℕ) → bytes ≢ (codes "outcome stuck" ++ newline) ++ rest)
    → (o : Outcome) (rest : List ℕ) → bytes ≢ outcome_line o ++ rest
unfolding outcome_line
no-outcome bytes done trapped fuel stuck outcome.TheVariants.Done rest is = done rest is
no-outcome bytes done trapped fuel stuck outcome.TheVariants.Trapped rest is = trapped rest is
no-outcome bytes done trapped fuel stuck outcome.TheVariants.Fuel rest is = fuel rest is
no-outcome bytes done trapped fuel stuck outcome.TheVariants.Stuck rest is = stuck rest is

-- ---- counts

pub count-is : (c : Count) (n : ℕ) → count_line_of c n ≡ field (count_front c) newline n
unfolding words_line counted_line count_line field
count-is count.TheVariants.Words n = refl
count-is count.TheVariants.Events n = refl
count-is (count.TheVariants.Kind k) n = refl
count-is count.TheVariants.Tasks n = refl
count-is count.TheVariants.Retired n = refl
count-is count.TheVariants.Links n = refl
count-is count.TheVariants.WholeEvents n = refl
count-is count.TheVariants.EnabledEvents n = refl

-- ---- all lines

-- no line of an answer stands there where none of its forms does
pub no-line : (bytes : List ℕ) → ((o : Outcome) (rest : List ℕ) → bytes ≢ outcome_line o ++ rest) → NoneStands HasTaskNumbers task_line bytes
    → ((w v : ℕ) (rest : List ℕ) → IsShownWord w v → bytes ≢ word_line w v ++ rest) → NoneStands HasGrantNumbers grant_line bytes
    → NoCount bytes → NoneStands IsOtherLine answer_line bytes → NoneStands IsAnswerLine answer_line bytes
no-line bytes outcomes tasks words grants counts others (line.TheVariants.Outcome o) rest st = outcomes o rest st.parts
no-line bytes outcomes tasks words grants counts others (line.TheVariants.Task t) rest st = tasks t rest (record { fits = st.fits; parts = st.parts })
no-line bytes outcomes tasks words grants counts others (line.TheVariants.Word w v) rest st = words w v rest st.fits st.parts
no-line bytes outcomes tasks words grants counts others (line.TheVariants.Grant g) rest st = grants g rest (record { fits = st.fits; parts = st.parts })
no-line bytes outcomes tasks words grants counts others (line.TheVariants.Count c n) rest st =
    counts c n rest (record { fits = st.fits; parts = rw (← count-is c n) st.parts })
no-line bytes outcomes tasks words grants counts others (line.TheVariants.Sum v) rest st = others (line.TheVariants.Sum v) rest (record { fits = st.fits; parts = st.parts })
no-line bytes outcomes tasks words grants counts others (line.TheVariants.Time t) rest st = others (line.TheVariants.Time t) rest (record { fits = st.fits; parts = st.parts })
no-line bytes outcomes tasks words grants counts others (line.TheVariants.Network t) rest st = others (line.TheVariants.Network t) rest (record { fits = st.fits; parts = st.parts })
no-line bytes outcomes tasks words grants counts others (line.TheVariants.Link l) rest st = others (line.TheVariants.Link l) rest (record { fits = st.fits; parts = st.parts })
no-line bytes outcomes tasks words grants counts others (line.TheVariants.Checked a b c) rest st = others (line.TheVariants.Checked a b c) rest (record { fits = st.fits; parts = st.parts })
no-line bytes outcomes tasks words grants counts others (line.TheVariants.Unbounded p c a) rest st = others (line.TheVariants.Unbounded p c a) rest (record { fits = st.fits; parts = st.parts })
no-line bytes outcomes tasks words grants counts others (line.TheVariants.Varies w) rest st = others (line.TheVariants.Varies w) rest (record { fits = st.fits; parts = st.parts })
no-line bytes outcomes tasks words grants counts others (line.TheVariants.OpenControl a b c) rest st = others (line.TheVariants.OpenControl a b c) rest (record { fits = st.fits; parts = st.parts })
no-line bytes outcomes tasks words grants counts others (line.TheVariants.OpenHeld a b c) rest st = others (line.TheVariants.OpenHeld a b c) rest (record { fits = st.fits; parts = st.parts })
no-line bytes outcomes tasks words grants counts others (line.TheVariants.OpenStuck a b) rest st = others (line.TheVariants.OpenStuck a b) rest (record { fits = st.fits; parts = st.parts })
no-line bytes outcomes tasks words grants counts others (line.TheVariants.Fixed f) rest st = others (line.TheVariants.Fixed f) rest (record { fits = st.fits; parts = st.parts })

pub none-more : {X : Type 0} (o : Option X) (P Q : Type 0) → (P → Q) → IfNone o P → IfNone o Q
none-more None P Q more h = more h
none-more (Some x) P Q more h = tt
