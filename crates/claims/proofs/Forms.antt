-- The lines of a claim are read in one way.
use Rattle.std.proofs.Common.{◌≡◌, ℕ, ◌^◌, ◌<◌, List, [], ◌∷◌, ◌++◌, flat_map, length, drop, codes, Some, None, refl, sym, ap, ◌∙◌, arith, append_assoc}
use Rattle.std.proofs.lemmas.List.{append_cancel_left}
use Rattle.dn_base.specs.declared.ids.LoadSeen.{LoadSeen}
use Rattle.flat_machine.specs.declared.ending.TaskLoads.{TaskLoads}
use Rattle.text_pieces.specs.Pieces.{newline, space, hexadecimal}
use Rattle.text_pieces.specs.Field.{field, Stands, NoneStands}
use Rattle.text_pieces.specs.Parts.{source_part, StandAll}
use Rattle.std.specs.Fmt.{decimal}
use Rattle.text_pieces.proofs.Digits.{front, front-decimal, decimal-plain}
use Rattle.text_pieces.proofs.Fields.{field-parts}
use Rattle.text_pieces.proofs.Forms.{IsOne, field-one, source-one}
use Rattle.text_pieces.proofs.Rows.{all-one, all-broken}
use Rattle.text_pieces.proofs.Words.{word-one}
use Rattle.claims.specs.declared.claim.Question.{Question}
use Rattle.claims.specs.declared.rows.TaskHead.{TaskHead}
use Rattle.claims.specs.Claim.{IsNumber, IsQuestion, Head, IsHead, title, question_text, head_text, IsGrant, IsLoad, IsTaskHead, IsTask, head_of_task, IsLoadsHead, three_fields, grant_row, load_row, task_head_row, task_rows, loads_head_row}
use Rattle.claims.specs.Faults.{IsBrokenLoad}

-- ---- three numbers

pub three-parts : (name : List ℕ) (a b c : ℕ) (r : List ℕ) → three_fields name a b c ++ r ≡ field name space a ++ (field [] space b ++ (field [] newline c ++ r))
unfolding three_fields
three-parts name a b c r = simp append_assoc

pub three-one : (name : List ℕ) (a b c x y z : ℕ) (r q : List ℕ) → IsNumber a → IsNumber b → IsNumber c → IsNumber x → IsNumber y → IsNumber z
    → three_fields name a b c ++ r ≡ three_fields name x y z ++ q → (a ≡ x) × (b ≡ y) × (c ≡ z) × (r ≡ q)
three-one name a b c x y z r q fa fb fc fx fy fz is =
    let parts = sym (three-parts name a b c r) ∙ is ∙ three-parts name x y z q in
    let first = field-one name 32 0 4294967295 refl (omega arith) a x _ _ fa fx parts in
    let second = field-one [] 32 0 4294967295 refl (omega arith) b y _ _ fb fy first.1 in
    let third = field-one [] 10 0 4294967295 refl (omega arith) c z r q fc fz second.1 in
    (first.0, second.0, third.0, third.1)

pub grant-one : IsOne IsGrant grant_row
grant-one g h r q fg fh is =
    let s = three-one (codes "grant ") g.phase.0 g.core.0 g.lock.0 h.phase.0 h.core.0 h.lock.0 r q fg.phase fg.core fg.lock fh.phase fh.core fh.lock is in
    (λ i. record { phase = record { 0 = s.0 i }; core = record { 0 = s.1 i }; lock = record { 0 = s.2 i } }, s.3)

pub task-head-one : IsOne IsTaskHead task_head_row
task-head-one g h r q fg fh is =
    let s = three-one (codes "task ") g.phase.0 g.core.0 g.count h.phase.0 h.core.0 h.count r q fg.phase fg.core fg.count fh.phase fh.core fh.count is in
    (λ i. record { phase = record { 0 = s.0 i }; core = record { 0 = s.1 i }; count = s.2 i }, s.3)

-- ---- a load

pub load-parts : (s : LoadSeen) (r : List ℕ) → load_row s ++ r ≡ field [] space s.word.0 ++ (hexadecimal s.value ++ (10 ∷ r))
unfolding load_row
load-parts s r = simp append_assoc

pub load-one : IsOne IsLoad load_row
load-one s t r q fs ft is =
    let parts = sym (load-parts s r) ∙ is ∙ load-parts t q in
    let word = field-one [] 32 0 4294967295 refl (omega arith) s.word.0 t.word.0 _ _ fs.word ft.word parts in
    let value = word-one s.value t.value _ _ fs.value ft.value word.1 in
    (λ i. record { word = record { 0 = word.0 i }; value = value.0 i }, ap (drop 1) value.1)

-- ---- a task

pub task-parts : (t : TaskLoads) (r : List ℕ) → task_rows t ++ r ≡ task_head_row (head_of_task t) ++ (flat_map load_row t.loads ++ r)
unfolding task_rows
task-parts t r = append_assoc (task_head_row (head_of_task t)) (flat_map load_row t.loads) r

pub task-one : IsOne IsTask task_rows
task-one s t r q fs ft is =
    let parts = sym (task-parts s r) ∙ is ∙ task-parts t q in
    let head = task-head-one (head_of_task s) (head_of_task t) _ _ fs.head ft.head parts in
    let bytes : List ℕ = flat_map load_row s.loads ++ r in
    let mine : StandAll IsLoad load_row bytes s.loads r = record { fits = fs.loads; parts = refl } in
    let other : StandAll IsLoad load_row bytes t.loads q = record { fits = ft.loads; parts = head.1 } in
    let loads = all-one IsLoad load_row load-one bytes s.loads t.loads r q mine other (ap (λ (h : TaskHead). h.count) head.0) in
    (λ i. record { phase = (head.0 i).phase; core = (head.0 i).core; loads = loads.0 i }, loads.1)

-- a task that stands there has its line there, and all its loads
pub task-has-head : (bytes : List ℕ) (t : TaskLoads) (rest : List ℕ) → Stands IsTask task_rows bytes t rest → Stands IsTaskHead task_head_row bytes (head_of_task t) (flat_map load_row t.loads ++ rest)
task-has-head bytes t rest st = record { fits = st.fits.head; parts = st.parts ∙ task-parts t rest }

pub no-task-head : (bytes : List ℕ) → NoneStands IsTaskHead task_head_row bytes → NoneStands IsTask task_rows bytes
no-task-head bytes none t rest st = none (head_of_task t) (flat_map load_row t.loads ++ rest) (task-has-head bytes t rest st)

pub no-task-load : (bytes : List ℕ) (number : ℕ) → IsBrokenLoad bytes number → NoneStands IsTask task_rows bytes
no-task-load bytes number b t rest st =
    let head = task-has-head bytes t rest st in
    let same = task-head-one b.task (head_of_task t) b.behind (flat_map load_row t.loads ++ rest) b.head.fits head.fits (sym b.head.parts ∙ head.parts) in
    let loads : StandAll IsLoad load_row b.behind t.loads rest = record { fits = st.fits.loads; parts = same.1 } in
    all-broken IsLoad load_row load-one b.behind t.loads rest b.rest b.task.count number loads (ap (λ (h : TaskHead). h.count) (sym same.0)) b.broken

-- ---- what is said of loads

first-n : (count : ℕ) (r q : List ℕ) → loads_head_row None ++ r ≡ loads_head_row (Some count) ++ q → IsNumber count → ⊥
unfolding loads_head_row
first-n count r q is fits =
    let behind : codes "none" ++ (10 ∷ r) ≡ decimal count ++ (10 ∷ q) =
    append_cancel_left (codes "loads ") (codes "none" ++ (10 ∷ r)) (decimal count ++ (10 ∷ q)) (is ∙ field-parts (codes "loads ") 10 count q) in
    let small : count < 2 ^ 64 = omega (arith, fits.high) in
    let digits : [] ≡ decimal count = ap front behind ∙ front-decimal count 10 q small refl in
    omega (arith, ap length digits, (decimal-plain count small).some)

pub loads-head-one : IsOne IsLoadsHead loads_head_row
unfolding loads_head_row
loads-head-one None None r q fx fy is = (refl, append_cancel_left (loads_head_row None) r q is)
loads-head-one None (Some n) r q fx fy is = absurd (first-n n r q is fy)
loads-head-one (Some m) None r q fx fy is = absurd (first-n m q r (sym is) fx)
loads-head-one (Some m) (Some n) r q fx fy is =
    let s = field-one (codes "loads ") 10 0 4294967295 refl (omega arith) m n r q fx fy is in
    (ap Some s.0, s.1)

-- ---- the head

pub question-parts : (o : Question) (r : List ℕ) → question_text o ++ r ≡ title ++ (field (codes "fuel ") newline o.fuel ++ (source_part o.text ++ r))
unfolding question_text
question-parts o r = simp append_assoc

pub question-one : IsOne IsQuestion question_text
question-one o p r q fo fp is =
    let parts = append_cancel_left title _ _ (sym (question-parts o r) ∙ is ∙ question-parts p q) in
    let fuel = field-one (codes "fuel ") 10 1 32768 refl (omega arith) o.fuel p.fuel _ _ fo.fuel fp.fuel parts in
    let text = source-one o.text p.text r q fo.text fp.text fuel.1 in
    (λ i. record { fuel = fuel.0 i; text = text.0 i }, text.1)

pub head-parts : (h : Head) (r : List ℕ) → head_text h ++ r ≡ question_text h.question ++ (field (codes "grants ") newline h.count ++ r)
unfolding head_text
head-parts h r = append_assoc (question_text h.question) (field (codes "grants ") newline h.count) r

pub head-one : IsOne IsHead head_text
head-one g h r q fg fh is =
    let parts = sym (head-parts g r) ∙ is ∙ head-parts h q in
    let asked = question-one g.question h.question _ _ fg.question fh.question parts in
    let count = field-one (codes "grants ") 10 0 4294967295 refl (omega arith) g.count h.count r q fg.count fh.count asked.1 in
    (λ i. record { question = asked.0 i; count = count.0 i }, count.1)
