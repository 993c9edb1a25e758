-- The line that says why an answer of outcomes is open is one that answers of the program may have.
use Rattle.std.proofs.Common.{◌≡◌, ◌≢◌, ℕ, zero, suc, ◌+◌, ◌-◌, ◌/◌, ◌%◌, ◌^◌, ◌<◌, ◌==◌, nat_le, nat_lt, Bool, true, false, ◌&&◌, ◌||◌, not, if◌then◌else◌, List, [], ◌∷◌, ◌++◌, codes, map, length, slice_index, slice_get, Option, Some, None, is_some, is_none, refl, sym, ap, subst, ◌∙◌, arith, append_assoc}
use Rattle.std.specs.List.{IsAmong, find, list_any, list_all}
use Rattle.std.specs.Option.{option_or, option_map}
use Rattle.std.specs.Fmt.{decimal}
use Rattle.std.proofs.lemmas.Bool.{false≢true, and_parts, and_from, lt-ltb}
use Rattle.std.proofs.lemmas.Option.{none-some, same_Some, slice_get_within}
use Rattle.region_table.specs.declared.declared.TaskDecl.{TaskDecl}
use Rattle.region_table.specs.declared.declared.Phase.{Phase}
use Rattle.region_table.specs.Program.{ProgramParts, IsProgram}
use Rattle.region_table.proofs.TaskLemmas.{among-got}
use Rattle.rv_core.specs.Access.{is_held}
use Rattle.rv_core.specs.Address.{code_at}
use Rattle.rv_core.specs.Step.{read_instr, instr_at}
use Rattle.rv_core.specs.declared.task.End.{End}
use Rattle.rv_core.specs.declared.ending.TaskEnd.{TaskEnd}
use Rattle.run_agreement.proofs.Places.{map-place}
use Rattle.common_outcomes.specs.declared.value.Value.{Value}
use Rattle.common_outcomes.specs.declared.answer.Open.{Open}
use Rattle.common_outcomes.specs.declared.answer.Open.TheVariants.{Control, Held, Stuck}
use Rattle.common_outcomes.specs.declared.answer.Outcomes as answer
use Rattle.common_outcomes.specs.Values.{known}
use Rattle.common_outcomes.specs.Alone.{Setup, alone}
use Rattle.common_outcomes.specs.Phases.{Summary, setup, summary, summaries, after_from, is_control_open, takes_elsewhere, is_nested, IsLockWay, is_on_circle}
use Rattle.common_outcomes.specs.Answer.{locks_up_to, control_of, held_lock, first_held, first_stuck, open_of, end_alone, settled_with, has_ended_well, answer_by, answer_from, outcomes}
use Rattle.common_outcomes.proofs.Circles.{circle-way}
use Rattle.outcomes_top.specs.Text.{open_line}
use Rattle.text_places.specs.declared.places.Located.{Located}
use Rattle.text_places.specs.declared.places.Places.{Places}
use Rattle.text_places.proofs.LineLemmas.{all-code}
use Rattle.sentences.specs.Endings.{code_place_at}
use Rattle.explained_answer.specs.declared.line.AnswerLine as line
use Rattle.explained_answer.specs.declared.line.AnswerLine.{AnswerLine}
use Rattle.explained_answer.specs.Parts.{pair_fields, three_line}
use Rattle.text_pieces.specs.Pieces.{newline, space}
use Rattle.text_pieces.specs.Field.{field}
use Rattle.explained_answer.specs.AnswerLines.{answer_line, place_line}
use Rattle.explained_answer.specs.Lines.{IsLineOf, has_task, has_named_lock}
use Rattle.explained_answer.specs.Explained.{IsLocated}
use Rattle.companion_laws.proofs.AloneRuns.{alone-locks, alone-open, open-instruction}
use Rattle.companion_laws.proofs.Ends.{program, has-task, phase-number, core-number, lock-number}
use Rattle.companion_laws.proofs.Programs.{some-there}
use Rattle.companion_laws.proofs.Runs.{AreLines}
use Rattle.companion_laws.proofs.Times.{one-line}

-- ---- lists

find-there : {X : Type 0} (test : X → Bool) (xs : List X) (x : X) → find test xs ≡ Some x → (i : ℕ) × (slice_get xs i ≡ Some x) × (test x ≡ true)
find-there test [] x e = absurd (none-some x e)
find-there {X} test (y ∷ ys) x e = by_test (test y) refl e (find-there test ys x) where
  by_test : (b : Bool) → test y ≡ b → (if b then Some y else find test ys) ≡ Some x → (find test ys ≡ Some x → (i : ℕ) × (slice_get ys i ≡ Some x) × (test x ≡ true))
      → (i : ℕ) × (slice_get (y ∷ ys) i ≡ Some x) × (test x ≡ true)
  by_test true is e later = (zero, e, subst (λ (z : X). test z ≡ true) (same_Some y x e) is)
  by_test false is e later = let found = later e in (suc found.0, found.1, found.2)

-- an element of a list that passes the test
record HasOne {X : Type 0} (test : X → Bool) (xs : List X) : Type 0 where
  item : X
  place : ℕ
  there : slice_get xs place ≡ Some item
  passes : test item ≡ true

any-there : {X : Type 0} (test : X → Bool) (xs : List X) → list_any test xs ≡ true → HasOne test xs
any-there test [] e = absurd (false≢true e)
any-there test (y ∷ ys) e = by_test (test y) refl e (any-there test ys) where
  by_test : (b : Bool) → test y ≡ b → (b || list_any test ys) ≡ true → (list_any test ys ≡ true → HasOne test ys) → HasOne test (y ∷ ys)
  by_test true is e later = record { item = y; place = zero; there = refl; passes = is }
  by_test false is e later = let found = later e in record { item = found.item; place = suc found.place; there = found.there; passes = found.passes }

some-within : {X : Type 0} (xs : List X) (i : ℕ) → slice_get xs i ≢ None → i < length xs
some-within {X} xs i some = by_item (slice_get xs i) refl where
  by_item : (o : Option X) → slice_get xs i ≡ o → i < length xs
  by_item None e = absurd (some e)
  by_item (Some x) e = slice_get_within xs i x e

-- a way comes to its last lock from some lock
last-nested : (rs : List Summary) (from : ℕ) (between : List ℕ) (to : ℕ) → IsLockWay rs from between to → (x : ℕ) × (is_nested rs x to ≡ true)
last-nested rs from [] to way = (from, way)
last-nested rs from (l ∷ ls) to way = last-nested rs l ls to way.1

-- ---- the phase that is open

-- a phase of the program, with the memory at its beginning, that is open for this reason
record IsOpenAt (P : ProgramParts) (fuel : ℕ) (why : Open) : Type 0 where
  number : ℕ
  phase : Phase
  first : List Value
  there : slice_get P.phases number ≡ Some phase
  reason : open_of number (summaries P fuel phase first) ≡ Some why

open-at : (P : ProgramParts) (fuel n : ℕ) (left : List Phase) (ends : List TaskEnd) (memory : List Value) (why : Open) → ((i : ℕ) → slice_get P.phases (n + i) ≡ slice_get left i)
    → answer_from P fuel n left ends memory ≡ answer.TheVariants.Open why → IsOpenAt P fuel why
open-at P fuel n [] ends memory why stand e = absurd (cc)
open-at P fuel n (p ∷ left) ends memory why stand e =
    by_open (open_of n rs) refl (list_all has_ended_well rs) e (open-at P fuel (n + 1) left now after why next)
  where
    rs : List Summary
    rs = summaries P fuel p memory

    now : List TaskEnd
    now = ends ++ map (end_alone n) rs

    after : List Value
    after = after_from 0 rs memory

    here : slice_get P.phases n ≡ Some p
    here = let same : n ≡ n + 0 = omega arith in ap (slice_get P.phases) same ∙ stand 0

    next : (i : ℕ) → slice_get P.phases (n + 1 + i) ≡ slice_get left i
    next i = let same : n + 1 + i ≡ n + suc i = omega arith in ap (slice_get P.phases) same ∙ stand (suc i)

    open-same : (x y : Open) → answer.TheVariants.Open x ≡ answer.TheVariants.Open y → x ≡ y
    open-same x y same = cc

    by_open : (o : Option Open) → open_of n rs ≡ o → (b : Bool) → answer_by o b (settled_with now after) (answer_from P fuel (n + 1) left now after) ≡ answer.TheVariants.Open why
        → (answer_from P fuel (n + 1) left now after ≡ answer.TheVariants.Open why → IsOpenAt P fuel why) → IsOpenAt P fuel why
    by_open (Some x) is b e rest = record { number = n; phase = p; first = memory; there = here; reason = is ∙ ap Some (open-same x why e) }
    by_open None is true e rest = rest e
    by_open None is false e rest = absurd (cc)

answer-open : (P : ProgramParts) (fuel : ℕ) (why : Open) → outcomes P fuel ≡ answer.TheVariants.Open why → IsOpenAt P fuel why
unfolding outcomes
answer-open P fuel why e = open-at P fuel 0 P.phases [] (map known P.memory) why (λ i. let same : 0 + i ≡ i = omega arith in ap (slice_get P.phases) same) e

-- ---- its line

abbrev open_shown : Open → AnswerLine
open_shown (Control phase core pc) = line.TheVariants.OpenControl phase.0 core.0 pc
open_shown (Held phase core lock) = line.TheVariants.OpenHeld phase.0 core.0 lock.0
open_shown (Stuck phase lock) = line.TheVariants.OpenStuck phase.0 lock.0

stuck-regroup : (w a s b e : List ℕ) → w ++ a ++ s ++ b ++ e ≡ (w ++ a ++ s) ++ (b ++ e)
stuck-regroup w a s b e = simp append_assoc

same-line : (why : Open) → open_line why ≡ answer_line (open_shown why)
unfolding open_line place_line three_line pair_fields field
same-line (Control phase core pc) = refl
same-line (Held phase core lock) = refl
same-line (Stuck phase lock) = stuck-regroup (codes "open stuck ") (decimal phase.0) space (decimal lock.0) newline

module _ (text : List ℕ) (l : Located) (at' : IsLocated text l) (fuel : ℕ) where
  abbrev P : ProgramParts
  P = l.program

  abbrev well : IsProgram P
  well = program text l at'

  -- an address in the code has a place in the text, and 32 bits
  record IsPlaced (pc : ℕ) : Type 0 where
    place : is_some (code_place_at l.places pc) ≡ true
    word : pc < 2 ^ 32

  place-there : (pc : ℕ) → code_at P.code pc ≢ None → IsPlaced pc
  place-there pc some = by_test (nat_le 4096 pc && pc % 4 == 0) refl some where
    by_test : (b : Bool) → (nat_le 4096 pc && pc % 4 == 0) ≡ b → (if b then slice_get P.code ((pc - 4096) / 4) else None) ≢ None → IsPlaced pc
    by_test false is some = absurd (some refl)
    by_test true is some =
        let places : length l.places.code ≡ length P.code = ap (λ (ps : Places). length ps.code) at'.places ∙ all-code text P at'.program in
        let within = some-within P.code ((pc - 4096) / 4) some in
        let most = well.code in
        record {
          place =
              ap (λ (b : Bool). is_some (if b then slice_get l.places.code ((pc - 4096) / 4) else None)) is
              ∙ some-there l.places.code ((pc - 4096) / 4) (omega (arith, within, places));
          word = omega (arith, within, most);
        }

  module _ (n : ℕ) (p : Phase) (first : List Value) (there : slice_get P.phases n ≡ Some p) where
    abbrev rs : List Summary
    rs = summaries P fuel p first

    -- a task of the phase alone
    record IsSum (r : Summary) : Type 0 where
      decl : TaskDecl
      among : IsAmong p.tasks decl
      is : summary P fuel p first decl ≡ r

    sum-there : (i : ℕ) (r : Summary) → slice_get rs i ≡ Some r → IsSum r
    sum-there i r at'' =
        let found = map-place (summary P fuel p first) p.tasks i r at'' in
        record { decl = found.0; among = among-got p.tasks i found.0 found.1; is = found.2 }

    -- ---- control

    none-there : (o : Option End) → is_none o ≡ true → o ≡ None
    none-there None e = refl
    none-there (Some by) e = absurd (false≢true e)

    control-line : (r : Summary) → IsSum r → is_control_open r ≡ true → IsLineOf l (open_shown (control_of n r))
    control-line r s open' = subst (λ (x : Summary). IsLineOf l (open_shown (control_of n x))) s.is of-task where
      S : Setup
      S = setup P fuel p first s.decl

      runs : (alone S).state.end ≡ None
      runs = none-there (alone S).state.end (ap (λ (x : Summary). is_none x.alone.state.end) s.is ∙ open')

      placed : IsPlaced (alone S).state.pc
      placed = place-there (alone S).state.pc (λ none. open-instruction S (alone S) (alone-open S runs) (ap read_instr none))

      of-task : IsLineOf l (line.TheVariants.OpenControl n s.decl.core.0 (alone S).state.pc)
      of-task = record {
        fits = record { phase_from = phase-number text l at' n p there; core_from = core-number text l at' n p s.decl there s.among; pc_word = placed.word };
        of = and_from (has_task l n s.decl.core.0) (is_some (code_place_at l.places (alone S).state.pc)) (has-task text l at' n p s.decl there s.among) placed.place;
      }

    -- ---- locks

    acquired-low : (r : Summary) → IsSum r → (k : ℕ) → is_held r.alone.acquired k ≡ true → k < length P.locks
    acquired-low r s = subst (λ (x : Summary). (k : ℕ) → is_held x.alone.acquired k ≡ true → k < length P.locks) s.is (alone-locks (setup P fuel p first s.decl)).acquired

    over-low : (r : Summary) → IsSum r → (k j : ℕ) → is_held (slice_index r.alone.over k) j ≡ true → k < length P.locks
    over-low r s = subst (λ (x : Summary). (k j : ℕ) → is_held (slice_index x.alone.over k) j ≡ true → k < length P.locks) s.is (alone-locks (setup P fuel p first s.decl)).over

    -- another task takes the lock with which one ends
    held-low : (r : Summary) (k : ℕ) → held_lock rs r ≡ Some k → k < length P.locks
    held-low r k e =
        let found = find-there (λ (j : ℕ). is_held r.alone.state.held j && list_any (takes_elsewhere r.decl j) rs) locks_up_to k e in
        let taken = any-there (takes_elsewhere r.decl k) rs (and_parts (is_held r.alone.state.held k) (list_any (takes_elsewhere r.decl k) rs) found.2).1 in
        acquired-low taken.item (sum-there taken.place taken.item taken.there) k
        (and_parts (not (taken.item.decl.core.0 == r.decl.core.0)) (is_held taken.item.alone.acquired k) taken.passes).1

    held-line : (r : Summary) → IsSum r → (k : ℕ) → k < length P.locks → IsLineOf l (line.TheVariants.OpenHeld n r.decl.core.0 k)
    held-line r s k low = subst (λ (x : Summary). IsLineOf l (line.TheVariants.OpenHeld n x.decl.core.0 k)) s.is (record {
      fits = record { phase_from = phase-number text l at' n p there; core_from = core-number text l at' n p s.decl there s.among; lock_from = lock-number text l at' k low };
      of = and_from (has_task l n s.decl.core.0) (has_named_lock l k) (has-task text l at' n p s.decl there s.among) (lt-ltb k (length P.locks) low);
    })

    held-from : (left : List Summary) → ((i : ℕ) (r : Summary) → slice_get left i ≡ Some r → IsSum r) → (why : Open) → first_held n rs left ≡ Some why → IsLineOf l (open_shown why)
    held-from [] are why e = absurd (none-some why e)
    held-from (r ∷ left) are why e = by_lock (held_lock rs r) refl e (held-from left (λ i q at''. are (suc i) q at'') why) where
      by_lock : (o : Option ℕ) → held_lock rs r ≡ o → option_or (option_map (λ (k : ℕ). Held (record { 0 = n }) r.decl.core (record { 0 = k })) o) (first_held n rs left) ≡ Some why
          → (first_held n rs left ≡ Some why → IsLineOf l (open_shown why)) → IsLineOf l (open_shown why)
      by_lock None is e rest = rest e
      by_lock (Some k) is e rest =
          subst (λ (x : Open). IsLineOf l (open_shown x)) (same_Some (Held (record { 0 = n }) r.decl.core (record { 0 = k })) why e) (held-line r (are 0 r refl) k (held-low r k is))

    -- the lock on the circle is acquired while one is held
    stuck-low : (k : ℕ) → is_on_circle rs k ≡ true → k < length P.locks
    stuck-low k e =
        let circle = circle-way rs k e in
        let last = last-nested rs k circle.between k circle.way in
        let taken = any-there (λ (r : Summary). is_held (slice_index r.alone.over k) last.0) rs last.1 in
        over-low taken.item (sum-there taken.place taken.item taken.there) k last.0 taken.passes

    stuck-line : (k : ℕ) → k < length P.locks → IsLineOf l (line.TheVariants.OpenStuck n k)
    stuck-line k low = record {
      fits = record { phase_from = phase-number text l at' n p there; lock_from = lock-number text l at' k low };
      of = and_from (nat_lt n (length P.phases)) (has_named_lock l k) (lt-ltb n (length P.phases) (slice_get_within P.phases n p there)) (lt-ltb k (length P.locks) low);
    }

    -- ---- each reason

    reason-line : (why : Open) → open_of n rs ≡ Some why → IsLineOf l (open_shown why)
    reason-line why e = by_control (find is_control_open rs) refl e where
      by_stuck : (o : Option ℕ) → find (is_on_circle rs) locks_up_to ≡ o → option_map (λ (k : ℕ). Stuck (record { 0 = n }) (record { 0 = k })) o ≡ Some why → IsLineOf l (open_shown why)
      by_stuck None is e = absurd (none-some why e)
      by_stuck (Some k) is e =
          subst (λ (x : Open). IsLineOf l (open_shown x)) (same_Some (Stuck (record { 0 = n }) (record { 0 = k })) why e)
          (stuck-line k (stuck-low k (find-there (is_on_circle rs) locks_up_to k is).2))

      by_held : (o : Option Open) → first_held n rs rs ≡ o → option_or o (first_stuck n rs) ≡ Some why → IsLineOf l (open_shown why)
      by_held None is e = by_stuck (find (is_on_circle rs) locks_up_to) refl e
      by_held (Some x) is e = held-from rs sum-there why (is ∙ e)

      by_control : (o : Option Summary) → find is_control_open rs ≡ o → option_or (option_map (control_of n) o) (option_or (first_held n rs rs) (first_stuck n rs)) ≡ Some why
          → IsLineOf l (open_shown why)
      by_control None is e = by_held (first_held n rs rs) refl e
      by_control (Some r) is e =
          let found = find-there is_control_open rs r is in
          subst (λ (x : Open). IsLineOf l (open_shown x)) (same_Some (control_of n r) why e) (control-line r (sum-there found.0 r found.1) found.2)

  pub open-printed : (why : Open) → outcomes P fuel ≡ answer.TheVariants.Open why → AreLines l (open_line why)
  open-printed why e =
      let h = answer-open P fuel why e in
      one-line l (open_shown why) (reason-line h.number h.phase h.first h.there why h.reason) (open_line why) (same-line why)
