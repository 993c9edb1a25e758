-- A task alone that is watched, acquires that are sought, and the reason of a phase.
use Rattle.std.proofs.Common.{◌≡◌, ℕ, zero, suc, ◌+◌, ◌-◌, ◌<◌, Bool, true, false, ◌&&◌, if◌then◌else◌, List, [], ◌∷◌, ◌++◌, length, drop, get_or, slice_index, Option, Some, None, is_none, refl, sym, ap, ◌∙◌, subst, arith}
use Rattle.std.specs.List.{list_all}
use Rattle.std.specs.Option.{option_or}
use Rattle.std.proofs.lemmas.List.{drop_more}
use Rattle.region_table.specs.Program.{ProgramParts}
use Rattle.region_table.specs.declared.declared.Phase.{Phase}
use Rattle.rv_core.specs.Need.{need_of}
use Rattle.rv_core.specs.Next.{instr_within, IsNextOf}
use Rattle.rv_core.specs.Access.{is_held}
use Rattle.rv_core.specs.declared.need.Next.{Next}
use Rattle.rv_core.specs.declared.task.End.{End}
use Rattle.common_outcomes.specs.declared.value.Value.{Value}
use Rattle.common_outcomes.specs.declared.value.Effect.{Effect}
use Rattle.common_outcomes.specs.declared.answer.Open.{Open}
use Rattle.common_outcomes.specs.Alone.{Setup, Alone, is_settled_if, is_settled_next, alone_by, alone_step}
use Rattle.common_outcomes.specs.Phases.{Summary, summaries, after_from, leads, leads_to}
use Rattle.common_outcomes.specs.Answer.{open_of, has_ended_well}
use Rattle.rv_core.specs.declared.ending.TaskEnd.{TaskEnd}
use Rattle.outcomes_top.specs.declared.phase.Progress.{Progress}
use Rattle.outcomes_top.specs.declared.phase.Progress.TheVariants.{Over, Goes, Open as IsOpen}
use Rattle.outcomes_top.specs.declared.reasons.Read.{Read}
use Rattle.outcomes_top.specs.declared.reasons.Reason.{Reason}
use Rattle.outcomes_top.specs.declared.reasons.Sought.{Sought}
use Rattle.outcomes_top.specs.declared.reasons.Taken.{Taken}
use Rattle.outcomes_top.specs.declared.reasons.Taking.{Taking}
use Rattle.outcomes_top.specs.Reasons.{makes_one, origins_by, origins_step, origins_from, taking_by, taken_at, takings_from, AreRows, sought_in, last_sought, reason_in, reason_by, reason_from, reason_after}
use Rattle.outcomes_top.proofs.PhaseLemmas.{AreOutlines, HasOutlines, are-bare, leads-same, opens-so, well-so, memory-after}

-- ---- one instruction

-- a task that hasn't ended, and of which control is settled, goes on
pub goes-true : (S : Setup) (a : Alone) (next : Next) → a.state.end ≡ None → IsNextOf S.program S.decl S.fuel a.state next → is_settled_if a.kinds a.state next.instr ≡ true → makes_one S a ≡ true
goes-true S a next runs look settled =
    let found : next.instr ≡ instr_within S.program S.fuel a.state = ap (λ (x : Next). x.instr) look in
    ap (λ (o : Option End). is_none o && is_settled_next S a) runs ∙ (ap (is_settled_if a.kinds a.state) (sym found) ∙ settled)

pub origins-so : (S : Setup) (a : Alone) (next : Next) (os : List (Option Read)) → makes_one S a ≡ true → IsNextOf S.program S.decl S.fuel a.state next → origins_by S a os next.need next.instr ≡ origins_step S a os
origins-so S a next os is look =
    ap (λ (x : Next). origins_by S a os x.need x.instr) look
    ∙ sym (ap (λ (b : Bool). if b then origins_by S a os (need_of S.program S.decl S.fuel a.state) (instr_within S.program S.fuel a.state) else os) is)

pub taken-so : (S : Setup) (a : Alone) (next : Next) → makes_one S a ≡ true → IsNextOf S.program S.decl S.fuel a.state next → taking_by S a next.need ≡ taken_at S a
taken-so S a next is look =
    ap (λ (x : Next). taking_by S a x.need) look ∙ sym (ap (λ (b : Bool). if b then taking_by S a (need_of S.program S.decl S.fuel a.state) else []) is)

pub origins-rest : (S : Setup) (a : Alone) (os : List (Option Read)) → makes_one S a ≡ false → origins_step S a os ≡ os
origins-rest S a os is = ap (λ (b : Bool). if b then origins_by S a os (need_of S.program S.decl S.fuel a.state) (instr_within S.program S.fuel a.state) else os) is

pub taken-rest : (S : Setup) (a : Alone) → makes_one S a ≡ false → taken_at S a ≡ []
taken-rest S a is = ap (λ (b : Bool). if b then taking_by S a (need_of S.program S.decl S.fuel a.state) else []) is

pub step-rest : (S : Setup) (a : Alone) → makes_one S a ≡ false → alone_step S a ≡ a
step-rest S a is = ap (λ (b : Bool). if b then alone_by S a (need_of S.program S.decl S.fuel a.state) else a) is

-- ---- a task that rests

pub origins-still : (S : Setup) (n : ℕ) (a : Alone) (os : List (Option Read)) → makes_one S a ≡ false → origins_from S n a os ≡ os
origins-still S zero a os is = refl
origins-still S (suc n) a os is =
    ap (λ (x : Alone). origins_from S n x (origins_step S a os)) (step-rest S a is) ∙ ap (origins_from S n a) (origins-rest S a os is) ∙ origins-still S n a os is

pub takings-still : (S : Setup) (n : ℕ) (a : Alone) → makes_one S a ≡ false → takings_from S n a ≡ []
takings-still S zero a is = refl
takings-still S (suc n) a is =
    ap (λ (ts : List Taking). ts ++ takings_from S n (alone_step S a)) (taken-rest S a is) ∙ ap (takings_from S n) (step-rest S a is) ∙ takings-still S n a is

-- ---- one more step of a loop

pub origins-more : (S : Setup) (m done : ℕ) (a : Alone) (os : List (Option Read)) → done < m → origins_from S (m - done) a os ≡ origins_from S (m - (done + 1)) (alone_step S a) (origins_step S a os)
origins-more S m done a os low =
    let next : m - done ≡ suc (m - (done + 1)) = omega arith in ap (λ (n : ℕ). origins_from S n a os) next

pub takings-more : (S : Setup) (m done : ℕ) (a : Alone) → done < m → takings_from S (m - done) a ≡ taken_at S a ++ takings_from S (m - (done + 1)) (alone_step S a)
takings-more S m done a low =
    let next : m - done ≡ suc (m - (done + 1)) = omega arith in ap (λ (n : ℕ). takings_from S n a) next

-- ---- acquires that are sought

or-assoc : {X : Type 0} (a b c : Option X) → option_or (option_or a b) c ≡ option_or a (option_or b c)
or-assoc None b c = refl
or-assoc (Some x) b c = refl

pub sought-more : (rs : List Summary) (s : Sought) (ts : List Taking) (i : ℕ) (d : Taking) (last next all : Option Taken) → i < length ts → next ≡ option_or (sought_in rs s (get_or ts i d)) last
    → option_or (last_sought rs s (drop i ts)) last ≡ all → option_or (last_sought rs s (drop (i + 1) ts)) next ≡ all
sought-more rs s ts i d last next all within is before =
    ap (option_or (last_sought rs s (drop (i + 1) ts))) is ∙ sym (or-assoc (last_sought rs s (drop (i + 1) ts)) (sought_in rs s (get_or ts i d)) last)
    ∙ ap (λ (xs : List Taking). option_or (last_sought rs s xs) last) (sym (drop_more ts i d within)) ∙ before

-- ---- rows

pub rows-of-all : (P : ProgramParts) (fuel : ℕ) (p : Phase) (first : List Value) (all : List Summary) (rows : List ℕ) → AreOutlines P fuel p first all
    → ((a b : ℕ) → a < 32 → b < 32 → is_held (slice_index rows a) b ≡ leads all 32 a b) → AreRows (summaries P fuel p first) rows
unfolding leads_to
rows-of-all P fuel p first all rows is h a b low high =
    h a b low high ∙ ap (λ (rs : List Summary). leads rs 32 a b) (are-bare P fuel p first all is) ∙ leads-same (summaries P fuel p first) 32 a b

-- ---- the reason after a phase

pub reason-open : (P : ProgramParts) (fuel n : ℕ) (p : Phase) (left : List Phase) (first : List Value) (all : List Summary) (why : Open) → AreOutlines P fuel p first all → Some why ≡ open_of n all
    → reason_after (IsOpen why) P fuel n p left first ≡ reason_from P fuel n (p ∷ left) first
reason-open P fuel n p left first all why are found =
    let rs = summaries P fuel p first in
    sym (ap (λ (o : Option Open). reason_by o (list_all has_ended_well rs) (reason_in P fuel p first) (reason_from P fuel (n + 1) left (after_from 0 rs first)))
    (opens-so P fuel n p first all (Some why) are found))

reason-shut : (P : ProgramParts) (fuel n : ℕ) (p : Phase) (left : List Phase) (ends now : List TaskEnd) (first after : List Value) (all : List Summary) (effects : List Effect)
    → HasOutlines P fuel n p ends now first after all effects → (well : Bool) → list_all has_ended_well all ≡ well
    → reason_by None well (reason_in P fuel p first) (reason_from P fuel (n + 1) left (after_from 0 (summaries P fuel p first) first)) ≡ reason_from P fuel n (p ∷ left) first
reason-shut P fuel n p left ends now first after all effects h well is =
    let rs = summaries P fuel p first in
    let later = reason_from P fuel (n + 1) left (after_from 0 rs first) in
    sym (ap (λ (o : Option Open). reason_by o (list_all has_ended_well rs) (reason_in P fuel p first) later) (opens-so P fuel n p first all None h.outlines_are h.not_open)
    ∙ ap (λ (b : Bool). reason_by None b (reason_in P fuel p first) later) (well-so P fuel p first all h.outlines_are ∙ is))

pub reason-goes : (P : ProgramParts) (fuel n : ℕ) (p : Phase) (left : List Phase) (ends now : List TaskEnd) (first after : List Value) (all : List Summary) (effects : List Effect)
    → HasOutlines P fuel n p ends now first after all effects → (well : Bool) → list_all has_ended_well all ≡ well
    → reason_after (if well then Goes else Over) P fuel n p left after ≡ reason_from P fuel n (p ∷ left) first
reason-goes P fuel n p left ends now first after all effects h true is =
    ap (reason_from P fuel (n + 1) left) (memory-after (summaries P fuel p first) effects first after h.count h.words h.effects_are h.each)
    ∙ reason-shut P fuel n p left ends now first after all effects h true is
reason-goes P fuel n p left ends now first after all effects h false is = reason-shut P fuel n p left ends now first after all effects h false is

-- one more phase of the program
pub reason-step : (P : ProgramParts) (fuel n : ℕ) (items : List Phase) (p : Phase) (progress : Progress) (before after : List Value) (all : Option Reason) → items ≡ P.phases → n < length items
    → p ≡ get_or items n p → ((left : List Phase) → reason_after progress P fuel n p left after ≡ reason_from P fuel n (p ∷ left) before)
    → reason_from P fuel n (drop n P.phases) before ≡ all → reason_after progress P fuel n p (drop (n + 1) P.phases) after ≡ all
reason-step P fuel n items p progress before after all are within is step leads =
    let next : drop n items ≡ p ∷ drop (n + 1) items = drop_more items n p within ∙ ap (λ (x : Phase). x ∷ drop (n + 1) items) (sym is) in
    let here : drop n P.phases ≡ p ∷ drop (n + 1) P.phases = subst (λ (ps : List Phase). drop n ps ≡ p ∷ drop (n + 1) ps) are next in
    step (drop (n + 1) P.phases) ∙ ap (λ (ps : List Phase). reason_from P fuel n ps before) (sym here) ∙ leads
