-- What a task may load and store as it goes on: within a segment its rights only shrink.
use Rattle.std.proofs.Common.{◌≡◌, ℕ, ◌+◌, ◌^◌, Bool, true, false, ◌&&◌, ◌||◌, nat_lt, List, [], ◌∷◌, Option, Some, None, refl, sym, ap, ◌∙◌, subst, ⊎_elim, bit_xor}
use Rattle.std.proofs.lemmas.Bool.{false≢true, and_parts, and_from, or_cases, or_left, or_right, cases_eq}
use Rattle.std.proofs.lemmas.Nat.{and_xor_apart, pow_apart}
use Rattle.std.proofs.lemmas.Option.{none-some, same_Some}
use Rattle.region_table.specs.Program.{ProgramParts}
use Rattle.region_table.specs.Words.{has}
use Rattle.region_table.specs.declared.interval.Interval.{Interval}
use Rattle.region_table.specs.declared.declared.TaskDecl.{TaskDecl}
use Rattle.rv_core.specs.declared.task.TaskState.{TaskState}
use Rattle.rv_core.specs.declared.task.End.{End}
use Rattle.rv_core.specs.declared.task.End as cause
use Rattle.rv_core.specs.declared.need.Need.{Need}
use Rattle.rv_core.specs.declared.need.Need as need
use Rattle.rv_core.specs.Access.{is_held, under, may_load, may_store}
use Rattle.rv_core.specs.Kinds.{IsLoad, Allowed}
use Rattle.rv_core.specs.Need.{need_of}
use Rattle.rv_core.specs.Step.{loaded_of}
use Rattle.rv_core.specs.Task.{stopped}
use Rattle.rv_core.proofs.Needs.{need-allowed, load-tells}
use Rattle.flat_machine.specs.Step.{Started, At, wish, wish_unless, step_by, flat_step}
use Rattle.flat_machine.specs.Laws.{HoldsLess}

-- ---- held locks and words

pub same-less : (held all : ℕ) → held ≡ all → HoldsLess held all
same-less held all e = record { among = λ lock h. subst (λ (x : ℕ). is_held x lock ≡ true) e h }

-- a lock that is held is given up
pub release-less : (held lock : ℕ) → is_held held lock ≡ true → HoldsLess (bit_xor held (2 ^ lock)) held
release-less held lock there =
    record {
      among = λ k h.
          ⊎_elim (λ (e : k ≡ lock). subst (λ (x : ℕ). is_held held x ≡ true) (sym e) there)
          (λ (apart : k ≡ lock → ⊥). ap (nat_lt 0) (sym (and_xor_apart (2 ^ k) held (2 ^ lock) (pow_apart lock k (λ e. apart (sym e))))) ∙ h)
          (cases_eq k lock);
    }

under-less : (ss : List (List Interval)) (first held all w : ℕ) → HoldsLess held all → under ss first held w ≡ true → under ss first all w ≡ true
under-less [] first held all w less e = e
under-less (s ∷ ss) first held all w less e =
    let rest = under-less ss (first + 1) held all w less in
    let here : Bool = is_held all first && has s w in
    let later : Bool = under ss (first + 1) all w in
    ⊎_elim
    (λ (both : (is_held held first && has s w) ≡ true).
    let parts = and_parts (is_held held first) (has s w) both in
    or_left here later (and_from (is_held all first) (has s w) (less.among first parts.0) parts.1))
    (λ (behind : under ss (first + 1) held w ≡ true). or_right here later (rest behind))
    (or_cases (is_held held first && has s w) (under ss (first + 1) held w) e)

or-less : (a b c : Bool) → (b ≡ true → c ≡ true) → (a || b) ≡ true → (a || c) ≡ true
or-less a b c f e = ⊎_elim (λ (h : a ≡ true). or_left a c h) (λ (h : b ≡ true). or_right a c (f h)) (or_cases a b e)

or-both : (a b c d : Bool) → (a ≡ true → c ≡ true) → (b ≡ true → d ≡ true) → (a || b) ≡ true → (c || d) ≡ true
or-both a b c d f g e = ⊎_elim (λ (h : a ≡ true). or_left c d (f h)) (λ (h : b ≡ true). or_right c d (g h)) (or_cases a b e)

pub may_store-less : (d : TaskDecl) (held all w : ℕ) → HoldsLess held all → may_store d held w ≡ true → may_store d all w ≡ true
may_store-less d held all w less e =
    or-less (has d.effects.writes w) (under d.effects.guarded_writes 0 held w) (under d.effects.guarded_writes 0 all w)
    (under-less d.effects.guarded_writes 0 held all w less) e

pub may_load-less : (d : TaskDecl) (held all w : ℕ) → HoldsLess held all → may_load d held w ≡ true → may_load d all w ≡ true
may_load-less d held all w less e =
    let plain : Bool = has d.effects.reads w || has d.effects.writes w in
    or-both (plain || under d.effects.guarded_reads 0 held w) (under d.effects.guarded_writes 0 held w)
    (plain || under d.effects.guarded_reads 0 all w) (under d.effects.guarded_writes 0 all w)
    (or-less plain (under d.effects.guarded_reads 0 held w) (under d.effects.guarded_reads 0 all w) (under-less d.effects.guarded_reads 0 held all w less))
    (under-less d.effects.guarded_writes 0 held all w less) e

-- a word that a task may store it may load
pub store-loads : (d : TaskDecl) (held w : ℕ) → may_store d held w ≡ true → may_load d held w ≡ true
store-loads d held w e =
    let reads : Bool = has d.effects.reads w in
    let writes : Bool = has d.effects.writes w in
    let r : Bool = under d.effects.guarded_reads 0 held w in
    let s : Bool = under d.effects.guarded_writes 0 held w in
    or-both writes s ((reads || writes) || r) s (λ h. or_left (reads || writes) r (or_right reads writes h)) (λ h. h) e

pub not-true : (b : Bool) → (b ≡ true → ⊥) → b ≡ false
not-true true f = absurd (f refl)
not-true false f = refl

pub both-ways : (b : Bool) → b ≡ false → b ≡ true → ⊥
both-ways b e f = false≢true (sym e ∙ f)

-- ---- one step

pub wish-need : (P : ProgramParts) (fuel : ℕ) (r : Started) (n : Need) → wish P fuel r ≡ Some n → need_of P r.decl fuel r.state ≡ n
wish-need P fuel r n e = by_end r.state.end e
  where
    by_end : (o : Option End) → wish_unless P fuel r o ≡ Some n → need_of P r.decl fuel r.state ≡ n
    by_end None e = same_Some (need_of P r.decl fuel r.state) n e
    by_end (Some by) e = absurd (none-some n e)

-- the word or lock that a task wants is one that it may use so
pub told : (P : ProgramParts) (fuel : ℕ) (r : Started) (n : Need) → wish P fuel r ≡ Some n → Allowed P r.decl r.state n
told P fuel r n e = subst (λ (x : Need). Allowed P r.decl r.state x) (wish-need P fuel r n e) (need-allowed P r.decl fuel r.state)

pub loaded-held : (P : ProgramParts) (fuel : ℕ) (r : Started) (value : ℕ) (n : Need) → IsLoad n → wish P fuel r ≡ Some n → (loaded_of P value r.state).held ≡ r.state.held
unfolding loaded_of
loaded-held P fuel r value n k e = (load-tells P r.decl fuel r.state value (subst IsLoad (sym (wish-need P fuel r n e)) k)).held

pub stopped-held : (by : End) (t : TaskState) → (stopped by t).held ≡ t.held
stopped-held cause.TheVariants.Finished t = refl
stopped-held cause.TheVariants.Fuel t = refl
stopped-held (cause.TheVariants.Trap kind pc value) t = refl

-- the second is the first task later in its segment
pub record IsAfter (r after : Started) : Type 0 where
  pub decl : after.decl ≡ r.decl
  pub less : HoldsLess after.state.held r.state.held

pub after-itself : (r : Started) → IsAfter r r
after-itself r = record { decl = refl; less = same-less r.state.held r.state.held refl }

pub step-after : (P : ProgramParts) (fuel : ℕ) (s : At) → IsAfter s.task (flat_step P fuel s).task
step-after P fuel s = by_wish (wish P fuel s.task) refl
  where
    by_wish : (o : Option Need) → wish P fuel s.task ≡ o → IsAfter s.task (step_by P s o).task
    by_wish None e = after-itself s.task
    by_wish (Some need.TheVariants.Local) e =
        record { decl = refl; less = same-less _ s.task.state.held (told P fuel s.task need.TheVariants.Local e) }
    by_wish (Some (need.TheVariants.Load word)) e =
        record { decl = refl; less = same-less _ s.task.state.held (loaded-held P fuel s.task _ (need.TheVariants.Load word) tt e) }
    by_wish (Some (need.TheVariants.Store word whole)) e =
        record { decl = refl; less = same-less _ s.task.state.held (told P fuel s.task (need.TheVariants.Store word whole) e).2 }
    by_wish (Some (need.TheVariants.Acquire lock)) e = after-itself s.task
    by_wish (Some (need.TheVariants.Release lock)) e =
        let a = told P fuel s.task (need.TheVariants.Release lock) e in
        record { decl = refl; less = subst (λ (x : ℕ). HoldsLess x s.task.state.held) (sym a.2) (release-less s.task.state.held lock.0 a.1) }
    by_wish (Some (need.TheVariants.End by)) e =
        record { decl = refl; less = same-less _ s.task.state.held (stopped-held by s.task.state) }

pub stores-after : (r after : Started) (w : ℕ) → IsAfter r after → may_store r.decl r.state.held w ≡ false → may_store after.decl after.state.held w ≡ false
stores-after r after w h no_store =
    subst (λ (d : TaskDecl). may_store d after.state.held w ≡ false) (sym h.decl)
    (not-true (may_store r.decl after.state.held w)
    (λ e. both-ways (may_store r.decl r.state.held w) no_store (may_store-less r.decl after.state.held r.state.held w h.less e)))

pub loads-after : (r after : Started) (w : ℕ) → IsAfter r after → may_load after.decl after.state.held w ≡ true → may_load r.decl r.state.held w ≡ true
loads-after r after w h e =
    may_load-less r.decl after.state.held r.state.held w h.less (subst (λ (d : TaskDecl). may_load d after.state.held w ≡ true) h.decl e)
