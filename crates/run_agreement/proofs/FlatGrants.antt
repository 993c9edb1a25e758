-- Legal grants of the flat machine: what one more grant tells of the list before it, and that none is legal after a whole list.
use Rattle.std.proofs.Common.{◌≡◌, ℕ, true, false, List, [], ◌∷◌, ◌++◌, slice_get, Option, Some, None, refl, sym, ap, subst, ◌∙◌}
use Rattle.std.specs.List.{All}
use Rattle.std.proofs.lemmas.Option.{none-some, same_Some, slice_get-get_or, slice_get_within, get_or_from_slice_get}
use Rattle.std.proofs.lemmas.List.Elements.{All-tail, All-get_or}
use Rattle.dn_base.specs.declared.ids.Grant.{Grant}
use Rattle.dn_base.specs.declared.ids.LockId.{LockId}
use Rattle.region_table.specs.Program.{ProgramParts}
use Rattle.rv_core.specs.Access.{is_held}
use Rattle.rv_core.specs.declared.task.End.{End}
use Rattle.rv_core.specs.declared.need.Need.{Need}
use Rattle.rv_core.specs.declared.need.Need as need
use Rattle.rv_core.specs.Need.{need_of}
use Rattle.flat_machine.specs.declared.ending.FlatEnd.{FlatEnd}
use Rattle.flat_machine.specs.Step.{Started, wish, wish_unless}
use Rattle.flat_machine.specs.Phases.{Flat}
use Rattle.flat_machine.specs.Grants.{so_far, granted, grants_are_whole}
use Rattle.flat_machine.specs.Ending.{flat_end}
use Rattle.flat_machine.specs.Laws.{HasFront, IsLegal, IsHeldUp, IsEnded}
use Rattle.flat_machine.proofs.ReachedLaws.{front-has}
use Rattle.flat_machine.proofs.LegalLaws.{granted-legal}
use Rattle.flat_machine.proofs.CauseLemmas.{run-ended, run-held_up}

-- a task that wants something hasn't ended
pub wish-open : (P : ProgramParts) (fuel : ℕ) (r : Started) (x : Need) → wish P fuel r ≡ Some x → r.state.end ≡ None
wish-open P fuel r x wants = by_end r.state.end refl where
  by_end : (o : Option End) → r.state.end ≡ o → r.state.end ≡ None
  by_end None is = is
  by_end (Some by) is = let none : wish P fuel r ≡ None = ap (wish_unless P fuel r) is in absurd (cc)

wish-need : (P : ProgramParts) (fuel : ℕ) (r : Started) (x : Need) → wish P fuel r ≡ Some x → need_of P r.decl fuel r.state ≡ x
wish-need P fuel r x wants = same_Some (need_of P r.decl fuel r.state) x (sym (ap (wish_unless P fuel r) (wish-open P fuel r x wants)) ∙ wants)

-- the last grant of a legal list is legal after those before it
pub record IsNextGrant (P : ProgramParts) (fuel : ℕ) (gs : List Grant) (g : Grant) : Type 0 where
  pub flat : Flat
  pub front : so_far P fuel gs ≡ Some flat
  pub legal : IsLegal P fuel flat g

pub next-grant : (P : ProgramParts) (fuel : ℕ) (gs : List Grant) (g : Grant) (G : Flat) → so_far P fuel (gs ++ g ∷ []) ≡ Some G → IsNextGrant P fuel gs g
next-grant P fuel gs g G is =
    let front : HasFront P fuel gs (g ∷ []) G = front-has P fuel gs (g ∷ []) G is in
    let one : granted P fuel g front.flat ≡ Some G = front.rest in
    record { flat = front.flat; front = front.front; legal = granted-legal P fuel gs front.flat g front.front (λ none. none-some G (sym none ∙ one)) }

right-all : {X : Type 0} (Q : X → Type 0) (xs ys : List X) → All Q (xs ++ ys) → All Q ys
right-all Q [] ys all = all
right-all Q (x ∷ xs) ys all = right-all Q xs ys (All-tail Q x (xs ++ ys) all)

-- no task of the phase holds the lock of a legal grant
pub legal-free : (P : ProgramParts) (fuel : ℕ) (F : Flat) (g : Grant) (i : ℕ) (r : Started) → IsLegal P fuel F g → slice_get F.tasks i ≡ Some r → is_held r.state.held g.lock.0 ≡ true → ⊥
legal-free P fuel F g i r legal there has =
    let Free : Started → Type 0 = λ x. is_held x.state.held g.lock.0 ≡ false in
    let here : Free r = subst Free (get_or_from_slice_get F.tasks i r r there) (All-get_or Free F.tasks i r (slice_get_within F.tasks i r there) (right-all Free F.past F.tasks legal.free)) in
    absurd (cc)

-- after a whole list no grant is legal
pub whole-none : (P : ProgramParts) (fuel : ℕ) (gs : List Grant) (e : FlatEnd) (F : Flat) (g : Grant) → flat_end P fuel gs ≡ Some e → so_far P fuel gs ≡ Some F → IsLegal P fuel F g → ⊥
whole-none P fuel gs e F g ends is legal = legal-free P fuel F g up.place up.holder legal up.there (subst (λ (l : LockId). is_held up.holder.state.held l.0 ≡ true) same up.holding) where
  ended : IsEnded P fuel gs e
  ended = run-ended P fuel gs e ends

  last : ended.last ≡ F
  last = same_Some ended.last F (sym ended.leads ∙ is)

  there : slice_get F.tasks legal.started.0 ≡ Some legal.task
  there = slice_get-get_or F.tasks legal.started.0 legal.task legal.started.1.0 ∙ ap (λ (x : Started). Some x) (sym legal.started.1.1)

  up : IsHeldUp P fuel F.tasks legal.started.0 legal.task
  up = run-held_up P fuel gs F is (subst (λ (x : Flat). grants_are_whole P fuel x ≡ true) last ended.whole) legal.started.0 legal.task there (wish-open P fuel legal.task (need.TheVariants.Acquire g.lock) legal.waits)

  same : up.lock ≡ g.lock
  same =
      let one : need.TheVariants.Acquire up.lock ≡ need.TheVariants.Acquire g.lock = sym up.wants ∙ wish-need P fuel legal.task (need.TheVariants.Acquire g.lock) legal.waits in
      cc
