-- What a segment leaves of its task: phase and declaration, the loads that it has done, and no lock that it didn't hold.
use Rattle.std.proofs.Common.{◌≡◌, ℕ, zero, suc, ◌≤◌, ◌⊎◌, inl, inr, List, [], ◌∷◌, ◌++◌, slice_index, Option, Some, None, refl, sym, ap, ◌∙◌, subst, append_assoc, arith}
use Rattle.std.proofs.lemmas.List.{append-nil}
use Rattle.dn_base.specs.declared.ids.LoadSeen.{LoadSeen}
use Rattle.region_table.specs.Program.{ProgramParts}
use Rattle.rv_core.specs.declared.need.Need.{Need}
use Rattle.rv_core.specs.declared.need.Need as need
use Rattle.flat_machine.specs.Step.{Started, At, wish, step_by, flat_step, flat_steps, segment, room, IsWithin}
use Rattle.flat_machine.specs.Laws.{EndsSegment, HoldsLess, IsLater}
use Rattle.flat_machine.proofs.StepLemmas.{steps-still}
use Rattle.flat_machine.proofs.Rest.{IsLess, step-less, rest-still}
use Rattle.flat_machine.proofs.Rights.{IsAfter, after-itself, step-after}

-- a task at rest has no segment left
pub segment-still : (P : ProgramParts) (fuel : ℕ) (s : At) → EndsSegment (wish P fuel s.task) → segment P fuel s ≡ s
unfolding segment
segment-still P fuel s rest = steps-still P fuel (suc fuel) s (rest-still P fuel s rest)

-- ---- held locks

pub less-more : (a b c : ℕ) → HoldsLess a b → HoldsLess b c → HoldsLess a c
less-more a b c h k = record { among = λ lock e. k.among lock (h.among lock e) }

pub after-more : (a b c : Started) → IsAfter a b → IsAfter b c → IsAfter a c
after-more a b c h k = record { decl = k.decl ∙ h.decl; less = less-more c.state.held b.state.held a.state.held k.less h.less }

pub steps-after : (P : ProgramParts) (fuel n : ℕ) (s : At) → IsAfter s.task (flat_steps P fuel n s).task
steps-after P fuel zero s = after-itself s.task
steps-after P fuel (suc n) s =
    after-more s.task (flat_step P fuel s).task (flat_steps P fuel n (flat_step P fuel s)).task (step-after P fuel s) (steps-after P fuel n (flat_step P fuel s))

-- a segment only gives locks up
pub segment-after : (P : ProgramParts) (fuel : ℕ) (s : At) → IsAfter s.task (segment P fuel s).task
unfolding segment
segment-after P fuel s = steps-after P fuel (suc fuel) s

-- ---- loads

-- the same task, with the same loads
pub same-later : (r after : Started) → after.phase ≡ r.phase → after.decl ≡ r.decl → after.loads ≡ r.loads → IsLater r after
same-later r after phase decl loads = record { phase = phase; decl = decl; more = []; loads = loads ∙ sym (append-nil r.loads) }

pub later-itself : (r : Started) → IsLater r r
later-itself r = same-later r r refl refl refl

pub later-more : (a b c : Started) → IsLater a b → IsLater b c → IsLater a c
later-more a b c h k =
    let first : b.loads ++ k.more ≡ (a.loads ++ h.more) ++ k.more = ap (λ (l : List LoadSeen). l ++ k.more) h.loads in
    let joined : (a.loads ++ h.more) ++ k.more ≡ a.loads ++ (h.more ++ k.more) = rw append_assoc in
    record { phase = k.phase ∙ h.phase; decl = k.decl ∙ h.decl; more = h.more ++ k.more; loads = k.loads ∙ first ∙ joined }

pub step-later : (P : ProgramParts) (fuel : ℕ) (s : At) → IsLater s.task (flat_step P fuel s).task
step-later P fuel s = by_wish (wish P fuel s.task)
  where
    by_wish : (o : Option Need) → IsLater s.task (step_by P s o).task
    by_wish None = later-itself s.task
    by_wish (Some need.TheVariants.Local) = same-later s.task _ refl refl refl
    by_wish (Some (need.TheVariants.Load word)) =
        record { phase = refl; decl = refl; more = record { word = word; value = slice_index s.memory word.0 } ∷ []; loads = refl }
    by_wish (Some (need.TheVariants.Store word whole)) = same-later s.task _ refl refl refl
    by_wish (Some (need.TheVariants.Acquire lock)) = later-itself s.task
    by_wish (Some (need.TheVariants.Release lock)) = same-later s.task _ refl refl refl
    by_wish (Some (need.TheVariants.End by)) = same-later s.task _ refl refl refl

pub steps-later : (P : ProgramParts) (fuel n : ℕ) (s : At) → IsLater s.task (flat_steps P fuel n s).task
steps-later P fuel zero s = later-itself s.task
steps-later P fuel (suc n) s =
    later-more s.task (flat_step P fuel s).task (flat_steps P fuel n (flat_step P fuel s)).task (step-later P fuel s) (steps-later P fuel n (flat_step P fuel s))

-- the loads of a task are a front of those after its segment
pub segment-later : (P : ProgramParts) (fuel : ℕ) (s : At) → IsLater s.task (segment P fuel s).task
unfolding segment
segment-later P fuel s = steps-later P fuel (suc fuel) s

-- ---- room

-- the task has no more room than before, and no more instructions than it may
pub record IsNoMore (fuel : ℕ) (r after : Started) : Type 0 where
  pub room : room fuel after ≤ room fuel r
  pub within : IsWithin fuel after

step-room : (P : ProgramParts) (fuel : ℕ) (s : At) → IsWithin fuel s.task → IsNoMore fuel s.task (flat_step P fuel s).task
step-room P fuel s within = by_step (step-less P fuel s within)
  where
    by_step : EndsSegment (wish P fuel s.task) ⊎ IsLess fuel s.task.state (flat_step P fuel s).task.state → IsNoMore fuel s.task (flat_step P fuel s).task
    by_step (inl rest) = subst (λ (x : At). IsNoMore fuel s.task x.task) (sym (rest-still P fuel s rest)) (record { room = omega arith; within = within })
    by_step (inr less) = let h = less.room in record { room = omega arith; within = less.within }

steps-room : (P : ProgramParts) (fuel n : ℕ) (s : At) → IsWithin fuel s.task → IsNoMore fuel s.task (flat_steps P fuel n s).task
steps-room P fuel zero s within = record { room = omega arith; within = within }
steps-room P fuel (suc n) s within =
    let one = step-room P fuel s within in
    let more = steps-room P fuel n (flat_step P fuel s) one.within in
    record { room = omega (arith, one.room, more.room); within = more.within }

pub segment-room : (P : ProgramParts) (fuel : ℕ) (s : At) → IsWithin fuel s.task → IsNoMore fuel s.task (segment P fuel s).task
unfolding segment
segment-room P fuel s within = steps-room P fuel (suc fuel) s within
