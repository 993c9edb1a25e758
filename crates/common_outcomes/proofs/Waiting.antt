-- Where the locks have an order, and no task ends while it holds a lock that another one takes, nobody waits for ever.
use Rattle.std.proofs.Common.{◌≡◌, ◌≢◌, ℕ, zero, suc, ◌<◌, true, List, slice_get, Option, Some, None, refl, sym, ap, ◌∙◌, arith}
use Rattle.region_table.specs.Program.{ProgramParts}
use Rattle.rv_core.specs.Access.{is_held}
use Rattle.rv_core.specs.declared.task.End.{End}
use Rattle.rv_core.specs.declared.need.Need.TheVariants.{Acquire}
use Rattle.rv_core.specs.declared.need.Need.{Need}
use Rattle.dn_base.specs.declared.ids.LockId.{LockId}
use Rattle.rv_core.specs.Need.{need_of}
use Rattle.flat_machine.specs.Step.{Started}
use Rattle.flat_machine.specs.Laws.{IsHeldUp}

-- what the tasks alone tell of tasks at rest in a run. `falls` is that locks have ranks by which each lock that a task wants
-- lies below those that it holds; `free` is that a task which has ended holds no lock that another one wants
pub record AreRanked (P : ProgramParts) (fuel : ℕ) (tasks : List Started) (rank : ℕ → ℕ) : Type 0 where
  pub falls : (i : ℕ) (r : Started) (held : ℕ) → slice_get tasks i ≡ Some r → r.state.end ≡ None → is_held r.state.held held ≡ true
      → (l : LockId) → need_of P r.decl fuel r.state ≡ Acquire l → rank l.0 < rank held
  pub free : (i j : ℕ) (r s : Started) → i ≢ j → slice_get tasks i ≡ Some r → slice_get tasks j ≡ Some s → (by : End) → s.state.end ≡ Some by → r.state.end ≡ None
      → (l : LockId) → need_of P r.decl fuel r.state ≡ Acquire l → is_held s.state.held l.0 ≡ true → ⊥

-- each task that hasn't ended wants a lock that another one holds, as after a whole list of grants
abbrev pub AreHeldUp : ProgramParts → ℕ → List Started → Type 0
AreHeldUp P fuel tasks = (i : ℕ) (r : Started) → slice_get tasks i ≡ Some r → r.state.end ≡ None → IsHeldUp P fuel tasks i r

abbrev lock_in : Need → ℕ
lock_in (Acquire l) = l.0
lock_in _ = 0

-- by the rank of the lock that is wanted
none-below : (P : ProgramParts) (fuel : ℕ) (tasks : List Started) (rank : ℕ → ℕ) → AreRanked P fuel tasks rank → AreHeldUp P fuel tasks → (n i : ℕ) (r : Started) → slice_get tasks i ≡ Some r
    → r.state.end ≡ None → (l : LockId) → need_of P r.decl fuel r.state ≡ Acquire l → rank l.0 < n → ⊥
none-below P fuel tasks rank ranked held zero i r there runs l wants low = omega arith
none-below P fuel tasks rank ranked held (suc n) i r there runs l wants low = by_end (none-below P fuel tasks rank ranked held n) h.holder.state.end refl
  where
    h : IsHeldUp P fuel tasks i r
    h = held i r there runs

    same : h.lock.0 ≡ l.0
    same = ap lock_in (sym h.wants ∙ wants)

    by_end : ((j : ℕ) (s : Started) → slice_get tasks j ≡ Some s → s.state.end ≡ None → (k : LockId) → need_of P s.decl fuel s.state ≡ Acquire k → rank k.0 < n → ⊥)
        → (o : Option End) → h.holder.state.end ≡ o → ⊥
    by_end again (Some by) e = ranked.free i h.place r h.holder (λ x. h.apart (sym x)) there h.there by e runs h.lock h.wants h.holding
    by_end again None e =
        let g = held h.place h.holder h.there e in
        let falls : rank g.lock.0 < rank h.lock.0 = ranked.falls h.place h.holder h.lock.0 h.there e h.holding g.lock g.wants in
        let is : rank h.lock.0 ≡ rank l.0 = ap rank same in
        again h.place h.holder h.there e g.lock g.wants (omega arith)

-- nobody waits
pub nobody-waits : (P : ProgramParts) (fuel : ℕ) (tasks : List Started) (rank : ℕ → ℕ) → AreRanked P fuel tasks rank → AreHeldUp P fuel tasks → (i : ℕ) (r : Started) → slice_get tasks i ≡ Some r
    → r.state.end ≡ None → ⊥
nobody-waits P fuel tasks rank ranked held i r there runs =
    let h = held i r there runs in
    none-below P fuel tasks rank ranked held (suc (rank h.lock.0)) i r there runs h.lock h.wants (omega arith)
