-- Every run of the machine keeps all that is kept, and the memory to which its stores are applied.
use Rattle.std.proofs.Common.{◌≡◌, ℕ, ◌+◌, ◌<◌, ◌==◌, Bool, true, false, cond, List, [], ◌∷◌, length, slice_get, slice_set, slice_index, Option, Some, None, refl, sym, ap, subst, ◌∙◌, arith}
use Rattle.std.proofs.lemmas.Bool.{eqb-true, eqb-false}
use Rattle.std.proofs.lemmas.List.{get_or-set_same, get_or-set_other, length-set}
use Rattle.dn_base.specs.declared.ids.CoreId.{CoreId}
use Rattle.dn_base.specs.declared.ids.WordId.{WordId}
use Rattle.rv_core.specs.declared.task.TaskState.{TaskState}
use Rattle.rv_core.specs.declared.need.Need as need
use Rattle.rv_core.specs.declared.need.Need.{Need}
use Rattle.rv_core.proofs.Completions.{store-allowed}
use Rattle.message_net.specs.declared.actor.Actor.{Actor}
use Rattle.message_net.specs.declared.actor.Actor.TheVariants.{Core, Bank, Keeper}
use Rattle.message_net.specs.declared.event.Event.{Event}
use Rattle.message_net.specs.declared.event.Event.TheVariants.{Instr, Evict, Arrive, Handle}
use Rattle.message_net.specs.declared.message.Mail.{Mail}
use Rattle.message_net.specs.Pool.{removed}
use Rattle.registry_bank.specs.Bank.{BankParts}
use Rattle.registration_protocol.specs.Node.{NodeParts, Setting, entry_of, need_now}
use Rattle.registration_protocol.specs.OwnEvents.{written_now, written_if}
use Rattle.registration_protocol.proofs.InstrLemmas.{has-next, written-entry}
use Rattle.machine_rules.specs.State.{State}
use Rattle.machine_rules.specs.Next.{next, does_instr, does_evict, does_arrive, core_gets, bank_handles, gets, delivers}
use Rattle.machine_rules.specs.Memory.{store_of, store_in, with_store}
use Rattle.machine_rules.specs.Runs.{after, IsRun, memory_after}
use Rattle.machine_rules.specs.Sound.{IsSound}
use Rattle.machine_rules.proofs.Invariant.{Invariant}
use Rattle.machine_rules.proofs.Outcomes.{stored_to}
use Rattle.machine_rules.proofs.SoundEvents.{sound-next}
use Rattle.machine_rules.proofs.Kept.{kept}

-- ---- no event changes the program, its plans, the shape or the fuel

pub same-setting : (S : State) (e : Event) → (next S e).setting ≡ S.setting
unfolding next
same-setting S (Instr core) = by_node (slice_get S.nodes core.0) where
  by_node : (o : Option NodeParts) → (does_instr S core o).setting ≡ S.setting
  by_node None = refl
  by_node (Some n) = refl
same-setting S (Evict core word) = by_node (slice_get S.nodes core.0) where
  by_node : (o : Option NodeParts) → (does_evict S core word o).setting ≡ S.setting
  by_node None = refl
  by_node (Some n) = refl
same-setting S (Arrive core) = by_node (slice_get S.nodes core.0) where
  by_node : (o : Option NodeParts) → (does_arrive S core o).setting ≡ S.setting
  by_node None = refl
  by_node (Some n) = refl
same-setting S (Handle id) = by_mail (removed id S.mails).0 where
  R : State
  R = record S { mails = (removed id S.mails).1 }

  by_mail : (o : Option Mail) → (delivers R o).setting ≡ S.setting
  by_mail None = refl
  by_mail (Some m) = by_actor m.to where
    by_node : (core : CoreId) (o : Option NodeParts) → (core_gets R core m.message o).setting ≡ S.setting
    by_node core None = refl
    by_node core (Some n) = refl

    by_bank : (from : Actor) (bank : ℕ) (o : Option BankParts) → (bank_handles R from bank m.message o).setting ≡ S.setting
    by_bank from bank None = refl
    by_bank from bank (Some b) = refl

    by_actor : (a : Actor) → (gets R a m.message).setting ≡ S.setting
    by_actor (Core core) = by_node core (slice_get S.nodes core.0)
    by_actor (Bank bank) = by_bank (Bank bank) bank.0 (slice_get S.banks bank.0)
    by_actor Keeper = refl

-- ---- a store is to a word of the memory

node-stores : (C : Setting) (n : NodeParts) (word : WordId) (value : ℕ) → written_now C n ≡ Some (word, value) → word.0 < length C.program.memory
unfolding written_now
node-stores C n word value is = by_need n.task (need_now C n) refl refl is where
  by_need : (o : Option TaskState) (p : Option Need) → n.task ≡ o → need_now C n ≡ p → written_if C n o p ≡ Some (word, value) → word.0 < length C.program.memory
  by_need None p has now writes = absurd (cc)
  by_need (Some t) None has now writes = absurd (cc)
  by_need (Some t) (Some need.TheVariants.Local) has now writes = absurd (cc)
  by_need (Some t) (Some (need.TheVariants.End by)) has now writes = absurd (cc)
  by_need (Some t) (Some (need.TheVariants.Load w)) has now writes = absurd (cc)
  by_need (Some t) (Some (need.TheVariants.Acquire l)) has now writes = absurd (cc)
  by_need (Some t) (Some (need.TheVariants.Release l)) has now writes = absurd (cc)
  by_need (Some t) (Some (need.TheVariants.Store w whole)) has now writes =
      let entry = written-entry C t w word whole (entry_of n w.0) value writes in
      let next_is = has-next C n t (need.TheVariants.Store w whole) has now in
      let may = store-allowed C.program next_is.decl C.fuel t w whole next_is.asks in
      subst (λ (x : WordId). x.0 < length C.program.memory) (sym entry.1) may.0

pub stores-within : (S : State) (e : Event) (word : WordId) (value : ℕ) → store_in S e ≡ Some (word, value) → word.0 < length S.setting.program.memory
unfolding store_in
stores-within S (Instr core) word value is = by_node (slice_get S.nodes core.0) is where
  by_node : (o : Option NodeParts) → store_of S.setting o ≡ Some (word, value) → word.0 < length S.setting.program.memory
  by_node None is = absurd (cc)
  by_node (Some n) is = node-stores S.setting n word value is
stores-within S (Evict core w) word value is = absurd (cc)
stores-within S (Arrive core) word value is = absurd (cc)
stores-within S (Handle id) word value is = absurd (cc)

-- ---- the memory of a run, as a list and as a function

pub stored-length : (store : Option (WordId × ℕ)) (memory : List ℕ) → length (with_store store memory) ≡ length memory
stored-length None memory = refl
stored-length (Some (word, value)) memory = length-set memory word.0 value

pub stored-list : (store : Option (WordId × ℕ)) (memory : List ℕ) (M : ℕ → ℕ) → ((word : WordId) (value : ℕ) → store ≡ Some (word, value) → word.0 < length memory) → ((w : ℕ) → slice_index memory w ≡ M w)
    → (w : ℕ) → slice_index (with_store store memory) w ≡ stored_to store M w
stored-list None memory M within same w = same w
stored-list (Some (word, value)) memory M within same w = by_word (word.0 == w) refl where
  by_word : (x : Bool) → (word.0 == w) ≡ x → slice_index (slice_set memory word.0 value) w ≡ cond x value (M w)
  by_word true e = subst (λ (x : ℕ). slice_index (slice_set memory word.0 value) x ≡ value) (eqb-true word.0 w e) (get_or-set_same memory word.0 value 0 (within word value refl))
  by_word false e = get_or-set_other memory word.0 w value 0 (λ f. eqb-false word.0 w e (sym f)) ∙ same w

-- a memory to which each store of a run is applied as it retires
abbrev pub memory_over : (ℕ → ℕ) → State → List Event → ℕ → ℕ
memory_over M S [] = M
memory_over M S (e ∷ es) = memory_over (stored_to (store_in S e) M) (next S e) es

pub memory-is : (S : State) (memory : List ℕ) (M : ℕ → ℕ) (events : List Event) → length memory ≡ length S.setting.program.memory → ((w : ℕ) → slice_index memory w ≡ M w)
    → (w : ℕ) → slice_index (memory_after memory S events) w ≡ memory_over M S events w
memory-is S memory M [] long same = same
memory-is S memory M (e ∷ es) long same =
    memory-is (next S e) (with_store (store_in S e) memory) (stored_to (store_in S e) M) es
    (stored-length (store_in S e) memory ∙ (long ∙ ap (λ (C : Setting). length C.program.memory) (sym (same-setting S e))))
    (stored-list (store_in S e) memory M (λ word value is. subst (λ (x : ℕ). word.0 < x) (sym long) (stores-within S e word value is)) same)

pub memory-length : (S : State) (memory : List ℕ) (events : List Event) → length (memory_after memory S events) ≡ length memory
memory-length S memory [] = refl
memory-length S memory (e ∷ es) = memory-length (next S e) (with_store (store_in S e) memory) es ∙ stored-length (store_in S e) memory

pub run-setting : (S : State) (events : List Event) → (after S events).setting ≡ S.setting
run-setting S [] = refl
run-setting S (e ∷ es) = run-setting (next S e) es ∙ same-setting S e

-- ---- a run from a sound state that keeps the invariant

pub run-kept : (S : State) (M : ℕ → ℕ) (made : ℕ) (events : List Event) → IsSound S made → Invariant S M → IsRun S events
    → IsSound (after S events) (made + length events) × Invariant (after S events) (memory_over M S events)
run-kept S M made [] sound inv run = (subst (IsSound S) (none made) sound, inv) where
  none : (k : ℕ) → k ≡ k + 0
  none k = omega arith
run-kept S M made (e ∷ es) sound inv run =
    let later = sound-next S made e sound run.0 in
    let rest = run-kept (next S e) (stored_to (store_in S e) M) (made + 1) es later (kept S M e inv run.0 later.machine) run.1 in
    let one : made + 1 + length es ≡ made + length (e ∷ es) = omega arith in
    (subst (IsSound (after (next S e) es)) one rest.0, rest.1)
