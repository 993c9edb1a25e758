-- The access that an instruction retires is the one that its need and the entry of its word say.
use Rattle.std.proofs.Common.{◌≡◌, ℕ, Bool, true, false, cond, slice_get, Option, Some, None, refl, sym, ◌∙◌}
use Rattle.std.specs.Prelude.{option_map}
use Rattle.std.specs.Option.{is_some}
use Rattle.dn_base.specs.declared.ids.CoreId.{CoreId}
use Rattle.dn_base.specs.declared.ids.LoadSeen.{LoadSeen}
use Rattle.dn_base.specs.declared.ids.WordId.{WordId}
use Rattle.region_table.specs.declared.declared.TaskDecl.{TaskDecl}
use Rattle.region_table.specs.Tasks.{declared}
use Rattle.rv_core.specs.declared.task.TaskState.{TaskState}
use Rattle.rv_core.specs.declared.need.Need as need
use Rattle.rv_core.specs.declared.need.Need.{Need}
use Rattle.rv_core.specs.Need.{need_of}
use Rattle.message_net.specs.declared.event.Event.TheVariants.{Instr}
use Rattle.word_cache.specs.declared.row.Entry.{Entry}
use Rattle.word_cache.specs.declared.row.Entry.TheVariants.{Valid, Registered, Leaving}
use Rattle.registration_protocol.specs.Node.{NodeParts, entry_of, need_now, need_if, need_by}
use Rattle.registration_protocol.specs.OwnEvents.{instructed, instr_by, load_row, store_row, written_by, written_now, written_if}
use Rattle.machine_rules.specs.State.{State}
use Rattle.machine_rules.specs.Next.{seen_in}
use Rattle.machine_rules.specs.Memory.{store_in}
use Rattle.machine_rules.specs.Accesses.{accessed_by, access_in}
use Rattle.run_account.specs.declared.access.AccessKind.TheVariants.{Load, Store}
use Rattle.run_account.specs.declared.access.CountedAccess.{CountedAccess}
use Rattle.run_account.specs.Runs.{has_waited, counted_access, counted_in}
use Rattle.run_account.specs.Retired.{load_retires, store_retires, retiring_access, access_of_need}

module _ (S : State) (core : CoreId) (n : NodeParts) where
  abbrev pub of_parts : Option LoadSeen → Option (WordId × ℕ) → Option CountedAccess
  of_parts seen store = option_map (counted_access (has_waited n.waiting)) (accessed_by S.setting core n seen store)

  loads : (d : TaskDecl) (t : TaskState) (word : WordId) (e : Option Entry)
      → of_parts (load_row S.setting n d t word e).1.seen None ≡ cond (load_retires e) (Some (retiring_access core n word Load)) None
  loads d t word None = refl
  loads d t word (Some (Valid value marked)) = refl
  loads d t word (Some (Registered value pending)) = refl
  loads d t word (Some (Leaving value)) = refl

  stores : (d : TaskDecl) (t : TaskState) (word : WordId) (whole : Bool) (e : Option Entry)
      → of_parts (store_row S.setting n d t word whole e).1.seen (written_by S.setting t word whole e) ≡ cond (store_retires whole e) (Some (retiring_access core n word Store)) None
  stores d t word true None = refl
  stores d t word false None = refl
  stores d t word whole (Some (Valid value marked)) = refl
  stores d t word whole (Some (Registered value pending)) = refl
  stores d t word whole (Some (Leaving value)) = refl

  abbrev of_need : Option TaskDecl → Option TaskState → Option Need → Option CountedAccess
  of_need d t needs = of_parts (instr_by S.setting n d t needs).1.seen (written_if S.setting n t needs)

  by_need : (d : TaskDecl) (t : TaskState) (needs : Option Need) → of_need (Some d) (Some t) needs ≡ access_of_need core n needs
  by_need d t None = refl
  by_need d t (Some need.TheVariants.Local) = refl
  by_need d t (Some (need.TheVariants.End cause)) = refl
  by_need d t (Some (need.TheVariants.Acquire lock)) = refl
  by_need d t (Some (need.TheVariants.Release lock)) = refl
  by_need d t (Some (need.TheVariants.Load word)) = loads d t word (entry_of n word.0)
  by_need d t (Some (need.TheVariants.Store word whole)) = stores d t word whole (entry_of n word.0)

  by_decl : (t : TaskState) (d : Option TaskDecl) (ended : Bool) → of_need d (Some t) (cond ended None (need_by S.setting d t)) ≡ access_of_need core n (cond ended None (need_by S.setting d t))
  by_decl t None true = refl
  by_decl t None false = refl
  by_decl t (Some d) true = refl
  by_decl t (Some d) false = by_need d t (Some (need_of S.setting.program d S.setting.fuel t))

  no_task : (d : Option TaskDecl) → of_need d None None ≡ None
  no_task None = refl
  no_task (Some d) = refl

  by_task : (t : Option TaskState)
      → of_need (declared S.setting.program n.phase n.core) t (need_if S.setting n.phase n.core t) ≡ access_of_need core n (need_if S.setting n.phase n.core t)
  by_task None = no_task (declared S.setting.program n.phase n.core)
  by_task (Some t) = by_decl t (declared S.setting.program n.phase n.core) (is_some t.end)

  parts-are : of_parts (instructed S.setting n).1.seen (written_now S.setting n) ≡ access_of_need core n (need_now S.setting n)
  unfolding instructed written_now
  parts-are = by_task n.task

  seen-is : slice_get S.nodes core.0 ≡ Some n → seen_in S (Instr core) ≡ (instructed S.setting n).1.seen
  unfolding seen_in
  seen-is there = rw there refl

  stored-is : slice_get S.nodes core.0 ≡ Some n → store_in S (Instr core) ≡ written_now S.setting n
  unfolding store_in
  stored-is there = rw there refl

  pub counted-parts : slice_get S.nodes core.0 ≡ Some n → counted_in S (Instr core) ≡ of_parts (instructed S.setting n).1.seen (written_now S.setting n)
  unfolding counted_in access_in
  counted-parts there = rw there (rw (seen-is there, stored-is there) refl)

  pub retired_is : slice_get S.nodes core.0 ≡ Some n → access_of_need core n (need_now S.setting n) ≡ counted_in S (Instr core)
  retired_is there = sym (counted-parts there ∙ parts-are)
