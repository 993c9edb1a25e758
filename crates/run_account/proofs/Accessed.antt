-- What is counted of an instruction is what its need and the entry of its word say.
use Rattle.std.proofs.Common.{◌≡◌, ℕ, Bool, true, false, cond, List, [], ◌∷◌, ◌++◌, Option, Some, None, refl, ap, ◌∙◌}
use Rattle.std.specs.Option.{is_some}
use Rattle.std.proofs.lemmas.List.{append-nil}
use Rattle.dn_base.specs.declared.ids.WordId.{WordId}
use Rattle.region_table.specs.declared.declared.TaskDecl.{TaskDecl}
use Rattle.region_table.specs.Tasks.{declared}
use Rattle.rv_core.specs.declared.task.TaskState.{TaskState}
use Rattle.rv_core.specs.declared.need.Need as need
use Rattle.rv_core.specs.declared.need.Need.{Need}
use Rattle.rv_core.specs.Need.{need_of}
use Rattle.rv_core.specs.Step.{merged_of}
use Rattle.message_net.specs.declared.message.Outgoing.{Outgoing}
use Rattle.word_cache.specs.declared.row.Entry.{Entry}
use Rattle.word_cache.specs.declared.row.Entry.TheVariants.{Valid, Registered, Leaving}
use Rattle.registration_protocol.specs.Node.{NodeParts, entry_of, need_now, need_if, need_by}
use Rattle.registration_protocol.specs.OwnEvents.{instructed, instr_by, load_row, store_row, written_by, written_now, written_if}
use Rattle.machine_rules.specs.State.{State}
use Rattle.run_account.specs.declared.item.Item.{Item}
use Rattle.run_account.specs.declared.measure.Measure as measure
use Rattle.run_account.specs.Departures.{Departures}
use Rattle.run_account.specs.Events.{item_at, item_if, is_registered, load_items, store_items, sent_items, instr_items}
use Rattle.run_account.specs.Access.{hit_items, load_access, store_access, need_items}

module _ (S : State) (D : Departures) (n : NodeParts) where
  -- what the parts of an instruction come to
  abbrev items_by : Option TaskDecl → Option TaskState → Option Need → List Item
  items_by d t needs =
      load_items n (instr_by S.setting n d t needs).1.seen ++ store_items n (written_if S.setting n t needs) ++ sent_items S D n (instr_by S.setting n d t needs).1.sent

  loads : (d : TaskDecl) (t : TaskState) (word : WordId) (e : Option Entry)
      → load_items n (load_row S.setting n d t word e).1.seen ++ store_items n None ++ sent_items S D n (load_row S.setting n d t word e).1.sent ≡ load_access D n word e
  loads d t word None = refl
  loads d t word (Some (Valid value marked)) = append-nil (hit_items n word ++ []) ∙ append-nil (hit_items n word)
  loads d t word (Some (Registered value pending)) = append-nil (hit_items n word ++ []) ∙ append-nil (hit_items n word)
  loads d t word (Some (Leaving value)) = refl

  store-at : (word : WordId) (value : ℕ) (e : Option Entry) → entry_of n word.0 ≡ e
      → store_items n (Some (word, value)) ≡ item_at measure.TheVariants.Stores n word ∷ item_if (is_registered e) (item_at measure.TheVariants.StoresSilent n word)
  store-at word value e is =
      ap (λ (x : Option Entry). item_at measure.TheVariants.Stores n word ∷ item_if (is_registered x) (item_at measure.TheVariants.StoresSilent n word)) is

  with-sent : (xs ys : List Item) (sent : Option Outgoing) → xs ≡ ys → load_items n None ++ xs ++ sent_items S D n sent ≡ load_items n None ++ ys ++ sent_items S D n sent
  with-sent xs ys sent same = ap (λ (zs : List Item). load_items n None ++ zs ++ sent_items S D n sent) same

  stores : (d : TaskDecl) (t : TaskState) (word : WordId) (whole : Bool) (e : Option Entry) → entry_of n word.0 ≡ e
      → load_items n (store_row S.setting n d t word whole e).1.seen ++ store_items n (written_by S.setting t word whole e) ++ sent_items S D n (store_row S.setting n d t word whole e).1.sent
      ≡ store_access S D n word whole e
  stores d t word true None is =
      with-sent (store_items n (Some (word, merged_of S.setting.program 0 t))) (item_at measure.TheVariants.Stores n word ∷ []) (store_row S.setting n d t word true None).1.sent
      (store-at word (merged_of S.setting.program 0 t) None is)
  stores d t word false None is = refl
  stores d t word whole (Some (Valid value marked)) is =
      with-sent (store_items n (Some (word, merged_of S.setting.program value t))) (item_at measure.TheVariants.Stores n word ∷ []) (store_row S.setting n d t word whole (Some (Valid value marked))).1.sent
      (store-at word (merged_of S.setting.program value t) (Some (Valid value marked)) is)
  stores d t word whole (Some (Registered value pending)) is =
      with-sent (store_items n (Some (word, merged_of S.setting.program value t)))
      (item_at measure.TheVariants.Stores n word ∷ item_at measure.TheVariants.StoresSilent n word ∷ []) None
      (store-at word (merged_of S.setting.program value t) (Some (Registered value pending)) is)
  stores d t word whole (Some (Leaving value)) is = refl

  by_need : (d : TaskDecl) (t : TaskState) (needs : Option Need) → items_by (Some d) (Some t) needs ≡ need_items S D n needs
  by_need d t None = refl
  by_need d t (Some need.TheVariants.Local) = refl
  by_need d t (Some (need.TheVariants.End cause)) = refl
  by_need d t (Some (need.TheVariants.Acquire lock)) = refl
  by_need d t (Some (need.TheVariants.Release lock)) = refl
  by_need d t (Some (need.TheVariants.Load word)) = loads d t word (entry_of n word.0)
  by_need d t (Some (need.TheVariants.Store word whole)) = stores d t word whole (entry_of n word.0) refl

  by_decl : (t : TaskState) (d : Option TaskDecl) (ended : Bool) → items_by d (Some t) (cond ended None (need_by S.setting d t)) ≡ need_items S D n (cond ended None (need_by S.setting d t))
  by_decl t None true = refl
  by_decl t None false = refl
  by_decl t (Some d) true = refl
  by_decl t (Some d) false = by_need d t (Some (need_of S.setting.program d S.setting.fuel t))

  no_task : (d : Option TaskDecl) → items_by d None None ≡ []
  no_task None = refl
  no_task (Some d) = refl

  by_task : (t : Option TaskState)
      → items_by (declared S.setting.program n.phase n.core) t (need_if S.setting n.phase n.core t) ≡ need_items S D n (need_if S.setting n.phase n.core t)
  by_task None = no_task (declared S.setting.program n.phase n.core)
  by_task (Some t) = by_decl t (declared S.setting.program n.phase n.core) (is_some t.end)

  pub instr_is : instr_items S D n ≡ need_items S D n (need_now S.setting n)
  unfolding instructed written_now
  instr_is = by_task n.task
