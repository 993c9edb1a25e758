-- What is counted of an instruction, by what it needs and by the entry of its word. `instr_items` gives the same.
use Rattle.std.specs.Prelude.{Bool, List, [], ◌∷◌, replicate, Option, Some, None, count_by, if◌then◌else◌}
use Rattle.dn_base.specs.declared.ids.WordId.{WordId}
use Rattle.rv_core.specs.declared.need.Need as need
use Rattle.rv_core.specs.declared.need.Need.{Need}
use Rattle.word_cache.specs.declared.row.Entry.{Entry}
use Rattle.word_cache.specs.declared.row.Entry.TheVariants.{Valid, Registered, Leaving}
use Rattle.registration_protocol.specs.Node.{NodeParts, entry_of, waits_for_nothing}
use Rattle.machine_rules.specs.State.{State}
use Rattle.run_account.specs.declared.item.Item.{Item}
use Rattle.run_account.specs.declared.measure.Measure as measure
use Rattle.run_account.specs.Departures.{Departures, departure_at}
use Rattle.run_account.specs.Events.{item_at, item_if, miss_of, has_untold_copy}

abbrev pub miss_items : Departures → NodeParts → WordId → List Item
miss_items D n word = item_at measure.TheVariants.Misses n word ∷ item_at (miss_of (departure_at D n.core word.0)) n word ∷ []

abbrev pub hit_items : NodeParts → WordId → List Item
hit_items n word = item_at measure.TheVariants.Loads n word ∷ item_if (waits_for_nothing n.waiting) (item_at measure.TheVariants.LoadsLocal n word)

-- other cores' copies
abbrev pub untold_items : State → NodeParts → WordId → List Item
untold_items S n word = replicate (count_by (has_untold_copy n word.0) S.nodes) (item_at measure.TheVariants.UntoldCopies n word)

abbrev pub registering_items : State → NodeParts → WordId → List Item
registering_items S n word = item_at measure.TheVariants.Stores n word ∷ item_at measure.TheVariants.Registers n word ∷ untold_items S n word

-- a load, and a store of a whole word or of a part of it
abbrev pub load_access : Departures → NodeParts → WordId → Option Entry → List Item
load_access D n word None = miss_items D n word
load_access D n word (Some (Valid value marked)) = hit_items n word
load_access D n word (Some (Registered value pending)) = hit_items n word
load_access D n word (Some (Leaving value)) = []

abbrev pub store_access : State → Departures → NodeParts → WordId → Bool → Option Entry → List Item
store_access S D n word whole None = if whole then registering_items S n word else miss_items D n word
store_access S D n word whole (Some (Valid value marked)) = registering_items S n word
store_access S D n word whole (Some (Registered value pending)) = item_at measure.TheVariants.Stores n word ∷ item_at measure.TheVariants.StoresSilent n word ∷ []
store_access S D n word whole (Some (Leaving value)) = []

abbrev pub need_items : State → Departures → NodeParts → Option Need → List Item
need_items S D n (Some (need.TheVariants.Load word)) = load_access D n word (entry_of n word.0)
need_items S D n (Some (need.TheVariants.Store word whole)) = store_access S D n word whole (entry_of n word.0)
need_items S D n _ = []
