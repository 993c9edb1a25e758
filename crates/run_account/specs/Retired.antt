-- The access that an instruction retires, by what it needs and by the entry of its word. `counted_in` gives the same.
use Rattle.std.specs.Prelude.{Bool, true, false, Option, Some, None, if◌then◌else◌}
use Rattle.dn_base.specs.declared.ids.CoreId.{CoreId}
use Rattle.dn_base.specs.declared.ids.WordId.{WordId}
use Rattle.rv_core.specs.declared.need.Need as need
use Rattle.rv_core.specs.declared.need.Need.{Need}
use Rattle.word_cache.specs.declared.row.Entry.{Entry}
use Rattle.word_cache.specs.declared.row.Entry.TheVariants.{Valid, Registered, Leaving}
use Rattle.registration_protocol.specs.Node.{NodeParts, entry_of}
use Rattle.run_account.specs.declared.access.AccessKind.{AccessKind}
use Rattle.run_account.specs.declared.access.AccessKind.TheVariants.{Load, Store}
use Rattle.run_account.specs.declared.access.CountedAccess.{CountedAccess}
use Rattle.run_account.specs.Runs.{has_waited}

-- whether a load retires, and a store of a whole word or of a part of it
abbrev pub load_retires : Option Entry → Bool
load_retires None = false
load_retires (Some (Valid value marked)) = true
load_retires (Some (Registered value pending)) = true
load_retires (Some (Leaving value)) = false

abbrev pub store_retires : Bool → Option Entry → Bool
store_retires whole None = whole
store_retires whole (Some e) = load_retires (Some e)

abbrev pub retiring_access : CoreId → NodeParts → WordId → AccessKind → CountedAccess
retiring_access core n word kind = record { core = core; phase = record { 0 = n.phase }; word = word; kind = kind; waited = has_waited n.waiting }

abbrev pub access_of_need : CoreId → NodeParts → Option Need → Option CountedAccess
access_of_need core n (Some (need.TheVariants.Load word)) = if load_retires (entry_of n word.0) then Some (retiring_access core n word Load) else None
access_of_need core n (Some (need.TheVariants.Store word whole)) = if store_retires whole (entry_of n word.0) then Some (retiring_access core n word Store) else None
access_of_need core n _ = None
