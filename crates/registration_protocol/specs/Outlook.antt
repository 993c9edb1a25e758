-- The outlook: whether the next instruction may come, or which word lacks a place in the cache.
use Rattle.std.specs.Prelude.{Bool, true, false, Option, Some, None}
use Rattle.dn_base.specs.declared.ids.WordId.{WordId}
use Rattle.registration_protocol.specs.declared.outlook.Outlook.{Outlook}
use Rattle.registration_protocol.specs.declared.outlook.Outlook.TheVariants.{Goes, Stalls, Lacks}

abbrev pub is_clear : Outlook → Bool
is_clear Goes = true
is_clear Stalls = false
is_clear (Lacks word) = false

abbrev pub lacked : Outlook → Option WordId
lacked Goes = None
lacked Stalls = None
lacked (Lacks word) = Some word
