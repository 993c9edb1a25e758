-- Where there is no room for the words, explain ends with Memory, whatever they ask for.
use Rattle.std.proofs.Common.{ℕ, List, Option}
use Rattle.dn_base.specs.declared.status.Status as status
use Rattle.program_outside.specs.Outside.{Devices}
use Rattle.explain_top.proofs.Starved.{starved}
use Rattle.denovo_c.specs.Texts.{IsExplainServed, text_held}

pub unheld : (name : Option (List ℕ)) (text : List ℕ) (devices : Devices) → IsExplainServed name text devices devices status.TheVariants.Memory
unheld name text devices = record { later = text; serves = starved name (text_held text) devices }
