-- Whatever the words ask for, a call without memory that left all alone is one that the program may make.
use Rattle.std.proofs.Common.{refl, inr, ℕ, List, Option, Some, None}
use Rattle.dn_base.specs.declared.status.Status as status
use Rattle.program_outside.specs.Outside.{Devices}
use Rattle.explain_top.specs.Serving.{Serves}
use Rattle.explain_top.specs.Texts.{TextsState}

pub starved : (wanted : Option (List ℕ)) (texts : TextsState) (devices : Devices) → Serves wanted texts texts devices devices status.TheVariants.Memory
starved None texts devices = (refl, (refl, inr (refl, refl)))
starved (Some name) texts devices = inr (inr (refl, (refl, refl)))
