-- A core's inbox that callers share: what one call of it answers, and what it leaves.
use Rattle.std.specs.Prelude.{ℕ, List, Option}
use Rattle.grant_log.specs.declared.posted.Posted.{Posted}
use Rattle.bank_hall.specs.declared.port.PortIn.{PortIn}
use Rattle.bank_hall.specs.declared.port.PortIn.TheVariants.{Post, Take}
use Rattle.bank_hall.specs.declared.port.PortOut.{PortOut}
use Rattle.bank_hall.specs.declared.port.PortOut.TheVariants.{Kept, Taken}
use Rattle.grant_log.specs.Stamps.{is_early}
use Rattle.grant_log.specs.Inbox.{with_mail, picked_out}

-- an inbox, and for how many more mails it has room
pub record PortParts : Type 0 where
  pub inbox : List Posted
  pub spare : ℕ

abbrev pub port_taken : Option Posted × List Posted → List Posted × PortOut
port_taken row = (row.1, Taken row.0)

-- what a call leaves and answers: a mail is put into the inbox, or the mail that the pick names is taken
unfoldable pub port_call : List Posted → PortIn → List Posted × PortOut
port_call inbox (Post p) = (with_mail inbox p, Kept)
port_call inbox (Take pick) = port_taken (picked_out is_early inbox pick)
