-- The parts of a machine.
pub use Rattle.machine_rules.specs.Reordered.{IsReordered}
use Rattle.rv_core.specs.Decoded.{IsDecoded}
use Rattle.dn_machine.specs.Kept.{Made, IsLeftByRun}
use Rattle.dn_machine.specs.declared.parts.MachineParts.{MachineParts}

-- the state that the parts of a machine make up, and how many events have led to it
abbrev pub made_in : MachineParts → Made
made_in p =
    record {
      state =
          record {
            setting = record { program = p.checked; plans = p.plans.items; shape = p.shape; fuel = p.fuel };
            nodes = p.nodes.items;
            banks = p.banks.items;
            keeper = p.keeper;
            mails = p.pool.mails;
            numbers = p.next.items;
          };
      made = p.made;
    }

-- the parts are those of a machine that a run leaves, with the code words of its program decoded
abbrev pub AreLeftByRun : MachineParts → Type 0
AreLeftByRun p = IsLeftByRun (made_in p).state p.made × IsDecoded p.checked p.code
