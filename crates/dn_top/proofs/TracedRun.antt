-- The document of the run that options ask for.
use Rattle.std.proofs.Common.{◌≡◌, ℕ, List, Ok, arith}
use Rattle.std.specs.List.{All}
use Rattle.region_table.specs.Program.{ProgramParts}
use Rattle.rv_assembler.specs.Source.{source}
use Rattle.dn_machine.specs.declared.record.RunRecord.{RunRecord}
use Rattle.run_replay.specs.Document.{FitsDocument, IsTrace, IsTraceShape}
use Rattle.dn_top.specs.declared.options.Options.{Options}
use Rattle.dn_top.specs.Command.{OptionsInRange}
use Rattle.dn_top.specs.Runs.{IsAnyRunFor}
use Rattle.dn_top.specs.Documents.{sizes_of, trace_of}
use Rattle.dn_top.proofs.Fronts.{source-small}

-- the machine's size and the fuel of options are within the limits of a document
sizes-within : (o : Options) → OptionsInRange o → IsTraceShape (sizes_of o)
sizes-within o l =
    record {
      banks = record { low = omega (arith, l.banks); high = omega (arith, l.banks) };
      sets = record { low = omega (arith, l.sets); high = omega (arith, l.sets) };
      ways = record { low = omega (arith, l.ways); high = omega (arith, l.ways) };
      fuel = record { low = omega (arith, l.fuel); high = omega (arith, l.fuel) };
    }

-- so is all that the document of a run tells
pub trace-told : (P : ProgramParts) (o : Options) (text : List ℕ) (r : RunRecord) → OptionsInRange o → source text ≡ Ok P → IsAnyRunFor P o r → All FitsDocument r.events → IsTrace (trace_of o text r)
trace-told P o text r limits is run told =
    record {
      head = record { shape = sizes-within o limits; text = source-small text P is; count = run.machine.few.most };
      events = told;
    }
