use Rattle.std.proofs.Common.{◌≡◌, sym, ◌∙◌, arith}
use Rattle.region_table.specs.Program.{cores_of}
use Rattle.dn_machine.proofs.machine.Machine.start.Goals as goal

pub of_decoded-requires-clause-context : goal.of_decoded-requires-clause-context
of_decoded-requires-clause-context c =
    let given : c.in_ok-decoded.decoded ≡ c.args.checked = c.in_ok-decoded.ensures ∙ c.into_program.ensures.value in
    let same : c.program-program.result.now ≡ c.in_ok-decoded.decoded = c.program-program.ensures.value ∙ sym given in
    let cores : c.cores-cores.result ≡ cores_of c.in_ok-decoded.decoded = rw same at c.cores-cores.ensures.value in
    record {
      plans = rw same at c.in_ok-plans.ensures;
      cores = rw given c.requires.fits.cores;
      some_banks = omega (arith, c.requires.fits.banks.0);
      most_banks = c.requires.fits.banks.1;
      some_sets = omega (arith, c.requires.fits.sets.0);
      most_sets = c.requires.fits.sets.1;
      some_ways = omega (arith, c.requires.fits.ways.0);
      most_ways = c.requires.fits.ways.1;
      some_fuel = omega (arith, c.requires.fits.instructions.0);
      most_fuel = c.requires.fits.instructions.1;
    }

pub of_decoded-requires-clause-program : goal.of_decoded-requires-clause-program
of_decoded-requires-clause-program c =
    let given : c.in_ok-decoded.decoded ≡ c.args.checked = c.in_ok-decoded.ensures ∙ c.into_program.ensures.value in
    let same : c.program-program.result.now ≡ c.in_ok-decoded.decoded = c.program-program.ensures.value ∙ sym given in
    rw same at c.a_program_is_well_formed.ensures

pub of_decoded-requires-clause-checked : goal.of_decoded-requires-clause-checked
of_decoded-requires-clause-checked c =
    let given : c.in_ok-decoded.decoded ≡ c.args.checked = c.in_ok-decoded.ensures ∙ c.into_program.ensures.value in
    rw given c.program-program.ensures.checked
