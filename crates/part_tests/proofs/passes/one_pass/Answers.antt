use Rattle.part_tests.proofs.passes.one_pass.Goals as goal

pub returns-clause-may : goal.returns-clause-may
returns-clause-may g c = record {
  context = c.requires.may.context;
  pass_is = c.worker_pass.ensures.pass.0;
  ports = c.requires.may.ports;
  banks = c.requires.may.banks;
}
