use Rattle.std.proofs.Common.{refl, ◌∙◌, subst, arith}
use Rattle.region_table.specs.Program.{IsProgram}
use Rattle.registration_protocol.specs.Setting.{setting}
use Rattle.host_workers.specs.declared.crew.BankLog.{BankLog}
use Rattle.host_workers.specs.declared.owned.Owned.{Owned}
use Rattle.host_workers.proofs.Cores.{few-cores}
use Rattle.host_workers.proofs.Worked.{rising-few}
use Rattle.host_workers.proofs.Crewed.{worked, crew-still}
use Rattle.host_workers.proofs.Parting.{at-cores, at-banks, at-keeper}
use Rattle.host_workers.proofs.Calls.{at-exit}
use Rattle.host_workers.proofs.pass.worker_pass.Goals as goal

pub serve_cores-requires-clause-most : goal.serve_cores-requires-clause-most
serve_cores-requires-clause-most g c =
    let C = setting c.args.context.now in
    let few = rising-few (λ (o : Owned). o.core.0) c.args.crew.now.cores.items 0 C.shape.cores c.requires.crew.cores_rise (λ k d within. omega arith) (λ k d within. (c.requires.crew.cores k d within).inside) in
    let most = few-cores C.program (subst IsProgram c.program.ensures c.a_program_is_well_formed.ensures) in
    omega (arith, few, most, c.requires.may.context.cores)

pub step_banks-requires-clause-most : goal.step_banks-requires-clause-most
step_banks-requires-clause-most g c =
    let C = setting c.args.context.now in
    let few = rising-few (λ (b : BankLog). b.bank.0) c.args.crew.now.banks.items 0 C.shape.banks c.requires.crew.banks_rise (λ k d within. omega arith) c.requires.crew.banks in
    omega (arith, few, c.requires.may.context.most_banks)

pub step_banks-requires-clause-may : goal.step_banks-requires-clause-may
step_banks-requires-clause-may g c = record {
  context = c.requires.may.context;
  pass_is = c.serve_cores.ensures.pass.0;
  ports = c.requires.may.ports;
  banks = c.requires.may.banks;
}

pub keep-requires : goal.keep-requires
keep-requires g c = record {
  may = record {
    context = c.requires.may.context;
    pass_is = c.step_banks.ensures.pass.0;
    ports = c.requires.may.ports;
    banks = c.requires.may.banks;
  };
}

pub returns-clause-pass : goal.returns-clause-pass
returns-clause-pass g c = (c.keep.ensures.pass.0, c.keep.ensures.pass.1 ∙ (c.step_banks.ensures.pass.1 ∙ c.serve_cores.ensures.pass.1))

pub returns-in_err-kept-clause-pass : goal.returns-in_err-kept-clause-pass
returns-in_err-kept-clause-pass g c = (c.keep.ensures.pass.0, c.keep.ensures.pass.1 ∙ (c.step_banks.ensures.pass.1 ∙ c.serve_cores.ensures.pass.1))

pub returns-in_err-stepped-clause-pass : goal.returns-in_err-stepped-clause-pass
returns-in_err-stepped-clause-pass g c = (c.step_banks.ensures.pass.0, c.step_banks.ensures.pass.1 ∙ c.serve_cores.ensures.pass.1)

pub returns-clause-crew : goal.returns-clause-crew
returns-clause-crew g c =
    crew-still (setting c.args.context.now) c.args.pass.now c.serve_cores.new.pass c.step_banks.new.pass c.keep.new.pass c.args.crew.now _ c.in_ok-served.served c.in_ok-stepped.stepped c.in_ok-kept.kept
    c.requires.crew c.in_ok-served.ensures.served c.in_ok-stepped.ensures.stepped c.in_ok-kept.ensures.stepped

pub returns-clause-worked : goal.returns-clause-worked
returns-clause-worked g c =
    worked (setting c.args.context.now) c.args.pass.now c.serve_cores.new.pass c.step_banks.new.pass c.keep.new.pass c.args.crew.now _ c.in_ok-served.served c.in_ok-stepped.stepped c.in_ok-kept.kept
    c.requires.crew c.in_ok-served.ensures.served c.in_ok-stepped.ensures.stepped c.in_ok-kept.ensures.stepped c.in_ok-served.ensures.pass.1 c.in_ok-stepped.ensures.pass.1 refl

pub returns-in_err-served-clause-crew : goal.returns-in_err-served-clause-crew
returns-in_err-served-clause-crew g c =
    (at-cores (setting c.args.context.now) c.args.crew.now (record c.args.crew.now { cores = c.serve_cores.new.cores }) c.requires.crew refl c.args.pass.now c.serve_cores.new.pass c.in_err-served.ensures.part refl refl).1

pub returns-in_err-stepped-clause-crew : goal.returns-in_err-stepped-clause-crew
returns-in_err-stepped-clause-crew g c =
    (at-banks (setting c.args.context.now) c.args.crew.now (record c.args.crew.now { cores = c.serve_cores.new.cores; banks = c.step_banks.new.banks }) c.requires.crew refl c.args.pass.now c.serve_cores.new.pass c.step_banks.new.pass c.in_ok-served.served
    c.in_ok-served.ensures.served c.in_ok-served.ensures.pass.1 c.in_err-stepped.ensures.part refl).1

pub returns-in_err-kept-clause-crew : goal.returns-in_err-kept-clause-crew
returns-in_err-kept-clause-crew g c =
    (at-keeper (setting c.args.context.now) c.args.crew.now (record c.args.crew.now { cores = c.serve_cores.new.cores; banks = c.step_banks.new.banks; keeper = c.keep.new.keeper }) c.requires.crew refl c.args.pass.now c.serve_cores.new.pass c.step_banks.new.pass c.keep.new.pass
    c.in_ok-served.served c.in_ok-stepped.stepped c.in_ok-served.ensures.served c.in_ok-served.ensures.pass.1 c.in_ok-stepped.ensures.stepped c.in_ok-stepped.ensures.pass.1 c.in_err-kept.ensures.part).1

pub returns-in_err-served-clause-part : goal.returns-in_err-served-clause-part
returns-in_err-served-clause-part g c =
    at-exit _ ((at-cores (setting c.args.context.now) c.args.crew.now (record c.args.crew.now { cores = c.serve_cores.new.cores }) c.requires.crew refl c.args.pass.now c.serve_cores.new.pass c.in_err-served.ensures.part refl refl).0)

pub returns-in_err-stepped-clause-part : goal.returns-in_err-stepped-clause-part
returns-in_err-stepped-clause-part g c =
    at-exit _ ((at-banks (setting c.args.context.now) c.args.crew.now (record c.args.crew.now { cores = c.serve_cores.new.cores; banks = c.step_banks.new.banks }) c.requires.crew refl c.args.pass.now c.serve_cores.new.pass c.step_banks.new.pass c.in_ok-served.served
    c.in_ok-served.ensures.served c.in_ok-served.ensures.pass.1 c.in_err-stepped.ensures.part refl).0)

pub returns-in_err-kept-clause-part : goal.returns-in_err-kept-clause-part
returns-in_err-kept-clause-part g c =
    at-exit _ ((at-keeper (setting c.args.context.now) c.args.crew.now (record c.args.crew.now { cores = c.serve_cores.new.cores; banks = c.step_banks.new.banks; keeper = c.keep.new.keeper }) c.requires.crew refl c.args.pass.now c.serve_cores.new.pass c.step_banks.new.pass c.keep.new.pass
    c.in_ok-served.served c.in_ok-stepped.stepped c.in_ok-served.ensures.served c.in_ok-served.ensures.pass.1 c.in_ok-stepped.ensures.stepped c.in_ok-stepped.ensures.pass.1 c.in_err-kept.ensures.part).0)
