use Rattle.std.proofs.Common.{rules, ◌≡◌, Some}
use Rattle.dn_base.specs.declared.ids.Grant.{Grant}
use Rattle.flat_machine.specs.Grants.{grants_from, IsStoppedAt}
use Rattle.flat_machine.proofs.FaultLemmas.{stops-at, stops-at-end}
use Rattle.flat_machine.proofs.faults.fault_by.Goals as goal

pub returns-in-Some : goal.returns-in-Some
returns-in-Some c =
    let first : Grant = record { phase = record { 0 = 0 }; core = record { 0 = 0 }; lock = record { 0 = 0 } } in
    let stopped : IsStoppedAt c.args.program.now c.args.fuel c.args.machine.now c.args.grants.now c.grant_all.new.self c.in-Some.place = search rules in
    stops-at c.args.program.now c.args.fuel c.args.grants.now c.args.machine.now c.grant_all.new.self c.requires.start c.fault_of_grant.result c.in-Some.place first stopped c.fault_of_grant.ensures

pub returns : goal.returns
returns c =
    let leads : grants_from c.args.program.now c.args.fuel (Some c.args.machine.now) c.args.grants.now ≡ Some c.grant_all.new.self = search rules in
    stops-at-end c.args.program.now c.args.fuel c.args.grants.now c.args.machine.now c.grant_all.new.self c.requires.start c.fault_of_end.result leads c.fault_of_end.ensures
