use Rattle.std.proofs.Common.{rules, ◌≡◌, Some, false}
use Rattle.flat_machine.specs.Grants.{grants_from, grants_are_whole}
use Rattle.flat_machine.proofs.RefusedLemmas.{refused_short}
use Rattle.flat_machine.proofs.refused.refused_place.Goals as goal

pub returns-then-is_some-clause-refused : goal.returns-then-is_some-clause-refused
returns-then-is_some-clause-refused c =
    let leads : grants_from c.args.program.now c.args.fuel (Some c.args.machine.now) c.args.grants.now ≡ Some c.grant_all.new.self = search rules in
    let short : grants_are_whole c.args.program.now c.args.fuel c.grant_all.new.self ≡ false = search rules in
    refused_short c.args.program.now c.args.fuel c.args.grants.now c.args.machine.now c.grant_all.new.self c.requires.start leads short
