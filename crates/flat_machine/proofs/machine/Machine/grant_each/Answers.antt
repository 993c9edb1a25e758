use Rattle.std.proofs.Common.{◌≡◌, Some, None, [], sym, ap, ◌∙◌}
use Rattle.std.proofs.lemmas.List.{append-nil}
use Rattle.flat_machine.specs.Phases.{Flat}
use Rattle.flat_machine.specs.Grants.{next_grant, granted_if}
use Rattle.flat_machine.proofs.RunLemmas.{grants-push, least-more}
use Rattle.flat_machine.proofs.machine.Machine.grant_each.Goals as goal

pub grants-preserved : goal.grants-preserved
grants-preserved c =
    let P = c.args.program.now in
    let fuel = c.args.fuel in
    let start = Some c.args.self.now in
    let F : Flat = c.grants.self in
    let g = c.in-Some.next in
    let next : next_grant P fuel F ≡ Some g = sym c.in-Some.ensures in
    let given = c.in_ok-grant_next.ensures.value in
    record {
      least = λ rest h. rw c.in_ok-push.ensures.items (least-more P fuel start F c.grant_next.new.self c.grants.grants.items rest g c.grants.invariant.least next given h);
      leads = rw c.in_ok-push.ensures.items (grants-push P fuel start c.grants.grants.items g ∙ ap (λ o. granted_if P fuel o g) c.grants.invariant.leads ∙ given);
      sound = c.in_ok-grant_next.ensures.sound;
    }

pub returns-clause-least : goal.returns-clause-least
returns-clause-least c =
    let next : next_grant c.args.program.now c.args.fuel c.grants.self ≡ None = sym c.in_default.ensures in
    rw append-nil at (c.grants.invariant.least [] next)
