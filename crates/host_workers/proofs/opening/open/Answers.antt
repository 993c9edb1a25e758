use Rattle.std.proofs.Common.{drop, length, sym, ap, subst, ◌∙◌}
use Rattle.std.proofs.lemmas.Result.{IfOk-weaker}
use Rattle.dn_base.specs.declared.ids.Shape.{Shape}
use Rattle.machine_rules.specs.State.{State}
use Rattle.host_workers.specs.Opening.{IsMovingOf, IsInitialRound}
use Rattle.host_workers.specs.Rosters.{AreCrewsOf, IsFreshRoster}
use Rattle.host_workers.proofs.OpenedRound.{all-behind, first-there, hold-there, fresh-there, parts-there}
use Rattle.host_workers.proofs.opening.open.Goals as goal

pub objects_of-requires-clause-banks : goal.objects_of-requires-clause-banks
objects_of-requires-clause-banks c =
    let is = c.requires.machine.1 in
    sym (ap length is.banks) ∙ (is.machine.banks ∙ ap (λ (shape : Shape). shape.banks) is.shape_is)

pub opened_of-requires-clause-count : goal.opened_of-requires-clause-count
opened_of-requires-clause-count c = c.in_ok-crews.ensures.2.count

pub opened_of-requires-clause-parts : goal.opened_of-requires-clause-parts
opened_of-requires-clause-parts c =
    let is = c.requires.machine in
    let made = c.in_ok-objects.ensures in
    parts-there c.args.shape is.0 c.args.moving is.1 made.inboxes _ _ _ _ (all-behind c.args.shape.cores c.deref.result.now ∙ ap (drop c.args.shape.cores) c.deref.ensures.value) made.first made.hold made.clocks

pub returns : goal.returns
returns c =
    let made = c.in_ok-objects.ensures in
    let dealt = c.in_ok-crews.ensures in
    IfOk-weaker c.opened_of.result _ (λ o. (S : State) → IsMovingOf c.args.shape S c.args.moving → IsInitialRound S.setting S c.args.workers o.hall o.jobs.items)
    (λ o are S is. record {
      inboxes = made.inboxes;
      objects = record { banks = c.in_ok-objects.objects.banks.items; ports = c.in_ok-objects.objects.ports.items; keeper = c.in_ok-objects.objects.keeper };
      roster = dealt.0;
      first = first-there c.args.shape S c.args.moving is made.inboxes made.first;
      hold = hold-there c.args.shape S c.args.moving is made.inboxes _ _ _ _ (all-behind c.args.shape.cores c.deref.result.now ∙ ap (drop c.args.shape.cores) c.deref.ensures.value) made.hold;
      at_first = made.clocks;
      opened = are.opened;
      fresh = fresh-there c.args.shape S c.args.moving is dealt.0 (subst (λ l. IsFreshRoster c.args.moving.nodes.items c.args.shape.banks l dealt.0) c.as_slice.ensures.value dealt.1);
      crews = subst (AreCrewsOf c.args.workers dealt.0) (sym are.crews_are) dealt.2;
      passes = are.passes;
      all = are.all;
    })
    c.opened_of.ensures
