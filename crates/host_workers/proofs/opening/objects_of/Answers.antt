use Rattle.std.proofs.Common.{length, sym, ap, ◌∙◌}
use Rattle.std.specs.List.{range_with_len}
use Rattle.std.proofs.lemmas.List.FromFn.{length-range_with_len}
use Rattle.host_workers.proofs.Mapped.{long-map}
use Rattle.host_workers.specs.Inboxes.{inboxes_of}
use Rattle.host_workers.specs.Opening.{AreFirstObjects}
use Rattle.host_workers.proofs.BothOk.{both-ok}
use Rattle.host_workers.proofs.opening.objects_of.Goals as goal

pub objects-requires-clause-banks : goal.objects-requires-clause-banks
objects-requires-clause-banks c =
    let count = c.args.shape.banks in
    sym (long-map (λ v. v.items) c.in_ok-inboxes.inboxes.banks.items)
    ∙ (ap length c.in_ok-inboxes.ensures.banks ∙ (long-map _ (range_with_len 0 count) ∙ (length-range_with_len 0 count ∙ sym c.requires.banks)))

pub returns : goal.returns
returns c =
    both-ok c.objects.result _ _ (AreFirstObjects c.args.shape c.args.pool.now.mails c.args.banks.items c.args.keeper c.args.next.now)
    (λ parts hold clocks. record { inboxes = inboxes_of c.in_ok-inboxes.inboxes; first = c.in_ok-inboxes.ensures; hold = hold; clocks = clocks })
    c.objects.ensures.objects c.objects.ensures.clocks
