use Rattle.std.proofs.Common.{◌≡◌, ap, subst}
use Rattle.std.proofs.lemmas.Option.{slice_get_within, get_or_from_slice_get}
use Rattle.host_workers.specs.Inboxes.{bank_clock}
use Rattle.host_workers.proofs.inboxes.Inboxes.objects.Goals as goal

pub returns-clause-clocks : goal.returns-clause-clocks
returns-clause-clocks c = record {
  banks = λ b object at. subst (λ a. bank_clock a ≡ 0) (get_or_from_slice_get c.in_ok-bank_actors.field-0.items b object object at) (c.in_ok-bank_actors.ensures.clocks b object (slice_get_within c.in_ok-bank_actors.field-0.items b object at));
  keeper = ap (λ s. s.clock) c.new.ensures;
}
