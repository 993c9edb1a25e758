-- The state of a machine that is joined again.
use Rattle.std.proofs.Common.{◌≡◌, ◌++◌, map}
use Rattle.registration_protocol.specs.Node.{Setting}
use Rattle.host_workers.specs.Rounds.{mail_in}
use Rattle.host_workers.specs.declared.finishing.Finished.{Finished}
use Rattle.host_workers.specs.declared.opening.Moving.{Moving}
use Rattle.host_workers.specs.declared.round.FixedParts.{FixedParts}
use Rattle.host_workers.specs.Finishing.{left_in}
use Rattle.host_workers.specs.Inboxes.{inboxes_of, all_posted}
use Rattle.host_workers.specs.MadeRounds.{fixed_setting, made_from_parts}

pub state-joined : (f : Finished) (C : Setting) (fixed : FixedParts) (m : Moving) → C ≡ fixed_setting fixed → m.nodes.items ≡ f.parted.nodes.items → m.banks.items ≡ f.objects.banks.items → m.keeper ≡ f.objects.keeper
    → m.pool.mails ≡ map mail_in (all_posted (inboxes_of f.objects.inboxes)) → m.next.items ≡ f.parted.next.items ++ f.objects.next.items → left_in C f ≡ (made_from_parts fixed m).state
state-joined f C fixed m frame nodes banks keeper mails numbers = cc
