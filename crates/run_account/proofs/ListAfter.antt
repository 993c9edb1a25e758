-- What the count is after each event.
use Rattle.std.proofs.Common.{◌≡◌, ◌++◌, slice_get, Some, None, refl}
use Rattle.dn_base.specs.declared.ids.CoreId.{CoreId}
use Rattle.dn_base.specs.declared.ids.WordId.{WordId}
use Rattle.message_net.specs.declared.actor.MailId.{MailId}
use Rattle.message_net.specs.declared.event.Event.TheVariants.{Instr, Evict, Arrive, Handle}
use Rattle.message_net.specs.Pool.{removed}
use Rattle.machine_rules.specs.State.{State}
use Rattle.machine_rules.specs.Accesses.{access_in}
use Rattle.run_account.specs.Tallies.{with_items}
use Rattle.run_account.specs.declared.access.CountedAccess.{CountedAccess}
use Rattle.run_account.specs.Lists.{lists_after}
use Rattle.run_account.specs.Runs.{counted_in, served_mail_items, carried_mail_items, items_of, event_items, Listed, listing, listed_after}

pub after_access : (S : State) (core : CoreId) (A : Listed) (a : CountedAccess) → counted_in S (Instr core) ≡ Some a
    → listed_after S (Instr core) A ≡ record { tallies = with_items A.tallies (items_of A.lists (Some a)); lists = lists_after A.lists a }
unfolding listed_after event_items
after_access S core A a is = rw is refl

pub after_other : (S : State) (core : CoreId) (A : Listed) → counted_in S (Instr core) ≡ None → listed_after S (Instr core) A ≡ A
unfolding listed_after event_items
after_other S core A none = rw none refl

pub no_core : (S : State) (core : CoreId) → slice_get S.nodes core.0 ≡ None → counted_in S (Instr core) ≡ None
unfolding counted_in access_in
no_core S core none = rw none refl

pub after_handle : (S : State) (id : MailId) (A : Listed) → listed_after S (Handle id) A ≡ listing A (served_mail_items S (removed id S.mails).0 ++ carried_mail_items S (removed id S.mails).0)
unfolding listed_after event_items counted_in access_in
after_handle S id A = refl

pub after_evict : (S : State) (core : CoreId) (word : WordId) (A : Listed) → listed_after S (Evict core word) A ≡ A
unfolding listed_after event_items counted_in access_in
after_evict S core word A = refl

pub after_arrive : (S : State) (core : CoreId) (A : Listed) → listed_after S (Arrive core) A ≡ A
unfolding listed_after event_items counted_in access_in
after_arrive S core A = refl
