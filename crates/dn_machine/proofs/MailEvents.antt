-- The handling of a mail.
use Rattle.std.proofs.Common.{◌≡◌, ℕ, ◌≤◌, true, cond, List, length, slice_get, position, Option, Some, None, refl, arith}
use Rattle.std.proofs.lemmas.Bool.Decides.{nat_tests}
use Rattle.message_net.specs.declared.actor.Actor.{Actor}
use Rattle.message_net.specs.declared.actor.Actor.TheVariants.{Core, Bank, Keeper}
use Rattle.message_net.specs.declared.actor.MailId.{MailId}
use Rattle.message_net.specs.declared.event.Event.TheVariants.{Handle}
use Rattle.message_net.specs.declared.message.Mail.{Mail}
use Rattle.message_net.specs.declared.message.Message.{Message}
use Rattle.message_net.specs.Kind.{kind_of}
use Rattle.message_net.specs.Pool.{IsFound, of_id, count_of, removed, removed_at, without_mail_at}
use Rattle.message_net.proofs.PoolLemmas.{found-counted, sum_by-without, length-without}
use Rattle.machine_rules.specs.State.{State}
use Rattle.machine_rules.specs.Next.{next, enabled, gets, observed, kind_in, seen_in, granted_in, grant_of_mail}
use Rattle.dn_machine.specs.Content.{IsWhole}

-- a mail that may be handled is there
pub id-counted : (S : State) (id : MailId) → enabled S (Handle id) ≡ true → 1 ≤ count_of id S.mails
unfolding enabled
id-counted S id may = grind (arith, nat_tests, may)

pub handle-there : (S : State) (id : MailId) → enabled S (Handle id) ≡ true → (m : Mail) × ((removed id S.mails).0 ≡ Some m)
handle-there S id may = by_found (found-counted id S.mails (id-counted S id may)) where
  by_found : (place : ℕ) × (m : Mail) × IsFound id S.mails place m → (m : Mail) × ((removed id S.mails).0 ≡ Some m)
  by_found (place, m, found) = (m, rw (found.takes) refl)

pub handle-next : (S : State) (id : MailId) (m : Mail) (rest : List Mail) → (removed id S.mails).0 ≡ Some m → rest ≡ (removed id S.mails).1
    → gets (record S { mails = rest }) m.to m.message ≡ next S (Handle id)
unfolding next
handle-next S id m rest took left = rw (took, left) refl

granted-rest : (S : State) (rest : List Mail) (to : Actor) (message : Message) → grant_of_mail (record S { mails = rest }) to message ≡ grant_of_mail S to message
granted-rest S rest (Core core) message = refl
granted-rest S rest (Bank bank) message = refl
granted-rest S rest Keeper message = refl

pub handle-told : (S : State) (id : MailId) (m : Mail) (rest : List Mail) → (removed id S.mails).0 ≡ Some m
    → observed S (Handle id) ≡ record { kind = kind_of m.message; seen = None; granted = grant_of_mail (record S { mails = rest }) m.to m.message }
unfolding kind_in seen_in granted_in
handle-told S id m rest took = rw (took, granted-rest S rest m.to m.message) refl

-- fewer mails are in flight once one has been taken
count-without : (id : MailId) (mails : List Mail) (place : ℕ) → count_of id (without_mail_at place mails) ≤ count_of id mails
count-without id mails place = by_place (slice_get mails place) refl where
  by_place : (o : Option Mail) → slice_get mails place ≡ o → count_of id (without_mail_at place mails) ≤ count_of id mails
  by_place None e = rw e (omega arith)
  by_place (Some m) e = omega (arith, sum_by-without (λ x. cond (of_id id x) 1 0) mails place m e)

count-taken_at : (id : MailId) (mails : List Mail) (o : Option ℕ) → count_of id (removed_at mails o).1 ≤ count_of id mails
count-taken_at id mails None = omega arith
count-taken_at id mails (Some place) = count-without id mails place

length-taken_at : (mails : List Mail) (o : Option ℕ) → length (removed_at mails o).1 ≤ length mails
length-taken_at mails None = omega arith
length-taken_at mails (Some place) = length-without mails place

-- so that all may send who might before
pub whole-taken : (S : State) (id : MailId) (rest : List Mail) → rest ≡ (removed id S.mails).1 → IsWhole S → IsWhole (record S { mails = rest })
whole-taken S id rest is whole =
    rw is
    (record {
      context = whole.context;
      cores = whole.cores;
      some = whole.some;
      most = whole.most;
      banks = whole.banks;
      numbers = whole.numbers;
      fits = whole.fits;
      sends =
          record {
            room = omega (arith, whole.sends.room, length-taken_at S.mails (position (of_id id) S.mails));
            few = whole.sends.few;
            fresh = λ from number least. omega (arith, whole.sends.fresh from number least, count-taken_at (record { sender = from; number = number }) S.mails (position (of_id id) S.mails));
          };
    })
