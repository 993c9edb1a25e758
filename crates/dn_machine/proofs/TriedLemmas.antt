-- An event that is tried.
use Rattle.std.proofs.Common.{◌≡◌, ◌≢◌, ℕ, ◌+◌, true, false, Option, Some, None, refl, arith}
use Rattle.std.specs.Option.{is_some}
use Rattle.std.proofs.lemmas.Bool.{true≢false, false≢true}
use Rattle.std.proofs.lemmas.Bool.Decides.{nat_tests}
use Rattle.message_net.specs.declared.actor.Actor.{Actor}
use Rattle.message_net.specs.declared.actor.MailId.{MailId}
use Rattle.message_net.specs.declared.event.Event.{Event}
use Rattle.message_net.specs.declared.event.Event.TheVariants.{Handle}
use Rattle.message_net.specs.declared.message.Mail.{Mail}
use Rattle.message_net.specs.Pool.{count_of, removed}
use Rattle.machine_rules.specs.State.{State}
use Rattle.machine_rules.specs.Next.{enabled}
use Rattle.machine_rules.specs.declared.stepped.Stepped.{Stepped}
use Rattle.dn_machine.specs.Actors.{actor_in}
use Rattle.dn_machine.specs.Kept.{IsKept}
use Rattle.dn_machine.specs.Tried.{IsTried}
use Rattle.dn_machine.proofs.KeptLemmas.{kept-next}

-- a mail may be handled exactly where one in flight has the id
pub none-there : (S : State) (id : MailId) → count_of id S.mails ≡ 0 → enabled S (Handle id) ≡ false
unfolding enabled
none-there S id none = rw none refl

pub one-there : (S : State) (id : MailId) → count_of id S.mails ≢ 0 → enabled S (Handle id) ≡ true
unfolding enabled
one-there S id not = grind (arith, nat_tests, not)

-- it is handled by the actor that it goes to
pub handled-by : (S : State) (id : MailId) (m : Mail) → (removed id S.mails).0 ≡ Some m → actor_in S (Handle id) ≡ Some m.to
unfolding actor_in
handled-by S id m took = rw took refl

-- what is true of every machine stays so
pub tried-some : (S T : State) (made : ℕ) (e : Event) (came : Option (Actor × Stepped)) → IsKept S made → IsTried S T e came → is_some came ≡ true → IsKept T (made + 1)
tried-some S T made e None kept tried some = absurd (false≢true some)
tried-some S T made e (Some came) kept tried some = kept-next S T made e kept tried.may tried.state

pub tried-none : (S T : State) (e : Event) (came : Option (Actor × Stepped)) → IsTried S T e came → is_some came ≡ false → T ≡ S
tried-none S T e None tried none = tried.1
tried-none S T e (Some came) tried none = absurd (true≢false none)
