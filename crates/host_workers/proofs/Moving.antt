-- What an event does to the machine, told by the actor that makes it alone.
use Rattle.std.proofs.Common.{◌≡◌, ℕ, ◌+◌, true, false, List}
use Rattle.std.specs.Prelude.{All, sum_by}
use Rattle.message_net.specs.declared.actor.Actor.{Actor}
use Rattle.message_net.specs.declared.message.Mail.{Mail}
use Rattle.message_net.specs.Id.{same_actor}
use Rattle.message_net.specs.Mail.{mails_of}
use Rattle.registration_protocol.specs.Node.{Setting}
use Rattle.machine_rules.specs.State.{State}
use Rattle.machine_rules.specs.Next.{next, enabled as may_come, kind_in, granted_in}
use Rattle.host_workers.specs.Members.{Deed, Handles, Makes, Came, member, event_of, deed_kind, comes_of, after_deed, IsIn}
use Rattle.host_workers.specs.Rounds.{end_observed}

-- what the mail weighs that a deed handles
abbrev pub handled : (Mail → ℕ) → Deed → ℕ
handled f (Handles p) = f p.mail
handled f (Makes e) = 0

-- what comes of an actor's deed in a state, and the mails that it sends
abbrev pub comes : Setting → State → Actor → Deed → Came
comes C S a deed = comes_of C (member S a).parts deed

abbrev pub sends : Setting → State → Actor → Deed → List Mail
sends C S a deed = mails_of a (member S a).next (comes C S a deed).sent

pub record Moves (C : Setting) (S : State) (a : Actor) (deed : Deed) : Type 0 where
  pub enabled : may_come S (event_of deed) ≡ true
  pub mine : member (next S (event_of deed)) a ≡ after_deed C (member S a) deed
  pub others : (b : Actor) → IsIn C b → same_actor b a ≡ false → member (next S (event_of deed)) b ≡ member S b
  pub pool : (f : Mail → ℕ) → sum_by f (next S (event_of deed)).mails + handled f deed ≡ sum_by f S.mails + sum_by f (sends C S a deed)
  pub inside : All (λ (m : Mail). IsIn C m.to) (sends C S a deed)
  pub kind : kind_in S (event_of deed) ≡ deed_kind deed
  pub granted : granted_in S (event_of deed) ≡ (comes C S a deed).granted
  pub end : end_observed S (event_of deed) ≡ (comes C S a deed).end
