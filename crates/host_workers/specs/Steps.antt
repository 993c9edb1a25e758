-- The steps of an actor, each a deed with what it tells of itself.
use Rattle.std.specs.Prelude.{◌≡◌, ℕ, ◌+◌, List, [], ◌∷◌, map, Option}
use Rattle.rv_core.specs.declared.ending.TaskEnd.{TaskEnd}
use Rattle.message_net.specs.declared.actor.Actor.{Actor}
use Rattle.message_net.specs.declared.message.Mail.{Mail}
use Rattle.message_net.specs.Mail.{mails_of}
use Rattle.grant_log.specs.declared.log.Stamped.{Stamped}
use Rattle.registration_protocol.specs.Node.{Setting}
use Rattle.grant_log.specs.declared.posted.Posted.{Posted}
use Rattle.grant_log.specs.Stamps.{stamp_after}
use Rattle.host_workers.specs.Members.{Member, Deed, Handles, Makes, Came, event_of, deed_kind, comes_of, after_deed, MayDo}

-- what an event tells: what is noted of it, the mails that it sent, and how the task of a core that arrived has ended
pub record Done : Type 0 where
  pub stamped : Stamped
  pub sent : List Posted
  pub end : Option TaskEnd

-- mails on their way, all with one stamp
abbrev pub with_stamp : ℕ → Mail → Posted
with_stamp stamp m = record { mail = m; stamp = stamp }

-- the stamp of a deed by the actor's clock
abbrev pub deed_stamp : ℕ → Deed → ℕ
deed_stamp clock (Handles p) = stamp_after clock p
deed_stamp clock (Makes e) = clock + 1

abbrev pub done_with : Actor → ℕ → ℕ → Deed → Came → Done
done_with a next stamp deed came = record {
  stamped = record { stamp = stamp; actor = a; event = event_of deed; kind = deed_kind deed; granted = came.granted };
  sent = map (with_stamp stamp) (mails_of a next came.sent);
  end = came.end;
}

-- what an actor's deed tells, with a stamp
abbrev pub done_of : Setting → Actor → Member → ℕ → Deed → Done
done_of C a x stamp deed = done_with a x.next stamp deed (comes_of C x.parts deed)

pub record Step : Type 0 where
  pub deed : Deed
  pub done : Done

abbrev pub stamp_of : Step → ℕ
stamp_of s = s.done.stamped.stamp

-- the actor may do the deed, which tells this
pub record IsStep (C : Setting) (a : Actor) (clock : ℕ) (x : Member) (s : Step) : Type 0 where
  pub may : MayDo C x.parts s.deed
  pub tells : s.done ≡ done_of C a x (deed_stamp clock s.deed) s.deed

-- the steps lead the actor from x to y, each with a stamp that follows from the one before it
abbrev pub Goes : Setting → Actor → ℕ → Member → List Step → Member → Type 0
Goes C a clock x [] y = x ≡ y
Goes C a clock x (s ∷ ss) y = IsStep C a clock x s × Goes C a (stamp_of s) (after_deed C x s.deed) ss y

-- the actor's clock then: the stamp of its last step
abbrev pub clock_after : ℕ → List Step → ℕ
clock_after clock [] = clock
clock_after clock (s ∷ ss) = clock_after (stamp_of s) ss
