-- Stamps, and when an actor is spent.
use Rattle.std.specs.Prelude.{ℕ, ◌+◌, ◌^◌, Bool, ◌&&◌, nat_lt, max, None}
use Rattle.message_net.specs.declared.actor.Actor.{Actor}
use Rattle.message_net.specs.declared.event.Event.TheVariants.{Handle}
use Rattle.message_net.specs.declared.message.Mail.{Mail}
use Rattle.message_net.specs.Kind.{kind_of}
use Rattle.grant_log.specs.declared.log.Stamped.{Stamped}
use Rattle.grant_log.specs.declared.posted.Posted.{Posted}

-- a mail that may still be handled
abbrev pub is_early : Posted → Bool
is_early p = nat_lt p.stamp (2 ^ 63)

-- an actor with this clock and this number for its next mail isn't spent
abbrev pub has_numbers_left : ℕ → ℕ → Bool
has_numbers_left clock next = nat_lt clock (2 ^ 63) && nat_lt next 4294967000

-- whether a mail may be taken; the first argument says whether its actor isn't spent
abbrev pub may_take : Bool → Posted → Bool
may_take going p = going && is_early p

-- whether an actor with this clock and this number for its next mail may handle a mail
abbrev pub may_handle : ℕ → ℕ → Posted → Bool
may_handle clock next = may_take (has_numbers_left clock next)

-- the stamp of handling a mail: one more than the greater of the actor's clock and the mail's stamp
abbrev pub stamp_after : ℕ → Posted → ℕ
stamp_after clock p = max clock p.stamp + 1

-- what an actor notes of handling a mail
abbrev pub handling_note : Actor → ℕ → Mail → Stamped
handling_note actor stamp mail = record { stamp = stamp; actor = actor; event = Handle mail.id; kind = kind_of mail.message; granted = None }
