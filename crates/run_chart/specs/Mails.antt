-- On which lines the mails in flight were sent.
use Rattle.std.specs.Prelude.{◌≡◌, ℕ, List, [], ◌∷◌, map, position, slice_get, Option, Some, None, if◌then◌else◌}
use Rattle.std.specs.List.{swap_remove}
use Rattle.message_net.specs.declared.actor.MailId.{MailId}
use Rattle.message_net.specs.declared.event.Event.{Event}
use Rattle.message_net.specs.declared.event.Event.TheVariants.{Handle}
use Rattle.message_net.specs.declared.message.Mail.{Mail}
use Rattle.message_net.specs.Id.{same_id}
use Rattle.message_net.specs.Pool.{of_id}
use Rattle.run_chart.specs.declared.parts.Origin.{Origin}
use Rattle.run_chart.specs.declared.mails.SentMail.{SentMail}

-- the line that is noted for the mail with an id, otherwise the given one
abbrev pub noted_line : MailId → Option ℕ → List SentMail → Option ℕ
noted_line id line [] = line
noted_line id line (s ∷ ss) = if same_id s.id id then s.line else noted_line id line ss

-- the mails in flight after an event on a line: those that were in flight keep their lines, and the event sent the others
abbrev pub noted_mail : Option ℕ → List SentMail → Mail → SentMail
noted_mail line sent m = record { id = m.id; line = noted_line m.id line sent }

abbrev pub noted_mails : List Mail → Option ℕ → List SentMail → List SentMail
noted_mails mails line sent = map (noted_mail line sent) mails

-- where the mail comes from that an event handles, if it handles one
abbrev pub origin_of : List SentMail → Event → Option Origin
origin_of sent (Handle id) = Some (record { sender = id.sender; line = noted_line id None sent })
origin_of sent _ = None

-- ---- how the list is kept in step with the mails in flight

-- what is noted is of these mails, in their order
abbrev pub AreNotedFor : List SentMail → List Mail → Type 0
AreNotedFor sent mails = map (λ (s : SentMail). s.id) sent ≡ map (λ (m : Mail). m.id) mails

-- the line that is noted at a place
abbrev pub line_in : Option SentMail → Option ℕ
line_in None = None
line_in (Some s) = s.line

abbrev pub line_there : List SentMail → Option ℕ → Option ℕ
line_there sent None = None
line_there sent (Some place) = line_in (slice_get sent place)

-- a mail that was sent on a line, and the mails in flight where no event has a row so far
abbrev pub sent_on : Option ℕ → Mail → SentMail
sent_on line m = record { id = m.id; line = line }

abbrev pub unknown_mails : List Mail → List SentMail
unknown_mails mails = map (sent_on None) mails

-- the place of the mail that an event handles
abbrev pub place_handled : List Mail → Event → Option ℕ
place_handled mails (Handle id) = position (of_id id) mails
place_handled mails _ = None

-- what is noted once the mail at an index is handled: the last one moves to its index, as in the pool
abbrev pub mails_left_at : ℕ → List SentMail → Option SentMail → List SentMail
mails_left_at place sent None = sent
mails_left_at place sent (Some s) = swap_remove sent place s

abbrev pub mails_left : Option ℕ → List SentMail → List SentMail
mails_left None sent = sent
mails_left (Some place) sent = mails_left_at place sent (slice_get sent place)
