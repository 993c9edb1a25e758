-- The mails in flight, as a list. Its order is part of what the calls promise.
use Rattle.std.specs.Prelude.{◌≡◌, ℕ, ◌≤◌, Bool, nat_lt, List, [], ◌∷◌, ◌++◌, length, slice_get, Option, Some, None, count_by, position}
use Rattle.std.specs.List.{swap_remove}
use Rattle.message_net.specs.declared.actor.MailId.{MailId}
use Rattle.message_net.specs.declared.message.Mail.{Mail}
use Rattle.message_net.specs.Id.{same_id}

-- a pool: the mails, and for how many more of them there is room
pub record Mails : Type 0 where
  pub mails : List Mail
  pub spare : ℕ

-- whether a mail has this id
abbrev pub of_id : MailId → Mail → Bool
of_id id m = same_id m.id id

-- how many mails have this id
abbrev pub count_of : MailId → List Mail → ℕ
count_of id mails = count_by (of_id id) mails

-- whether some mail has this id
abbrev pub has_id : MailId → List Mail → Bool
has_id id mails = nat_lt 0 (count_of id mails)

-- no two mails have one id
abbrev pub AreDistinct : List Mail → Type 0
AreDistinct mails = (id : MailId) → count_of id mails ≤ 1

-- what holds of the mails of every pool
pub record IsPool (mails : List Mail) : Type 0 where
  pub within : length mails ≤ 4294967295
  pub distinct : AreDistinct mails

-- a mail is added at the end
abbrev pub posted : Mail → List Mail → List Mail
posted m mails = mails ++ m ∷ []

-- the mail at an index, if there is one, is removed, and the last mail moves to its index
abbrev pub freed : ℕ → List Mail → Option Mail → List Mail
freed place mails None = mails
freed place mails (Some m) = swap_remove mails place m

abbrev pub without_mail_at : ℕ → List Mail → List Mail
without_mail_at place mails = freed place mails (slice_get mails place)

-- the mail with an id, if there is one, and the mails without it
abbrev pub removed_at : List Mail → Option ℕ → Option Mail × List Mail
removed_at mails None = (None, mails)
removed_at mails (Some place) = (slice_get mails place, without_mail_at place mails)

abbrev pub removed : MailId → List Mail → Option Mail × List Mail
removed id mails = removed_at mails (position (of_id id) mails)

-- where the mail with an id stands; taking by the id gives it and leaves the others
pub record IsFound (id : MailId) (mails : List Mail) (place : ℕ) (m : Mail) : Type 0 where
  pub here : slice_get mails place ≡ Some m
  pub named : m.id ≡ id
  pub takes : removed id mails ≡ (Some m, without_mail_at place mails)
