-- An inbox: a list of mails. A mail is put in at its end, and taken out at the index that a pick names.
use Rattle.std.specs.Prelude.{ℕ, ◌%◌, Bool, List, [], ◌∷◌, ◌++◌, length, slice_get, Option, Some, None, if◌then◌else◌}
use Rattle.std.specs.List.{swap_remove}
use Rattle.grant_log.specs.declared.posted.Posted.{Posted}

-- the inbox once a mail has come
abbrev pub with_mail : List Posted → Posted → List Posted
with_mail inbox p = inbox ++ p ∷ []

-- the index that a pick names
abbrev pub picked_index : List Posted → ℕ → ℕ
picked_index inbox pick = pick % length inbox

-- taking the mail at an index, if there is one and it may be taken: the mail, and the inbox in which the last mail has moved to
-- its index
abbrev pub picked_out_at : (Posted → Bool) → List Posted → ℕ → Option Posted → Option Posted × List Posted
picked_out_at may inbox place None = (None, inbox)
picked_out_at may inbox place (Some p) = if may p then (Some p, swap_remove inbox place p) else (None, inbox)

-- taking the mail that a pick names
abbrev pub picked_out : (Posted → Bool) → List Posted → ℕ → Option Posted × List Posted
picked_out may inbox pick = picked_out_at may inbox (picked_index inbox pick) (slice_get inbox (picked_index inbox pick))
