-- Mails with ids of their own that are added to a pool.
use Rattle.std.proofs.Common.{◌≡◌, ℕ, ◌+◌, ◌<◌, Bool, cond, List, ◌∷◌, ◌++◌, length, map, flat_map, drop, get_or, sym, ap, ◌∙◌, subst, arith}
use Rattle.std.proofs.lemmas.List.{map-append, drop_more, append_assoc}
use Rattle.std.proofs.lemmas.List.Sums.{sum_by-cons, sum_by-append}
use Rattle.message_net.specs.declared.message.Mail.{Mail}
use Rattle.message_net.specs.Id.{same_id}
use Rattle.message_net.specs.Pool.{of_id, count_of, AreDistinct}
use Rattle.message_net.proofs.PoolLemmas.{same_id-refl}
use Rattle.grant_log.specs.declared.posted.Posted.{Posted}
use Rattle.host_workers.specs.Rounds.{mail_in}
use Rattle.host_workers.specs.Inboxes.{InboxParts, all_mails_in, all_posted}

-- the front of a list has ids of its own if the list has
pub distinct-front : (xs ys : List Mail) → AreDistinct (xs ++ ys) → AreDistinct xs
distinct-front xs ys distinct id = omega (arith, distinct id, sum_by-append (λ m. cond (of_id id m) 1 0) xs ys)

-- what passes a test weighs 1
abbrev bit : Bool → ℕ
bit b = cond b 1 0

-- and what stands before a mail has not that mail's id
new-id : (xs ys : List Mail) (m : Mail) → AreDistinct (xs ++ m ∷ ys) → count_of m.id xs ≡ 0
new-id xs ys m distinct =
    let one : bit (same_id m.id m.id) ≡ 1 = ap bit (same_id-refl m.id) in
    omega (arith, distinct m.id, one, sum_by-append (λ x. cond (of_id m.id x) 1 0) xs (m ∷ ys), sum_by-cons (λ x. cond (of_id m.id x) 1 0) m ys)

-- the next mail of an inbox is new where all that is left of the inbox is to come
pub new-at : (mails whole : List Mail) (inbox : List Posted) (place : ℕ) (d : Posted) → place < length inbox → mails ++ map mail_in (drop place inbox) ≡ whole → AreDistinct whole → count_of (get_or inbox place d).mail.id mails ≡ 0
new-at mails whole inbox place d within left distinct =
    new-id mails (map mail_in (drop (place + 1) inbox)) (get_or inbox place d).mail (subst AreDistinct (sym left ∙ ap (λ l. mails ++ map mail_in l) (drop_more inbox place d within)) distinct)

module _ {X : Type 0} (row : X → List Posted) where
  -- so are all mails of the next inbox
  pub distinct-at : (mails whole : List Mail) (inboxes : List X) (place : ℕ) (d : X) → place < length inboxes → mails ++ all_mails_in (map row (drop place inboxes)) ≡ whole → AreDistinct whole
      → AreDistinct (mails ++ map mail_in (row (get_or inboxes place d)))
  distinct-at mails whole inboxes place d within left distinct =
      let here = row (get_or inboxes place d) in
      let rest = flat_map (λ ps. ps) (map row (drop (place + 1) inboxes)) in
      let split = sym left ∙ ap (λ l. mails ++ all_mails_in (map row l)) (drop_more inboxes place d within) ∙ ap (λ l. mails ++ l) (map-append mail_in here rest) ∙ sym (append_assoc mails (map mail_in here) (map mail_in rest)) in
      distinct-front (mails ++ map mail_in here) (map mail_in rest) (subst AreDistinct split distinct)

-- the mails of all inboxes, part by part
pub all-parts : (inboxes : InboxParts) → map mail_in (all_posted inboxes) ≡ (all_mails_in inboxes.cores ++ all_mails_in inboxes.banks) ++ map mail_in inboxes.keeper
all-parts inboxes =
    let cores = flat_map (λ (ps : List Posted). ps) inboxes.cores in
    let banks = flat_map (λ (ps : List Posted). ps) inboxes.banks in
    map-append mail_in cores (banks ++ inboxes.keeper) ∙ ap (λ l. map mail_in cores ++ l) (map-append mail_in banks inboxes.keeper) ∙ sym (append_assoc (map mail_in cores) (map mail_in banks) (map mail_in inboxes.keeper))
