-- Places of actors, and what messages add to the mails in flight.
use Rattle.std.proofs.Common.{◌≡◌, ℕ, ◌+◌, ◌<◌, ◌≤◌, Bool, true, false, cond, nat_lt, nat_le, ◌&&◌, List, [], ◌∷◌, ◌++◌, length, Option, Some, None, refl, ◌∙◌, ap, subst, arith, append_assoc, length-append}
use Rattle.std.specs.Prelude.{sum_by}
use Rattle.std.proofs.lemmas.List.Sums.{sum_by_push, sum_by-cons, sum_by-append}
use Rattle.std.proofs.lemmas.Bool.Decides.{nat_tests}
use Rattle.message_net.specs.declared.actor.Actor.{Actor}
use Rattle.message_net.specs.declared.actor.Actor.TheVariants.{Core, Bank, Keeper}
use Rattle.message_net.specs.declared.actor.MailId.{MailId}
use Rattle.message_net.specs.declared.message.Message.{Message}
use Rattle.message_net.specs.declared.message.Mail.{Mail}
use Rattle.message_net.specs.declared.message.Outgoing.{Outgoing}
use Rattle.message_net.specs.Id.{same_actor, same_id}
use Rattle.message_net.specs.Pool.{of_id, count_of, AreDistinct, posted}
use Rattle.message_net.proofs.PoolLemmas.{same_actor-true, AreDistinct-posted}
use Rattle.message_net.specs.Mail.{has_actor, actor_index, mail_of, mails_with, mails_of, all_mails}

-- each actor of a machine has a place of its own
pub actor_index-within : (cores banks : ℕ) (a : Actor) → has_actor cores banks a ≡ true → actor_index cores banks a < cores + banks + 1
actor_index-within cores banks (Core core) there = grind (arith, nat_tests)
actor_index-within cores banks (Bank bank) there = grind (arith, nat_tests)
actor_index-within cores banks Keeper there = omega arith

pub actor_index-own : (cores banks : ℕ) (a b : Actor) → has_actor cores banks a ≡ true → has_actor cores banks b ≡ true → actor_index cores banks a ≡ actor_index cores banks b → a ≡ b
actor_index-own cores banks (Core a) (Core b) first second same = grind (arith, nat_tests)
actor_index-own cores banks (Core a) (Bank b) first second same = absurd (grind (arith, nat_tests))
actor_index-own cores banks (Core a) Keeper first second same = absurd (grind (arith, nat_tests))
actor_index-own cores banks (Bank a) (Core b) first second same = absurd (grind (arith, nat_tests))
actor_index-own cores banks (Bank a) (Bank b) first second same =
    let numbers : a.0 ≡ b.0 = omega (arith, same) in
    grind (arith, nat_tests)
actor_index-own cores banks (Bank a) Keeper first second same = absurd (grind (arith, nat_tests))
actor_index-own cores banks Keeper (Core b) first second same = absurd (grind (arith, nat_tests))
actor_index-own cores banks Keeper (Bank b) first second same = absurd (grind (arith, nat_tests))
actor_index-own cores banks Keeper Keeper first second same = refl

-- the weight of a message that is sent, if one is
abbrev pub weight_sent : (Mail → ℕ) → Actor → ℕ → Option Outgoing → ℕ
weight_sent f from number None = 0
weight_sent f from number (Some out) = f (mail_of from number out)

pub sum_by-posted : (f : Mail → ℕ) (mails : List Mail) (m : Mail) → sum_by f (posted m mails) ≡ sum_by f mails + f m
sum_by-posted f mails m = sum_by_push f mails m

pub sum_by-mails_with : (f : Mail → ℕ) (from : Actor) (number : ℕ) (sent : Option Outgoing) (mails : List Mail) → sum_by f (mails_with from number sent mails) ≡ sum_by f mails + weight_sent f from number sent
sum_by-mails_with f from number None mails = omega arith
sum_by-mails_with f from number (Some out) mails = sum_by_push f mails (mail_of from number out)

-- the mails of several messages stand behind those that were in flight
pub all_mails-append : (from : Actor) (number : ℕ) (outs : List Outgoing) (mails : List Mail) → all_mails from number outs mails ≡ mails ++ mails_of from number outs
all_mails-append from number [] mails = append_nil mails where
  append_nil : (xs : List Mail) → xs ≡ xs ++ []
  append_nil [] = refl
  append_nil (x ∷ xs) = ap (λ (ys : List Mail). x ∷ ys) (append_nil xs)
all_mails-append from number (out ∷ outs) mails =
    all_mails-append from (number + 1) outs (posted (mail_of from number out) mails)
    ∙ append_assoc mails (mail_of from number out ∷ []) (mails_of from (number + 1) outs)

pub sum_by-all_mails : (f : Mail → ℕ) (from : Actor) (number : ℕ) (outs : List Outgoing) (mails : List Mail) → sum_by f (all_mails from number outs mails) ≡ sum_by f mails + sum_by f (mails_of from number outs)
sum_by-all_mails f from number outs mails =
    rw (all_mails-append from number outs mails) (sum_by-append f mails (mails_of from number outs))

pub length-mails_of : (from : Actor) (number : ℕ) (outs : List Outgoing) → length (mails_of from number outs) ≡ length outs
length-mails_of from number [] = refl
length-mails_of from number (out ∷ outs) = omega (arith, length-mails_of from (number + 1) outs)

pub length-all_mails : (from : Actor) (number : ℕ) (outs : List Outgoing) (mails : List Mail) → length (all_mails from number outs mails) ≡ length mails + length outs
length-all_mails from number outs mails =
    rw (all_mails-append from number outs mails) (omega (arith, length-append mails (mails_of from number outs), length-mails_of from number outs))

-- a weight that looks at addressee and message alone is that of the messages
pub sum_by-mails_of : (g : Actor → Message → ℕ) (from : Actor) (number : ℕ) (outs : List Outgoing) → sum_by (λ (m : Mail). g m.to m.message) (mails_of from number outs) ≡ sum_by (λ (out : Outgoing). g out.to out.message) outs
sum_by-mails_of g from number [] = refl
sum_by-mails_of g from number (out ∷ outs) =
    omega (arith, sum_by-cons (λ (m : Mail). g m.to m.message) (mail_of from number out) (mails_of from (number + 1) outs), sum_by-cons (λ (o : Outgoing). g o.to o.message) out outs, sum_by-mails_of g from (number + 1) outs)

-- ids of messages that are sent one after the other: the sender's, with its next numbers, each once
pub count_of-mails_of : (id : MailId) (from : Actor) (number : ℕ) (outs : List Outgoing) → count_of id (mails_of from number outs) ≡ cond (same_actor from id.sender && (nat_le number id.number && nat_lt id.number (number + length outs))) 1 0
count_of-mails_of id from number [] = grind (arith, nat_tests)
count_of-mails_of id from number (out ∷ outs) =
    grind (arith, nat_tests, sum_by-cons (λ (m : Mail). cond (of_id id m) 1 0) (mail_of from number out) (mails_of from (number + 1) outs), count_of-mails_of id from (number + 1) outs)

-- what passes a test weighs 1
abbrev bit : Bool → ℕ
bit b = cond b 1 0

-- a message that is sent is counted under its own id at most
pub count_of-mails_with : (id : MailId) (from : Actor) (number : ℕ) (sent : Option Outgoing) (mails : List Mail) → count_of id (mails_with from number sent mails) ≤ count_of id mails + bit (same_id (record { sender = from; number = number }) id)
count_of-mails_with id from number None mails = omega arith
count_of-mails_with id from number (Some out) mails =
    omega (arith, sum_by_push (λ (m : Mail). cond (of_id id m) 1 0) mails (mail_of from number out))

-- ids stay distinct, where none of the sender's next numbers is in flight
pub AreDistinct-mails_with : (from : Actor) (number : ℕ) (sent : Option Outgoing) (mails : List Mail) → AreDistinct mails → count_of (record { sender = from; number = number }) mails ≡ 0 → AreDistinct (mails_with from number sent mails)
AreDistinct-mails_with from number None mails distinct new = distinct
AreDistinct-mails_with from number (Some out) mails distinct new =
    AreDistinct-posted mails (mail_of from number out) distinct new

pub AreDistinct-all_mails : (from : Actor) (number : ℕ) (outs : List Outgoing) (mails : List Mail) → AreDistinct mails → ((i : ℕ) → number ≤ i → i < number + length outs → count_of (record { sender = from; number = i }) mails ≡ 0) → AreDistinct (all_mails from number outs mails)
AreDistinct-all_mails from number outs mails distinct new id =
    by_test (same_actor from id.sender && (nat_le number id.number && nat_lt id.number (number + length outs))) refl where
      sum : count_of id (all_mails from number outs mails) ≡ count_of id mails + count_of id (mails_of from number outs)
      sum = sum_by-all_mails (λ (m : Mail). cond (of_id id m) 1 0) from number outs mails

      by_test : (t : Bool) → (same_actor from id.sender && (nat_le number id.number && nat_lt id.number (number + length outs))) ≡ t → count_of id (all_mails from number outs mails) ≤ 1
      by_test true e =
          let sender : from ≡ id.sender = same_actor-true from id.sender (grind (arith, nat_tests)) in
          let none : count_of (record { sender = from; number = id.number }) mails ≡ 0 = new id.number (grind (arith, nat_tests)) (grind (arith, nat_tests)) in
          let here : count_of id mails ≡ 0 = subst (λ (a : Actor). count_of (record { sender = a; number = id.number }) mails ≡ 0) sender none in
          let one : count_of id (mails_of from number outs) ≡ 1 = count_of-mails_of id from number outs ∙ rw e refl in
          omega (arith, sum, here, one)
      by_test false e =
          let none : count_of id (mails_of from number outs) ≡ 0 = count_of-mails_of id from number outs ∙ rw e refl in
          omega (arith, sum, none, distinct id)
