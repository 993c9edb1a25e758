-- The keeper's letters, posted one after the other.
use Rattle.std.proofs.Common.{◌≡◌, ℕ, suc, ◌+◌, ◌<◌, ◌≤◌, false, List, [], ◌∷◌, length, refl, ◌∙◌, subst, arith, length-append}
use Rattle.std.proofs.lemmas.Bool.Decides.{nat_tests}
use Rattle.message_net.specs.declared.actor.Actor.TheVariants.{Keeper}
use Rattle.message_net.specs.declared.message.Mail.{Mail}
use Rattle.message_net.specs.declared.message.Message.{Message}
use Rattle.message_net.specs.Id.{same_id}
use Rattle.message_net.specs.Pool.{count_of, posted}
use Rattle.message_net.specs.Mail.{mail_of, all_mails}
use Rattle.message_net.proofs.PoolLemmas.{count_of-posted}
use Rattle.phase_barrier.specs.Letters.{to_each, to_number}

-- no mail of the keeper in flight has a number from `first` on
abbrev pub KeeperFresh : ℕ → List Mail → Type 0
KeeperFresh first mails = (number : ℕ) → first ≤ number → count_of (record { sender = Keeper; number = number }) mails ≡ 0

-- so many letters are in flight, and those that are still to come lead to the same mails as all of them from the first
pub record Posting (first cores : ℕ) (m : Message) (before : List Mail) (room core : ℕ) (mails : List Mail) (spare : ℕ) : Type 0 where
  pub within : core ≤ cores
  pub spares : spare + core ≡ room
  pub more : length mails ≡ length before + core
  pub fresh : KeeperFresh (first + core) mails
  pub rest : (left : ℕ) → core + left ≡ cores → all_mails Keeper (first + core) (to_each core left m) mails ≡ all_mails Keeper first (to_each 0 cores m) before

pub posting-start : (first cores : ℕ) (m : Message) (before : List Mail) (room : ℕ) → KeeperFresh first before → Posting first cores m before room 0 before room
posting-start first cores m before room fresh =
    record {
      within = omega arith;
      spares = omega arith;
      more = omega arith;
      fresh = λ number from. fresh number (omega arith);
      rest = λ left all. let same : left ≡ cores = omega arith in let none : first + 0 ≡ first = omega arith in rw (same, none) refl;
    }

letter-differs : (a b : ℕ) → a < b → same_id (record { sender = Keeper; number = a }) (record { sender = Keeper; number = b }) ≡ false
letter-differs a b less = grind (arith, nat_tests)

pub posting-more : (first cores : ℕ) (m : Message) (before : List Mail) (room core : ℕ) (mails : List Mail) (spare after : ℕ) → core < cores → after + 1 ≡ spare
    → Posting first cores m before room core mails spare → Posting first cores m before room (core + 1) (posted (mail_of Keeper (first + core) (to_number core m)) mails) after
posting-more first cores m before room core mails spare after less one p =
    record {
      within = omega arith;
      spares = omega (arith, p.spares);
      more = omega (arith, length-append mails (mail_of Keeper (first + core) (to_number core m) ∷ []), p.more);
      fresh = λ number from.
          count_of-posted (record { sender = Keeper; number = number }) mails (mail_of Keeper (first + core) (to_number core m))
          ∙ (rw (p.fresh number (omega (arith, from)), letter-differs (first + core) number (omega (arith, from))) refl);
      rest = λ left all. subst (λ (x : ℕ). all_mails Keeper x (to_each (core + 1) left m) (posted (mail_of Keeper (first + core) (to_number core m)) mails) ≡ all_mails Keeper first (to_each 0 cores m) before) (omega arith) (p.rest (suc left) (omega (arith, all)));
    }

pub posting-end : (first cores : ℕ) (m : Message) (before : List Mail) (room core : ℕ) (mails : List Mail) (spare : ℕ) → cores ≤ core → Posting first cores m before room core mails spare
    → mails ≡ all_mails Keeper first (to_each 0 cores m) before
posting-end first cores m before room core mails spare over p = p.rest 0 (omega (arith, p.within, over))
