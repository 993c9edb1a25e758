-- What an actor's event leaves in flight, and which numbers it uses.
use Rattle.std.proofs.Common.{◌≡◌, ℕ, ◌+◌, ◌<◌, true, false, List, [], length, slice_get, slice_index, Option, Some, None, refl, ap, subst, ◌∙◌, arith}
use Rattle.std.specs.Prelude.{sum_by, slice_set, option_to_list}
use Rattle.std.proofs.lemmas.Bool.Decides.{nat_tests}
use Rattle.std.proofs.lemmas.List.{get_or-set_other}
use Rattle.std.proofs.lemmas.List.Sums.{sum_by-cons}
use Rattle.std.proofs.lemmas.Option.{slice_get_within}
use Rattle.dn_base.specs.declared.ids.CoreId.{CoreId}
use Rattle.dn_base.specs.declared.ids.BankId.{BankId}
use Rattle.dn_base.specs.declared.ids.WordId.{WordId}
use Rattle.message_net.specs.declared.actor.Actor.{Actor}
use Rattle.message_net.specs.declared.actor.Actor.TheVariants.{Core, Bank, Keeper}
use Rattle.message_net.specs.declared.actor.MailId.{MailId}
use Rattle.message_net.specs.declared.event.Event.TheVariants.{Instr, Evict, Arrive, Handle}
use Rattle.message_net.specs.declared.message.Mail.{Mail}
use Rattle.message_net.specs.declared.message.Outgoing.{Outgoing}
use Rattle.message_net.specs.Id.{same_actor}
use Rattle.message_net.specs.Pool.{removed}
use Rattle.message_net.specs.Mail.{mail_of, mails_of}
use Rattle.message_net.proofs.PoolLemmas.{same_actor-refl}
use Rattle.message_net.proofs.MailLemmas.{actor_index-within, actor_index-own, weight_sent, sum_by-mails_with, sum_by-all_mails}
use Rattle.registry_bank.specs.Bank.{BankParts, bank_gets}
use Rattle.phase_barrier.specs.Barrier.{Barrier, keeper_gets}
use Rattle.phase_barrier.specs.Letters.{letters}
use Rattle.registration_protocol.specs.Node.{NodeParts}
use Rattle.registration_protocol.specs.OwnEvents.{instructed, evicted, arrives}
use Rattle.registration_protocol.specs.Messages.{node_gets}
use Rattle.machine_rules.specs.State.{State}
use Rattle.machine_rules.specs.Sound.{IsMachine}
use Rattle.machine_rules.specs.Next.{next, actor_index_in, next_number, numbers_with, sends, posts}
use Rattle.machine_rules.proofs.Steps.{Handled}
use Rattle.machine_rules.proofs.MachineMails.{raised-here}
use Rattle.host_workers.specs.Members.{IsIn}

-- an actor has sent messages with its next numbers, and what was in flight else is `rest`
pub record Sent (S T : State) (a : Actor) (rest : List Mail) (sent : List Outgoing) : Type 0 where
  pub next : next_number T a ≡ next_number S a + length sent
  pub others : (b : Actor) → IsIn S.setting b → same_actor b a ≡ false → next_number T b ≡ next_number S b
  pub pool : (f : Mail → ℕ) → sum_by f T.mails ≡ sum_by f rest + sum_by f (mails_of a (next_number S a) sent)

-- ---- numbers

place-there : (S : State) (a : Actor) → IsMachine S → IsIn S.setting a → actor_index_in S a < length S.numbers
place-there S a good inside = omega (arith, good.numbers, actor_index-within S.setting.shape.cores S.setting.shape.banks a inside)

-- two actors stand at two places
apart : (S : State) (a b : Actor) → IsIn S.setting a → IsIn S.setting b → same_actor b a ≡ false → actor_index_in S b ≡ actor_index_in S a → ⊥
apart S a b first second differ same =
    let one : b ≡ a = actor_index-own S.setting.shape.cores S.setting.shape.banks b a second first same in
    let alike : same_actor b a ≡ true = subst (λ (x : Actor). same_actor b x ≡ true) one (same_actor-refl b) in
    absurd (cc)

number-sent : (numbers : List ℕ) (place : ℕ) (sent : Option Outgoing) → place < length numbers
    → slice_index (numbers_with place sent numbers) place ≡ slice_index numbers place + length (option_to_list sent)
number-sent numbers place None within = omega arith
number-sent numbers place (Some out) within = omega (arith, raised-here numbers place (slice_index numbers place + 1) within)

number-other : (numbers : List ℕ) (place other : ℕ) (sent : Option Outgoing) → (other ≡ place → ⊥) → slice_index (numbers_with place sent numbers) other ≡ slice_index numbers other
number-other numbers place other None differ = refl
number-other numbers place other (Some out) differ = get_or-set_other numbers place other (slice_index numbers place + 1) 0 differ

-- ---- mails

weight-sent : (f : Mail → ℕ) (a : Actor) (number : ℕ) (sent : Option Outgoing) → weight_sent f a number sent ≡ sum_by f (mails_of a number (option_to_list sent))
weight-sent f a number None = refl
weight-sent f a number (Some out) = omega (arith, sum_by-cons f (mail_of a number out) [])

sends-sent : (S : State) (nodes : List NodeParts) (banks : List BankParts) (rest : List Mail) (a : Actor) (sent : Option Outgoing) → IsMachine S → IsIn S.setting a
    → Sent S (sends (record S { nodes = nodes; banks = banks; mails = rest }) a sent) a rest (option_to_list sent)
sends-sent S nodes banks rest a sent good inside =
    record {
      next = number-sent S.numbers (actor_index_in S a) sent (place-there S a good inside);
      others = λ b other differ. number-other S.numbers (actor_index_in S a) (actor_index_in S b) sent (apart S a b inside other differ);
      pool = λ f. sum_by-mails_with f a (next_number S a) sent rest ∙ ap (λ (x : ℕ). sum_by f rest + x) (weight-sent f a (next_number S a) sent);
    }

posts-sent : (S : State) (rest : List Mail) (k : Barrier) (outs : List Outgoing) → IsMachine S → Sent S (posts (record S { keeper = k; mails = rest }) outs) Keeper rest outs
posts-sent S rest k outs good =
    record {
      next = raised-here S.numbers (actor_index_in S Keeper) (next_number S Keeper + length outs) (place-there S Keeper good refl);
      others = λ b other differ. get_or-set_other S.numbers (actor_index_in S Keeper) (actor_index_in S b) (next_number S Keeper + length outs) 0 (apart S Keeper b refl other differ);
      pool = λ f. sum_by-all_mails f Keeper (next_number S Keeper) outs rest;
    }

-- ---- a core's own events

pub core-in : (S : State) (core : CoreId) (n : NodeParts) → IsMachine S → slice_get S.nodes core.0 ≡ Some n → IsIn S.setting (Core core)
core-in S core n good found = grind (arith, nat_tests, slice_get_within S.nodes core.0 n found, good.nodes)

pub bank-in : (S : State) (bank : BankId) (b : BankParts) → IsMachine S → slice_get S.banks bank.0 ≡ Some b → IsIn S.setting (Bank bank)
bank-in S bank b good found = grind (arith, nat_tests, slice_get_within S.banks bank.0 b found, good.banks)

core-sent : (S : State) (rest : List Mail) (core : CoreId) (n m : NodeParts) (sent : Option Outgoing) → IsMachine S → slice_get S.nodes core.0 ≡ Some n
    → Sent S (sends (record S { nodes = slice_set S.nodes core.0 m; mails = rest }) (Core core) sent) (Core core) rest (option_to_list sent)
core-sent S rest core n m sent good found = sends-sent S (slice_set S.nodes core.0 m) S.banks rest (Core core) sent good (core-in S core n good found)

pub instr-sent : (S : State) (core : CoreId) (n : NodeParts) → IsMachine S → slice_get S.nodes core.0 ≡ Some n
    → Sent S (next S (Instr core)) (Core core) S.mails (option_to_list (instructed S.setting n).1.sent)
unfolding next
instr-sent S core n good found = rw (found) (core-sent S S.mails core n (instructed S.setting n).0 (instructed S.setting n).1.sent good found)

pub evict-sent : (S : State) (core : CoreId) (word : WordId) (n : NodeParts) → IsMachine S → slice_get S.nodes core.0 ≡ Some n
    → Sent S (next S (Evict core word)) (Core core) S.mails (option_to_list (evicted S.setting n word).1)
unfolding next
evict-sent S core word n good found = rw (found) (core-sent S S.mails core n (evicted S.setting n word).0 (evicted S.setting n word).1 good found)

pub arrive-sent : (S : State) (core : CoreId) (n : NodeParts) → IsMachine S → slice_get S.nodes core.0 ≡ Some n
    → Sent S (next S (Arrive core)) (Core core) S.mails (option_to_list (arrives n).1)
unfolding next
arrive-sent S core n good found = rw (found) (core-sent S S.mails core n (arrives n).0 (arrives n).1 good found)

-- ---- the handling of a mail

pub core-got-sent : (S : State) (id : MailId) (m : Mail) (core : CoreId) (n : NodeParts) → IsMachine S → Handled S id m → m.to ≡ Core core → slice_get S.nodes core.0 ≡ Some n
    → Sent S (next S (Handle id)) (Core core) (removed id S.mails).1 (option_to_list (node_gets S.setting n m.message).1.sent)
unfolding next
core-got-sent S id m core n good h to found =
    rw (h.took, to, found) (core-sent S (removed id S.mails).1 core n (node_gets S.setting n m.message).0 (node_gets S.setting n m.message).1.sent good found)

pub bank-got-sent : (S : State) (id : MailId) (m : Mail) (bank : BankId) (b : BankParts) → IsMachine S → Handled S id m → m.to ≡ Bank bank → slice_get S.banks bank.0 ≡ Some b
    → Sent S (next S (Handle id)) (Bank bank) (removed id S.mails).1 (option_to_list (bank_gets b m.message).1)
unfolding next
bank-got-sent S id m bank b good h to found =
    rw (h.took, to, found)
    (sends-sent S S.nodes (slice_set S.banks bank.0 (bank_gets b m.message).0) (removed id S.mails).1 (Bank bank) (bank_gets b m.message).1 good (bank-in S bank b good found))

pub keeper-got-sent : (S : State) (id : MailId) (m : Mail) → IsMachine S → Handled S id m → m.to ≡ Keeper
    → Sent S (next S (Handle id)) Keeper (removed id S.mails).1 (letters S.setting.shape.cores (keeper_gets S.keeper m.message).1)
unfolding next
keeper-got-sent S id m good h to =
    rw (h.took, to)
    (posts-sent S (removed id S.mails).1 (keeper_gets S.keeper m.message).0 (letters S.setting.shape.cores (keeper_gets S.keeper m.message).1) good)
