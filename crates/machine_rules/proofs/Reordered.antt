-- Events and runs don't depend on the order of the mails in flight.
use Rattle.std.proofs.Common.{◌≡◌, ℕ, ◌+◌, ◌<◌, true, List, [], ◌∷◌, slice_get, slice_set, slice_index, Option, Some, None, refl, sym, ap, subst, ◌∙◌, arith, IsPermutation}
use Rattle.std.proofs.lemmas.List.Sorted.{IsPermutation-refl, IsPermutation-sym, IsPermutation-trans, length_permutation}
use Rattle.message_net.specs.declared.actor.Actor.{Actor}
use Rattle.message_net.specs.declared.actor.Actor.TheVariants.{Core, Bank, Keeper}
use Rattle.message_net.specs.declared.event.Event.{Event}
use Rattle.message_net.specs.declared.event.Event.TheVariants.{Instr, Evict, Arrive, Handle}
use Rattle.message_net.specs.declared.message.Mail.{Mail}
use Rattle.message_net.specs.declared.message.Message.{Message}
use Rattle.message_net.specs.declared.message.Outgoing.{Outgoing}
use Rattle.message_net.specs.Pool.{count_of, AreDistinct, posted, removed}
use Rattle.message_net.specs.Mail.{mail_of, all_mails}
use Rattle.message_net.proofs.Orders.{holds-permuted, weight-permuted, AreDistinct-permuted, posted-permuted, taken-permuted, rest-permuted}
use Rattle.registry_bank.specs.Bank.{BankParts, bank_gets}
use Rattle.phase_barrier.specs.Barrier.{keeper_gets}
use Rattle.phase_barrier.specs.Letters.{letters}
use Rattle.registration_protocol.specs.Node.{NodeParts}
use Rattle.registration_protocol.specs.OwnEvents.{instructed, evicted, arrives}
use Rattle.registration_protocol.specs.Messages.{node_gets}
use Rattle.machine_rules.specs.State.{State}
use Rattle.machine_rules.specs.Next.{next, enabled, observed, kind_in, kind_with, seen_in, granted_in, granted_with, actor_index_in, next_number, sends, does_instr, does_evict, does_arrive, core_gets, bank_handles, gets, delivers}
use Rattle.machine_rules.specs.Runs.{after, IsRun}
use Rattle.machine_rules.specs.Sound.{IsMachine, IsSound}
use Rattle.machine_rules.specs.Reordered.{IsReordered}
use Rattle.machine_rules.proofs.SoundEvents.{sound-next}

-- ---- the order of the mails

pub reordered-itself : (S : State) → IsReordered S S
reordered-itself S = record { mails = IsPermutation-refl S.mails; rest = refl }

pub reordered-back : (S T : State) → IsReordered S T → IsReordered T S
reordered-back S T same =
    record { mails = IsPermutation-sym S.mails T.mails same.mails; rest = ap (λ (U : State). record U { mails = S.mails }) (sym same.rest) }

pub reordered-on : (S T U : State) → IsReordered S T → IsReordered T U → IsReordered S U
reordered-on S T U first second =
    record {
      mails = IsPermutation-trans S.mails T.mails U.mails first.mails second.mails;
      rest = second.rest ∙ ap (λ (X : State). record X { mails = U.mails }) first.rest;
    }

-- the state with these mails in flight
abbrev pub with_mails : State → List Mail → State
with_mails S mails = record S { mails = mails }

-- ---- what may come, and what it tells

enabled-moved : (S : State) (mails : List Mail) (e : Event) → IsPermutation S.mails mails → enabled S e ≡ enabled (with_mails S mails) e
unfolding enabled
enabled-moved S mails (Instr core) moved = refl
enabled-moved S mails (Evict core word) moved = refl
enabled-moved S mails (Arrive core) moved = refl
enabled-moved S mails (Handle id) moved =
    let same : count_of id mails ≡ count_of id S.mails = weight-permuted _ S.mails mails moved in
    rw same refl

pub enabled-reordered : (S T : State) (e : Event) → IsReordered S T → enabled S e ≡ enabled T e
enabled-reordered S T e same = enabled-moved S T.mails e same.mails ∙ ap (λ (U : State). enabled U e) (sym same.rest)

told-moved : (S : State) (mails : List Mail) (e : Event) → AreDistinct S.mails → IsPermutation S.mails mails → observed S e ≡ observed (with_mails S mails) e
unfolding kind_in seen_in granted_in
told-moved S mails (Instr core) distinct moved = refl
told-moved S mails (Evict core word) distinct moved = refl
told-moved S mails (Arrive core) distinct moved = refl
told-moved S mails (Handle id) distinct moved =
    ap (λ (o : Option Mail). record { kind = kind_with o; seen = None; granted = granted_with S o }) (taken-permuted id S.mails mails distinct moved)

pub told-reordered : (S T : State) (e : Event) → AreDistinct S.mails → IsReordered S T → observed S e ≡ observed T e
told-reordered S T e distinct same = told-moved S T.mails e distinct same.mails ∙ ap (λ (U : State). observed U e) (sym same.rest)

-- ---- where an event leads

all-moved : (from : Actor) (number : ℕ) (outs : List Outgoing) (xs ys : List Mail) → IsPermutation xs ys → IsPermutation (all_mails from number outs xs) (all_mails from number outs ys)
all-moved from number [] xs ys moved = moved
all-moved from number (out ∷ outs) xs ys moved =
    let m = mail_of from number out in
    all-moved from (number + 1) outs (posted m xs) (posted m ys) (posted-permuted xs ys m moved)

sends-moved : (S : State) (mails : List Mail) (from : Actor) (sent : Option Outgoing) → IsPermutation S.mails mails → IsReordered (sends S from sent) (sends (with_mails S mails) from sent)
sends-moved S mails from None moved = record { mails = moved; rest = refl }
sends-moved S mails from (Some out) moved =
    record { mails = posted-permuted S.mails mails (mail_of from (next_number S from) out) moved; rest = refl }

gets-moved : (S : State) (mails : List Mail) (to : Actor) (message : Message) → IsPermutation S.mails mails → IsReordered (gets S to message) (gets (with_mails S mails) to message)
gets-moved S mails (Core core) message moved = by_node (slice_get S.nodes core.0) where
  by_node : (o : Option NodeParts) → IsReordered (core_gets S core message o) (core_gets (with_mails S mails) core message o)
  by_node None = record { mails = moved; rest = refl }
  by_node (Some n) =
      sends-moved (record S { nodes = slice_set S.nodes core.0 (node_gets S.setting n message).0 }) mails (Core core) (node_gets S.setting n message).1.sent moved
gets-moved S mails (Bank bank) message moved = by_bank (slice_get S.banks bank.0) where
  by_bank : (o : Option BankParts) → IsReordered (bank_handles S (Bank bank) bank.0 message o) (bank_handles (with_mails S mails) (Bank bank) bank.0 message o)
  by_bank None = record { mails = moved; rest = refl }
  by_bank (Some b) =
      sends-moved (record S { banks = slice_set S.banks bank.0 (bank_gets b message).0 }) mails (Bank bank) (bank_gets b message).1 moved
gets-moved S mails Keeper message moved =
    record {
      mails = all-moved Keeper (next_number S Keeper) (letters S.setting.shape.cores (keeper_gets S.keeper message).1) S.mails mails moved;
      rest = refl;
    }

delivers-moved : (S : State) (mails : List Mail) (o : Option Mail) → IsPermutation S.mails mails → IsReordered (delivers S o) (delivers (with_mails S mails) o)
delivers-moved S mails None moved = record { mails = moved; rest = refl }
delivers-moved S mails (Some m) moved = gets-moved S mails m.to m.message moved

next-moved : (S : State) (mails : List Mail) (e : Event) → AreDistinct S.mails → IsPermutation S.mails mails → IsReordered (next S e) (next (with_mails S mails) e)
unfolding next
next-moved S mails (Instr core) distinct moved = by_node (slice_get S.nodes core.0) where
  by_node : (o : Option NodeParts) → IsReordered (does_instr S core o) (does_instr (with_mails S mails) core o)
  by_node None = record { mails = moved; rest = refl }
  by_node (Some n) = sends-moved (record S { nodes = slice_set S.nodes core.0 (instructed S.setting n).0 }) mails (Core core) (instructed S.setting n).1.sent moved
next-moved S mails (Evict core word) distinct moved = by_node (slice_get S.nodes core.0) where
  by_node : (o : Option NodeParts) → IsReordered (does_evict S core word o) (does_evict (with_mails S mails) core word o)
  by_node None = record { mails = moved; rest = refl }
  by_node (Some n) = sends-moved (record S { nodes = slice_set S.nodes core.0 (evicted S.setting n word).0 }) mails (Core core) (evicted S.setting n word).1 moved
next-moved S mails (Arrive core) distinct moved = by_node (slice_get S.nodes core.0) where
  by_node : (o : Option NodeParts) → IsReordered (does_arrive S core o) (does_arrive (with_mails S mails) core o)
  by_node None = record { mails = moved; rest = refl }
  by_node (Some n) = sends-moved (record S { nodes = slice_set S.nodes core.0 (arrives n).0 }) mails (Core core) (arrives n).1 moved
next-moved S mails (Handle id) distinct moved =
    let rest = rest-permuted id S.mails mails distinct moved in
    let here = delivers-moved (with_mails S (removed id S.mails).1) (removed id mails).1 (removed id S.mails).0 rest in
    subst (λ (o : Option Mail). IsReordered (delivers (with_mails S (removed id S.mails).1) (removed id S.mails).0) (delivers (with_mails S (removed id mails).1) o))
    (taken-permuted id S.mails mails distinct moved) here

pub next-reordered : (S T : State) (e : Event) → AreDistinct S.mails → IsReordered S T → IsReordered (next S e) (next T e)
next-reordered S T e distinct same = subst (λ (U : State). IsReordered (next S e) (next U e)) (sym same.rest) (next-moved S T.mails e distinct same.mails)

-- ---- a sound state

-- the same mails in another order are distinct and numbered
machine-moved : (S : State) (mails : List Mail) → IsPermutation S.mails mails → IsMachine S → IsMachine (with_mails S mails)
machine-moved S mails moved good =
    record {
      context = good.context;
      program = good.program;
      checked = good.checked;
      nodes = good.nodes;
      banks = good.banks;
      numbers = good.numbers;
      node = λ core n here. let at = good.node core n here in record { fits = at.fits; core = at.core };
      bank = λ bank b here. let at = good.bank bank b here in record { well = at.well; bank = at.bank; banks = at.banks; cores = at.cores };
      words = good.words;
      locks = good.locks;
      cores = good.cores;
      phases = good.phases;
      distinct = AreDistinct-permuted S.mails mails moved good.distinct;
      numbered = numbered;
    }
  where
    numbered : (place : ℕ) (m : Mail) → slice_get mails place ≡ Some m → m.id.number < slice_index S.numbers (actor_index_in S m.id.sender)
    numbered place m here =
        let before = holds-permuted mails S.mails m place (IsPermutation-sym S.mails mails moved) here in
        good.numbered before.0 m before.1

sound-moved : (S : State) (mails : List Mail) (made : ℕ) → IsPermutation S.mails mails → IsSound S made → IsSound (with_mails S mails) made
sound-moved S mails made moved sound =
    record {
      machine = machine-moved S mails moved sound.machine;
      mails = omega (arith, length_permutation S.mails mails moved, sound.mails);
      sent = sound.sent;
      within = sound.within;
    }

pub sound-reordered : (S T : State) (made : ℕ) → IsSound S made → IsReordered S T → IsSound T made
sound-reordered S T made sound same = subst (λ (U : State). IsSound U made) (sym same.rest) (sound-moved S T.mails made same.mails sound)

-- ---- runs

pub run-reordered : (S T : State) (made : ℕ) (events : List Event) → IsSound S made → IsReordered S T → IsRun S events → IsRun T events × IsReordered (after S events) (after T events)
run-reordered S T made [] sound same run = (tt, same)
run-reordered S T made (e ∷ es) sound same run =
    let may : enabled T e ≡ true = sym (enabled-reordered S T e same) ∙ run.0 in
    let rest = run-reordered (next S e) (next T e) (made + 1) es (sound-next S made e sound run.0) (next-reordered S T e sound.machine.distinct same) run.1 in
    ((may, rest.0), rest.1)
