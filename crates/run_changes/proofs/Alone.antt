-- An event changes the state of no actor but its own.
use Rattle.std.proofs.Common.{◌≡◌, ◌≢◌, ℕ, zero, suc, ◌==◌, Bool, true, false, List, [], ◌∷◌, slice_get, slice_set, Option, Some, None, refl, ap, arith}
use Rattle.std.proofs.lemmas.Bool.Decides.{nat_tests}
use Rattle.dn_base.specs.declared.ids.BankId.{BankId}
use Rattle.dn_base.specs.declared.ids.CoreId.{CoreId}
use Rattle.message_net.specs.declared.actor.Actor.{Actor}
use Rattle.message_net.specs.declared.actor.Actor.TheVariants.{Core, Bank, Keeper}
use Rattle.message_net.specs.declared.event.Event.{Event}
use Rattle.message_net.specs.declared.event.Event.TheVariants.{Instr, Evict, Arrive, Handle}
use Rattle.message_net.specs.declared.message.Mail.{Mail}
use Rattle.message_net.specs.declared.message.Message.{Message}
use Rattle.message_net.specs.declared.message.Outgoing.{Outgoing}
use Rattle.message_net.specs.Pool.{removed}
use Rattle.registry_bank.specs.Bank.{BankParts, bank_gets}
use Rattle.registration_protocol.specs.Node.{NodeParts}
use Rattle.registration_protocol.specs.OwnEvents.{instructed, evicted, arrives}
use Rattle.registration_protocol.specs.Messages.{node_gets}
use Rattle.machine_rules.specs.State.{State}
use Rattle.machine_rules.specs.Next.{next, core_does, bank_does, does_instr, does_evict, does_arrive, core_gets, bank_handles, handles, gets}
use Rattle.dn_machine.specs.Actors.{actor_in, receiver_of}

-- an item of a list, where another one becomes x
get-other : {X : Type 0} (xs : List X) (i j : ℕ) (x : X) → (i == j) ≡ false → slice_get (slice_set xs i x) j ≡ slice_get xs j
get-other [] i j x other = refl
get-other (y ∷ ys) zero zero x other = absurd (grind (arith, nat_tests))
get-other (y ∷ ys) zero (suc j) x other = refl
get-other (y ∷ ys) (suc i) zero x other = refl
get-other (y ∷ ys) (suc i) (suc j) x other = get-other ys i j x (grind (arith, nat_tests, other))

cores-differ : (c d : CoreId) → Some (Core c) ≢ Some (Core d) → (c.0 == d.0) ≡ false
cores-differ c d other = by_test (c.0 == d.0) refl where
  by_test : (t : Bool) → (c.0 == d.0) ≡ t → t ≡ false
  by_test false e = refl
  by_test true e =
      let same : c.0 ≡ d.0 = grind (arith, nat_tests) in
      absurd (other (ap (λ (k : ℕ). Some (Core (record { 0 = k }))) same))

banks-differ : (a b : BankId) → Some (Bank a) ≢ Some (Bank b) → (a.0 == b.0) ≡ false
banks-differ a b other = by_test (a.0 == b.0) refl where
  by_test : (t : Bool) → (a.0 == b.0) ≡ t → t ≡ false
  by_test false e = refl
  by_test true e =
      let same : a.0 ≡ b.0 = grind (arith, nat_tests) in
      absurd (other (ap (λ (k : ℕ). Some (Bank (record { 0 = k }))) same))

-- another core's node, and any bank's, where a core does something
core-else : (S : State) (c d : CoreId) (m : NodeParts) (sent : Option Outgoing) → (c.0 == d.0) ≡ false → slice_get (core_does S c m sent).nodes d.0 ≡ slice_get S.nodes d.0
core-else S c d m sent other = get-other S.nodes c.0 d.0 m other

bank-else : (S : State) (a b : BankId) (x : BankParts) (sent : Option Outgoing) → (a.0 == b.0) ≡ false → slice_get (bank_does S a.0 x sent (Bank a)).banks b.0 ≡ slice_get S.banks b.0
bank-else S a b x sent other = get-other S.banks a.0 b.0 x other

-- what an actor does with a message
cores-by-mail : (S : State) (to : Actor) (m : Message) (d : CoreId) → Some to ≢ Some (Core d) → slice_get (gets S to m).nodes d.0 ≡ slice_get S.nodes d.0
cores-by-mail S (Core c) m d other = at_node (slice_get S.nodes c.0) where
  at_node : (o : Option NodeParts) → slice_get (core_gets S c m o).nodes d.0 ≡ slice_get S.nodes d.0
  at_node None = refl
  at_node (Some n) = core-else S c d (node_gets S.setting n m).0 (node_gets S.setting n m).1.sent (cores-differ c d other)
cores-by-mail S (Bank b) m d other = at_bank (slice_get S.banks b.0) where
  at_bank : (o : Option BankParts) → slice_get (bank_handles S (Bank b) b.0 m o).nodes d.0 ≡ slice_get S.nodes d.0
  at_bank None = refl
  at_bank (Some x) = refl
cores-by-mail S Keeper m d other = refl

banks-by-mail : (S : State) (to : Actor) (m : Message) (b : BankId) → Some to ≢ Some (Bank b) → slice_get (gets S to m).banks b.0 ≡ slice_get S.banks b.0
banks-by-mail S (Core c) m b other = at_node (slice_get S.nodes c.0) where
  at_node : (o : Option NodeParts) → slice_get (core_gets S c m o).banks b.0 ≡ slice_get S.banks b.0
  at_node None = refl
  at_node (Some n) = refl
banks-by-mail S (Bank a) m b other = at_bank (slice_get S.banks a.0) where
  at_bank : (o : Option BankParts) → slice_get (bank_handles S (Bank a) a.0 m o).banks b.0 ≡ slice_get S.banks b.0
  at_bank None = refl
  at_bank (Some x) = bank-else S a b (bank_gets x m).0 (bank_gets x m).1 (banks-differ a b other)
banks-by-mail S Keeper m b other = refl

keeper-by-mail : (S : State) (to : Actor) (m : Message) → Some to ≢ Some Keeper → (gets S to m).keeper ≡ S.keeper
keeper-by-mail S (Core c) m other = at_node (slice_get S.nodes c.0) where
  at_node : (o : Option NodeParts) → (core_gets S c m o).keeper ≡ S.keeper
  at_node None = refl
  at_node (Some n) = refl
keeper-by-mail S (Bank a) m other = at_bank (slice_get S.banks a.0) where
  at_bank : (o : Option BankParts) → (bank_handles S (Bank a) a.0 m o).keeper ≡ S.keeper
  at_bank None = refl
  at_bank (Some x) = refl
keeper-by-mail S Keeper m other = absurd (other refl)

-- the mail that is handled has been taken out of those in flight
cores-by-handling : (S : State) (took : Option Mail × List Mail) (d : CoreId) → receiver_of took.0 ≢ Some (Core d) → slice_get (handles S took).nodes d.0 ≡ slice_get S.nodes d.0
cores-by-handling S (None, rest) d other = refl
cores-by-handling S (Some m, rest) d other = cores-by-mail (record S { mails = rest }) m.to m.message d other

banks-by-handling : (S : State) (took : Option Mail × List Mail) (b : BankId) → receiver_of took.0 ≢ Some (Bank b) → slice_get (handles S took).banks b.0 ≡ slice_get S.banks b.0
banks-by-handling S (None, rest) b other = refl
banks-by-handling S (Some m, rest) b other = banks-by-mail (record S { mails = rest }) m.to m.message b other

keeper-by-handling : (S : State) (took : Option Mail × List Mail) → receiver_of took.0 ≢ Some Keeper → (handles S took).keeper ≡ S.keeper
keeper-by-handling S (None, rest) other = refl
keeper-by-handling S (Some m, rest) other = keeper-by-mail (record S { mails = rest }) m.to m.message other

pub cores-alone : (S : State) (e : Event) (d : CoreId) → actor_in S e ≢ Some (Core d) → slice_get (next S e).nodes d.0 ≡ slice_get S.nodes d.0
unfolding next actor_in
cores-alone S (Instr c) d other = at_node (slice_get S.nodes c.0) where
  at_node : (o : Option NodeParts) → slice_get (does_instr S c o).nodes d.0 ≡ slice_get S.nodes d.0
  at_node None = refl
  at_node (Some n) = core-else S c d (instructed S.setting n).0 (instructed S.setting n).1.sent (cores-differ c d other)
cores-alone S (Evict c word) d other = at_node (slice_get S.nodes c.0) where
  at_node : (o : Option NodeParts) → slice_get (does_evict S c word o).nodes d.0 ≡ slice_get S.nodes d.0
  at_node None = refl
  at_node (Some n) = core-else S c d (evicted S.setting n word).0 (evicted S.setting n word).1 (cores-differ c d other)
cores-alone S (Arrive c) d other = at_node (slice_get S.nodes c.0) where
  at_node : (o : Option NodeParts) → slice_get (does_arrive S c o).nodes d.0 ≡ slice_get S.nodes d.0
  at_node None = refl
  at_node (Some n) = core-else S c d (arrives n).0 (arrives n).1 (cores-differ c d other)
cores-alone S (Handle id) d other = cores-by-handling S (removed id S.mails) d other

pub banks-alone : (S : State) (e : Event) (b : BankId) → actor_in S e ≢ Some (Bank b) → slice_get (next S e).banks b.0 ≡ slice_get S.banks b.0
unfolding next actor_in
banks-alone S (Instr c) b other = at_node (slice_get S.nodes c.0) where
  at_node : (o : Option NodeParts) → slice_get (does_instr S c o).banks b.0 ≡ slice_get S.banks b.0
  at_node None = refl
  at_node (Some n) = refl
banks-alone S (Evict c word) b other = at_node (slice_get S.nodes c.0) where
  at_node : (o : Option NodeParts) → slice_get (does_evict S c word o).banks b.0 ≡ slice_get S.banks b.0
  at_node None = refl
  at_node (Some n) = refl
banks-alone S (Arrive c) b other = at_node (slice_get S.nodes c.0) where
  at_node : (o : Option NodeParts) → slice_get (does_arrive S c o).banks b.0 ≡ slice_get S.banks b.0
  at_node None = refl
  at_node (Some n) = refl
banks-alone S (Handle id) b other = banks-by-handling S (removed id S.mails) b other

pub keeper-alone : (S : State) (e : Event) → actor_in S e ≢ Some Keeper → (next S e).keeper ≡ S.keeper
unfolding next actor_in
keeper-alone S (Instr c) other = at_node (slice_get S.nodes c.0) where
  at_node : (o : Option NodeParts) → (does_instr S c o).keeper ≡ S.keeper
  at_node None = refl
  at_node (Some n) = refl
keeper-alone S (Evict c word) other = at_node (slice_get S.nodes c.0) where
  at_node : (o : Option NodeParts) → (does_evict S c word o).keeper ≡ S.keeper
  at_node None = refl
  at_node (Some n) = refl
keeper-alone S (Arrive c) other = at_node (slice_get S.nodes c.0) where
  at_node : (o : Option NodeParts) → (does_arrive S c o).keeper ≡ S.keeper
  at_node None = refl
  at_node (Some n) = refl
keeper-alone S (Handle id) other = keeper-by-handling S (removed id S.mails) other
