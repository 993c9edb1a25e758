-- The action that retires by an event: a core does it, in the order of its program.
use Rattle.std.proofs.Common.{◌≡◌, ◌⊎◌, inl, inr, ℕ, true, slice_get, Option, Some, None, refl, sym, ap, subst, ◌∙◌, arith}
use Rattle.std.proofs.lemmas.Option.{same_Some, none-some}
use Rattle.dn_base.specs.declared.ids.CoreId.{CoreId}
use Rattle.dn_base.specs.declared.ids.Grant.{Grant as Granted}
use Rattle.rv_core.specs.declared.task.TaskState.{TaskState}
use Rattle.rv_core.specs.declared.need.Need as need
use Rattle.rv_core.specs.declared.need.Need.{Need}
use Rattle.message_net.specs.declared.actor.Actor.{Actor}
use Rattle.message_net.specs.declared.actor.Actor.TheVariants.{Core, Bank, Keeper}
use Rattle.message_net.specs.declared.event.Event.{Event}
use Rattle.message_net.specs.declared.event.Event.TheVariants.{Instr, Evict, Arrive, Handle}
use Rattle.message_net.specs.declared.message.Mail.{Mail}
use Rattle.message_net.specs.declared.message.Message.{Message}
use Rattle.message_net.specs.declared.message.Message.TheVariants.{Grant, Go}
use Rattle.message_net.specs.Pool.{removed}
use Rattle.registration_protocol.specs.declared.node.Received.{Received}
use Rattle.registration_protocol.specs.Node.{NodeParts, Setting, need_now}
use Rattle.registration_protocol.specs.OwnEvents.{written_now, written_if}
use Rattle.registration_protocol.specs.Messages.{node_gets}
use Rattle.machine_rules.specs.State.{State}
use Rattle.machine_rules.specs.Next.{next, enabled}
use Rattle.machine_rules.specs.Memory.{store_of, store_in}
use Rattle.machine_rules.specs.Actions.{Access, Action, accesses}
use Rattle.machine_rules.specs.Accesses.{access_in, release_by, release_at, arrival_at, acquire_by, synchronizes_by, synchronizes_at, synchronizes_to, synchronizes_with, synchronization_in, action_by, action_in}
use Rattle.machine_rules.proofs.Invariant.{Invariant}
use Rattle.machine_rules.proofs.AccessMade.{IsMade, access-told}
use Rattle.machine_rules.proofs.TasksMove.{IsDone, moves}

-- ---- a synchronization is no access, and stores nothing

abbrev pub IsPlain : Option Action → Type 0
IsPlain (Some (accesses a)) = ⊥
IsPlain _ = Unit {0}

release-plain : (core : CoreId) (n : NodeParts) (o : Option Need) → IsPlain (release_by core n o)
release-plain core n None = tt
release-plain core n (Some need.TheVariants.Local) = tt
release-plain core n (Some (need.TheVariants.End by)) = tt
release-plain core n (Some (need.TheVariants.Load word)) = tt
release-plain core n (Some (need.TheVariants.Store word whole)) = tt
release-plain core n (Some (need.TheVariants.Acquire lock)) = tt
release-plain core n (Some (need.TheVariants.Release lock)) = tt

acquire-plain : (core : CoreId) (n : NodeParts) (o : Option Granted) → IsPlain (acquire_by core n o)
acquire-plain core n None = tt
acquire-plain core n (Some g) = tt

taken-plain : (core : CoreId) (n : NodeParts) (message : Message) (r : NodeParts × Received) → IsPlain (synchronizes_by core n message r)
taken-plain core n (Grant lock s) r = acquire-plain core n r.1.granted
taken-plain core n (Go phase) r = tt
taken-plain core n _ r = tt

pub plain : (S : State) (e : Event) → IsPlain (synchronization_in S e)
unfolding synchronization_in
plain S (Instr core) = by_node (slice_get S.nodes core.0) where
  by_node : (o : Option NodeParts) → IsPlain (release_at S.setting core o)
  by_node None = tt
  by_node (Some n) = release-plain core n (need_now S.setting n)
plain S (Evict core word) = tt
plain S (Arrive core) = by_node (slice_get S.nodes core.0) where
  by_node : (o : Option NodeParts) → IsPlain (arrival_at core o)
  by_node None = tt
  by_node (Some n) = tt
plain S (Handle id) = by_mail (removed id S.mails).0 where
  by_node : (core : CoreId) (message : Message) (o : Option NodeParts) → IsPlain (synchronizes_at S.setting core message o)
  by_node core message None = tt
  by_node core message (Some n) = taken-plain core n message (node_gets S.setting n message)

  by_actor : (message : Message) (a : Actor) → IsPlain (synchronizes_to S a message)
  by_actor message (Core core) = by_node core message (slice_get S.nodes core.0)
  by_actor message (Bank bank) = tt
  by_actor message Keeper = tt

  by_mail : (o : Option Mail) → IsPlain (synchronizes_with S o)
  by_mail None = tt
  by_mail (Some m) = by_actor m.message m.to

-- a release stores nothing
release-none : (C : Setting) (core : CoreId) (n : NodeParts) (a : Action) → release_by core n (need_now C n) ≡ Some a → written_now C n ≡ None
unfolding written_now
release-none C core n a is = by_need n.task (need_now C n) is where
  by_need : (o : Option TaskState) (p : Option Need) → release_by core n p ≡ Some a → written_if C n o p ≡ None
  by_need None p releases' = refl
  by_need (Some t) None releases' = refl
  by_need (Some t) (Some need.TheVariants.Local) releases' = refl
  by_need (Some t) (Some (need.TheVariants.End by)) releases' = refl
  by_need (Some t) (Some (need.TheVariants.Load word)) releases' = refl
  by_need (Some t) (Some (need.TheVariants.Store word whole)) releases' = absurd (none-some a releases')
  by_need (Some t) (Some (need.TheVariants.Acquire lock)) releases' = refl
  by_need (Some t) (Some (need.TheVariants.Release lock)) releases' = refl

pub stores-nothing : (S : State) (e : Event) (a : Action) → synchronization_in S e ≡ Some a → store_in S e ≡ None
unfolding synchronization_in store_in
stores-nothing S (Instr core) a is = by_node (slice_get S.nodes core.0) is where
  by_node : (o : Option NodeParts) → release_at S.setting core o ≡ Some a → store_of S.setting o ≡ None
  by_node None is = refl
  by_node (Some n) is = release-none S.setting core n a is
stores-nothing S (Evict core word) a is = refl
stores-nothing S (Arrive core) a is = refl
stores-nothing S (Handle id) a is = refl

-- ---- actions

not-plain : (o : Option Action) (a : Access) → IsPlain o → o ≡ Some (accesses a) → ⊥
not-plain o a p is = subst IsPlain is p

-- an action that is an access
pub action-access : (S : State) (e : Event) (a : Access) → action_in S e ≡ Some (accesses a) → access_in S e ≡ Some a
action-access S e a is = by_parts (synchronization_in S e) (access_in S e) (plain S e) is where
  by_parts : (o : Option Action) (p : Option Access) → IsPlain o → action_by o p ≡ Some (accesses a) → p ≡ Some a
  by_parts (Some x) p none is = absurd (not-plain (Some x) a none is)
  by_parts None None none is = absurd (none-some (accesses a) is)
  by_parts None (Some b) none is = cc

-- an action is a synchronization or an access
pub either-way : (S : State) (e : Event) (a : Action) → action_in S e ≡ Some a → (synchronization_in S e ≡ Some a) ⊎ ((b : Access) × (synchronization_in S e ≡ None) × (access_in S e ≡ Some b) × (a ≡ accesses b))
either-way S e a is = by_parts (synchronization_in S e) (access_in S e) refl refl is where
  by_parts : (o : Option Action) (p : Option Access) → synchronization_in S e ≡ o → access_in S e ≡ p → action_by o p ≡ Some a
      → (synchronization_in S e ≡ Some a) ⊎ ((b : Access) × (synchronization_in S e ≡ None) × (access_in S e ≡ Some b) × (a ≡ accesses b))
  by_parts (Some x) p one two is = inl (one ∙ is)
  by_parts None None one two is = absurd (none-some a is)
  by_parts None (Some b) one two is = inr (b, one, two, sym (same_Some (accesses b) a is))

pub with-synchronization : (S : State) (e : Event) (x : Action) → synchronization_in S e ≡ Some x → action_in S e ≡ Some x
with-synchronization S e x is = ap (λ (o : Option Action). action_by o (access_in S e)) is

pub no-action : (S : State) (e : Event) → action_in S e ≡ None → synchronization_in S e ≡ None
no-action S e is = by_part (synchronization_in S e) is where
  by_part : (o : Option Action) → action_by o (access_in S e) ≡ None → o ≡ None
  by_part None is = refl
  by_part (Some x) is = absurd (none-some x (sym is))

-- a core does it
made-done : (S : State) (M : ℕ → ℕ) (e : Event) (a : Access) → IsMade S M e a → IsDone S (next S e) (accesses a)
made-done S M e a made =
    record {
      node = made.node;
      found = made.works.found;
      later = made.later;
      now = made.now;
      from = inr (sym made.phase, made.works.absent, inr (refl, omega (arith, made.place)));
      upto = (made.phase ∙ sym made.stays, inr (inl (refl, omega (arith, made.retires))));
    }

pub action-done : (S : State) (M : ℕ → ℕ) (e : Event) (a : Action) → Invariant S M → enabled S e ≡ true → action_in S e ≡ Some a → IsDone S (next S e) a
action-done S M e a inv may is = by_part (either-way S e a is) where
  by_part : (synchronization_in S e ≡ Some a) ⊎ ((b : Access) × (synchronization_in S e ≡ None) × (access_in S e ≡ Some b) × (a ≡ accesses b)) → IsDone S (next S e) a
  by_part (inl one) = (moves S M e inv may).acts.does a one
  by_part (inr (b, none, one, same)) = subst (IsDone S (next S e)) (sym same) (made-done S M e b ((access-told S M e inv may).made b one))
