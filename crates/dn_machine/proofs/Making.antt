-- What a picked event comes to: a core's own, or the handling of the mail at a place.
use Rattle.std.proofs.Common.{◌≡◌, ℕ, true, List, ◌++◌, slice_get, map, Option, Some, None, refl, sym, ap, ◌∙◌, Bool, cond, false}
use Rattle.std.specs.Option.{option_or}
use Rattle.std.proofs.lemmas.Option.{none-some, same_Some}
use Rattle.std.proofs.lemmas.List.{append-nil}
use Rattle.dn_base.specs.declared.ids.CoreId.{CoreId}
use Rattle.dn_base.specs.declared.ids.Grant.{Grant}
use Rattle.dn_base.specs.declared.ids.WordId.{WordId}
use Rattle.message_net.specs.declared.event.Event.{Event}
use Rattle.message_net.specs.declared.event.EventKind.{EventKind}
use Rattle.message_net.specs.declared.event.Event.TheVariants.{Instr, Evict, Arrive, Handle}
use Rattle.message_net.specs.declared.message.Mail.{Mail}
use Rattle.message_net.specs.Pool.{AreDistinct, removed, without_mail_at}
use Rattle.message_net.proofs.PoolLemmas.{taken-of_id}
use Rattle.registration_protocol.specs.Node.{NodeParts, Setting, need_now}
use Rattle.registration_protocol.specs.OwnEvents.{may_instr, may_evict, may_arrive, me, wanted_by, victim_for, eviction_of, eviction, arrival, own_event}
use Rattle.machine_rules.specs.State.{State}
use Rattle.machine_rules.specs.Next.{observed, kind_in, granted_in}
use Rattle.run_agreement.specs.Agreed.{listed}
use Rattle.dn_machine.specs.declared.log.Happened.{Happened}
use Rattle.dn_machine.specs.declared.log.Log.{Log}
use Rattle.dn_machine.specs.declared.picking.Choice.{Choice}
use Rattle.dn_machine.specs.Ends.{with_end}
use Rattle.dn_machine.specs.Pick.{known_events, handlings, candidates, picked, pick, chosen}
use Rattle.dn_machine.specs.Actors.{actor_in}
use Rattle.message_net.specs.Kind.{own_kind}
use Rattle.dn_machine.specs.Log.{own_core, core_of, core_in, with_told, with_event}
use Rattle.dn_machine.specs.Content.{in_row}
use Rattle.dn_machine.proofs.OwnRow.{known-row}
use Rattle.dn_machine.proofs.PickLaws.{known-own}

-- ---- own events

-- an own event is its core's
pub own-core-in : (S : State) (e : Event) (core : CoreId) → own_core e ≡ Some core → core_in S e ≡ own_core e
unfolding actor_in
own-core-in S (Instr c) core is = refl
own-core-in S (Evict c word) core is = refl
own-core-in S (Arrive c) core is = refl
own-core-in S (Handle id) core is = absurd (none-some core is)

-- an own event grants nothing
pub own-grants : (S : State) (e : Event) (core : CoreId) → own_core e ≡ Some core → (observed S e).granted ≡ None
unfolding granted_in
own-grants S (Instr c) core is = refl
own-grants S (Evict c word) core is = refl
own-grants S (Arrive c) core is = refl
own-grants S (Handle id) core is = absurd (none-some core is)

-- an own event has the kind that it names
pub own-told : (S : State) (e : Event) (core : CoreId) → own_core e ≡ Some core → (observed S e).kind ≡ own_kind e
unfolding kind_in
own-told S (Instr c) core is = refl
own-told S (Evict c word) core is = refl
own-told S (Arrive c) core is = refl
own-told S (Handle id) core is = absurd (none-some core is)

-- an event is noted, and its task's end behind it
pub noted-behind : (log first last : Log) (h : Happened) (kind : EventKind) (granted : Option Grant) → first ≡ with_told h.event kind granted None log → h.observed.kind ≡ kind → h.observed.granted ≡ granted
    → last ≡ record first { ends = with_end h.end first.ends } → last ≡ with_event h log
noted-behind log first last h kind granted noted same_kind same_grant behind = rw (behind, noted, same_kind, same_grant) refl

-- an event is noted, and what it grants behind it
pub granted-behind : (log first second : Log) (event : Event) (kind : EventKind) (granted : Option Grant) → first ≡ with_told event kind None None log
    → second ≡ record first { grants = first.grants ++ listed granted } → second ≡ with_told event kind granted None log
granted-behind log first second event kind granted noted behind = rw (behind, noted, append-nil log.grants) refl

-- the own event of a node is of its core
own-is : (C : Setting) (n : NodeParts) (e : Event) → own_event C n ≡ Some e → own_core e ≡ Some (me n)
own-is C n e is = by_instr (may_instr C n) is where
  by_arrive : (b : Bool) → cond b (Some (Arrive (me n))) None ≡ Some e → own_core e ≡ Some (me n)
  by_arrive true is = rw (← same_Some (Arrive (me n)) e is) refl
  by_arrive false is = absurd (none-some e is)

  by_evict : (v : WordId) (b : Bool) → option_or (cond b (Some (Evict (me n) v)) None) (arrival n) ≡ Some e → own_core e ≡ Some (me n)
  by_evict v true is = rw (← same_Some (Evict (me n) v) e is) refl
  by_evict v false is = by_arrive (may_arrive n) is

  by_victim : (o : Option WordId) → option_or (eviction_of C n o) (arrival n) ≡ Some e → own_core e ≡ Some (me n)
  by_victim None is = by_arrive (may_arrive n) is
  by_victim (Some v) is = by_evict v (may_evict C n v.0) is

  by_instr : (b : Bool) → cond b (Some (Instr (me n))) (option_or (eviction C n) (arrival n)) ≡ Some e → own_core e ≡ Some (me n)
  by_instr true is = rw (← same_Some (Instr (me n)) e is) refl
  by_instr false is = by_victim (victim_for n (wanted_by n (need_now C n))) is

-- a known own event is a core's
pub known-core : (C : Setting) (nodes : List NodeParts) (own : List (Option Event)) (e : Event) → own ≡ in_row (map (own_event C) nodes) → (place : ℕ) × (slice_get (known_events own) place ≡ Some e)
    → (core : CoreId) × (own_core e ≡ Some core)
known-core C nodes own e known (place, there) =
    let o = known-own C nodes place e (ap (λ (es : List Event). slice_get es place) (sym (known-row (map (own_event C) nodes)) ∙ sym (ap known_events known)) ∙ there) in
    (me o.node, own-is C o.node e o.own)

-- ---- mails

-- the mail at a place is the one that is taken by its id
pub taken-there : (mails : List Mail) (place : ℕ) (m : Mail) (rest : List Mail) → AreDistinct mails → slice_get mails place ≡ Some m → rest ≡ without_mail_at place mails
    → ((removed m.id mails).0 ≡ Some m) × (rest ≡ (removed m.id mails).1)
taken-there mails place m rest distinct there left = let is = taken-of_id mails place m distinct there in (rw is refl, rw is left)

pub handled-core : (S : State) (m : Mail) → (removed m.id S.mails).0 ≡ Some m → core_in S (Handle m.id) ≡ core_of (Some m.to)
unfolding actor_in
handled-core S m took = rw took refl

-- ---- what is picked

-- the choice by the own events that are known is the pick of the state
pub pick-chosen : (S : State) (own : List (Option Event)) (draw : ℕ) (o : Option Choice) → chosen S.mails o ≡ picked (candidates own S.mails) draw → own ≡ in_row (map (own_event S.setting) S.nodes) → chosen S.mails o ≡ pick S draw
unfolding pick
pick-chosen S own draw o is known =
    is ∙ ap (λ (events : List Event). picked (events ++ handlings S.mails) draw) (ap known_events known ∙ known-row (map (own_event S.setting) S.nodes))
