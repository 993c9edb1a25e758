-- The acts of one actor among those of several.
use Rattle.std.proofs.Common.{◌≡◌, ◌≢◌, Bool, true, false, List, [], ◌∷◌, ◌++◌, map, filter, filter_map, Some, None, refl, sym, ap, ◌∙◌, subst, arith}
use Rattle.std.specs.List.{cons_option}
use Rattle.std.proofs.lemmas.Bool.Decides.{nat_tests}
use Rattle.dn_base.specs.declared.ids.CoreId.{CoreId}
use Rattle.dn_base.specs.declared.ids.Shape.{Shape}
use Rattle.message_net.specs.declared.actor.Actor.{Actor}
use Rattle.message_net.specs.declared.actor.Actor.TheVariants.{Core, Bank, Keeper}
use Rattle.message_net.specs.Id.{same_actor}
use Rattle.message_net.proofs.PoolLemmas.{same_actor-true}
use Rattle.registration_protocol.specs.Node.{Setting}
use Rattle.host_workers.specs.Acts.{Act, Took, Made, Stepped, Kept, is_act_of, core_step, events_in, note_of}
use Rattle.host_workers.specs.Steps.{Goes, clock_after}
use Rattle.grant_log.specs.Stamps.{has_numbers_left}
use Rattle.host_workers.specs.Passes.{Held, HasGone, IsCorePass, end_seen, held_member, own_acts}
use Rattle.registration_protocol.specs.OwnEvents.{own_event}
use Rattle.host_workers.specs.Deeds.{HasMoved, step_note, step_end}
use Rattle.host_workers.specs.Work.{AreOf, IsTurn}

same : (a : Actor) → same_actor a a ≡ true
same (Core a) = grind (arith, nat_tests)
same (Bank a) = grind (arith, nat_tests)
same Keeper = refl

apart : (a b : Actor) → a ≢ b → same_actor a b ≡ false
apart a b differ = by (same_actor a b) refl where
  by : (t : Bool) → same_actor a b ≡ t → same_actor a b ≡ false
  by false e = e
  by true e = absurd (differ (same_actor-true a b e))

-- all acts are the actor's
pub filter-own : (a : Actor) (acts : List Act) → AreOf a acts → filter (is_act_of a) acts ≡ acts
filter-own a [] are = refl
filter-own a (act ∷ acts) are =
    let here : is_act_of a act ≡ true = ap (λ b. same_actor a b) are.0 ∙ same a in
    rw here (ap (λ l. act ∷ l) (filter-own a acts are.1))

-- none is
pub filter-other : (a b : Actor) (acts : List Act) → a ≢ b → AreOf b acts → filter (is_act_of a) acts ≡ []
filter-other a b [] differ are = refl
filter-other a b (act ∷ acts) differ are =
    let here : is_act_of a act ≡ false = ap (λ c. same_actor a c) are.0 ∙ apart a b differ in
    rw here (filter-other a b acts differ are.1)

abbrev of_core : Actor → Type 0
of_core (Core core) = Unit {0}
of_core _ = ⊥

-- what is noted of a core's own acts is what its steps tell
notes-core : (shape : Shape) (core : CoreId) (acts : List Act) → AreOf (Core core) acts → map note_of (events_in shape acts) ≡ map step_note (filter_map core_step acts)
notes-core shape core [] are = refl
notes-core shape core (Took c pick None ∷ acts) are = notes-core shape core acts are.1
notes-core shape core (Took c pick (Some t) ∷ acts) are = ap (λ l. note_of t.1 ∷ l) (notes-core shape core acts are.1)
notes-core shape core (Made c e done ∷ acts) are = ap (λ l. note_of done ∷ l) (notes-core shape core acts are.1)
notes-core shape core (Stepped bank pick handled ∷ acts) are = absurd (subst of_core (sym are.0) tt)
notes-core shape core (Kept pick answer ∷ acts) are = absurd (subst of_core (sym are.0) tt)

ends-core : (shape : Shape) (core : CoreId) (acts : List Act) → AreOf (Core core) acts → filter_map end_seen (events_in shape acts) ≡ filter_map step_end (filter_map core_step acts)
ends-core shape core [] are = refl
ends-core shape core (Took c pick None ∷ acts) are = ends-core shape core acts are.1
ends-core shape core (Took c pick (Some t) ∷ acts) are = ap (λ l. cons_option (end_seen t.1) l) (ends-core shape core acts are.1)
ends-core shape core (Made c e done ∷ acts) are = ap (λ l. cons_option (end_seen done) l) (ends-core shape core acts are.1)
ends-core shape core (Stepped bank pick handled ∷ acts) are = absurd (subst of_core (sym are.0) tt)
ends-core shape core (Kept pick answer ∷ acts) are = absurd (subst of_core (sym are.0) tt)

-- a core goes by all acts as it moved by its own
pub gone-by : (C : Setting) (core : CoreId) (acts own : List Act) (had has : Held) → filter (is_act_of (Core core)) acts ≡ own → AreOf (Core core) own → HasMoved C core (filter_map core_step own) had has → HasGone C acts core had has
gone-by C core acts own had has is are moved = record {
  goes = subst (λ l. Goes C (Core core) had.clock (held_member had) (filter_map core_step l) (held_member has)) (sym is) moved.goes;
  clock = moved.clock ∙ ap (λ l. clock_after had.clock (filter_map core_step l)) (sym is);
  log = moved.log ∙ ap (λ l. had.log ++ l) (sym (notes-core C.shape core own are) ∙ ap (λ l. map note_of (events_in C.shape l)) (sym is));
  ends = moved.ends ∙ ap (λ l. had.ends ++ l) (sym (ends-core C.shape core own are) ∙ ap (λ l. filter_map end_seen (events_in C.shape l)) (sym is));
}

-- a core has its turn in all acts as it has in its own
pub turn-by : (C : Setting) (core : CoreId) (acts own : List Act) (had : Held) → filter (is_act_of (Core core)) acts ≡ own → IsTurn C core had own → IsCorePass C acts core had
turn-by C core acts own had is turn = record {
  pick = turn.pick;
  taken = turn.taken;
  done = turn.done;
  node = turn.between.node;
  next = turn.between.next;
  handled = turn.handled.goes;
  acts_are = is ∙ (turn.acts_are ∙ ap (λ clock. Took core turn.pick turn.taken ∷ own_acts core (has_numbers_left clock turn.between.next) (own_event C turn.between.node) turn.done) turn.handled.clock);
}
