-- Acts of several passes, one after another.
use Rattle.std.proofs.Common.{◌≡◌, ℕ, List, [], ◌∷◌, ◌++◌, map, refl, sym, ap, subst, ◌∙◌, append_assoc}
use Rattle.std.proofs.lemmas.List.{map-append}
use Rattle.std.specs.Prelude.{filter, filter_map}
use Rattle.std.proofs.lemmas.List.Elements.{filter-append, filter_map-append}
use Rattle.dn_base.specs.declared.ids.CoreId.{CoreId}
use Rattle.dn_base.specs.declared.ids.Shape.{Shape}
use Rattle.message_net.specs.declared.actor.Actor.{Actor}
use Rattle.message_net.specs.declared.actor.Actor.TheVariants.{Core}
use Rattle.registration_protocol.specs.Node.{Setting}
use Rattle.bank_hall.specs.Halls.{PassView, HasMadeCalls}
use Rattle.bank_hall.specs.Rows.{made_of}
use Rattle.host_workers.specs.Members.{Member, after_deed}
use Rattle.host_workers.specs.Steps.{Step, stamp_of, Goes, clock_after}
use Rattle.host_workers.specs.Acts.{Act, is_act_of, act_done, core_step, note_of, events_by, notes_by, steps_by, act_calls, calls_in}
use Rattle.host_workers.specs.Passes.{Held, HasGone, held_member, end_seen}

banks-append : (shape : Shape) (number b : ℕ) (first more : List Act) → (calls_in shape number (first ++ more)).banks b ≡ (calls_in shape number first).banks b ++ (calls_in shape number more).banks b
banks-append shape number b [] more = refl
banks-append shape number b (act ∷ first) more =
    ap (λ l. (act_calls shape number act).banks b ++ l) (banks-append shape number b first more) ∙ sym (append_assoc ((act_calls shape number act).banks b) ((calls_in shape number first).banks b) ((calls_in shape number more).banks b))

ports-append : (shape : Shape) (number c : ℕ) (first more : List Act) → (calls_in shape number (first ++ more)).ports c ≡ (calls_in shape number first).ports c ++ (calls_in shape number more).ports c
ports-append shape number c [] more = refl
ports-append shape number c (act ∷ first) more =
    ap (λ l. (act_calls shape number act).ports c ++ l) (ports-append shape number c first more) ∙ sym (append_assoc ((act_calls shape number act).ports c) ((calls_in shape number first).ports c) ((calls_in shape number more).ports c))

keeper-append : (shape : Shape) (number : ℕ) (first more : List Act) → (calls_in shape number (first ++ more)).keeper ≡ (calls_in shape number first).keeper ++ (calls_in shape number more).keeper
keeper-append shape number [] more = refl
keeper-append shape number (act ∷ first) more =
    ap (λ l. (act_calls shape number act).keeper ++ l) (keeper-append shape number first more) ∙ sym (append_assoc (act_calls shape number act).keeper (calls_in shape number first).keeper (calls_in shape number more).keeper)

-- calls after calls
after : {E : Type 0} (was between now first more all : List E) → between ≡ was ++ first → now ≡ between ++ more → all ≡ first ++ more → now ≡ was ++ all
after was between now first more all one two is = two ∙ (ap (λ l. l ++ more) one ∙ (append_assoc was first more ∙ ap (λ l. was ++ l) (sym is)))

pub calls-follow : (shape : Shape) (number : ℕ) (first more : List Act) (old between new : PassView) → HasMadeCalls old between (calls_in shape number first) → HasMadeCalls between new (calls_in shape number more)
    → HasMadeCalls old new (calls_in shape number (first ++ more))
calls-follow shape number first more old between new one two = record {
  banks = λ b. after (made_of old.banks b) (made_of between.banks b) (made_of new.banks b) ((calls_in shape number first).banks b) ((calls_in shape number more).banks b) ((calls_in shape number (first ++ more)).banks b) (one.banks b) (two.banks b) (banks-append shape number b first more);
  ports = λ c. after (made_of old.ports c) (made_of between.ports c) (made_of new.ports c) ((calls_in shape number first).ports c) ((calls_in shape number more).ports c) ((calls_in shape number (first ++ more)).ports c) (one.ports c) (two.ports c) (ports-append shape number c first more);
  keeper = after (made_of old.keeper 0) (made_of between.keeper 0) (made_of new.keeper 0) (calls_in shape number first).keeper (calls_in shape number more).keeper (calls_in shape number (first ++ more)).keeper one.keeper two.keeper (keeper-append shape number first more);
}

goes-append : (C : Setting) (a : Actor) (clock : ℕ) (x y z : Member) (ss ts : List Step) → Goes C a clock x ss y → Goes C a (clock_after clock ss) y ts z → Goes C a clock x (ss ++ ts) z
goes-append C a clock x y z [] ts one two = subst (λ u. Goes C a clock u ts z) (sym one) two
goes-append C a clock x y z (s ∷ ss) ts one two = (one.0, goes-append C a (stamp_of s) (after_deed C x s.deed) y z ss ts one.1 two)

clock-append : (clock : ℕ) (ss ts : List Step) → clock_after clock (ss ++ ts) ≡ clock_after (clock_after clock ss) ts
clock-append clock [] ts = refl
clock-append clock (s ∷ ss) ts = clock-append (stamp_of s) ss ts

steps-append : (core : CoreId) (first more : List Act) → steps_by core (first ++ more) ≡ steps_by core first ++ steps_by core more
steps-append core first more =
    ap (filter_map core_step) (filter-append (is_act_of (Core core)) first more) ∙ filter_map-append core_step (filter (is_act_of (Core core)) first) (filter (is_act_of (Core core)) more)

events-append : (shape : Shape) (a : Actor) (first more : List Act) → events_by shape a (first ++ more) ≡ events_by shape a first ++ events_by shape a more
events-append shape a first more =
    ap (filter_map (act_done shape)) (filter-append (is_act_of a) first more) ∙ filter_map-append (act_done shape) (filter (is_act_of a) first) (filter (is_act_of a) more)

pub notes-follow : (shape : Shape) (a : Actor) (first more : List Act) → notes_by shape a (first ++ more) ≡ notes_by shape a first ++ notes_by shape a more
notes-follow shape a first more = ap (map note_of) (events-append shape a first more) ∙ map-append note_of (events_by shape a first) (events_by shape a more)

pub cores-follow : (C : Setting) (first more : List Act) (core : CoreId) (old between new : Held) → HasGone C first core old between → HasGone C more core between new → HasGone C (first ++ more) core old new
cores-follow C first more core old between new one two = record {
  goes = subst (λ l. Goes C (Core core) old.clock (held_member old) l (held_member new)) (sym (steps-append core first more))
      (goes-append C (Core core) old.clock (held_member old) (held_member between) (held_member new) (steps_by core first) (steps_by core more) one.goes
      (subst (λ n. Goes C (Core core) n (held_member between) (steps_by core more) (held_member new)) one.clock two.goes));
  clock = two.clock ∙ (ap (λ n. clock_after n (steps_by core more)) one.clock ∙ (sym (clock-append old.clock (steps_by core first) (steps_by core more)) ∙ ap (clock_after old.clock) (sym (steps-append core first more))));
  log = after old.log between.log new.log (notes_by C.shape (Core core) first) (notes_by C.shape (Core core) more) (notes_by C.shape (Core core) (first ++ more)) one.log two.log (notes-follow C.shape (Core core) first more);
  ends = after old.ends between.ends new.ends (filter_map end_seen (events_by C.shape (Core core) first)) (filter_map end_seen (events_by C.shape (Core core) more)) (filter_map end_seen (events_by C.shape (Core core) (first ++ more))) one.ends two.ends
      (ap (filter_map end_seen) (events-append C.shape (Core core) first more) ∙ filter_map-append end_seen (events_by C.shape (Core core) first) (events_by C.shape (Core core) more));
}
