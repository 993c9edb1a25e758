-- Steps of a core after others.
use Rattle.std.proofs.Common.{◌≡◌, ℕ, List, [], ◌∷◌, ◌++◌, map, filter_map, refl, sym, ap, ◌∙◌, subst}
use Rattle.std.proofs.lemmas.List.{append_assoc, append-nil, map-append}
use Rattle.std.proofs.lemmas.List.Elements.{filter_map-append}
use Rattle.dn_base.specs.declared.ids.CoreId.{CoreId}
use Rattle.message_net.specs.declared.actor.Actor.{Actor}
use Rattle.message_net.specs.declared.actor.Actor.TheVariants.{Core}
use Rattle.registration_protocol.specs.Node.{Setting}
use Rattle.host_workers.specs.Members.{Member, after_deed}
use Rattle.host_workers.specs.Steps.{Step, Goes, clock_after, stamp_of}
use Rattle.host_workers.specs.Passes.{Held, held_member}
use Rattle.host_workers.specs.Deeds.{HasMoved, step_note, step_end}

pub goes-both : (C : Setting) (a : Actor) (clock : ℕ) (x y z : Member) (xs ys : List Step) → Goes C a clock x xs y → Goes C a (clock_after clock xs) y ys z → Goes C a clock x (xs ++ ys) z
goes-both C a clock x y z [] ys one two = subst (λ m. Goes C a clock m ys z) (sym one) two
goes-both C a clock x y z (s ∷ ss) ys one two = (one.0, goes-both C a (stamp_of s) (after_deed C x s.deed) y z ss ys one.1 two)

pub clock_after-both : (clock : ℕ) (xs ys : List Step) → clock_after clock (xs ++ ys) ≡ clock_after (clock_after clock xs) ys
clock_after-both clock [] ys = refl
clock_after-both clock (s ∷ ss) ys = clock_after-both (stamp_of s) ss ys

pub moved-none : (C : Setting) (core : CoreId) (h : Held) → HasMoved C core [] h h
moved-none C core h = record { goes = refl; clock = refl; log = sym (append-nil h.log); ends = sym (append-nil h.ends) }

pub moved-both : (C : Setting) (core : CoreId) (xs ys : List Step) (a b c : Held) → HasMoved C core xs a b → HasMoved C core ys b c → HasMoved C core (xs ++ ys) a c
moved-both C core xs ys a b c one two = record {
  goes = goes-both C (Core core) a.clock (held_member a) (held_member b) (held_member c) xs ys one.goes (subst (λ k. Goes C (Core core) k (held_member b) ys (held_member c)) one.clock two.goes);
  clock = two.clock ∙ (ap (λ k. clock_after k ys) one.clock ∙ sym (clock_after-both a.clock xs ys));
  log = two.log ∙ (ap (λ l. l ++ map step_note ys) one.log ∙ (append_assoc a.log (map step_note xs) (map step_note ys) ∙ ap (λ l. a.log ++ l) (sym (map-append step_note xs ys))));
  ends = two.ends ∙ (ap (λ l. l ++ filter_map step_end ys) one.ends ∙ (append_assoc a.ends (filter_map step_end xs) (filter_map step_end ys) ∙ ap (λ l. a.ends ++ l) (sym (filter_map-append step_end xs ys))));
}
