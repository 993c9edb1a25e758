-- The parts of a list of notes, woven into one list of steps.
use Rattle.std.proofs.Common.{◌≡◌, Bool, true, false, cond, List, [], ◌∷◌, map, refl, sym, ap, ◌∙◌}
use Rattle.std.specs.Prelude.{filter}
use Rattle.message_net.specs.declared.actor.Actor.{Actor}
use Rattle.message_net.specs.Id.{same_actor}
use Rattle.message_net.proofs.PoolLemmas.{same_actor-true, same_actor-refl}
use Rattle.grant_log.specs.declared.log.Stamped.{Stamped}
use Rattle.grant_log.specs.Log.{of_actor}
use Rattle.host_workers.specs.Steps.{Step}
use Rattle.host_workers.proofs.Weights.{filter-true, filter-false}

-- what is noted of a step, its actor, and whether it is an actor's
abbrev pub step_note : Step → Stamped
step_note s = s.done.stamped

abbrev pub step_actor : Step → Actor
step_actor s = s.done.stamped.actor

abbrev pub is_step_of : Actor → Step → Bool
is_step_of a s = of_actor a s.done.stamped

module _ {X : Type 0} where
  abbrev pub head_or : X → List X → X
  head_or d [] = d
  head_or d (x ∷ xs) = x

  abbrev pub behind : List X → List X
  behind [] = []
  behind (x ∷ xs) = xs

pub record Woven (merged : List Stamped) (parts : Actor → List Step) : Type 0 where
  pub steps : List Step
  pub notes : map step_note steps ≡ merged
  pub each : (a : Actor) → filter (is_step_of a) steps ≡ parts a

-- an actor's part without its first step, and the parts of the others
abbrev later : Actor → (Actor → List Step) → Actor → List Step
later first parts a = cond (same_actor a first) (behind (parts a)) (parts a)

none-noted : (ss : List Step) → map step_note ss ≡ [] → ss ≡ []
none-noted [] e = refl
none-noted (s ∷ ss) e = absurd (cc)

pub weave : (merged : List Stamped) (parts : Actor → List Step) → ((a : Actor) → filter (of_actor a) merged ≡ map step_note (parts a)) → Woven merged parts
weave [] parts same = record { steps = []; notes = refl; each = λ a. sym (none-noted (parts a) (sym (same a))) }
weave (e ∷ merged) parts same =
    by_part (parts e.actor) refl (sym (filter-true (of_actor e.actor) e merged (same_actor-refl e.actor)) ∙ same e.actor) (weave merged) where
      rest-same : (s : Step) (ss : List Step) → parts e.actor ≡ s ∷ ss → (a : Actor) (t : Bool) → same_actor a e.actor ≡ t → filter (of_actor a) merged ≡ map step_note (cond t (behind (parts a)) (parts a))
      rest-same s ss is a true t =
          let a_is : a ≡ e.actor = same_actor-true a e.actor t in
          let both : e ∷ filter (of_actor a) merged ≡ step_note s ∷ map step_note ss = sym (filter-true (of_actor a) e merged t) ∙ (same a ∙ (ap (λ b. map step_note (parts b)) a_is ∙ ap (map step_note) is)) in
          ap behind both ∙ ap (λ b. map step_note (behind b)) (sym is ∙ ap parts (sym a_is))
      rest-same s ss is a false t = sym (filter-false (of_actor a) e merged t) ∙ same a

      by_part : (p : List Step) → parts e.actor ≡ p → e ∷ filter (of_actor e.actor) merged ≡ map step_note (parts e.actor)
          → ((q : Actor → List Step) → ((a : Actor) → filter (of_actor a) merged ≡ map step_note (q a)) → Woven merged q) → Woven (e ∷ merged) parts
      by_part [] is noted again =
          let never : e ∷ filter (of_actor e.actor) merged ≡ [] = noted ∙ ap (map step_note) is in
          absurd (cc)
      by_part (s ∷ ss) is noted again =
          let both : e ∷ filter (of_actor e.actor) merged ≡ step_note s ∷ map step_note ss = noted ∙ ap (map step_note) is in
          let note : step_note s ≡ e = sym (ap (head_or e) both) in
          let rest = again (later e.actor parts) (λ a. rest-same s ss is a (same_actor a e.actor) refl) in
          record {
            steps = s ∷ rest.steps;
            notes = ap (λ x. x ∷ map step_note rest.steps) note ∙ ap (λ l. e ∷ l) rest.notes;
            each = λ a. by_test a (same_actor a e.actor) refl note rest;
          }
        where
          by_test : (a : Actor) (t : Bool) → same_actor a e.actor ≡ t → step_note s ≡ e → (rest : Woven merged (later e.actor parts)) → filter (is_step_of a) (s ∷ rest.steps) ≡ parts a
          by_test a true t note rest =
              let a_is : a ≡ e.actor = same_actor-true a e.actor t in
              let mine : is_step_of a s ≡ true = ap (of_actor a) note ∙ t in
              let tail : filter (is_step_of a) rest.steps ≡ ss = rest.each a ∙ (ap (λ b. cond b (behind (parts a)) (parts a)) t ∙ ap behind (ap parts a_is ∙ is)) in
              filter-true (is_step_of a) s rest.steps mine ∙ (ap (λ l. s ∷ l) tail ∙ (sym is ∙ ap parts (sym a_is)))
          by_test a false t note rest =
              let other : is_step_of a s ≡ false = ap (of_actor a) note ∙ t in
              filter-false (is_step_of a) s rest.steps other ∙ (rest.each a ∙ ap (λ b. cond b (behind (parts a)) (parts a)) t)
