-- What an event adds to the loads and grants of a run.
use Rattle.std.proofs.Common.{◌≡◌, ℕ, ◌==◌, ◌&&◌, Bool, true, false, if◌then◌else◌, cond, List, [], ◌∷◌, ◌++◌, slice_get, Option, Some, None, refl, sym, ap, subst, ◌∙◌, arith}
use Rattle.std.proofs.lemmas.Bool.{eqb-true}
use Rattle.std.proofs.lemmas.Bool.Decides.{nat_tests}
use Rattle.std.proofs.lemmas.List.{append-nil}
use Rattle.std.proofs.lemmas.Option.{none-some, same_Some}
use Rattle.dn_base.specs.declared.ids.CoreId.{CoreId}
use Rattle.dn_base.specs.declared.ids.LoadSeen.{LoadSeen}
use Rattle.dn_base.specs.declared.ids.Grant.{Grant}
use Rattle.message_net.specs.declared.event.Event.{Event}
use Rattle.message_net.specs.declared.event.Event.TheVariants.{Instr, Evict, Arrive, Handle}
use Rattle.message_net.specs.declared.message.Outgoing.{Outgoing}
use Rattle.registration_protocol.specs.Node.{NodeParts}
use Rattle.machine_rules.specs.State.{State}
use Rattle.machine_rules.specs.Next.{next, seen_in, load_completed, granted_in}
use Rattle.machine_rules.specs.Runs.{load_of, in_phase_of}
use Rattle.machine_rules.proofs.Steps.{NodeStep, instr-step}
use Rattle.run_agreement.specs.Agreed.{Loads, listed, more_grants, more_loads}

-- ---- no load

choice-none : {X : Type 0} (b : Bool) (o : Option X) → o ≡ None → (if b then o else None) ≡ None
choice-none true o none = none
choice-none false o none = refl

no-load : (S : State) (e : Event) (phase c : ℕ) → seen_in S e ≡ None → load_of phase c S e ≡ None
no-load S (Instr core) phase c none = choice-none ((core.0 == c) && in_phase_of phase (slice_get S.nodes c)) (seen_in S (Instr core)) none
no-load S (Evict core word) phase c none = refl
no-load S (Arrive core) phase c none = refl
no-load S (Handle id) phase c none = refl

pub same-loads : (S : State) (e : Event) (L : Loads) → seen_in S e ≡ None → (q c : ℕ) → more_loads L S e q c ≡ L q c
same-loads S e L none q c = ap (λ (o : Option LoadSeen). L q c ++ listed o) (no-load S e q c none) ∙ append-nil (L q c)

pub same-grants : (S : State) (e : Event) (gs : List Grant) → granted_in S e ≡ None → more_grants gs S e ≡ gs
same-grants S e gs none = ap (λ (o : Option Grant). gs ++ listed o) none ∙ append-nil gs

pub one-grant : (S : State) (e : Event) (gs : List Grant) (g : Grant) → granted_in S e ≡ Some g → more_grants gs S e ≡ gs ++ g ∷ []
one-grant S e gs g is = ap (λ (o : Option Grant). gs ++ listed o) is

-- ---- a load

-- the core whose instruction loads is the one whose node changes
pub loads-core : (S : State) (e : Event) (core : CoreId) (n m : NodeParts) (seen : LoadSeen) (left sent : Option Outgoing) → seen_in S e ≡ Some seen → NodeStep S (next S e) core.0 n m left sent → (m ≡ n → ⊥)
    → (c : CoreId) × (e ≡ Instr c) × (c.0 ≡ core.0)
unfolding seen_in
loads-core S (Evict c word) core n m seen left sent is step apart = absurd (none-some seen is)
loads-core S (Arrive c) core n m seen left sent is step apart = absurd (none-some seen is)
loads-core S (Handle id) core n m seen left sent is step apart = absurd (none-some seen is)
loads-core S (Instr c) core n m seen left sent is step apart = (c, refl, by_core (c.0 == core.0) refl) where
  by_node : (o : Option NodeParts) → slice_get S.nodes c.0 ≡ o → load_completed S.setting o ≡ Some seen → (c.0 == core.0) ≡ false → m ≡ n
  by_node None there is e = absurd (none-some seen is)
  by_node (Some x) there is e =
      let own = (instr-step S c x there).nodes core.0 in
      let kept : slice_get (next S (Instr c)).nodes core.0 ≡ Some n = rw (e, step.found) at own in
      let changed : slice_get (next S (Instr c)).nodes core.0 ≡ Some m = step.nodes core.0 ∙ same core.0 (core.0 == core.0) refl in
      same_Some m n (sym changed ∙ kept)
    where
      same : (k : ℕ) (x : Bool) → (k == k) ≡ x → cond (k == k) (Some m) (slice_get S.nodes k) ≡ Some m
      same k true e = rw (e) refl
      same k false e = absurd (grind (arith, nat_tests, e))

  by_core : (x : Bool) → (c.0 == core.0) ≡ x → c.0 ≡ core.0
  by_core true e = eqb-true c.0 core.0 e
  by_core false e = absurd (apart (by_node (slice_get S.nodes c.0) refl is e))

-- the loads once the task of a core has loaded
pub record LoadsMore (S : State) (e : Event) (L : Loads) (core : ℕ) (n : NodeParts) (seen : LoadSeen) : Type 0 where
  pub own : more_loads L S e n.phase core ≡ L n.phase core ++ seen ∷ []
  pub others : (q c : ℕ) → (q ≡ n.phase → c ≡ core → ⊥) → more_loads L S e q c ≡ L q c

pub more-loaded : (S : State) (c : CoreId) (L : Loads) (n : NodeParts) (seen : LoadSeen) → slice_get S.nodes c.0 ≡ Some n → seen_in S (Instr c) ≡ Some seen → LoadsMore S (Instr c) L c.0 n seen
more-loaded S c L n seen found is = record { own = own; others = others } where
  test : ℕ → ℕ → Bool
  test q k = (c.0 == k) && in_phase_of q (slice_get S.nodes k)

  by_test : (q k : ℕ) (x : Bool) → test q k ≡ x → more_loads L S (Instr c) q k ≡ L q k ++ listed (if x then Some seen else None)
  by_test q k x e =
      ap (λ (b : Bool). L q k ++ listed (if b then seen_in S (Instr c) else None)) e ∙ ap (λ (o : Option LoadSeen). L q k ++ listed (if x then o else None)) is

  mine : (x : Bool) → (c.0 == c.0) ≡ x → (y : Bool) → (n.phase == n.phase) ≡ y → test n.phase c.0 ≡ true
  mine true e true f = rw (found, e, f) refl
  mine true e false f = absurd (grind (arith, nat_tests, f))
  mine false e y f = absurd (grind (arith, nat_tests, e))

  own : more_loads L S (Instr c) n.phase c.0 ≡ L n.phase c.0 ++ seen ∷ []
  own = by_test n.phase c.0 true (mine (c.0 == c.0) refl (n.phase == n.phase) refl)

  fails : (q k : ℕ) → (q ≡ n.phase → k ≡ c.0 → ⊥) → (x : Bool) → (c.0 == k) ≡ x → test q k ≡ false
  fails q k apart false e = rw (e) refl
  fails q k apart true e = by_phase (n.phase == q) refl where
    there : slice_get S.nodes k ≡ Some n
    there = subst (λ (x : ℕ). slice_get S.nodes x ≡ Some n) (eqb-true c.0 k e) found

    by_phase : (y : Bool) → (n.phase == q) ≡ y → test q k ≡ false
    by_phase true f = absurd (apart (sym (eqb-true n.phase q f)) (sym (eqb-true c.0 k e)))
    by_phase false f = rw (e, there, f) refl

  others : (q k : ℕ) → (q ≡ n.phase → k ≡ c.0 → ⊥) → more_loads L S (Instr c) q k ≡ L q k
  others q k apart = by_test q k false (fails q k apart (c.0 == k) refl) ∙ append-nil (L q k)
