-- Without phases every node is halted as a run begins, and no event may come.
use Rattle.std.proofs.Common.{◌≡◌, ℕ, Bool, true, false, List, [], ◌∷◌, length, slice_get, Option, Some, None, refl, ap, ◌∙◌, arith}
use Rattle.std.proofs.lemmas.Bool.Decides.{nat_tests}
use Rattle.message_net.specs.declared.event.Event.{Event}
use Rattle.message_net.specs.declared.event.Event.TheVariants.{Instr, Evict, Arrive, Handle}
use Rattle.registration_protocol.specs.Node.{NodeParts, Setting}
use Rattle.registration_protocol.specs.OwnEvents.{may_instr, may_evict, may_arrive}
use Rattle.machine_rules.specs.State.{initial_state}
use Rattle.machine_rules.specs.Next.{enabled, when_there}
use Rattle.machine_rules.specs.Runs.{IsRun}
use Rattle.machine_rules.proofs.OpenedFacts.{opened-node}

no-phases-halted : (C : Setting) (c : ℕ) (n : NodeParts) → length C.program.phases ≡ 0 → slice_get (initial_state C).nodes c ≡ Some n → n.halted ≡ true
no-phases-halted C c n none found = ap (λ (x : NodeParts). x.halted) (opened-node C c n found).is ∙ grind (arith, nat_tests, none)

none-there : (test : NodeParts → Bool) (o : Option NodeParts) → ((n : NodeParts) → o ≡ Some n → test n ≡ false) → when_there test o ≡ false
none-there test None fails = refl
none-there test (Some n) fails = fails n refl

no-phases-over : (C : Setting) (e : Event) → length C.program.phases ≡ 0 → enabled (initial_state C) e ≡ false
unfolding enabled initial_state
no-phases-over C (Instr core) none = none-there (may_instr C) (slice_get (initial_state C).nodes core.0) (λ n found. (let off = no-phases-halted C core.0 n none found in rw (off) refl))
no-phases-over C (Evict core word) none = none-there (λ (n : NodeParts). may_evict C n word.0) (slice_get (initial_state C).nodes core.0) (λ n found. (let off = no-phases-halted C core.0 n none found in rw (off) refl))
no-phases-over C (Arrive core) none = none-there may_arrive (slice_get (initial_state C).nodes core.0) (λ n found. (let off = no-phases-halted C core.0 n none found in rw (off) refl))
no-phases-over C (Handle id) none = refl

pub no-phases-run : (C : Setting) (events : List Event) → length C.program.phases ≡ 0 → IsRun (initial_state C) events → events ≡ []
no-phases-run C [] none run = refl
no-phases-run C (e ∷ es) none run = let off = no-phases-over C e none in let on = run.0 in absurd (cc)
