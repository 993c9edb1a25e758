-- Every run agrees with the flat machine's run by its grants.
use Rattle.std.proofs.Common.{◌≡◌, ℕ, ◌+◌, true, slice_get, List, [], ◌∷◌, ◌++◌, Option, Some, None, refl, sym, ap, ◌∙◌}
use Rattle.std.specs.Option.{option_or}
use Rattle.std.proofs.lemmas.List.{append_assoc, append-nil}
use Rattle.dn_base.specs.declared.ids.Grant.{Grant}
use Rattle.dn_base.specs.declared.ids.LoadSeen.{LoadSeen}
use Rattle.rv_core.specs.declared.ending.TaskEnd.{TaskEnd}
use Rattle.message_net.specs.declared.event.Event.{Event}
use Rattle.machine_rules.specs.State.{State}
use Rattle.machine_rules.specs.Sound.{IsSound}
use Rattle.machine_rules.specs.Next.{next, enabled, granted_in}
use Rattle.machine_rules.specs.Memory.{store_in}
use Rattle.machine_rules.specs.Runs.{after, IsRun, read_off, grants_of, load_of, loads_of, end_in_phase, last_end}
use Rattle.machine_rules.proofs.Invariant.{Invariant}
use Rattle.machine_rules.proofs.Outcomes.{stored_to}
use Rattle.machine_rules.proofs.Dispatch.{ways}
use Rattle.machine_rules.proofs.SoundEvents.{sound-next}
use Rattle.machine_rules.proofs.Kept.{kept}
use Rattle.machine_rules.proofs.RunsKept.{memory_over}
use Rattle.run_agreement.specs.Agreed.{Loads, Ends, Agreed, listed, more_grants, more_loads, more_ends}
use Rattle.run_agreement.proofs.AgreedOutcomes.{AgreedNext, agreed-outcomes}
use Rattle.run_agreement.proofs.Quiet.{IsLast, loads-same, ends-more, last-more}

-- what a run tells first and then
read-first : {X : Type 0} (tell : State → Event → Option X) (S : State) (e : Event) (es : List Event) → read_off tell S (e ∷ es) ≡ listed (tell S e) ++ read_off tell (next S e) es
read-first {X} tell S e es = by_told (tell S e) refl where
  by_told : (o : Option X) → tell S e ≡ o → read_off tell S (e ∷ es) ≡ listed (tell S e) ++ read_off tell (next S e) es
  by_told None is = rw (is) refl
  by_told (Some x) is = rw (is) refl

-- the loads of a run beside those before it
abbrev pub loads_over : Loads → State → List Event → Loads
loads_over L S events phase core = L phase core ++ loads_of phase core S events

-- the ends that are seen in a run after those seen before it
abbrev pub ends_over : Ends → State → List Event → Ends
ends_over E S [] = E
ends_over E S (e ∷ es) = ends_over (more_ends E (next S e)) (next S e) es

pub agreed-next : {E : Ends} (S : State) (M : ℕ → ℕ) (e : Event) (gs : List Grant) (L : Loads) → Invariant S M → enabled S e ≡ true → IsLast S E → Agreed S M gs L E
    → AgreedNext S e gs L E (stored_to (store_in S e) M)
agreed-next {E} S M e gs L inv may last h = ways S M e (AgreedNext S e gs L E) inv may (agreed-outcomes S M e gs L inv last h)

pub agreed-run : (S : State) (M : ℕ → ℕ) (made : ℕ) (gs : List Grant) (L : Loads) (E : Ends) (events : List Event) → IsSound S made → Invariant S M → IsLast S E → Agreed S M gs L E → IsRun S events
    → Agreed (after S events) (memory_over M S events) (gs ++ grants_of S events) (loads_over L S events) (ends_over E S events)
agreed-run S M made gs L E [] sound inv last h run = loads-same S M gs (gs ++ []) L (loads_over L S []) (append-nil gs) (λ q c. append-nil (L q c)) h
agreed-run S M made gs L E (e ∷ es) sound inv last h run =
    let later = sound-next S made e sound run.0 in
    let E' : Ends = more_ends E (next S e) in
    let M' : ℕ → ℕ = stored_to (store_in S e) M in
    let now : Agreed (next S e) M' (more_grants gs S e) (more_loads L S e) E' =
    ends-more (next S e) M' (more_grants gs S e) (more_loads L S e) E (agreed-next S M e gs L inv run.0 last h) in
    let rest : Agreed (after (next S e) es) (memory_over M' (next S e) es) (more_grants gs S e ++ grants_of (next S e) es) (loads_over (more_loads L S e) (next S e) es) (ends_over E' (next S e) es) =
    agreed-run (next S e) M' (made + 1) (more_grants gs S e) (more_loads L S e) E' es later (kept S M e inv run.0 later.machine) (last-more (next S e) E) now run.1 in
    loads-same (after (next S e) es) (memory_over (stored_to (store_in S e) M) (next S e) es) (more_grants gs S e ++ grants_of (next S e) es) (gs ++ grants_of S (e ∷ es))
    (loads_over (more_loads L S e) (next S e) es) (loads_over L S (e ∷ es))
    (ap (λ (x : List Grant). gs ++ x) (read-first granted_in S e es) ∙ sym (append_assoc gs (listed (granted_in S e)) (grants_of (next S e) es)))
    (λ q c.
    ap (λ (x : List LoadSeen). L q c ++ x) (read-first (load_of q c) S e es) ∙ sym (append_assoc (L q c) (listed (load_of q c S e)) (loads_of q c (next S e) es)))
    rest

-- the ends seen in a run tell its last state's too
pub last-run : (S : State) (E : Ends) (events : List Event) → IsLast S E → IsLast (after S events) (ends_over E S events)
last-run S E [] last = last
last-run S E (e ∷ es) last = last-run (next S e) (more_ends E (next S e)) es (last-more (next S e) E)

-- they are how each task stood when its node last had it
later-assoc : (x y z : Option TaskEnd) → option_or x (option_or y z) ≡ option_or (option_or x y) z
later-assoc None y z = refl
later-assoc (Some e) y z = refl

later-none : (x : Option TaskEnd) → option_or x None ≡ x
later-none None = refl
later-none (Some e) = refl

abbrev pub no_ends : Ends
no_ends phase core = None

ends-later : (S : State) (E : Ends) (events : List Event) (q c : ℕ) → ends_over (more_ends E S) S events q c ≡ option_or (last_end q c S events) (E q c)
ends-later S E [] q c = refl
ends-later S E (e ∷ es) q c =
    ends-later (next S e) (more_ends E S) es q c ∙ later-assoc (last_end q c (next S e) es) (end_in_phase q (slice_get S.nodes c)) (E q c)

pub ends-last : (S : State) (events : List Event) (q c : ℕ) → ends_over (more_ends no_ends S) S events q c ≡ last_end q c S events
ends-last S events q c = ends-later S no_ends events q c ∙ later-none (last_end q c S events)
