-- Each legal and whole list of grants is that of a complete run, and the machine's ends are the flat machine's.
use Rattle.std.proofs.Common.{◌≡◌, ◌≢◌, ◌↔◌, ℕ, List, [], ◌∷◌, ◌++◌, length, slice_get, Option, Some, None, refl, sym, ap, subst, ◌∙◌, arith}
use Rattle.std.proofs.lemmas.List.{append_assoc, append-nil}
use Rattle.std.proofs.lemmas.Option.{none-some, same_Some}
use Rattle.dn_base.specs.declared.ids.Grant.{Grant}
use Rattle.region_table.specs.declared.declared.Phase.{Phase}
use Rattle.rv_core.specs.declared.ending.Ending.{Ending}
use Rattle.message_net.specs.declared.event.Event.{Event}
use Rattle.flat_machine.specs.declared.ending.FlatEnd.{FlatEnd}
use Rattle.flat_machine.specs.declared.ending.TaskLoads.{TaskLoads}
use Rattle.flat_machine.specs.Phases.{Flat}
use Rattle.flat_machine.specs.Grants.{so_far}
use Rattle.flat_machine.specs.Ending.{flat_end}
use Rattle.flat_machine.specs.Laws.{HasFront, HasTasks, IsEnded}
use Rattle.flat_machine.proofs.CauseLemmas.{run-ended}
use Rattle.flat_machine.proofs.ReachedLaws.{front-has, reached-tasks}
use Rattle.registration_protocol.specs.Node.{NodeParts, Setting}
use Rattle.machine_rules.specs.State.{initial_state}
use Rattle.machine_rules.specs.Sound.{IsSound, IsReady}
use Rattle.machine_rules.specs.Runs.{after, IsCompleteRun, grants_of}
use Rattle.machine_rules.proofs.Invariant.{Invariant}
use Rattle.machine_rules.proofs.NoPhases.{no-phases-run}
use Rattle.machine_rules.proofs.OpenedFacts.{opened-node}
use Rattle.machine_rules.proofs.RunsCoherent.{first_memory, run-all}
use Rattle.run_agreement.specs.Ends.{HasFlatEnd}
use Rattle.run_agreement.proofs.EndAgrees.{end-agrees}
use Rattle.run_agreement.proofs.PrefixAgrees.{prefix-agrees}
use Rattle.run_agreement.specs.Reached.{AcquiresNothing, IsCompleted, HasGrants, HasRunBy, CanEnd, FlatCanEnd}
use Rattle.run_agreement.proofs.Appending.{grants-append}
use Rattle.run_agreement.proofs.Growing.{Grows}
use Rattle.run_agreement.proofs.Choosing.{IsPoised, grow-poised, completed}
use Rattle.run_agreement.proofs.Waits.{awaits, awaited}
use Rattle.run_agreement.proofs.Turns.{NobodyWaits, GrantsNone, free-run}
use Rattle.run_agreement.proofs.FlatGrants.{IsNextGrant, next-grant, whole-none}
use Rattle.run_agreement.proofs.NextGrant.{Follows, follows-more}

-- ---- the list of a run

opened-free : (C : Setting) → NobodyWaits (initial_state C)
opened-free C c = by_node (slice_get (initial_state C).nodes c) refl where
  by_node : (o : Option NodeParts) → slice_get (initial_state C).nodes c ≡ o → awaited o ≡ None
  by_node None is = refl
  by_node (Some n) is = ap (λ (x : NodeParts). awaits x.waiting) (opened-node C c n is).is

follows-none : (C : Setting) → IsReady C → Follows C []
follows-none C ready =
    let g : Grows (initial_state C) AcquiresNothing IsPoised = grow-poised C [] ready tt in
    let base : IsSound (initial_state C) 0 × Invariant (initial_state C) (first_memory C) = run-all C [] ready tt in
    let r : GrantsNone (initial_state C) g.events = free-run (initial_state C) (first_memory C) 0 g.events base.0 base.1 g.run g.fine (opened-free C) in
    record { events = g.events; run = g.run; grants = r.none; poised = g.done; free = r.free }

follows-list : (C : Setting) (p : Phase) (gs hs : List Grant) (F : Flat) → IsReady C → slice_get C.program.phases 0 ≡ Some p → Follows C gs → so_far C.program C.fuel (gs ++ hs) ≡ Some F → Follows C (gs ++ hs)
follows-list C p gs [] F ready first f is = subst (Follows C) (sym (append-nil gs)) f
follows-list C p gs (h ∷ hs) F ready first f is =
    let same : (gs ++ h ∷ []) ++ hs ≡ gs ++ h ∷ hs = append_assoc gs (h ∷ []) hs in
    let leads : so_far C.program C.fuel ((gs ++ h ∷ []) ++ hs) ≡ Some F = ap (so_far C.program C.fuel) same ∙ is in
    let front : HasFront C.program C.fuel (gs ++ h ∷ []) hs F = front-has C.program C.fuel (gs ++ h ∷ []) hs F leads in
    subst (Follows C) same (follows-list C p (gs ++ h ∷ []) hs F ready first (follows-more C p gs h front.flat ready first f front.front) leads)

-- ---- a complete run

-- a complete run with a list has the end of the flat machine's run by it
run-by : (C : Setting) (gs : List Grant) (e : FlatEnd) (events : List Event) → IsReady C → flat_end C.program C.fuel gs ≡ Some e → IsCompleteRun (initial_state C) events → grants_of (initial_state C) events ≡ gs → HasRunBy C gs e
run-by C gs e events ready ends complete grants =
    let h : HasFlatEnd C events = end-agrees C events ready complete in
    let same : h.end' ≡ e = same_Some h.end' e (sym h.run ∙ ap (flat_end C.program C.fuel) grants ∙ ends) in
    record {
      events = events;
      complete = complete;
      grants = grants;
      loads = sym h.loads ∙ ap (λ (x : FlatEnd). x.loads) same;
      ending = sym h.ending ∙ ap (λ (x : FlatEnd). x.ending) same;
    }

-- no grant comes after a whole list
no-more : (C : Setting) (gs hs : List Grant) (e : FlatEnd) (F : Flat) → flat_end C.program C.fuel gs ≡ Some e → so_far C.program C.fuel (gs ++ hs) ≡ Some F → hs ≡ []
no-more C gs [] e F ends is = refl
no-more C gs (h ∷ hs) e F ends is =
    let same : (gs ++ h ∷ []) ++ hs ≡ gs ++ h ∷ hs = append_assoc gs (h ∷ []) hs in
    let front : HasFront C.program C.fuel (gs ++ h ∷ []) hs F = front-has C.program C.fuel (gs ++ h ∷ []) hs F (ap (so_far C.program C.fuel) same ∙ is) in
    let n : IsNextGrant C.program C.fuel gs h = next-grant C.program C.fuel gs h front.flat front.front in
    absurd (whole-none C.program C.fuel gs e n.flat h ends n.front n.legal)

phases-reach : (C : Setting) (p : Phase) (gs : List Grant) (e : FlatEnd) → IsReady C → slice_get C.program.phases 0 ≡ Some p → flat_end C.program C.fuel gs ≡ Some e → HasRunBy C gs e
phases-reach C p gs e ready first ends = run-by C gs e (f.events ++ c.more) ready ends c.complete (grants ∙ ap (λ (x : List Grant). gs ++ x) none ∙ append-nil gs) where
  ended : IsEnded C.program C.fuel gs e
  ended = run-ended C.program C.fuel gs e ends

  f : Follows C gs
  f = follows-list C p [] gs ended.last ready first (follows-none C ready) ended.leads

  c : IsCompleted (initial_state C) f.events
  c = completed C f.events ready f.run

  more : List Grant
  more = grants_of (after (initial_state C) f.events) c.more

  grants : grants_of (initial_state C) (f.events ++ c.more) ≡ gs ++ more
  grants = grants-append (initial_state C) f.events c.more ∙ ap (λ (x : List Grant). x ++ more) f.grants

  none : more ≡ []
  none = let front = prefix-agrees C (f.events ++ c.more) ready c.complete.run in no-more C gs more e front.0 ends (ap (so_far C.program C.fuel) (sym grants) ∙ front.1.leads)

-- without phases no grant is legal
no-grants : (C : Setting) (gs : List Grant) (F : Flat) → C.program.phases ≡ [] → so_far C.program C.fuel gs ≡ Some F → gs ≡ []
no-grants C [] F none is = refl
no-grants C (g ∷ gs) F none is =
    let front : HasFront C.program C.fuel (g ∷ []) gs F = front-has C.program C.fuel (g ∷ []) gs F is in
    let n : IsNextGrant C.program C.fuel [] g = next-grant C.program C.fuel [] g front.flat front.front in
    let has : HasTasks C.program n.flat = reached-tasks C.program C.fuel [] n.flat n.front in
    let first : n.flat.begun ≡ 0 = omega (arith, has.begun, ap length none) in
    let within = n.legal.started.1.0 in
    absurd (omega (arith, within, ap length (has.none first)))

none-reach : (C : Setting) (gs : List Grant) (e : FlatEnd) → IsReady C → C.program.phases ≡ [] → flat_end C.program C.fuel gs ≡ Some e → HasRunBy C gs e
none-reach C gs e ready none ends =
    let c : IsCompleted (initial_state C) [] = completed C [] ready tt in
    let empty : c.more ≡ [] = no-phases-run C c.more (ap length none) c.complete.run in
    let ended : IsEnded C.program C.fuel gs e = run-ended C.program C.fuel gs e ends in
    run-by C gs e c.more ready ends c.complete (ap (grants_of (initial_state C)) empty ∙ sym (no-grants C gs ended.last none ended.leads))

pub reaches : (C : Setting) (gs : List Grant) (e : FlatEnd) → IsReady C → flat_end C.program C.fuel gs ≡ Some e → HasRunBy C gs e
reaches C gs e ready ends = by_phases C.program.phases refl where
  by_phases : (ps : List Phase) → C.program.phases ≡ ps → HasRunBy C gs e
  by_phases [] is = none-reach C gs e ready is ends
  by_phases (p ∷ ps) is = phases-reach C p gs e ready (ap (λ (xs : List Phase). slice_get xs 0) is) ends

-- ---- both ways

pub flat-too : (C : Setting) (gs : List Grant) (e : FlatEnd) → IsReady C → HasRunBy C gs e → flat_end C.program C.fuel gs ≡ Some e
flat-too C gs e ready b =
    let h : HasFlatEnd C b.events = end-agrees C b.events ready b.complete in
    let ending : h.end'.ending ≡ e.ending = h.ending ∙ b.ending in
    let loads : h.end'.loads ≡ e.loads = h.loads ∙ b.loads in
    let same : h.end' ≡ e = ap (λ (x : Ending). record { ending = x; loads = h.end'.loads }) ending ∙ ap (λ (x : List TaskLoads). record { ending = e.ending; loads = x }) loads in
    ap (flat_end C.program C.fuel) (sym b.grants) ∙ h.run ∙ ap (λ (x : FlatEnd). Some x) same

-- a legal list is that of a run
legal-run : (C : Setting) (gs : List Grant) (F : Flat) → IsReady C → so_far C.program C.fuel gs ≡ Some F → HasGrants C gs
legal-run C gs F ready is = by_phases C.program.phases refl where
  by_phases : (ps : List Phase) → C.program.phases ≡ ps → HasGrants C gs
  by_phases [] none = record { events = []; run = tt; grants = sym (no-grants C gs F none is) }
  by_phases (p ∷ ps) some =
      let f : Follows C gs = follows-list C p [] gs F ready (ap (λ (xs : List Phase). slice_get xs 0) some) (follows-none C ready) is in
      record { events = f.events; run = f.run; grants = f.grants }

pub same-grants : (C : Setting) (gs : List Grant) → IsReady C → (so_far C.program C.fuel gs ≢ None) ↔ HasGrants C gs
same-grants C gs ready = (λ some. forth (so_far C.program C.fuel gs) refl some, back) where
  forth : (o : Option Flat) → so_far C.program C.fuel gs ≡ o → so_far C.program C.fuel gs ≢ None → HasGrants C gs
  forth None is some = absurd (some is)
  forth (Some F) is some = legal-run C gs F ready is

  back : HasGrants C gs → so_far C.program C.fuel gs ≢ None
  back b none = let front = prefix-agrees C b.events ready b.run in none-some front.0 (sym none ∙ ap (so_far C.program C.fuel) (sym b.grants) ∙ front.1.leads)

pub same-runs : (C : Setting) (gs : List Grant) (e : FlatEnd) → IsReady C → (flat_end C.program C.fuel gs ≡ Some e) ↔ HasRunBy C gs e
same-runs C gs e ready = (reaches C gs e ready, flat-too C gs e ready)

pub same-endings : (C : Setting) (ending : Ending) → IsReady C → FlatCanEnd C.program C.fuel ending ↔ CanEnd C ending
same-endings C ending ready = (forth, back) where
  forth : FlatCanEnd C.program C.fuel ending → CanEnd C ending
  forth f = let b = reaches C f.grants f.end' ready f.run in record { events = b.events; complete = b.complete; ends = b.ending ∙ f.ends }

  back : CanEnd C ending → FlatCanEnd C.program C.fuel ending
  back b = let h = end-agrees C b.events ready b.complete in record { grants = grants_of (initial_state C) b.events; end' = h.end'; run = h.run; ends = h.ending ∙ b.ends }

-- a machine of another shape has the same runs
pub any-shape : (C D : Setting) (gs : List Grant) (e : FlatEnd) → IsReady C → IsReady D → D.program ≡ C.program → D.fuel ≡ C.fuel → HasRunBy C gs e → HasRunBy D gs e
any-shape C D gs e ready other program fuel b =
    let flat : flat_end C.program C.fuel gs ≡ Some e = flat-too C gs e ready b in
    reaches D gs e other (ap (λ P. flat_end P D.fuel gs) program ∙ ap (λ (k : ℕ). flat_end C.program k gs) fuel ∙ flat)
