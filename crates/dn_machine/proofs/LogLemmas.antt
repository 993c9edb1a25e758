-- What a log has of one event more.
use Rattle.std.proofs.Common.{◌≡◌, ℕ, zero, suc, ◌+◌, ◌*◌, ◌==◌, ◌<◌, ◌≤◌, Bool, true, false, cond, List, [], ◌∷◌, ◌++◌, length, replicate, slice_get, Option, Some, None, refl, sym, ap, subst, ◌∙◌, arith}
use Rattle.std.specs.Prelude.{count_by, option_map}
use Rattle.region_table.specs.Tasks.{declared}
use Rattle.rv_core.specs.Task.{started}
use Rattle.std.proofs.lemmas.List.Sums.{sum_by-cons}
use Rattle.dn_base.specs.declared.ids.Grant.{Grant}
use Rattle.region_table.specs.declared.declared.TaskDecl.{TaskDecl}
use Rattle.rv_core.specs.declared.ending.TaskEnd.{TaskEnd}
use Rattle.message_net.specs.declared.event.Event.{Event}
use Rattle.message_net.specs.declared.event.EventKind.{EventKind}
use Rattle.message_net.specs.Kind.{kind_index}
use Rattle.grant_log.specs.declared.counts.Counts.{Counts}
use Rattle.grant_log.specs.Counts.{same_kind, kind_count, no_counts, added, AreCounts}
use Rattle.grant_log.proofs.CountLemmas.{place_within, AreCounts-added}
use Rattle.registration_protocol.specs.Node.{NodeParts, Setting, initial_node}
use Rattle.registration_protocol.specs.OwnEvents.{end_of}
use Rattle.machine_rules.specs.State.{State, initial_state}
use Rattle.machine_rules.specs.Next.{next, granted_in, kind_in}
use Rattle.machine_rules.specs.Runs.{after, grants_of, kinds_of, end_in_phase}
use Rattle.machine_rules.proofs.OpenedFacts.{opened-node, opened-setting}
use Rattle.run_agreement.specs.Agreed.{listed}
use Rattle.dn_machine.specs.declared.log.Happened.{Happened}
use Rattle.dn_machine.specs.declared.log.Log.{Log}
use Rattle.dn_machine.specs.Ends.{no_ends, AreLastEnds}
use Rattle.dn_machine.specs.Log.{HasCome, with_event, no_log, IsLogOf}
use Rattle.dn_machine.proofs.Noted.{AreInPlace, noted-ends}

-- ---- what is read off

grants-more : (S : State) (events : List Event) (e : Event) → grants_of S (events ++ e ∷ []) ≡ grants_of S events ++ listed (granted_in (after S events) e)
grants-more S [] e = by_grant (granted_in S e) refl where
  by_grant : (o : Option Grant) → granted_in S e ≡ o → grants_of S (e ∷ []) ≡ listed (granted_in S e)
  by_grant None is = rw is refl
  by_grant (Some g) is = rw is refl
grants-more S (x ∷ xs) e = by_grant (granted_in S x) refl (grants-more (next S x) xs e) where
  by_grant : (o : Option Grant) → granted_in S x ≡ o → grants_of (next S x) (xs ++ e ∷ []) ≡ grants_of (next S x) xs ++ listed (granted_in (after (next S x) xs) e)
      → grants_of S (x ∷ xs ++ e ∷ []) ≡ grants_of S (x ∷ xs) ++ listed (granted_in (after (next S x) xs) e)
  by_grant None is rest = rw is rest
  by_grant (Some g) is rest = rw is (ap (λ (gs : List Grant). g ∷ gs) rest)

kinds-more : (S : State) (events : List Event) (e : Event) → kinds_of S (events ++ e ∷ []) ≡ kinds_of S events ++ kind_in (after S events) e ∷ []
kinds-more S [] e = refl
kinds-more S (x ∷ xs) e = ap (λ (ks : List EventKind). kind_in S x ∷ ks) (kinds-more (next S x) xs e)

pub kinds-length : (S : State) (events : List Event) → length (kinds_of S events) ≡ length events
kinds-length S [] = refl
kinds-length S (x ∷ xs) = omega (arith, kinds-length (next S x) xs)

-- ---- counts

count-most : (p : EventKind → Bool) (kinds : List EventKind) → count_by p kinds ≤ length kinds
count-most p [] = omega arith
count-most p (k ∷ ks) = omega (arith, sum_by-cons (λ x. cond (p x) 1 0) k ks, one (p k), count-most p ks) where
  one : (t : Bool) → cond t 1 0 ≤ 1
  one true = omega arith
  one false = omega arith

-- a count is no more than there are events
pub count-within : (S : State) (events : List Event) (counts : Counts) (k : EventKind) → AreCounts (kinds_of S events) counts → kind_count k counts ≤ length events
count-within S events counts k are = omega (arith, are k, count-most (same_kind k) (kinds_of S events), kinds-length S events)

-- ---- one event more

pub log-more : (S T : State) (events : List Event) (log : Log) (h : Happened) → length log.counts.kinds ≡ 17 → AreInPlace T → HasCome (after S events) T h → IsLogOf S events log → IsLogOf S (events ++ h.event ∷ []) (with_event h log)
log-more S T events log h all well come is =
    let place : kind_index h.observed.kind < length log.counts.kinds = rw all (place_within h.observed.kind) in
    let kind : h.observed.kind ≡ kind_in (after S events) h.event = ap (λ t. t.kind) come.observed in
    let granted : h.observed.granted ≡ granted_in (after S events) h.event = ap (λ t. t.granted) come.observed in
    record {
      events = ap (λ (es : List Event). es ++ h.event ∷ []) is.events;
      granted =
          ap (λ (gs : List Grant). gs ++ listed h.observed.granted) is.granted ∙ ap (λ (o : Option Grant). grants_of S events ++ listed o) granted ∙ sym (grants-more S events h.event);
      counted =
          subst (λ (ks : List EventKind). AreCounts ks (added h.observed.kind log.counts))
          (ap (λ (k : EventKind). kinds_of S events ++ k ∷ []) kind ∙ sym (kinds-more S events h.event))
          (AreCounts-added (kinds_of S events) h.observed.kind log.counts place is.counted);
      ends =
          let there : AreInPlace (next (after S events) h.event) = subst AreInPlace come.next well in
          let all_ends = noted-ends S events log.ends h.event there is.ends in
          rw (come.end, come.next) all_ends;
    }

-- ---- as a run begins

new-shows : (C : Setting) (core : ℕ) → end_of (initial_node C core) (initial_node C core).task ≡ None
new-shows C core = by_decl (declared C.program 0 core) where
  by_decl : (o : Option TaskDecl) → end_of (initial_node C core) (option_map started o) ≡ None
  by_decl None = refl
  by_decl (Some d) = refl

no-end : (C : Setting) (phase core : ℕ) → end_in_phase phase (slice_get (initial_state C).nodes core) ≡ None
no-end C phase core = by_node (slice_get (initial_state C).nodes core) refl where
  by_test : (t : Bool) → cond t (end_of (initial_node C core) (initial_node C core).task) None ≡ None
  by_test true = new-shows C core
  by_test false = refl

  by_node : (o : Option NodeParts) → slice_get (initial_state C).nodes core ≡ o → end_in_phase phase o ≡ None
  by_node None there = refl
  by_node (Some n) there = rw ((opened-node C core n there).is) (by_test ((initial_node C core).phase == phase))

no-item : {X : Type 0} (x : X) (k i : ℕ) → i < k → slice_get (replicate k x) i ≡ Some x
no-item x zero i low = absurd (omega (arith, low))
no-item x (suc k) zero low = refl
no-item x (suc k) (suc i) low = no-item x k i (omega (arith, low))

pub log-opened : (C : Setting) → IsLogOf (initial_state C) [] (no_log (length C.program.phases))
log-opened C = record { events = refl; granted = refl; counted = λ k. none k; ends = ends } where
  none : (k : EventKind) → kind_count k no_counts ≡ 0
  none k = grind arith

  none_yet : Option TaskEnd
  none_yet = None

  ends : AreLastEnds (initial_state C) [] (no_ends (length C.program.phases))
  ends phase core low small =
      no-item none_yet (16 * length C.program.phases) (16 * phase + core) (omega (arith, small, low, ap (λ (x : Setting). length x.program.phases) (opened-setting C)))
      ∙ ap (λ (o : Option TaskEnd). Some o) (sym (no-end C phase core))
