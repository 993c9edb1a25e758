-- What a log has of one entry more, of more ends, and of the nodes of a last state.
use Rattle.std.proofs.Common.{◌≡◌, ℕ, zero, suc, ◌+◌, ◌<◌, ◌≤◌, Bool, true, false, cond, List, [], ◌∷◌, ◌++◌, length, map, take, drop, get_or, slice_get, count_by, Option, Some, None, refl, sym, ap, subst, ◌∙◌, arith, length-append, append_assoc}
use Rattle.std.specs.List.{filter_map, cons_option}
use Rattle.std.proofs.lemmas.List.{map-append, length-map, drop_more}
use Rattle.std.proofs.lemmas.List.Elements.{filter_map-append}
use Rattle.std.proofs.lemmas.List.Sums.{sum_by-cons}
use Rattle.dn_base.specs.declared.ids.Grant.{Grant}
use Rattle.rv_core.specs.declared.ending.TaskEnd.{TaskEnd}
use Rattle.message_net.specs.declared.event.Event.{Event}
use Rattle.message_net.specs.declared.event.EventKind.{EventKind}
use Rattle.grant_log.specs.declared.log.Stamped.{Stamped}
use Rattle.grant_log.specs.Counts.{same_kind, kind_count}
use Rattle.grant_log.specs.Log.{grants_in}
use Rattle.grant_log.proofs.CountLemmas.{place_within, AreCounts-added, length-added}
use Rattle.registration_protocol.specs.Node.{NodeParts}
use Rattle.run_agreement.specs.Agreed.{listed}
use Rattle.dn_machine.specs.declared.log.Happened.{Happened}
use Rattle.dn_machine.specs.declared.log.Log.{Log}
use Rattle.dn_machine.specs.Ends.{EndTable, end_at, with_end}
use Rattle.dn_machine.specs.Log.{with_event}
use Rattle.host_workers.specs.Rounds.{events_of, noted_event, noted_kind}
use Rattle.host_workers.specs.Ends.{with_ends, node_standing}
use Rattle.host_workers.specs.RoundOf.{IsTallied, HasNoted}

-- ---- one entry more

-- what is noted of an entry
abbrev pub happened_at : Stamped → Happened
happened_at e = record { event = e.event; observed = record { kind = e.kind; seen = None; granted = e.granted }; end = None }

nil-behind : {X : Type 0} (xs : List X) → xs ++ [] ≡ xs
nil-behind [] = refl
nil-behind {X} (x ∷ xs) = ap (λ (ys : List X). x ∷ ys) (nil-behind xs)

pub none-noted : (log : Log) → HasNoted [] log log
none-noted log =
    record {
      events = sym (nil-behind log.events);
      grants = sym (nil-behind log.grants);
      counts = λ kinds tallied. subst (λ (ks : List EventKind). IsTallied ks log) (sym (nil-behind kinds)) tallied;
      ends = refl;
    }

one-grant : (e : Stamped) → grants_in (e ∷ []) ≡ listed e.granted
one-grant e = by_grant e.granted where
  by_grant : (o : Option Grant) → cons_option o [] ≡ listed o
  by_grant None = refl
  by_grant (Some g) = refl

tallied-more : (kinds : List EventKind) (e : Stamped) (log : Log) → IsTallied kinds log → IsTallied (kinds ++ e.kind ∷ []) (with_event (happened_at e) log)
tallied-more kinds e log tallied =
    record {
      all = length-added e.kind log.counts ∙ tallied.all;
      counts = AreCounts-added kinds e.kind log.counts (omega (arith, place_within e.kind, tallied.all)) tallied.counts;
      few = omega (arith, tallied.few, length-append kinds (e.kind ∷ []), length-append log.events (e.event ∷ []));
    }

entry-more : (entries : List Stamped) (e : Stamped) (old log new : Log) → HasNoted entries old log → new ≡ with_event (happened_at e) log → HasNoted (entries ++ e ∷ []) old new
entry-more entries e old log new has is = rw is all where
  all : HasNoted (entries ++ e ∷ []) old (with_event (happened_at e) log)
  all =
      record {
        events =
            ap (λ (es : List Event). es ++ e.event ∷ []) has.events
            ∙ (append_assoc old.events (events_of entries) (e.event ∷ []) ∙ ap (λ (es : List Event). old.events ++ es) (sym (map-append noted_event entries (e ∷ []))));
        grants =
            ap (λ (gs : List Grant). gs ++ listed e.granted) has.grants
            ∙ (append_assoc old.grants (grants_in entries) (listed e.granted)
            ∙ ap (λ (gs : List Grant). old.grants ++ gs) (ap (λ (gs : List Grant). grants_in entries ++ gs) (sym (one-grant e)) ∙ sym (filter_map-append (λ (x : Stamped). x.granted) entries (e ∷ []))));
        counts = λ kinds tallied. subst (λ (ks : List EventKind). IsTallied ks (with_event (happened_at e) log)) (grown kinds) (tallied-more (kinds ++ map noted_kind entries) e log (has.counts kinds tallied));
        ends = has.ends;
      }
    where
      grown : (kinds : List EventKind) → (kinds ++ map noted_kind entries) ++ e.kind ∷ [] ≡ kinds ++ map noted_kind (entries ++ e ∷ [])
      grown kinds = append_assoc kinds (map noted_kind entries) (e.kind ∷ []) ∙ ap (λ (ks : List EventKind). kinds ++ ks) (sym (map-append noted_kind entries (e ∷ [])))

take-next : {X : Type 0} (xs : List X) (i : ℕ) (d : X) → i < length xs → take (suc i) xs ≡ take i xs ++ get_or xs i d ∷ []
take-next [] i d low = absurd (omega (arith, low))
take-next (x ∷ xs) zero d low = refl
take-next {X} (x ∷ xs) (suc i) d low = ap (λ (ys : List X). x ∷ ys) (take-next xs i d (omega (arith, low)))

next-place : (i : ℕ) → i + 1 ≡ suc i
next-place i = omega arith

take-one : {X : Type 0} (xs : List X) (i : ℕ) (d : X) → i < length xs → take (i + 1) xs ≡ take i xs ++ get_or xs i d ∷ []
take-one xs i d low = ap (λ (n : ℕ). take n xs) (next-place i) ∙ take-next xs i d low

pub noted-more : (entries : List Stamped) (i : ℕ) (d : Stamped) (old log new : Log) → i < length entries → HasNoted (take i entries) old log → new ≡ with_event (happened_at (get_or entries i d)) log
    → HasNoted (take (i + 1) entries) old new
noted-more entries i d old log new low has is =
    subst (λ (es : List Stamped). HasNoted es old new) (sym (take-one entries i d low)) (entry-more (take i entries) (get_or entries i d) old log new has is)

count-most : (p : EventKind → Bool) (kinds : List EventKind) → count_by p kinds ≤ length kinds
count-most p [] = omega arith
count-most p (k ∷ ks) = omega (arith, sum_by-cons (λ x. cond (p x) 1 0) k ks, one (p k), count-most p ks) where
  one : (t : Bool) → cond t 1 0 ≤ 1
  one true = omega arith
  one false = omega arith

take-within : {X : Type 0} (xs : List X) (i : ℕ) → length (take i xs) ≤ length xs
take-within xs zero = omega arith
take-within [] (suc i) = omega arith
take-within (x ∷ xs) (suc i) = omega (arith, take-within xs i)

-- a count is no more than the log notes
pub count-few : (entries : List Stamped) (i : ℕ) (kinds : List EventKind) (k : EventKind) (old log : Log) → HasNoted (take i entries) old log → IsTallied kinds old
    → kind_count k log.counts ≤ length old.events + length entries
count-few entries i kinds k old log has tallied =
    let now = has.counts kinds tallied in
    omega (
      arith,
      now.counts k,
      count-most (same_kind k) (kinds ++ map noted_kind (take i entries)),
      now.few,
      ap (λ (es : List Event). length es) has.events,
      length-append old.events (events_of (take i entries)),
      length-map (take i entries) noted_event,
      take-within entries i,
    )

-- ---- more ends

drop-one : {X : Type 0} (xs : List X) (i : ℕ) (d : X) → i < length xs → drop i xs ≡ get_or xs i d ∷ drop (i + 1) xs
drop-one xs i d low = drop_more xs i d low

pub end-more : (ends : List TaskEnd) (i : ℕ) (e : TaskEnd) (table all : EndTable) → i < length ends → e ≡ get_or ends i e → with_ends (drop i ends) table ≡ all
    → with_ends (drop (i + 1) ends) (with_end (Some e) table) ≡ all
end-more ends i e table all low item is =
    ap (λ (x : TaskEnd). with_ends (x ∷ drop (i + 1) ends) table) item ∙ (ap (λ (xs : List TaskEnd). with_ends xs table) (sym (drop-one ends i e low)) ∙ is)

pub no-more : {X : Type 0} (xs : List X) (n : ℕ) → length xs ≤ n → drop n xs ≡ []
no-more [] zero high = refl
no-more [] (suc n) high = refl
no-more (x ∷ xs) zero high = absurd (omega (arith, high))
no-more {X} (x ∷ xs) (suc n) high = no-more xs n (omega (arith, high))

-- ---- the nodes of a state

core-next : (nodes : List NodeParts) (i : ℕ) (table all : EndTable) → with_ends (filter_map node_standing (drop i nodes)) table ≡ all
    → with_ends (filter_map node_standing (drop (suc i) nodes)) (with_end (end_at (slice_get nodes i)) table) ≡ all
core-next [] zero table all rest = rest
core-next [] (suc i) table all rest = rest
core-next (n ∷ ns) zero table all rest = by_end (node_standing n) rest where
  by_end : (e : Option TaskEnd) → with_ends (cons_option e (filter_map node_standing ns)) table ≡ all → with_ends (filter_map node_standing ns) (with_end e table) ≡ all
  by_end None same = same
  by_end (Some x) same = same
core-next (n ∷ ns) (suc i) table all rest = core-next ns i table all rest

-- one core more
pub core-more : (nodes : List NodeParts) (i : ℕ) (o : Option TaskEnd) (table all : EndTable) → o ≡ end_at (slice_get nodes i) → with_ends (filter_map node_standing (drop i nodes)) table ≡ all
    → with_ends (filter_map node_standing (drop (i + 1) nodes)) (with_end o table) ≡ all
core-more nodes i o table all is rest = rw (is, next-place i) (core-next nodes i table all rest)
