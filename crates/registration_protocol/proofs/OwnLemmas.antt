-- When a node has a word to evict.
use Rattle.std.proofs.Common.{◌≡◌, ℕ, ◌%◌, ◌==◌, Bool, true, false, ◌&&◌, List, [], ◌∷◌, Option, Some, None, cond, refl, ap, ◌∙◌, subst, arith}
use Rattle.std.proofs.lemmas.Bool.{and_parts, and_from}
use Rattle.std.proofs.lemmas.Bool.Decides.{nat_tests}
use Rattle.std.specs.List.{find}
use Rattle.std.specs.Option.{option_map, option_or}
use Rattle.dn_base.specs.declared.ids.WordId.{WordId}
use Rattle.message_net.specs.declared.event.Event as event
use Rattle.message_net.specs.declared.event.Event.{Event}
use Rattle.word_cache.specs.Cache.{Pair, lookup, may_go, is_evictable, shares_set, gives_way}
use Rattle.registration_protocol.specs.Node.{NodeParts, Setting, need_now, entry_of, is_active, waits_for_nothing}
use Rattle.registration_protocol.specs.OwnEvents.{wanted_by, makes_room, may_evict, victim_for, me, may_instr, may_arrive, eviction_of, eviction, arrival, own_event}
use Rattle.registration_protocol.specs.Parts.{MayCome}

-- what is found passes the test
found_passes : (f : Pair → Bool) (ps : List Pair) (p : Pair) → find f ps ≡ Some p → f p ≡ true
found_passes f [] p e = absurd (cc)
found_passes f (q ∷ ps) p e = by_test (f q) refl e (found_passes f ps p)
  where
    by_test : (b : Bool) → f q ≡ b → cond b (Some q) (find f ps) ≡ Some p → (find f ps ≡ Some p → f p ≡ true) → f p ≡ true
    by_test true here e rest = let same : q ≡ p = cc in subst (λ (x : Pair). f x ≡ true) same here
    by_test false here e rest = rest e

-- where a word of the set may be evicted, one is found
none_found : (sets w wanted : ℕ) (ps : List Pair) → (w % sets == wanted % sets) ≡ true → may_go (lookup w ps) ≡ true → find (gives_way sets wanted) ps ≡ None → ⊥
none_found sets w wanted [] same may none = cc
none_found sets w wanted (p ∷ ps) same may none = by_tests (p.0.0 == w) (gives_way sets wanted p) refl refl may none (none_found sets w wanted ps same)
  where
    by_tests : (x y : Bool) → (p.0.0 == w) ≡ x → gives_way sets wanted p ≡ y → may_go (cond x (Some p.1) (lookup w ps)) ≡ true → cond y (Some p) (find (gives_way sets wanted) ps) ≡ None
        → (may_go (lookup w ps) ≡ true → find (gives_way sets wanted) ps ≡ None → ⊥) → ⊥
    by_tests x true here way may none rest = cc
    by_tests false false here way may none rest = rest may none
    by_tests true false here way may none rest =
        let e : p.0.0 ≡ w = grind (arith, nat_tests) in
        let in_set : shares_set sets wanted p ≡ true = ap (λ (x : ℕ). x % sets == wanted % sets) e ∙ same in
        let passes = and_from (shares_set sets wanted p) (is_evictable p.1) in_set may in
        cc

-- the parts of a test that a word may be evicted
pub record MayEvict (C : Setting) (n : NodeParts) (w : ℕ) (wanted : Option WordId) : Type 0 where
  pub idle : (is_active n && waits_for_nothing n.waiting) ≡ true
  pub room : makes_room n w wanted ≡ true

evict_parts : (C : Setting) (n : NodeParts) (w : ℕ) → may_evict C n w ≡ true → MayEvict C n w (wanted_by n (need_now C n))
evict_parts C n w may =
    let parts = and_parts (is_active n && waits_for_nothing n.waiting) (makes_room n w (wanted_by n (need_now C n))) may in
    record { idle = parts.0; room = parts.1 }

no_victim : (C : Setting) (n : NodeParts) (w : ℕ) (wanted : Option WordId) → victim_for n wanted ≡ None → makes_room n w wanted ≡ true → ⊥
no_victim C n w None none room = cc
no_victim C n w (Some wanted) none room =
    let parts = and_parts (w % n.cache.sets == wanted.0 % n.cache.sets) (may_go (entry_of n w)) room in
    by_find (find (gives_way n.cache.sets wanted.0) n.cache.pairs) refl none parts.0 parts.1
  where
    by_find : (o : Option Pair) → find (gives_way n.cache.sets wanted.0) n.cache.pairs ≡ o → option_map (λ (p : Pair). p.0) o ≡ None → (w % n.cache.sets == wanted.0 % n.cache.sets) ≡ true
        → may_go (entry_of n w) ≡ true → ⊥
    by_find None found none same may = none_found n.cache.sets w wanted.0 n.cache.pairs same may found
    by_find (Some p) found none same may = cc

not-true : (b : Bool) → (b ≡ true → ⊥) → b ≡ false
not-true true never = absurd (never refl)
not-true false never = refl

-- without a victim nothing may be evicted
pub without-victim : (C : Setting) (n : NodeParts) → victim_for n (wanted_by n (need_now C n)) ≡ None → (w : ℕ) → may_evict C n w ≡ false
without-victim C n none w =
    not-true (may_evict C n w) (λ may. no_victim C n w (wanted_by n (need_now C n)) none (evict_parts C n w may).room)

victim_room : (n : NodeParts) (v : WordId) (wanted : Option WordId) → victim_for n wanted ≡ Some v → may_go (entry_of n v.0) ≡ true → makes_room n v.0 wanted ≡ true
victim_room n v None is may = absurd (cc)
victim_room n v (Some wanted) is may = by_find (find (gives_way n.cache.sets wanted.0) n.cache.pairs) refl is
  where
    by_find : (o : Option Pair) → find (gives_way n.cache.sets wanted.0) n.cache.pairs ≡ o → option_map (λ (p : Pair). p.0) o ≡ Some v → makes_room n v.0 (Some wanted) ≡ true
    by_find None found is = absurd (cc)
    by_find (Some p) found is =
        let same : p.0 ≡ v = cc in
        let passes = found_passes (gives_way n.cache.sets wanted.0) n.cache.pairs p found in
        let in_set : shares_set n.cache.sets wanted.0 p ≡ true = (and_parts (shares_set n.cache.sets wanted.0 p) (is_evictable p.1) passes).0 in
        and_from (v.0 % n.cache.sets == wanted.0 % n.cache.sets) (may_go (entry_of n v.0)) (subst (λ (x : WordId). (x.0 % n.cache.sets == wanted.0 % n.cache.sets) ≡ true) same in_set) may

and_true : (a b : Bool) → b ≡ true → (a && b) ≡ a
and_true true b is = is
and_true false b is = refl

-- whether the victim may be evicted is a matter of the node's flags and its wait
pub victim-idles : (C : Setting) (n : NodeParts) (v : WordId) → victim_for n (wanted_by n (need_now C n)) ≡ Some v → may_go (entry_of n v.0) ≡ true
    → may_evict C n v.0 ≡ (is_active n && waits_for_nothing n.waiting)
victim-idles C n v is may =
    and_true (is_active n && waits_for_nothing n.waiting) (makes_room n v.0 (wanted_by n (need_now C n))) (victim_room n v (wanted_by n (need_now C n)) is may)

-- a test doesn't give both answers
pub not-both : (b : Bool) → b ≡ true → b ≡ false → ⊥
not-both b is not = cc

-- the victim is evicted where it may be
pub victim-evicted : (C : Setting) (n : NodeParts) (v : WordId) (b : Bool) → victim_for n (wanted_by n (need_now C n)) ≡ Some v → may_evict C n v.0 ≡ b
    → eviction C n ≡ cond b (Some (event.TheVariants.Evict (me n) v)) None
victim-evicted C n v b is may = ap (eviction_of C n) is ∙ ap (λ (x : Bool). cond x (Some (event.TheVariants.Evict (me n) v)) None) may

-- where the victim may not be evicted, nothing may
pub victim-stays : (C : Setting) (n : NodeParts) (v : WordId) → victim_for n (wanted_by n (need_now C n)) ≡ Some v → may_go (entry_of n v.0) ≡ true → may_evict C n v.0 ≡ false → (w : ℕ)
    → may_evict C n w ≡ false
victim-stays C n v is may stays w =
    not-true (may_evict C n w)
    (λ other.
    let idle = (evict_parts C n w other).idle in
    let room = victim_room n v (wanted_by n (need_now C n)) is may in
    let both = and_from (is_active n && waits_for_nothing n.waiting) (makes_room n v.0 (wanted_by n (need_now C n))) idle room in
    cc)

-- ---- the node's next event by itself may come

same_some : (a b : Event) → Some a ≡ Some b → a ≡ b
same_some a b e = cc

arrival_comes : (C : Setting) (n : NodeParts) (e : Event) (b : Bool) → may_arrive n ≡ b → cond b (Some (event.TheVariants.Arrive (me n))) None ≡ Some e → MayCome C n e
arrival_comes C n e true may is = subst (MayCome C n) (same_some _ e is) (refl, may)
arrival_comes C n e false may is = absurd (cc)

evict_comes : (C : Setting) (n : NodeParts) (e : Event) (v : WordId) (b : Bool) → may_evict C n v.0 ≡ b
    → option_or (cond b (Some (event.TheVariants.Evict (me n) v)) None) (arrival n) ≡ Some e → MayCome C n e
evict_comes C n e v true may is = subst (MayCome C n) (same_some _ e is) (refl, may)
evict_comes C n e v false may is = arrival_comes C n e (may_arrive n) refl is

victim_comes : (C : Setting) (n : NodeParts) (e : Event) (o : Option WordId) → option_or (eviction_of C n o) (arrival n) ≡ Some e → MayCome C n e
victim_comes C n e None is = arrival_comes C n e (may_arrive n) refl is
victim_comes C n e (Some v) is = evict_comes C n e v (may_evict C n v.0) refl is

instr_comes : (C : Setting) (n : NodeParts) (e : Event) (b : Bool) → may_instr C n ≡ b
    → cond b (Some (event.TheVariants.Instr (me n))) (option_or (eviction C n) (arrival n)) ≡ Some e → MayCome C n e
instr_comes C n e true may is = subst (MayCome C n) (same_some _ e is) (refl, may)
instr_comes C n e false may is = victim_comes C n e (victim_for n (wanted_by n (need_now C n))) is

pub own-comes : (C : Setting) (n : NodeParts) (e : Event) → own_event C n ≡ Some e → MayCome C n e
own-comes C n e is = instr_comes C n e (may_instr C n) refl is
