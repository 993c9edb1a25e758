-- A picked event may come, and where none is picked no event may come.
use Rattle.std.proofs.Common.{◌≡◌, ℕ, zero, suc, ◌%◌, ◌<◌, ◌≤◌, ◌⊎◌, inl, inr, Bool, true, false, cond, List, [], ◌∷◌, ◌++◌, length, map, slice_get, Option, Some, None, refl, sym, ap, ◌∙◌, subst, arith}
use Rattle.std.specs.Option.{option_or}
use Rattle.std.proofs.lemmas.Bool.Decides.{nat_tests}
use Rattle.dn_base.specs.declared.ids.WordId.{WordId}
use Rattle.word_cache.proofs.CacheLaws.{victim-goes}
use Rattle.word_cache.specs.Cache.{may_go}
use Rattle.message_net.specs.declared.event.Event.{Event}
use Rattle.message_net.specs.declared.event.Event.TheVariants.{Instr, Evict, Arrive, Handle}
use Rattle.message_net.specs.declared.message.Mail.{Mail}
use Rattle.message_net.specs.Pool.{of_id, count_of}
use Rattle.message_net.proofs.PoolLemmas.{place-counted, same_id-refl}
use Rattle.registration_protocol.specs.Node.{NodeParts, Setting, entry_of, need_now}
use Rattle.registration_protocol.specs.Fit.{Fits}
use Rattle.registration_protocol.specs.OwnEvents.{may_instr, may_evict, may_arrive, me, wanted_by, victim_for, eviction_of, eviction, arrival, own_event, IsStill}
use Rattle.registration_protocol.proofs.OwnLemmas.{without-victim, victim-stays}
use Rattle.machine_rules.specs.State.{State}
use Rattle.machine_rules.specs.Next.{enabled, when_there}
use Rattle.machine_rules.specs.Runs.{IsOver}
use Rattle.machine_rules.specs.Sound.{IsMachine}
use Rattle.dn_machine.specs.Pick.{known_events, handlings, candidates, picked, pick}

-- the own event of a node in its place may come
pub own-comes : (S : State) (core : ℕ) (n : NodeParts) (e : Event) → slice_get S.nodes core ≡ Some n → n.core ≡ core → own_event S.setting n ≡ Some e → enabled S e ≡ true
unfolding enabled
own-comes S core n e there place is = by_instr (may_instr S.setting n) refl is where
  here : slice_get S.nodes n.core ≡ Some n
  here = ap (slice_get S.nodes) place ∙ there

  by_arrive : (b : Bool) → may_arrive n ≡ b → cond b (Some (Arrive (me n))) None ≡ Some e → enabled S e ≡ true
  by_arrive true may is = let same : Arrive (me n) ≡ e = cc in subst (λ (x : Event). enabled S x ≡ true) same (ap (when_there may_arrive) here ∙ may)
  by_arrive false may is = absurd (cc)

  by_evict : (v : WordId) (b : Bool) → may_evict S.setting n v.0 ≡ b → option_or (cond b (Some (Evict (me n) v)) None) (arrival n) ≡ Some e → enabled S e ≡ true
  by_evict v true may is =
      let same : Evict (me n) v ≡ e = cc in subst (λ (x : Event). enabled S x ≡ true) same (ap (when_there (λ m. may_evict S.setting m v.0)) here ∙ may)
  by_evict v false may is = by_arrive (may_arrive n) refl is

  by_victim : (o : Option WordId) → option_or (eviction_of S.setting n o) (arrival n) ≡ Some e → enabled S e ≡ true
  by_victim None is = by_arrive (may_arrive n) refl is
  by_victim (Some v) is = by_evict v (may_evict S.setting n v.0) refl is

  by_instr : (b : Bool) → may_instr S.setting n ≡ b → cond b (Some (Instr (me n))) (option_or (eviction S.setting n) (arrival n)) ≡ Some e → enabled S e ≡ true
  by_instr true may is = let same : Instr (me n) ≡ e = cc in subst (λ (x : Event). enabled S x ≡ true) same (ap (when_there (may_instr S.setting)) here ∙ may)
  by_instr false may is = by_victim (victim_for n (wanted_by n (need_now S.setting n))) is

-- the victim of a node that fits may go
goes : (C : Setting) (n : NodeParts) (v wanted : WordId) → Fits C n → victim_for n (Some wanted) ≡ Some v → may_go (entry_of n v.0) ≡ true
goes C n v wanted fits is = (victim-goes n.cache wanted.0 v fits.cache is).0

victim-may : (C : Setting) (n : NodeParts) (v : WordId) → Fits C n → (o : Option WordId) → victim_for n o ≡ Some v → may_go (entry_of n v.0) ≡ true
victim-may C n v fits None is = absurd (cc)
victim-may C n v fits (Some wanted) is = goes C n v wanted fits is

-- a node that fits has no own event only where none of its events may come
pub own-none : (C : Setting) (n : NodeParts) → Fits C n → own_event C n ≡ None → IsStill C n
own-none C n fits is = by_instr (may_instr C n) refl is where
  by_arrive : may_instr C n ≡ false → ((w : ℕ) → may_evict C n w ≡ false) → (b : Bool) → may_arrive n ≡ b → cond b (Some (Arrive (me n))) None ≡ None → IsStill C n
  by_arrive instr evict true may is = absurd (cc)
  by_arrive instr evict false may is = record { instr = instr; evict = evict; arrive = may }

  by_evict : may_instr C n ≡ false → (v : WordId) → victim_for n (wanted_by n (need_now C n)) ≡ Some v → (b : Bool) → may_evict C n v.0 ≡ b
      → option_or (cond b (Some (Evict (me n) v)) None) (arrival n) ≡ None → IsStill C n
  by_evict instr v found true may is = absurd (cc)
  by_evict instr v found false may is =
      by_arrive instr (victim-stays C n v found (victim-may C n v fits (wanted_by n (need_now C n)) found) may) (may_arrive n) refl is

  by_victim : may_instr C n ≡ false → (o : Option WordId) → victim_for n (wanted_by n (need_now C n)) ≡ o → option_or (eviction_of C n o) (arrival n) ≡ None → IsStill C n
  by_victim instr None found is = by_arrive instr (without-victim C n found) (may_arrive n) refl is
  by_victim instr (Some v) found is = by_evict instr v found (may_evict C n v.0) refl is

  by_instr : (b : Bool) → may_instr C n ≡ b → cond b (Some (Instr (me n))) (option_or (eviction C n) (arrival n)) ≡ None → IsStill C n
  by_instr true may is = absurd (cc)
  by_instr false may is = by_victim may (victim_for n (wanted_by n (need_now C n))) refl is

-- the handling of a mail in flight may come
pub mail-comes : (S : State) (place : ℕ) (m : Mail) → slice_get S.mails place ≡ Some m → enabled S (Handle m.id) ≡ true
unfolding enabled
mail-comes S place m there =
    let one : 1 ≤ count_of m.id S.mails = place-counted (of_id m.id) S.mails place m there (same_id-refl m.id) in
    grind (arith, nat_tests, one)

-- an own event is that of a node
pub record IsOwn (C : Setting) (nodes : List NodeParts) (e : Event) : Type 0 where
  pub core : ℕ
  pub node : NodeParts
  pub found : slice_get nodes core ≡ Some node
  pub own : own_event C node ≡ Some e

pub known-own : (C : Setting) (nodes : List NodeParts) (place : ℕ) (e : Event) → slice_get (known_events (map (own_event C) nodes)) place ≡ Some e → IsOwn C nodes e
known-own C [] place e is = absurd (cc)
known-own C (n ∷ ns) place e is = by_own (own_event C n) refl place is (λ (p : ℕ) here. known-own C ns p e here) where
  behind : IsOwn C ns e → IsOwn C (n ∷ ns) e
  behind o = record { core = suc o.core; node = o.node; found = o.found; own = o.own }

  by_own : (o : Option Event) → own_event C n ≡ o → (p : ℕ) → slice_get (known_events (o ∷ map (own_event C) ns)) p ≡ Some e
      → ((q : ℕ) → slice_get (known_events (map (own_event C) ns)) q ≡ Some e → IsOwn C ns e) → IsOwn C (n ∷ ns) e
  by_own None own p is rest = behind (rest p is)
  by_own (Some x) own zero is rest = let same : x ≡ e = cc in record { core = 0; node = n; found = refl; own = own ∙ ap Some same }
  by_own (Some x) own (suc p) is rest = behind (rest p is)

-- an item of two lists is one of the first or of the second
get-either : {X : Type 0} (xs ys : List X) (i : ℕ) (x : X) → slice_get (xs ++ ys) i ≡ Some x → (slice_get xs i ≡ Some x) ⊎ ((j : ℕ) × (slice_get ys j ≡ Some x))
get-either [] ys i x is = inr (i, is)
get-either (y ∷ xs) ys zero x is = inl is
get-either (y ∷ xs) ys (suc i) x is = get-either xs ys i x is

handling : (mails : List Mail) (place : ℕ) (e : Event) → slice_get (handlings mails) place ≡ Some e → (m : Mail) × (slice_get mails place ≡ Some m) × (Handle m.id ≡ e)
handling [] place e is = absurd (cc)
handling (m ∷ ms) zero e is = let same : Handle m.id ≡ e = cc in (m, refl, same)
handling (m ∷ ms) (suc place) e is = handling ms place e is

-- an event that is picked in a state of the machine may come
pub pick-comes : (S : State) (draw : ℕ) (e : Event) → IsMachine S → pick S draw ≡ Some e → enabled S e ≡ true
unfolding pick
pick-comes S draw e good is =
    by_part (get-either (known_events (map (own_event S.setting) S.nodes)) (handlings S.mails) (draw % length (candidates (map (own_event S.setting) S.nodes) S.mails)) e is)
  where
    by_part : (slice_get (known_events (map (own_event S.setting) S.nodes)) (draw % length (candidates (map (own_event S.setting) S.nodes) S.mails)) ≡ Some e)
        ⊎ ((place : ℕ) × (slice_get (handlings S.mails) place ≡ Some e)) → enabled S e ≡ true
    by_part (inl known) =
        let own = known-own S.setting S.nodes (draw % length (candidates (map (own_event S.setting) S.nodes) S.mails)) e known in
        own-comes S own.core own.node e own.found (good.node own.core own.node own.found).core own.own
    by_part (inr mail) =
        let of_mail = handling S.mails mail.0 e mail.1 in
        subst (λ (x : Event). enabled S x ≡ true) of_mail.2 (mail-comes S mail.0 of_mail.0 of_mail.1)

-- where nothing is picked there is no candidate
picked-none : (events : List Event) (draw : ℕ) → picked events draw ≡ None → events ≡ []
picked-none [] draw is = refl
picked-none (e ∷ es) draw is =
    let some : 0 < length (e ∷ es) = omega arith in
    let within : draw % length (e ∷ es) < length (e ∷ es) = omega (arith, some) in
    absurd (past (e ∷ es) (draw % length (e ∷ es)) within is)
  where
    past : (xs : List Event) (i : ℕ) → i < length xs → slice_get xs i ≡ None → ⊥
    past [] i within none = omega (arith, within)
    past (x ∷ xs) zero within none = cc
    past (x ∷ xs) (suc i) within none = past xs i (omega (arith, within)) none

no-first : {X : Type 0} (xs ys : List X) → xs ++ ys ≡ [] → xs ≡ []
no-first [] ys is = refl
no-first (x ∷ xs) ys is = absurd (cc)

no-mail : (events : List Event) (mails : List Mail) → events ++ handlings mails ≡ [] → mails ≡ []
no-mail [] [] is = refl
no-mail [] (m ∷ ms) is = absurd (cc)
no-mail (e ∷ es) mails is = absurd (cc)

no-own : (C : Setting) (nodes : List NodeParts) → known_events (map (own_event C) nodes) ≡ [] → (core : ℕ) (n : NodeParts) → slice_get nodes core ≡ Some n → own_event C n ≡ None
no-own C [] none core n there = absurd (cc)
no-own C (m ∷ ms) none core n there = by_own (own_event C m) refl none core there (λ rest d here. no-own C ms rest d n here) where
  by_own : (o : Option Event) → own_event C m ≡ o → known_events (o ∷ map (own_event C) ms) ≡ [] → (d : ℕ) → slice_get (m ∷ ms) d ≡ Some n
      → (known_events (map (own_event C) ms) ≡ [] → (c : ℕ) → slice_get ms c ≡ Some n → own_event C n ≡ None) → own_event C n ≡ None
  by_own (Some x) own none d there rest = absurd (cc)
  by_own None own none zero there rest = let same : m ≡ n = cc in ap (own_event C) (sym same) ∙ own
  by_own None own none (suc d) there rest = rest none d there

-- where nothing is picked in a state of the machine, no event may come
pub pick-none : (S : State) (draw : ℕ) → IsMachine S → pick S draw ≡ None → IsOver S
unfolding pick enabled
pick-none S draw good is = by_event where
  empty : candidates (map (own_event S.setting) S.nodes) S.mails ≡ []
  empty = picked-none (candidates (map (own_event S.setting) S.nodes) S.mails) draw is

  still : (core : ℕ) (n : NodeParts) → slice_get S.nodes core ≡ Some n → IsStill S.setting n
  still core n there =
      own-none S.setting n (good.node core n there).fits
      (no-own S.setting S.nodes (no-first (known_events (map (own_event S.setting) S.nodes)) (handlings S.mails) empty) core n there)

  nowhere : (test : NodeParts → Bool) (core : ℕ) → ((n : NodeParts) → IsStill S.setting n → test n ≡ false) → (o : Option NodeParts) → slice_get S.nodes core ≡ o → when_there test o ≡ false
  nowhere test core never None there = refl
  nowhere test core never (Some n) there = never n (still core n there)

  by_event : (e : Event) → enabled S e ≡ false
  by_event (Instr core) = nowhere (may_instr S.setting) core.0 (λ n s. s.instr) (slice_get S.nodes core.0) refl
  by_event (Evict core word) = nowhere (λ n. may_evict S.setting n word.0) core.0 (λ n s. s.evict word.0) (slice_get S.nodes core.0) refl
  by_event (Arrive core) = nowhere may_arrive core.0 (λ n s. s.arrive) (slice_get S.nodes core.0) refl
  by_event (Handle id) = rw (no-mail (known_events (map (own_event S.setting) S.nodes)) S.mails empty) refl

-- where no event may come, nothing is picked
pub over-pick : (S : State) (draw : ℕ) → IsMachine S → IsOver S → pick S draw ≡ None
over-pick S draw good over = by_pick (pick S draw) refl where
  by_pick : (o : Option Event) → pick S draw ≡ o → pick S draw ≡ None
  by_pick None is = is
  by_pick (Some e) is =
      let may = pick-comes S draw e good is in
      let never = over e in
      absurd (cc)
