-- The list of the events that may come has exactly these.
use Rattle.std.proofs.Common.{◌≡◌, ◌⊎◌, inl, inr, ℕ, zero, suc, ◌+◌, ◌%◌, ◌<◌, ◌≤◌, Bool, true, false, cond, ◌&&◌, List, [], ◌∷◌, ◌++◌, length, flat_map, slice_get, get_or, Option, Some, None, refl, sym, ap, ◌∙◌, subst, arith}
use Rattle.std.specs.Prelude.{◌↔◌, ◌==◌, nat_lt}
use Rattle.std.specs.List.{IsAmong, filter, range_with_len}
use Rattle.std.proofs.lemmas.Bool.Decides.{nat_tests}
use Rattle.dn_base.specs.declared.ids.CoreId.{CoreId}
use Rattle.dn_base.specs.declared.ids.WordId.{WordId}
use Rattle.message_net.specs.declared.event.Event.{Event}
use Rattle.message_net.specs.declared.event.Event.TheVariants.{Instr, Evict, Arrive, Handle}
use Rattle.message_net.specs.declared.actor.MailId.{MailId}
use Rattle.message_net.specs.declared.message.Mail.{Mail}
use Rattle.message_net.specs.Pool.{of_id, count_of}
use Rattle.message_net.proofs.PoolLemmas.{counted-place, same_id-true}
use Rattle.word_cache.specs.declared.row.Entry.{Entry}
use Rattle.word_cache.specs.Cache.{Cache, Pair, is_of, in_set, lookup, may_go}
use Rattle.registration_protocol.specs.Node.{NodeParts, Setting, need_now, entry_of, is_active, waits_for_nothing}
use Rattle.registration_protocol.specs.OwnEvents.{me, may_instr, may_evict, may_arrive, wanted_by, makes_room}
use Rattle.machine_rules.specs.State.{State}
use Rattle.machine_rules.specs.Next.{enabled, when_there}
use Rattle.machine_rules.specs.Runs.{IsOver}
use Rattle.machine_rules.specs.Sound.{IsMachine}
use Rattle.dn_machine.specs.Pick.{handlings}
use Rattle.dn_machine.proofs.PickLaws.{mail-comes}
use Rattle.state_text.specs.Coming.{set_pairs, pairs_by_set, if_enabled, enabled_eviction, enabled_own, enabled_events}

-- ---- the items of a list

abbrev Has : {X : Type 0} → List X → X → Type 0
Has [] x = ⊥
Has (y ∷ ys) x = (y ≡ x) ⊎ Has ys x

has-left : {X : Type 0} (xs ys : List X) (x : X) → Has xs x → Has (xs ++ ys) x
has-left [] ys x none = absurd none
has-left (z ∷ zs) ys x (inl same) = inl same
has-left (z ∷ zs) ys x (inr has) = inr (has-left zs ys x has)

has-right : {X : Type 0} (xs ys : List X) (x : X) → Has ys x → Has (xs ++ ys) x
has-right [] ys x has = has
has-right (z ∷ zs) ys x has = inr (has-right zs ys x has)

has-either : {X : Type 0} (xs ys : List X) (x : X) → Has (xs ++ ys) x → Has xs x ⊎ Has ys x
has-either [] ys x has = inr has
has-either (z ∷ zs) ys x (inl same) = inl (inl same)
has-either (z ∷ zs) ys x (inr has) = further (has-either zs ys x has) where
  further : Has zs x ⊎ Has ys x → Has (z ∷ zs) x ⊎ Has ys x
  further (inl one) = inl (inr one)
  further (inr other) = inr other

has-flat : {X Y : Type 0} (f : X → List Y) (xs : List X) (x : X) (y : Y) → Has xs x → Has (f x) y → Has (flat_map f xs) y
has-flat f [] x y none has = absurd none
has-flat {X} f (z ∷ zs) x y (inl same) has = has-left (f z) (flat_map f zs) y (subst (λ (w : X). Has (f w) y) (sym same) has)
has-flat f (z ∷ zs) x y (inr there) has = has-right (f z) (flat_map f zs) y (has-flat f zs x y there has)

-- an item of a flat map is of one of the lists
pub record IsFrom {X Y : Type 0} (f : X → List Y) (xs : List X) (y : Y) : Type 0 where
  pub item : X
  pub there : Has xs item
  pub has : Has (f item) y

flat-has : {X Y : Type 0} (f : X → List Y) (xs : List X) (y : Y) → Has (flat_map f xs) y → IsFrom f xs y
flat-has f [] y has = absurd has
flat-has f (z ∷ zs) y has = by_part (has-either (f z) (flat_map f zs) y has) (flat-has f zs y) where
  behind : IsFrom f zs y → IsFrom f (z ∷ zs) y
  behind from = record { item = from.item; there = inr from.there; has = from.has }

  by_part : Has (f z) y ⊎ Has (flat_map f zs) y → (Has (flat_map f zs) y → IsFrom f zs y) → IsFrom f (z ∷ zs) y
  by_part (inl one) rest = record { item = z; there = inl refl; has = one }
  by_part (inr other) rest = behind (rest other)

get-has : {X : Type 0} (xs : List X) (i : ℕ) (x : X) → slice_get xs i ≡ Some x → Has xs x
get-has [] i x is = absurd (cc)
get-has (y ∷ ys) zero x is = let same : y ≡ x = cc in inl same
get-has (y ∷ ys) (suc i) x is = inr (get-has ys i x is)

has-get : {X : Type 0} (xs : List X) (x : X) → Has xs x → (i : ℕ) × (slice_get xs i ≡ Some x)
has-get [] x none = absurd none
has-get (y ∷ ys) x (inl same) = (0, ap Some same)
has-get (y ∷ ys) x (inr has) = let at = has-get ys x has in (suc at.0, at.1)

has-among : {X : Type 0} (xs : List X) (x : X) → Has xs x → IsAmong xs x
has-among [] x none = absurd none
has-among (y ∷ ys) x (inl same) = (0, (omega arith, sym same))
has-among (y ∷ ys) x (inr has) = let at = has-among ys x has in (suc at.0, (omega (arith, at.1.0), at.1.1))

at-has : {X : Type 0} (xs : List X) (i : ℕ) (x : X) → i < length xs → x ≡ get_or xs i x → Has xs x
at-has [] i x within is = absurd (omega (arith, within))
at-has (y ∷ ys) zero x within is = inl (sym is)
at-has (y ∷ ys) (suc i) x within is = inr (at-has ys i x (omega (arith, within)) is)

among-has : {X : Type 0} (xs : List X) (x : X) → IsAmong xs x → Has xs x
among-has xs x among = at-has xs among.0 x among.1.0 among.1.1

-- ---- what is in the list may come

if-comes : (S : State) (x e : Event) → Has (if_enabled S x) e → enabled S e ≡ true
if-comes S x e has = by_test (enabled S x) refl has where
  by_test : (b : Bool) → enabled S x ≡ b → Has (cond b (x ∷ []) []) e → enabled S e ≡ true
  by_test true may (inl same) = subst (λ (y : Event). enabled S y ≡ true) same may
  by_test true may (inr none) = absurd none
  by_test false may none = absurd none

own-comes : (S : State) (n : NodeParts) (e : Event) → Has (enabled_own S n) e → enabled S e ≡ true
own-comes S n e has = by_part (has-either (if_enabled S (Instr (me n))) _ e has) where
  by_pair : IsFrom (enabled_eviction S n) (pairs_by_set n.cache) e → enabled S e ≡ true
  by_pair from = if-comes S (Evict (me n) from.item.0) e from.has

  by_rest : Has (flat_map (enabled_eviction S n) (pairs_by_set n.cache)) e ⊎ Has (if_enabled S (Arrive (me n))) e → enabled S e ≡ true
  by_rest (inl one) = by_pair (flat-has (enabled_eviction S n) (pairs_by_set n.cache) e one)
  by_rest (inr other) = if-comes S (Arrive (me n)) e other

  by_part : Has (if_enabled S (Instr (me n))) e ⊎ Has (flat_map (enabled_eviction S n) (pairs_by_set n.cache) ++ if_enabled S (Arrive (me n))) e → enabled S e ≡ true
  by_part (inl one) = if-comes S (Instr (me n)) e one
  by_part (inr other) = by_rest (has-either (flat_map (enabled_eviction S n) (pairs_by_set n.cache)) (if_enabled S (Arrive (me n))) e other)

-- the handling of a mail in flight
pub record IsHandling (mails : List Mail) (e : Event) : Type 0 where
  pub mail : Mail
  pub there : Has mails mail
  pub handles : Handle mail.id ≡ e

handling-of : (mails : List Mail) (e : Event) → Has (handlings mails) e → IsHandling mails e
handling-of [] e none = absurd none
handling-of (m ∷ ms) e (inl same) = record { mail = m; there = inl refl; handles = same }
handling-of (m ∷ ms) e (inr has) = behind (handling-of ms e has) where
  behind : IsHandling ms e → IsHandling (m ∷ ms) e
  behind of = record { mail = of.mail; there = inr of.there; handles = of.handles }

listed-comes : (S : State) (e : Event) → Has (enabled_events S) e → enabled S e ≡ true
unfolding enabled_events
listed-comes S e has = by_part (has-either (flat_map (enabled_own S) S.nodes) (handlings S.mails) e has) where
  by_node : IsFrom (enabled_own S) S.nodes e → enabled S e ≡ true
  by_node from = own-comes S from.item e from.has

  by_mail : IsHandling S.mails e → enabled S e ≡ true
  by_mail of = let at = has-get S.mails of.mail of.there in subst (λ (x : Event). enabled S x ≡ true) of.handles (mail-comes S at.0 of.mail at.1)

  by_part : Has (flat_map (enabled_own S) S.nodes) e ⊎ Has (handlings S.mails) e → enabled S e ≡ true
  by_part (inl one) = by_node (flat-has (enabled_own S) S.nodes e one)
  by_part (inr other) = by_mail (handling-of S.mails e other)

-- ---- what may come is in the list

if-listed : (S : State) (e : Event) → enabled S e ≡ true → Has (if_enabled S e) e
if-listed S e may = rw may (inl refl)

-- a node that is there
pub record IsNodeOf (S : State) (core : ℕ) (test : NodeParts → Bool) : Type 0 where
  pub node : NodeParts
  pub there : slice_get S.nodes core ≡ Some node
  pub passes : test node ≡ true

node-of : (S : State) (core : ℕ) (test : NodeParts → Bool) → when_there test (slice_get S.nodes core) ≡ true → IsNodeOf S core test
node-of S core test may = by_node (slice_get S.nodes core) refl may where
  by_node : (o : Option NodeParts) → slice_get S.nodes core ≡ o → when_there test o ≡ true → IsNodeOf S core test
  by_node None is passes = absurd (cc)
  by_node (Some n) is passes = record { node = n; there = is; passes = passes }

-- the node of each core is in its place
abbrev pub AreInPlace : State → Type 0
AreInPlace S = (core : ℕ) (n : NodeParts) → slice_get S.nodes core ≡ Some n → (n.core ≡ core) × (0 < n.cache.sets)

pub in-place : (S : State) → IsMachine S → AreInPlace S
in-place S machine core n there =
    let at = machine.node core n there in
    let some : 0 < n.cache.sets = omega (arith, at.fits.sets, machine.context.some_sets) in
    (at.core, some)

own-listed : (S : State) (core : ℕ) (n : NodeParts) (e : Event) → slice_get S.nodes core ≡ Some n → Has (enabled_own S n) e → Has (enabled_events S) e
unfolding enabled_events
own-listed S core n e there has =
    has-left (flat_map (enabled_own S) S.nodes) (handlings S.mails) e (has-flat (enabled_own S) S.nodes n e (get-has S.nodes core n there) has)

abbrev core_id : ℕ → CoreId
core_id k = record { 0 = k }

abbrev word_id : ℕ → WordId
word_id k = record { 0 = k }

own-core : (n : NodeParts) (core : CoreId) → n.core ≡ core.0 → me n ≡ core
own-core n core same = ap core_id same

instr-listed : (S : State) (core : CoreId) → AreInPlace S → enabled S (Instr core) ≡ true → Has (enabled_events S) (Instr core)
unfolding enabled
instr-listed S core placed may =
    let at = node-of S core.0 (may_instr S.setting) may in
    let mine = own-core at.node core (placed core.0 at.node at.there).0 in
    let here : Has (if_enabled S (Instr (me at.node))) (Instr core) = subst (λ (k : CoreId). Has (if_enabled S (Instr k)) (Instr core)) (sym mine) (if-listed S (Instr core) may) in
    own-listed S core.0 at.node (Instr core) at.there
    (has-left (if_enabled S (Instr (me at.node))) (flat_map (enabled_eviction S at.node) (pairs_by_set at.node.cache) ++ if_enabled S (Arrive (me at.node))) (Instr core) here)

arrive-listed : (S : State) (core : CoreId) → AreInPlace S → enabled S (Arrive core) ≡ true → Has (enabled_events S) (Arrive core)
unfolding enabled
arrive-listed S core placed may =
    let at = node-of S core.0 may_arrive may in
    let mine = own-core at.node core (placed core.0 at.node at.there).0 in
    let here : Has (if_enabled S (Arrive (me at.node))) (Arrive core) = subst (λ (k : CoreId). Has (if_enabled S (Arrive k)) (Arrive core)) (sym mine) (if-listed S (Arrive core) may) in
    own-listed S core.0 at.node (Arrive core) at.there
    (has-right (if_enabled S (Instr (me at.node))) (flat_map (enabled_eviction S at.node) (pairs_by_set at.node.cache) ++ if_enabled S (Arrive (me at.node))) (Arrive core)
    (has-right (flat_map (enabled_eviction S at.node) (pairs_by_set at.node.cache)) (if_enabled S (Arrive (me at.node))) (Arrive core) here))

-- a word with an entry has a pair, which stands in the word's set
pub record IsPairOf (ps : List Pair) (w : ℕ) : Type 0 where
  pub pair : Pair
  pub there : Has ps pair
  pub word : pair.0.0 ≡ w

found-pair : (w : ℕ) (ps : List Pair) (e : Entry) → lookup w ps ≡ Some e → IsPairOf ps w
found-pair w [] e is = absurd (cc)
found-pair w (p ∷ ps) e is = by_test (is_of w p) refl is (found-pair w ps e) where
  behind : IsPairOf ps w → IsPairOf (p ∷ ps) w
  behind of = record { pair = of.pair; there = inr of.there; word = of.word }

  by_test : (b : Bool) → is_of w p ≡ b → cond b (Some p.1) (lookup w ps) ≡ Some e → (lookup w ps ≡ Some e → IsPairOf ps w) → IsPairOf (p ∷ ps) w
  by_test true test found rest = let same : p.0.0 ≡ w = grind (arith, nat_tests) in record { pair = p; there = inl refl; word = same }
  by_test false test found rest = behind (rest found)

has-filter : (test : Pair → Bool) (ps : List Pair) (p : Pair) → Has ps p → test p ≡ true → Has (filter test ps) p
has-filter test [] p none passes = absurd none
has-filter test (q ∷ qs) p (inl same) passes = rw (ap test same ∙ passes) (inl same)
has-filter test (q ∷ qs) p (inr has) passes = by_test (test q) (has-filter test qs p has passes) where
  by_test : (b : Bool) → Has (filter test qs) p → Has (cond b (q ∷ filter test qs) (filter test qs)) p
  by_test true rest = inr rest
  by_test false rest = rest

has-range : (from count k : ℕ) → from ≤ k → k < from + count → Has (range_with_len from count) k
has-range from zero k low high = absurd (omega (arith, low, high))
has-range from (suc count) k low high = by_first (nat_lt from k) refl (λ above. has-range (from + 1) count k above (omega (arith, high))) where
  by_first : (b : Bool) → nat_lt from k ≡ b → (from + 1 ≤ k → Has (range_with_len (from + 1) count) k) → Has (range_with_len from (suc count)) k
  by_first true test rest = let above : from + 1 ≤ k = grind (arith, nat_tests) in inr (rest above)
  by_first false test rest = let same : from ≡ k = grind (arith, nat_tests, low) in inl same

pair-listed : (c : Cache) (p : Pair) → 0 < c.sets → Has c.pairs p → Has (pairs_by_set c) p
pair-listed c p some has =
    let set : p.0.0 % c.sets < c.sets = omega (arith, some) in
    let mine : in_set c.sets (p.0.0 % c.sets) p ≡ true = grind (arith, nat_tests) in
    has-flat (set_pairs c) (range_with_len 0 c.sets) (p.0.0 % c.sets) p (has-range 0 c.sets (p.0.0 % c.sets) (omega arith) (omega (arith, set)))
    (has-filter (in_set c.sets (p.0.0 % c.sets)) c.pairs p has mine)

and-false : (b : Bool) → b && false ≡ false
and-false true = refl
and-false false = refl

-- a word that may be evicted has an entry
evictable-entry : (C : Setting) (n : NodeParts) (w : ℕ) → may_evict C n w ≡ true → (e : Entry) × (entry_of n w ≡ Some e)
evictable-entry C n w may = by_entry (entry_of n w) refl where
  no-room : (o : Option WordId) (a b : Bool) → entry_of n w ≡ None → a && b && makes_room n w o ≡ false
  no-room None a b none = and-false (a && b)
  no-room (Some wanted) a b none =
      ap (λ (x : Option Entry). a && b && ((w % n.cache.sets == wanted.0 % n.cache.sets) && may_go x)) none
      ∙ ap (λ (x : Bool). a && b && x) (and-false (w % n.cache.sets == wanted.0 % n.cache.sets))
      ∙ and-false (a && b)

  by_entry : (o : Option Entry) → entry_of n w ≡ o → (e : Entry) × (entry_of n w ≡ Some e)
  by_entry None none =
      let not_so : may_evict C n w ≡ false = no-room (wanted_by n (need_now C n)) (is_active n) (waits_for_nothing n.waiting) none in
      absurd (cc)
  by_entry (Some e) is = (e, is)

evict-listed : (S : State) (core : CoreId) (word : WordId) → AreInPlace S → enabled S (Evict core word) ≡ true → Has (enabled_events S) (Evict core word)
unfolding enabled
evict-listed S core word placed may =
    let at = node-of S core.0 (λ (n : NodeParts). may_evict S.setting n word.0) may in
    let mine = own-core at.node core (placed core.0 at.node at.there).0 in
    let entry = evictable-entry S.setting at.node word.0 at.passes in
    let of = found-pair word.0 at.node.cache.pairs entry.0 entry.1 in
    let same : of.pair.0 ≡ word = ap word_id of.word in
    let of_core : Has (if_enabled S (Evict core of.pair.0)) (Evict core word) =
    subst (λ (x : WordId). Has (if_enabled S (Evict core x)) (Evict core word)) (sym same) (if-listed S (Evict core word) may) in
    let here : Has (enabled_eviction S at.node of.pair) (Evict core word) =
    subst (λ (k : CoreId). Has (if_enabled S (Evict k of.pair.0)) (Evict core word)) (sym mine) of_core in
    own-listed S core.0 at.node (Evict core word) at.there
    (has-right (if_enabled S (Instr (me at.node))) (flat_map (enabled_eviction S at.node) (pairs_by_set at.node.cache) ++ if_enabled S (Arrive (me at.node))) (Evict core word)
    (has-left (flat_map (enabled_eviction S at.node) (pairs_by_set at.node.cache)) (if_enabled S (Arrive (me at.node))) (Evict core word)
    (has-flat (enabled_eviction S at.node) (pairs_by_set at.node.cache) of.pair (Evict core word)
    (pair-listed at.node.cache of.pair (placed core.0 at.node at.there).1 of.there) here)))

has-handling : (mails : List Mail) (m : Mail) → Has mails m → Has (handlings mails) (Handle m.id)
has-handling [] m none = absurd none
has-handling (x ∷ xs) m (inl same) = inl (ap (λ (y : Mail). Handle y.id) same)
has-handling (x ∷ xs) m (inr has) = inr (has-handling xs m has)

handle-listed : (S : State) (id : MailId) → enabled S (Handle id) ≡ true → Has (enabled_events S) (Handle id)
unfolding enabled enabled_events
handle-listed S id may =
    let some : 1 ≤ count_of id S.mails = grind (arith, nat_tests) in
    let at = counted-place (of_id id) S.mails some in
    let named : at.1.id ≡ id = same_id-true at.1.id id at.3 in
    has-right (flat_map (enabled_own S) S.nodes) (handlings S.mails) (Handle id)
    (subst (λ (x : MailId). Has (handlings S.mails) (Handle x)) named (has-handling S.mails at.1 (get-has S.mails at.0 at.1 at.2)))

all-listed : (S : State) (e : Event) → AreInPlace S → enabled S e ≡ true → Has (enabled_events S) e
all-listed S (Instr core) placed may = instr-listed S core placed may
all-listed S (Evict core word) placed may = evict-listed S core word placed may
all-listed S (Arrive core) placed may = arrive-listed S core placed may
all-listed S (Handle id) placed may = handle-listed S id may

pub listed-exactly : (S : State) → AreInPlace S → (e : Event) → IsAmong (enabled_events S) e ↔ (enabled S e ≡ true)
listed-exactly S placed e =
    ((λ among. listed-comes S e (among-has (enabled_events S) e among)), (λ may. has-among (enabled_events S) e (all-listed S e placed may)))

-- where none may come, none is listed
pub none-listed : (S : State) → AreInPlace S → IsOver S → enabled_events S ≡ []
none-listed S placed over = by_list (enabled_events S) refl where
  by_list : (es : List Event) → enabled_events S ≡ es → enabled_events S ≡ []
  by_list [] is = is
  by_list (e ∷ es) is =
      let first : IsAmong (e ∷ es) e = (0, (omega arith, refl)) in
      let may : enabled S e ≡ true = (listed-exactly S placed e).0 (subst (λ (xs : List Event). IsAmong xs e) (sym is) first) in
      let never : enabled S e ≡ false = over e in
      absurd (cc)
