-- What every change of a cache keeps, when its sets have room, and which words stand in the way.
use Rattle.std.proofs.Common.{◌≡◌, ◌≢◌, ℕ, ◌+◌, ◌%◌, ◌<◌, ◌≤◌, ◌==◌, ◌||◌, Bool, true, false, not, cond, nat_lt, List, [], ◌∷◌, Option, Some, None, refl, arith, ap, sym, ◌∙◌, zero, suc}
use Rattle.std.specs.Prelude.{slice_get}
use Rattle.std.specs.List.{find}
use Rattle.std.specs.Option.{is_some, option_map}
use Rattle.std.proofs.lemmas.Bool.{and_parts}
use Rattle.std.proofs.lemmas.Bool.Decides.{nat_tests}
use Rattle.dn_base.specs.declared.ids.WordId.{WordId}
use Rattle.region_table.specs.declared.interval.Interval.{Interval}
use Rattle.write_signature.specs.declared.signature.Signature.{Signature}
use Rattle.word_cache.specs.declared.row.Entry.{Entry}
use Rattle.word_cache.specs.Cache.{Pair, Cache, with_pairs, IsCache, lookup, without, put, changed, touched, shares_set, set_count, has_room, is_evictable, may_go, is_stuck, gives_way, victim_of, dropped_written, dropped_signed}
use Rattle.word_cache.proofs.LookLemmas.{lookup-pair, pair-of}
use Rattle.word_cache.proofs.DifferLemmas.{different-put, different-changed, different-touched, different-without, different-dropped_written, different-dropped_signed}
use Rattle.word_cache.proofs.WeightLemmas.{set_count-put_old, set_count-put_new, set_count-without, set_count-fewer, set_count-changed, set_count-touched, set_count-dropped_written, set_count-dropped_signed, bit, count-some}

-- a cache without pairs
pub cache-empty : (sets ways : ℕ) → IsCache (record { sets = sets; ways = ways; pairs = [] })
cache-empty sets ways = record { apart = tt; within = λ w. omega arith }

-- a set has as many pairs whichever of its words is named
same_set : (sets v w : ℕ) (ps : List Pair) → v % sets ≡ w % sets → set_count sets v ps ≡ set_count sets w ps
same_set sets v w ps e = rw e refl

put-within : (c : Cache) (word : WordId) (e : Entry) (v : ℕ) (o : Option Entry) → IsCache c → lookup word.0 c.pairs ≡ o → (is_some o || has_room c word.0) ≡ true → set_count c.sets v (put word e c.pairs) ≤ c.ways
put-within c word e v (Some old) good is room =
    omega (arith, good.within v, set_count-put_old c.sets v word e old c.pairs good.apart is)
put-within c word e v None good is room = by_test (word.0 % c.sets == v % c.sets) refl (set_count-put_new c.sets v word e c.pairs good.apart is) where
  below : set_count c.sets word.0 c.pairs < c.ways
  below = grind (arith, nat_tests, room)

  by_test : (t : Bool) → (word.0 % c.sets == v % c.sets) ≡ t → set_count c.sets v (put word e c.pairs) ≡ set_count c.sets v c.pairs + cond t 1 0 → set_count c.sets v (put word e c.pairs) ≤ c.ways
  by_test true a more =
      let same : word.0 % c.sets ≡ v % c.sets = grind (arith, nat_tests) in
      omega (arith, more, below, same_set c.sets word.0 v c.pairs same)
  by_test false a more = omega (arith, more, good.within v)

pub cache-put : (c : Cache) (word : WordId) (e : Entry) → IsCache c → (is_some (lookup word.0 c.pairs) || has_room c word.0) ≡ true → IsCache (with_pairs c (put word e c.pairs))
cache-put c word e good room =
    record {
      apart = different-put word e c.pairs good.apart;
      within = λ v. put-within c word e v (lookup word.0 c.pairs) good refl room;
    }

pub cache-changed : (c : Cache) (w : ℕ) (e : Entry) → IsCache c → IsCache (with_pairs c (changed w e c.pairs))
cache-changed c w e good =
    record {
      apart = different-changed w e c.pairs good.apart;
      within = λ v. omega (arith, good.within v, set_count-changed c.sets v w e c.pairs);
    }

pub cache-touched : (c : Cache) (word : WordId) → IsCache c → IsCache (with_pairs c (touched word c.pairs))
cache-touched c word good =
    record {
      apart = different-touched word c.pairs good.apart;
      within = λ v. omega (arith, good.within v, set_count-touched c.sets v word c.pairs good.apart);
    }

pub cache-without : (c : Cache) (w : ℕ) → IsCache c → IsCache (with_pairs c (without w c.pairs))
cache-without c w good =
    record {
      apart = different-without w c.pairs good.apart;
      within = λ v. omega (arith, good.within v, set_count-fewer c.sets v w c.pairs);
    }

pub cache-dropped_written : (c : Cache) (words : List Interval) → IsCache c → IsCache (with_pairs c (dropped_written words c.pairs))
cache-dropped_written c words good =
    record {
      apart = different-dropped_written words c.pairs good.apart;
      within = λ v. omega (arith, good.within v, set_count-dropped_written c.sets v words c.pairs);
    }

pub cache-dropped_signed : (c : Cache) (s : Signature) (phase : ℕ) (words : List Interval) → IsCache c → IsCache (with_pairs c (dropped_signed s phase words c.pairs))
cache-dropped_signed c s phase words good =
    record {
      apart = different-dropped_signed s phase words c.pairs good.apart;
      within = λ v. omega (arith, good.within v, set_count-dropped_signed c.sets v s phase words c.pairs);
    }

-- room: as before where a word that has a pair is used or changed, and no less where pairs go
pub room-put : (c : Cache) (word : WordId) (e old : Entry) (w : ℕ) → IsCache c → lookup word.0 c.pairs ≡ Some old → has_room (with_pairs c (put word e c.pairs)) w ≡ has_room c w
room-put c word e old w good is =
    ap (λ (n : ℕ). nat_lt n c.ways) (set_count-put_old c.sets w word e old c.pairs good.apart is)

pub room-put_elsewhere : (c : Cache) (word : WordId) (e : Entry) (w : ℕ) → IsCache c → lookup word.0 c.pairs ≡ None → word.0 % c.sets ≢ w % c.sets → has_room (with_pairs c (put word e c.pairs)) w ≡ has_room c w
room-put_elsewhere c word e w good is other =
    let apart : (word.0 % c.sets == w % c.sets) ≡ false = grind (arith, nat_tests) in
    let weighs : bit (word.0 % c.sets == w % c.sets) ≡ 0 = rw apart refl in
    ap (λ (n : ℕ). nat_lt n c.ways) (omega (arith, weighs, set_count-put_new c.sets w word e c.pairs good.apart is))

pub room-changed : (c : Cache) (v : ℕ) (e : Entry) (w : ℕ) → has_room (with_pairs c (changed v e c.pairs)) w ≡ has_room c w
room-changed c v e w = ap (λ (n : ℕ). nat_lt n c.ways) (set_count-changed c.sets w v e c.pairs)

pub room-touched : (c : Cache) (word : WordId) (w : ℕ) → IsCache c → has_room (with_pairs c (touched word c.pairs)) w ≡ has_room c w
room-touched c word w good =
    ap (λ (n : ℕ). nat_lt n c.ways) (set_count-touched c.sets w word c.pairs good.apart)

fewer-pairs : (m n ways : ℕ) → m ≤ n → nat_lt n ways ≡ true → nat_lt m ways ≡ true
fewer-pairs m n ways most room = grind (arith, nat_tests)

pub room-without : (c : Cache) (v w : ℕ) → has_room c w ≡ true → has_room (with_pairs c (without v c.pairs)) w ≡ true
room-without c v w room =
    fewer-pairs (set_count c.sets w (without v c.pairs)) (set_count c.sets w c.pairs) c.ways (set_count-fewer c.sets w v c.pairs) room

pub room-dropped_written : (c : Cache) (words : List Interval) (w : ℕ) → has_room c w ≡ true → has_room (with_pairs c (dropped_written words c.pairs)) w ≡ true
room-dropped_written c words w room =
    fewer-pairs (set_count c.sets w (dropped_written words c.pairs)) (set_count c.sets w c.pairs) c.ways (set_count-dropped_written c.sets w words c.pairs) room

pub room-dropped_signed : (c : Cache) (s : Signature) (phase : ℕ) (words : List Interval) (w : ℕ) → has_room c w ≡ true → has_room (with_pairs c (dropped_signed s phase words c.pairs)) w ≡ true
room-dropped_signed c s phase words w room =
    fewer-pairs (set_count c.sets w (dropped_signed s phase words c.pairs)) (set_count c.sets w c.pairs) c.ways (set_count-dropped_signed c.sets w s phase words c.pairs) room

-- a word that goes makes room in its set
pub room-made : (c : Cache) (v w : ℕ) (old : Entry) → IsCache c → lookup v c.pairs ≡ Some old → v % c.sets ≡ w % c.sets → has_room (with_pairs c (without v c.pairs)) w ≡ true
room-made c v w old good is same =
    let here : (v % c.sets == w % c.sets) ≡ true = grind (arith, nat_tests) in
    let weighs : bit (v % c.sets == w % c.sets) ≡ 1 = rw here refl in
    let less : set_count c.sets w (without v c.pairs) < c.ways = omega (arith, weighs, good.within w, set_count-without c.sets w v old c.pairs good.apart is) in
    grind (arith, nat_tests, less)

-- what is found passes, and what isn't found doesn't
found-passes : (f : Pair → Bool) (ps : List Pair) (p : Pair) → find f ps ≡ Some p → (i : ℕ) × (slice_get ps i ≡ Some p) × (f p ≡ true)
found-passes f [] p e = absurd (cc)
found-passes f (q ∷ qs) p e = by_test (f q) refl e (found-passes f qs p) where
  by_test : (b : Bool) → f q ≡ b → cond b (Some q) (find f qs) ≡ Some p → (find f qs ≡ Some p → (i : ℕ) × (slice_get qs i ≡ Some p) × (f p ≡ true)) → (i : ℕ) × (slice_get (q ∷ qs) i ≡ Some p) × (f p ≡ true)
  by_test true here e rest = let same : q ≡ p = cc in (0, e, ap f (sym same) ∙ here)
  by_test false here e rest = let found = rest e in (suc found.0, found.1, found.2)

none-passes : (f : Pair → Bool) (ps : List Pair) (i : ℕ) (p : Pair) → find f ps ≡ None → slice_get ps i ≡ Some p → f p ≡ false
none-passes f [] i p none is = absurd (cc)
none-passes f (q ∷ qs) zero p none is =
    let same : q ≡ p = cc in
    ap f (sym same) ∙ by_test (f q) none where
      by_test : (b : Bool) → cond b (Some q) (find f qs) ≡ None → b ≡ false
      by_test true none = absurd (cc)
      by_test false none = refl
none-passes f (q ∷ qs) (suc i) p none is = none-passes f qs i p (by_test (f q) none) is where
  by_test : (b : Bool) → cond b (Some q) (find f qs) ≡ None → find f qs ≡ None
  by_test true none = absurd (cc)
  by_test false none = none

-- a victim may be evicted, and is of the set that needs room
pub victim-goes : (c : Cache) (w : ℕ) (v : WordId) → IsCache c → victim_of c w ≡ Some v → (may_go (lookup v.0 c.pairs) ≡ true) × (v.0 % c.sets ≡ w % c.sets)
victim-goes c w v good is = by_find (find (gives_way c.sets w) c.pairs) refl is where
  by_find : (o : Option Pair) → find (gives_way c.sets w) c.pairs ≡ o → option_map (λ (p : Pair). p.0) o ≡ Some v → (may_go (lookup v.0 c.pairs) ≡ true) × (v.0 % c.sets ≡ w % c.sets)
  by_find None found is = absurd (cc)
  by_find (Some p) found is =
      let word : p.0 ≡ v = cc in
      let there = found-passes (gives_way c.sets w) c.pairs p found in
      let parts = and_parts (shares_set c.sets w p) (is_evictable p.1) there.2 in
      let entry : lookup p.0.0 c.pairs ≡ Some p.1 = lookup-pair c.pairs there.0 p good.apart there.1 in
      let goes : may_go (lookup p.0.0 c.pairs) ≡ true = rw entry parts.1 in
      let same : p.0.0 % c.sets ≡ w % c.sets = grind (arith, nat_tests, parts.0) in
      rw (← word) (goes, same)

none_found : (o : Option Pair) → option_map (λ (p : Pair). p.0) o ≡ None → o ≡ None
none_found None is = refl
none_found (Some p) is = absurd (cc)

-- where there is no victim, no word of the set may be evicted
pub victim-none : (c : Cache) (w v : ℕ) → victim_of c w ≡ None → v % c.sets ≡ w % c.sets → may_go (lookup v c.pairs) ≡ false
victim-none c w v none same = by_entry (lookup v c.pairs) refl where
  by_entry : (o : Option Entry) → lookup v c.pairs ≡ o → may_go o ≡ false
  by_entry None is = refl
  by_entry (Some e) is =
      let there = pair-of v e c.pairs is in
      let stays = none-passes (gives_way c.sets w) c.pairs there.0 (record { 0 = v }, e) (none_found (find (gives_way c.sets w) c.pairs) none) there.1 in
      let here : (v % c.sets == w % c.sets) ≡ true = grind (arith, nat_tests) in
      rw here at stays

-- a word of a set whose entry may not be evicted
pub record IsBlocked (c : Cache) (w : ℕ) : Type 0 where
  pub word : ℕ
  pub shares : word % c.sets ≡ w % c.sets
  pub stuck : is_stuck (lookup word c.pairs) ≡ true

-- where a set is full and there is no victim, a word of it is pending or leaving
pub full-blocked : (c : Cache) (w : ℕ) → IsCache c → 0 < c.ways → has_room c w ≡ false → victim_of c w ≡ None → IsBlocked c w
full-blocked c w good some full none =
    let filled : 0 < set_count c.sets w c.pairs = grind (arith, nat_tests, some, full) in
    let found = count-some (shares_set c.sets w) c.pairs filled in
    let entry = lookup-pair c.pairs found.place found.pair good.apart found.there in
    let same : found.pair.0.0 % c.sets ≡ w % c.sets = grind (arith, nat_tests, found.counts) in
    let stays : may_go (lookup found.pair.0.0 c.pairs) ≡ false = victim-none c w found.pair.0.0 none same in
    let kept : is_evictable found.pair.1 ≡ false = rw entry at stays in
    record { word = found.pair.0.0; shares = same; stuck = rw entry (ap not kept) }
