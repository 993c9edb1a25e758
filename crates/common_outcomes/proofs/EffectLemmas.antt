-- What sections do to a word doesn't depend on their order, and a word is as the effects of the sections that have ended say.
use Rattle.std.proofs.Common.{◌≡◌, ℕ, ◌+◌, ◌%◌, ◌^◌, Bool, true, false, ◌==◌, refl, sym, ap, ◌∙◌, subst, arith}
use Rattle.std.proofs.lemmas.Bool.Decides.{nat_tests}
use Rattle.std.proofs.lemmas.Bool.{eqb-true}
use Rattle.dn_base.specs.declared.ids.WordId.{WordId}
use Rattle.common_outcomes.specs.declared.value.Kind.{Kind}
use Rattle.common_outcomes.specs.declared.value.Kind.TheVariants.{Known, Offset, Varying}
use Rattle.common_outcomes.specs.declared.value.Value.{Value}
use Rattle.common_outcomes.specs.declared.value.Effect.{Effect}
use Rattle.common_outcomes.specs.declared.value.Effect.TheVariants.{Kept, Added, Set, Other}
use Rattle.common_outcomes.specs.Values.{effect_by, both_set, joined_effect, plus, applied}
use Rattle.common_outcomes.specs.Agreeing.{IsBetween, DenotesBy, Denotes, IsOfWord}

pub sum-assoc : (a b c : ℕ) → ((a + b) % 2 ^ 32 + c) % 2 ^ 32 ≡ (a + (b + c) % 2 ^ 32) % 2 ^ 32
sum-assoc a b c = omega arith

sum-comm : (a b : ℕ) → (a + b) % 2 ^ 32 ≡ (b + a) % 2 ^ 32
sum-comm a b = omega arith

-- both orders
set-comm : (a b : ℕ) (x : Bool) → (a == b) ≡ x → both_set (a == b) a ≡ both_set (b == a) b
set-comm a b true e =
    let same : a ≡ b = eqb-true a b e in
    subst (λ (c : ℕ). both_set (a == c) a ≡ both_set (c == a) c) same refl
set-comm a b false e =
    let other : (b == a) ≡ false = grind (arith, nat_tests) in
    rw (e, other) refl

pub joined-comm : (a b : Effect) → joined_effect a b ≡ joined_effect b a
joined-comm Kept Kept = refl
joined-comm Kept (Added b) = refl
joined-comm Kept (Set b) = refl
joined-comm Kept Other = refl
joined-comm (Added a) Kept = refl
joined-comm (Added a) (Added b) = ap Added (sum-comm a b)
joined-comm (Added a) (Set b) = refl
joined-comm (Added a) Other = refl
joined-comm (Set a) Kept = refl
joined-comm (Set a) (Added b) = refl
joined-comm (Set a) (Set b) = set-comm a b (a == b) refl
joined-comm (Set a) Other = refl
joined-comm Other Kept = refl
joined-comm Other (Added b) = refl
joined-comm Other (Set b) = refl
joined-comm Other Other = refl

set-then : (x : Bool) (a : ℕ) (e : Effect) → (e ≡ Other) → joined_effect (both_set x a) e ≡ Other
set-then true a e is = subst (λ (y : Effect). joined_effect (Set a) y ≡ Other) (sym is) refl
set-then false a e is = subst (λ (y : Effect). joined_effect Other y ≡ Other) (sym is) refl

set-added : (x : Bool) (a c : ℕ) → joined_effect (both_set x a) (Added c) ≡ Other
set-added true a c = refl
set-added false a c = refl

set-other : (x : Bool) (a : ℕ) → joined_effect (both_set x a) Other ≡ Other
set-other true a = refl
set-other false a = refl

added-set : (x : Bool) (a c : ℕ) → joined_effect (Added a) (both_set x c) ≡ Other
added-set true a c = refl
added-set false a c = refl

other-set : (x : Bool) (c : ℕ) → joined_effect Other (both_set x c) ≡ Other
other-set true c = refl
other-set false c = refl

set-assoc : (a b c : ℕ) (x y : Bool) → (a == b) ≡ x → (b == c) ≡ y → joined_effect (both_set (a == b) a) (Set c) ≡ joined_effect (Set a) (both_set (b == c) b)
set-assoc a b c true true e f =
    let same : a ≡ b = eqb-true a b e in
    let last : (a == c) ≡ true = subst (λ (z : ℕ). (z == c) ≡ true) (sym same) f in
    rw (e, f) (ap (λ (x : Bool). both_set x a) last ∙ sym (ap (λ (x : Bool). both_set x a) e))
set-assoc a b c true false e f =
    let same : a ≡ b = eqb-true a b e in
    let last : (a == c) ≡ false = subst (λ (z : ℕ). (z == c) ≡ false) (sym same) f in
    rw (e, f) (ap (λ (x : Bool). both_set x a) last)
set-assoc a b c false true e f = rw (e, f) (sym (ap (λ (x : Bool). both_set x a) e))
set-assoc a b c false false e f = rw (e, f) refl

pub joined-assoc : (a b c : Effect) → joined_effect (joined_effect a b) c ≡ joined_effect a (joined_effect b c)
joined-assoc Kept b c = refl
joined-assoc (Added a) Kept c = refl
joined-assoc (Added a) (Added b) Kept = refl
joined-assoc (Added a) (Added b) (Added c) = ap Added (sum-assoc a b c)
joined-assoc (Added a) (Added b) (Set c) = refl
joined-assoc (Added a) (Added b) Other = refl
joined-assoc (Added a) (Set b) Kept = refl
joined-assoc (Added a) (Set b) (Added c) = refl
joined-assoc (Added a) (Set b) (Set c) = sym (added-set (b == c) a b)
joined-assoc (Added a) (Set b) Other = refl
joined-assoc (Added a) Other Kept = refl
joined-assoc (Added a) Other (Added c) = refl
joined-assoc (Added a) Other (Set c) = refl
joined-assoc (Added a) Other Other = refl
joined-assoc (Set a) Kept c = refl
joined-assoc (Set a) (Added b) Kept = refl
joined-assoc (Set a) (Added b) (Added c) = refl
joined-assoc (Set a) (Added b) (Set c) = refl
joined-assoc (Set a) (Added b) Other = refl
joined-assoc (Set a) (Set b) Kept = joined-comm (both_set (a == b) a) Kept
joined-assoc (Set a) (Set b) (Added c) = set-added (a == b) a c
joined-assoc (Set a) (Set b) (Set c) = set-assoc a b c (a == b) (b == c) refl refl
joined-assoc (Set a) (Set b) Other = set-other (a == b) a
joined-assoc (Set a) Other Kept = refl
joined-assoc (Set a) Other (Added c) = refl
joined-assoc (Set a) Other (Set c) = refl
joined-assoc (Set a) Other Other = refl
joined-assoc Other Kept c = refl
joined-assoc Other (Added b) Kept = refl
joined-assoc Other (Added b) (Added c) = refl
joined-assoc Other (Added b) (Set c) = refl
joined-assoc Other (Added b) Other = refl
joined-assoc Other (Set b) Kept = refl
joined-assoc Other (Set b) (Added c) = refl
joined-assoc Other (Set b) (Set c) = sym (other-set (b == c) b)
joined-assoc Other (Set b) Other = refl
joined-assoc Other Other Kept = refl
joined-assoc Other Other (Added c) = refl
joined-assoc Other Other (Set c) = refl
joined-assoc Other Other Other = refl

-- the effect of one more section of one among several tasks, beside what the others did
pub joined-inner : (e x rest : Effect) → joined_effect (joined_effect e x) rest ≡ joined_effect (joined_effect e rest) x
joined-inner e x rest = joined-assoc e x rest ∙ ap (joined_effect e) (joined-comm x rest) ∙ sym (joined-assoc e rest x)

-- ---- the end of a section

-- a value of memory: known and true, or varying
settled-plus : (k : Kind) (a b n m : ℕ) (base : ℕ → ℕ) → DenotesBy k a base b → IsBetween k → m ≡ (b + n) % 2 ^ 32 → Denotes (plus k a n) base m
settled-plus Known a b n m base h i e = e ∙ ap (λ (x : ℕ). (x + n) % 2 ^ 32) h
settled-plus (Offset w) a b n m base h i e = tt
settled-plus Varying a b n m base h i e = tt

-- after the sections so far, a word held b as their effects say; a section in which it was left as the value v says leaves m as
-- the effects with this section's say
pub section-ends : (e : Effect) (f v : Value) (w b m : ℕ) (base ended : ℕ → ℕ) → IsBetween f.kind → base w ≡ b → Denotes (applied e f) ended b → IsOfWord w v.kind → Denotes v base m
    → Denotes (applied (joined_effect e (effect_by v.kind v.number)) f) ended m
section-ends e f v w b m base ended i at' h own s = by_kind v.kind e own s h
  where
    added : (u : WordId) → u.0 ≡ w → m ≡ (base u.0 + v.number) % 2 ^ 32 → m ≡ (b + v.number) % 2 ^ 32
    added u own s = s ∙ ap (λ (x : ℕ). (base x + v.number) % 2 ^ 32) own ∙ ap (λ (x : ℕ). (x + v.number) % 2 ^ 32) at'

    set_again : (n : ℕ) (x : Bool) → (n == v.number) ≡ x → m ≡ v.number → Denotes (applied (both_set x n) f) ended m
    set_again n true e s = s ∙ sym (eqb-true n v.number e)
    set_again n false e s = tt

    added_again : (k : Kind) (a n : ℕ) → Denotes (plus k a n) ended b → m ≡ (b + v.number) % 2 ^ 32 → Denotes (plus k a ((n + v.number) % 2 ^ 32)) ended m
    added_again Known a n h s = s ∙ ap (λ (x : ℕ). (x + v.number) % 2 ^ 32) h ∙ sum-assoc a n v.number
    added_again (Offset u) a n h s = tt
    added_again Varying a n h s = tt

    by_kind : (k : Kind) (e : Effect) → IsOfWord w k → DenotesBy k v.number base m → Denotes (applied e f) ended b → Denotes (applied (joined_effect e (effect_by k v.number)) f) ended m
    by_kind Known Kept own s h = s
    by_kind Known (Added n) own s h = tt
    by_kind Known (Set n) own s h = set_again n (n == v.number) refl s
    by_kind Known Other own s h = tt
    by_kind (Offset u) Kept own s h = settled-plus f.kind f.number b v.number m ended h i (added u own s)
    by_kind (Offset u) (Added n) own s h = added_again f.kind f.number n h (added u own s)
    by_kind (Offset u) (Set n) own s h = tt
    by_kind (Offset u) Other own s h = tt
    by_kind Varying Kept own s h = tt
    by_kind Varying (Added n) own s h = tt
    by_kind Varying (Set n) own s h = tt
    by_kind Varying Other own s h = tt
