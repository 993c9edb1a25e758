-- What each actor of a crew did among the acts of all.
use Rattle.std.proofs.Common.{◌≡◌, ◌≢◌, ℕ, zero, suc, ◌+◌, ◌-◌, ◌<◌, ◌≤◌, List, [], ◌∷◌, ◌++◌, length, filter, Option, Some, None, All, slice_get, refl, sym, ap, ◌∙◌, subst, arith}
use Rattle.std.specs.Prelude.{AllPairs}
use Rattle.std.proofs.lemmas.List.{append-nil}
use Rattle.std.proofs.lemmas.List.Elements.{filter-append, All-append, All-cons, All-tail}
use Rattle.std.proofs.lemmas.Option.{slice_get_within, get_or_from_slice_get}
use Rattle.std.proofs.lemmas.Bool.Decides.{nat_tests}
use Rattle.std.specs.declared.cmp.Ordering.TheVariants.{Greater}
use Rattle.message_net.specs.declared.actor.Actor.{Actor}
use Rattle.message_net.specs.Order.{actor_order}
use Rattle.host_workers.specs.Acts.{Act, actor_of, is_act_of}
use Rattle.host_workers.specs.Work.{AreOf, Each, in_one_list}
use Rattle.host_workers.specs.Pass.{InTurn}
use Rattle.host_workers.proofs.Filters.{filter-own, filter-other}

module _ {X : Type 0} where
  abbrev held : X → Option X → X
  held d None = d
  held d (Some z) = z

  abbrev is_none : Option X → Type 0
  is_none None = Unit {0}
  is_none (Some z) = ⊥

  some-same : (x y : X) → Some x ≡ Some y → x ≡ y
  some-same x y e = ap (held x) e

  none-some : (x : X) → None ≡ Some x → ⊥
  none-some x e = subst is_none e tt

  -- a pair of a list: the first and a later one
  pairs-first : (R : X → X → Type 0) (x : X) (xs : List X) → AllPairs R (x ∷ xs) → (i : ℕ) (y : X) → slice_get xs i ≡ Some y → R x y
  pairs-first R x xs pairs i y at = subst (R x) (get_or_from_slice_get xs i y y at) (pairs 0 (suc i) y (omega arith) (omega (arith, slice_get_within xs i y at)))

  pairs-rest : (R : X → X → Type 0) (x : X) (xs : List X) → AllPairs R (x ∷ xs) → AllPairs R xs
  pairs-rest R x xs pairs = λ i j d before within. pairs (suc i) (suc j) d (omega (arith, before)) (omega (arith, within))

  -- numbers that rise, from one on and below another, are few
  pub rising-few : (f : X → ℕ) (xs : List X) (from n : ℕ) → AllPairs (λ a b. f a < f b) xs → All (λ a. from ≤ f a) xs → All (λ a. f a < n) xs → length xs ≤ n - from
  rising-few f [] from n rise above below = omega arith
  rising-few f (x ∷ xs) from n rise above below =
      let first : f x < n = below 0 x (omega arith) in
      let least : from ≤ f x = above 0 x (omega arith) in
      let rest = rising-few f xs (f x + 1) n (pairs-rest (λ a b. f a < f b) x xs rise) (λ k d within. let r = rise 0 (suc k) d (omega arith) (omega (arith, within)) in omega (arith, r)) (All-tail (λ a. f a < n) x xs below) in
      omega (arith, first, least, rest)

  pairs-cons : (R : X → X → Type 0) (x : X) (xs : List X) → All (R x) xs → AllPairs R xs → AllPairs R (x ∷ xs)
  pairs-cons R x xs first rest zero zero d before within = absurd (omega (arith, before))
  pairs-cons R x xs first rest zero (suc j) d before within = first j d (omega (arith, within))
  pairs-cons R x xs first rest (suc i) zero d before within = absurd (omega (arith, before))
  pairs-cons R x xs first rest (suc i) (suc j) d before within = rest i j d (omega (arith, before)) (omega (arith, within))

  pub pairs-append : (R : X → X → Type 0) (xs ys : List X) → AllPairs R xs → AllPairs R ys → All (λ x. All (R x) ys) xs → AllPairs R (xs ++ ys)
  pairs-append R [] ys one two between = two
  pairs-append R (x ∷ xs) ys one two between =
      let first : All (R x) xs = λ j d within. one 0 (suc j) d (omega arith) (omega (arith, within)) in
      pairs-cons R x (xs ++ ys) (All-append (R x) xs ys first (between 0 x (omega arith))) (pairs-append R xs ys (pairs-rest R x xs one) two (All-tail (λ z. All (R z) ys) x xs between))

-- the one actor isn't a later one than the other
abbrev pub IsNoLater : Actor → Actor → Type 0
IsNoLater a b = actor_order a b ≢ Greater

pub no-later : (a : Actor) → IsNoLater a a
no-later a e = absurd (grind (arith, nat_tests))

-- what holds of an actor holds of that of each of its acts
pub own-are : (P : Actor → Type 0) (a : Actor) (acts : List Act) → AreOf a acts → P a → All (λ act. P (actor_of act)) acts
own-are P a [] are has = λ k d within. absurd (omega (arith, within))
own-are P a (act ∷ acts) are has = All-cons (λ act. P (actor_of act)) act acts (subst P (sym are.0) has) (own-are P a acts are.1 has)

own-before : (a : Actor) (acts : List Act) (Q : Act → Type 0) → AreOf a acts → ((act : Act) → actor_of act ≡ a → Q act) → All Q acts
own-before a [] Q are each = λ k d within. absurd (omega (arith, within))
own-before a (act ∷ acts) Q are each = All-cons Q act acts (each act are.0) (own-before a acts Q are.1 each)

-- the acts of one actor are in turn
pub own-in-turn : (a : Actor) (acts : List Act) → AreOf a acts → AllPairs InTurn acts
own-in-turn a [] are = λ i j d before within. absurd (omega (arith, within))
own-in-turn a (act ∷ acts) are =
    pairs-cons InTurn act acts (subst (λ b. All (λ other. IsNoLater b (actor_of other)) acts) (sym are.0) (own-are (IsNoLater a) a acts are.1 (no-later a))) (own-in-turn a acts are.1)

module _ {A : Type 0} (actor : A → Actor) (Does : A → A → List Act → Type 0) (are-of : (a b : A) (acts : List Act) → Does a b acts → AreOf (actor a) acts) where
  -- no act is of an actor that is none of these
  pub none-of : (a : Actor) (olds nows : List A) (parts : List (List Act)) → Each Does olds nows parts → ((i : ℕ) (o : A) → slice_get olds i ≡ Some o → a ≢ actor o) → filter (is_act_of a) (in_one_list parts) ≡ []
  none-of a [] [] [] each differ = refl
  none-of a (o ∷ olds) (n ∷ nows) (part ∷ parts) each differ =
      let here = filter-other a (actor o) part (differ 0 o refl) (are-of o n part each.0) in
      let rest = none-of a olds nows parts each.1 (λ i p at. differ (suc i) p at) in
      filter-append (is_act_of a) part (in_one_list parts) ∙ (rw (here, rest) refl)
  none-of a [] [] (part ∷ parts) each differ = absurd each
  none-of a [] (n ∷ nows) parts each differ = absurd each
  none-of a (o ∷ olds) [] parts each differ = absurd each
  none-of a (o ∷ olds) (n ∷ nows) [] each differ = absurd each

  -- the acts of one of them among all
  pub own-of : (olds nows : List A) (parts : List (List Act)) → Each Does olds nows parts → AllPairs (λ x y. actor x ≢ actor y) olds
      → (i : ℕ) (o n : A) → slice_get olds i ≡ Some o → slice_get nows i ≡ Some n → (own : List Act) × (filter (is_act_of (actor o)) (in_one_list parts) ≡ own) × Does o n own
  own-of [] nows parts each apart i o n at now = absurd (none-some o at)
  own-of (x ∷ olds) [] parts each apart i o n at now = absurd each
  own-of (x ∷ olds) (y ∷ nows) [] each apart i o n at now = absurd each
  own-of (x ∷ olds) (y ∷ nows) (part ∷ parts) each apart zero o n at now =
      let is-o = some-same x o at in
      let is-n = some-same y n now in
      let does : Does o n part = subst (λ a. Does a n part) is-o (subst (λ b. Does x b part) is-n each.0) in
      let mine = filter-own (actor o) part (are-of o n part does) in
      let others = none-of (actor o) olds nows parts each.1 (λ k p there e. pairs-first (λ a b. actor a ≢ actor b) x olds apart k p there (ap actor is-o ∙ e)) in
      (part, filter-append (is_act_of (actor o)) part (in_one_list parts) ∙ (rw (mine, others) (append-nil part)), does)
  own-of (x ∷ olds) (y ∷ nows) (part ∷ parts) each apart (suc i) o n at now =
      let rest = own-of olds nows parts each.1 (pairs-rest (λ a b. actor a ≢ actor b) x olds apart) i o n at now in
      let none = filter-other (actor o) (actor x) part (λ e. pairs-first (λ a b. actor a ≢ actor b) x olds apart i o at (sym e)) (are-of x y part each.0) in
      (rest.0, filter-append (is_act_of (actor o)) part (in_one_list parts) ∙ (rw none rest.1), rest.2)

  -- what holds of each of them holds of the actor of each act
  pub all-are : (P : Actor → Type 0) (olds nows : List A) (parts : List (List Act)) → Each Does olds nows parts → ((i : ℕ) (o : A) → slice_get olds i ≡ Some o → P (actor o)) → All (λ act. P (actor_of act)) (in_one_list parts)
  all-are P [] [] [] each has = λ k d within. absurd (omega (arith, within))
  all-are P (o ∷ olds) (n ∷ nows) (part ∷ parts) each has =
      All-append (λ act. P (actor_of act)) part (in_one_list parts) (own-are P (actor o) part (are-of o n part each.0) (has 0 o refl)) (all-are P olds nows parts each.1 (λ i p at. has (suc i) p at))
  all-are P [] [] (part ∷ parts) each has = absurd each
  all-are P [] (n ∷ nows) parts each has = absurd each
  all-are P (o ∷ olds) [] parts each has = absurd each
  all-are P (o ∷ olds) (n ∷ nows) [] each has = absurd each

  -- where their order is that of their actors, so is that of all acts
  pub in-turn : (olds nows : List A) (parts : List (List Act)) → Each Does olds nows parts → AllPairs (λ x y. IsNoLater (actor x) (actor y)) olds → AllPairs InTurn (in_one_list parts)
  in-turn [] [] [] each order = λ i j d before within. absurd (omega (arith, within))
  in-turn (o ∷ olds) (n ∷ nows) (part ∷ parts) each order =
      let own = are-of o n part each.0 in
      let later = λ (act : Act) (is : actor_of act ≡ actor o). all-are (λ b. IsNoLater (actor_of act) b) olds nows parts each.1 (λ i p at. subst (λ a. IsNoLater a (actor p)) (sym is) (pairs-first (λ x y. IsNoLater (actor x) (actor y)) o olds order i p at)) in
      pairs-append InTurn part (in_one_list parts) (own-in-turn (actor o) part own) (in-turn olds nows parts each.1 (pairs-rest (λ x y. IsNoLater (actor x) (actor y)) o olds order)) (own-before (actor o) part (λ act. All (InTurn act) (in_one_list parts)) own later)
  in-turn [] [] (part ∷ parts) each order = absurd each
  in-turn [] (n ∷ nows) parts each order = absurd each
  in-turn (o ∷ olds) [] parts each order = absurd each
  in-turn (o ∷ olds) (n ∷ nows) [] each order = absurd each
