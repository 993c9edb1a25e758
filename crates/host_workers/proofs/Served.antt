-- The turn of a core, and the turns of several actors one after the other.
use Rattle.std.proofs.Common.{◌≡◌, ℕ, suc, ◌+◌, ◌-◌, ◌<◌, ◌≤◌, Bool, true, false, List, [], ◌∷◌, ◌++◌, length, map, take, drop, set, get_or, filter_map, Option, Some, None, All, refl, sym, ap, ◌∙◌, subst, arith}
use Rattle.std.proofs.lemmas.List.{append-nil, take_more, take_more_set, take-append-drop, drop_more, set_split, same_lists, length-drop, get_or-drop}
use Rattle.std.proofs.lemmas.List.Concat.{flat_map-append}
use Rattle.dn_base.specs.declared.ids.CoreId.{CoreId}
use Rattle.message_net.specs.declared.actor.Actor.TheVariants.{Core}
use Rattle.message_net.specs.declared.event.Event.{Event}
use Rattle.registration_protocol.specs.Node.{Setting}
use Rattle.registration_protocol.specs.OwnEvents.{own_event}
use Rattle.grant_log.specs.declared.posted.Posted.{Posted}
use Rattle.bank_hall.specs.Halls.{PassView, pass_number}
use Rattle.host_workers.specs.Acts.{Act, Took, core_step, taken_step}
use Rattle.host_workers.specs.Steps.{Done}
use Rattle.grant_log.specs.Stamps.{has_numbers_left}
use Rattle.host_workers.specs.Passes.{Held, own_acts, taken_steps}
use Rattle.host_workers.specs.Deeds.{HasMoved, own_steps}
use Rattle.host_workers.specs.Work.{HasActed, HasTaken, HasMadeOwn, HasStopped, AreOf, IsTurn, HasDoneActs, HaveDone, HasDonePartly, HaveDonePartly, Each, in_one_list}
use Rattle.host_workers.proofs.Calls.{acted-none, acted-both, stopped-after}
use Rattle.host_workers.proofs.Moves.{moved-both}

pub own-are : (core : CoreId) (goes : Bool) (e : Option Event) (done : Done) → AreOf (Core core) (own_acts core goes e done)
own-are core true (Some e) done = (refl, tt)
own-are core true None done = tt
own-are core false (Some e) done = tt
own-are core false None done = tt

pub turn-are : (core : CoreId) (pick : ℕ) (taken : Option (Posted × Done)) (goes : Bool) (e : Option Event) (done : Done) → AreOf (Core core) (Took core pick taken ∷ own_acts core goes e done)
turn-are core pick taken goes e done = (refl, own-are core goes e done)

own-steps : (core : CoreId) (goes : Bool) (e : Option Event) (done : Done) → filter_map core_step (own_acts core goes e done) ≡ own_steps goes e done
own-steps core true (Some e) done = refl
own-steps core true None done = refl
own-steps core false (Some e) done = refl
own-steps core false None done = refl

pub turn-steps : (core : CoreId) (pick : ℕ) (taken : Option (Posted × Done)) (goes : Bool) (e : Option Event) (done : Done)
    → filter_map core_step (Took core pick taken ∷ own_acts core goes e done) ≡ taken_steps taken ++ own_steps goes e done
turn-steps core pick None goes e done = own-steps core goes e done
turn-steps core pick (Some t) goes e done = ap (λ l. taken_step t ∷ l) (own-steps core goes e done)

-- the acts of a turn
abbrev pub turn_acts : (C : Setting) (core : CoreId) (pick : ℕ) → Option (Posted × Done) → Held → Done → List Act
turn_acts C core pick taken mid done = Took core pick taken ∷ own_acts core (has_numbers_left mid.clock mid.next) (own_event C mid.node) done

pub turn-acted : (C : Setting) (core : CoreId) (pick : ℕ) (a b c : PassView) (had mid has : Held) (m n : ℕ) → (t : HasTaken C core pick a b had mid m) → pass_number b ≡ pass_number a
    → (o : HasMadeOwn C core b c mid has n) → HasActed C a c (turn_acts C core pick t.taken mid o.done) (m + n)
turn-acted C core pick a b c had mid has m n t same o = acted-both C a b c (Took core pick t.taken ∷ []) (own_acts core (has_numbers_left mid.clock mid.next) (own_event C mid.node) o.done) m n t.acted same o.acted

pub turn-moved : (C : Setting) (core : CoreId) (pick : ℕ) (a b c : PassView) (had mid has : Held) (m n : ℕ) → (t : HasTaken C core pick a b had mid m)
    → (o : HasMadeOwn C core b c mid has n) → HasMoved C core (filter_map core_step (turn_acts C core pick t.taken mid o.done)) had has
turn-moved C core pick a b c had mid has m n t o =
    subst (λ steps. HasMoved C core steps had has) (sym (turn-steps core pick t.taken (has_numbers_left mid.clock mid.next) (own_event C mid.node) o.done))
    (moved-both C core (taken_steps t.taken) (own_steps (has_numbers_left mid.clock mid.next) (own_event C mid.node) o.done) had mid has t.moved o.moved)

pub turn-is : (C : Setting) (core : CoreId) (pick : ℕ) (a b c : PassView) (had mid has : Held) (m n : ℕ) → (t : HasTaken C core pick a b had mid m)
    → (o : HasMadeOwn C core b c mid has n) → IsTurn C core had (turn_acts C core pick t.taken mid o.done)
turn-is C core pick a b c had mid has m n t o = record { pick = pick; taken = t.taken; done = o.done; between = mid; handled = t.moved; acts_are = refl }

-- no acts, for each of several
abbrev pub no_acts : {A : Type 0} → List A → List (List Act)
no_acts xs = map (λ x. []) xs

pub joined-none : {A : Type 0} (xs : List A) → in_one_list (no_acts xs) ≡ []
joined-none [] = refl
joined-none (x ∷ xs) = joined-none xs

module _ {A : Type 0} (Does : A → A → List Act → Type 0) where
  each-both : (xs ys : List A) (parts : List (List Act)) (more others : List A) (rest : List (List Act)) → Each Does xs ys parts → Each Does more others rest → Each Does (xs ++ more) (ys ++ others) (parts ++ rest)
  each-both [] [] [] more others rest each two = two
  each-both (x ∷ xs) (y ∷ ys) (part ∷ parts) more others rest each two = (each.0, each-both xs ys parts more others rest each.1 two)
  each-both [] [] (part ∷ parts) more others rest each two = absurd each
  each-both [] (y ∷ ys) parts more others rest each two = absurd each
  each-both (x ∷ xs) [] parts more others rest each two = absurd each
  each-both (x ∷ xs) (y ∷ ys) [] more others rest each two = absurd each

  -- nothing was done to any of them
  pub each-still : (xs : List A) → All (λ x. Does x x []) xs → Each Does xs xs (no_acts xs)
  each-still [] all = tt
  each-still (x ∷ xs) all = (all 0 x (omega arith), each-still xs (λ k d within. all (suc k) d (omega (arith, within))))

  pub done-none : (C : Setting) (p : PassView) → HaveDone Does C p p [] [] 0
  done-none C p = record { parts = []; acted = acted-none C p; each = tt }

  -- one more was done behind the others
  done-more : (C : Setting) (p q r : PassView) (xs ys : List A) (a b : A) (m n : ℕ) → HaveDone Does C p q xs ys m → pass_number q ≡ pass_number p → HasDoneActs Does C q r a b n
      → HaveDone Does C p r (xs ++ a ∷ []) (ys ++ b ∷ []) (m + n)
  done-more C p q r xs ys a b m n had same one = record {
    parts = had.parts ++ one.acts ∷ [];
    acted = subst (λ acts. HasActed C p r acts (m + n)) (sym (flat_map-append (λ (acts : List Act). acts) had.parts (one.acts ∷ []) ∙ ap (λ l. in_one_list had.parts ++ l) (append-nil one.acts))) (acted-both C p q r (in_one_list had.parts) one.acts m n had.acted same one.acted);
    each = each-both xs ys had.parts (a ∷ []) (b ∷ []) (one.acts ∷ []) had.each (one.does, tt);
  }

  -- the next one of two lists, of which the second changes in place
  pub done-next : (C : Setting) (p q r : PassView) (olds nows : List A) (place : ℕ) (b : A) (m n : ℕ) → HaveDone Does C p q (take place olds) (take place nows) m → pass_number q ≡ pass_number p
      → place < length olds → length nows ≡ length olds → (d : A) → HasDoneActs Does C q r (get_or olds place d) b n
      → HaveDone Does C p r (take (place + 1) olds) (take (place + 1) (set nows place b)) (m + n)
  done-next C p q r olds nows place b m n had same within long d one =
      subst (λ l. HaveDone Does C p r l (take (place + 1) (set nows place b)) (m + n)) (sym (take_more olds place d within))
      (subst (λ l. HaveDone Does C p r (take place olds ++ get_or olds place d ∷ []) l (m + n)) (sym (take_more_set nows place b (omega (arith, within, long))))
      (done-more C p q r (take place olds) (take place nows) (get_or olds place d) b m n had same one))

module _ {A : Type 0} (Does Part : A → A → List Act → Type 0) (weaker : (x y : A) (acts : List Act) → Does x y acts → Part x y acts) where
  pub each-weaker : (xs ys : List A) (parts : List (List Act)) → Each Does xs ys parts → Each Part xs ys parts
  each-weaker [] [] [] each = tt
  each-weaker (x ∷ xs) (y ∷ ys) (part ∷ parts) each = (weaker x y part each.0, each-weaker xs ys parts each.1)
  each-weaker [] [] (part ∷ parts) each = absurd each
  each-weaker [] (y ∷ ys) parts each = absurd each
  each-weaker (x ∷ xs) [] parts each = absurd each
  each-weaker (x ∷ xs) (y ∷ ys) [] each = absurd each

  -- the next one of two lists was done in part, and nothing was done to those behind it
  pub partly-next : (C : Setting) (p q r : PassView) (olds nows : List A) (place : ℕ) (b : A) (m : ℕ) → HaveDone Does C p q (take place olds) (take place nows) m → pass_number q ≡ pass_number p
      → place < length olds → length nows ≡ length olds → ((i : ℕ) (d : A) → place ≤ i → get_or nows i d ≡ get_or olds i d) → All (λ x. Part x x []) olds
      → (d : A) → HasDonePartly Part C q r (get_or olds place d) b → HaveDonePartly Part C p r olds (set nows place b)
  partly-next C p q r olds nows place b m had same within long later still d one =
      let rest = drop (place + 1) olds in
      let on : suc place ≡ place + 1 = omega arith in
      let behind : drop (suc place) nows ≡ rest = ap (λ n. drop n nows) on
      ∙ same_lists (drop (place + 1) nows) rest (length-drop (place + 1) nows ∙ (ap (λ n. n - (place + 1)) long ∙ sym (length-drop (place + 1) olds)))
      (λ k x below. get_or-drop (place + 1) nows k x ∙ (later (place + 1 + k) x (omega arith) ∙ sym (get_or-drop (place + 1) olds k x))) in
      let was : take place olds ++ get_or olds place d ∷ rest ≡ olds = ap (λ l. take place olds ++ l) (sym (drop_more olds place d within)) ∙ take-append-drop place olds in
      let is : take place nows ++ b ∷ rest ≡ set nows place b = ap (λ l. take place nows ++ b ∷ l) (sym behind) ∙ sym (set_split nows place b (omega (arith, within, long))) in
      let all : in_one_list (had.parts ++ one.acts ∷ no_acts rest) ≡ in_one_list had.parts ++ one.acts =
      flat_map-append (λ (acts : List Act). acts) had.parts (one.acts ∷ no_acts rest) ∙ ap (λ l. in_one_list had.parts ++ l) (ap (λ l. one.acts ++ l) (joined-none rest) ∙ append-nil one.acts) in
      let left : All (λ x. Part x x []) rest = λ k x below.
      subst (λ y. Part y y []) (sym (get_or-drop (place + 1) olds k x)) (still (place + 1 + k) x (omega (arith, below, length-drop (place + 1) olds))) in
      let each = each-both Part (take place olds) (take place nows) had.parts (get_or olds place d ∷ rest) (b ∷ rest) (one.acts ∷ no_acts rest)
      (each-weaker (take place olds) (take place nows) had.parts had.each) (one.does, each-still Part rest left) in record {
        parts = had.parts ++ one.acts ∷ no_acts rest;
        stopped = subst (HasStopped C p r) (sym all) (stopped-after C p q r (in_one_list had.parts) one.acts m had.acted same one.stopped);
        each = subst (λ l. Each Part l (set nows place b) (had.parts ++ one.acts ∷ no_acts rest)) was (subst (λ l. Each Part (take place olds ++ get_or olds place d ∷ rest) l (had.parts ++ one.acts ∷ no_acts rest)) is each);
      }
