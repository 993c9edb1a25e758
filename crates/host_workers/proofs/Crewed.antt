-- A pass of a worker, from what was done for its cores, its banks and the keeper.
use Rattle.std.proofs.Common.{◌≡◌, ◌≢◌, ℕ, zero, suc, ◌+◌, ◌<◌, Bool, true, false, if◌then◌else◌, List, [], ◌∷◌, ◌++◌, length, map, get_or, filter, filter_map, Option, Some, None, All, Contains, slice_get, refl, sym, ap, ◌∙◌, subst, arith}
use Rattle.std.specs.Prelude.{AllPairs}
use Rattle.std.specs.Option.{option_map, is_some}
use Rattle.std.proofs.lemmas.List.{append_assoc, append-nil, length-map}
use Rattle.std.proofs.lemmas.List.Elements.{filter-append, filter_map-append, All-append, All-cons, Contains-append_left, Contains-append_right}
use Rattle.std.proofs.lemmas.Option.{slice_get_within, get_or_from_slice_get, slice_get-map, slice_get-get_or}
use Rattle.std.proofs.Math.ListN.{get_or-map}
use Rattle.std.proofs.lemmas.Bool.Decides.{nat_tests}
use Rattle.dn_base.specs.declared.ids.CoreId.{CoreId}
use Rattle.dn_base.specs.declared.ids.BankId.{BankId}
use Rattle.grant_log.specs.declared.log.Stamped.{Stamped}
use Rattle.message_net.specs.declared.actor.Actor.{Actor}
use Rattle.message_net.specs.declared.actor.Actor.TheVariants.{Core, Bank, Keeper}
use Rattle.registration_protocol.specs.Node.{Setting}
use Rattle.bank_hall.specs.Halls.{PassView, pass_number}
use Rattle.host_workers.specs.Acts.{Act, actor_of, is_act_of, tried_in, events_in, note_of}
use Rattle.host_workers.specs.Passes.{own_acts, tries_of}
use Rattle.host_workers.specs.Steps.{Done}
use Rattle.message_net.specs.declared.event.Event.{Event}
use Rattle.host_workers.specs.declared.crew.BankLog.{BankLog}
use Rattle.host_workers.specs.declared.crew.Crew.{Crew}
use Rattle.host_workers.specs.declared.owned.Owned.{Owned}
use Rattle.host_workers.specs.Crews.{held_of, owned_core, bank_of, owned_has_numbers, keeper_log, IsOwned, IsCrew}
use Rattle.host_workers.specs.Work.{AreOf, HasStopped, IsMoved, IsCoreServed, IsNotedBank, IsStepped, IsNotedIf, IsKeeperServed, HasDoneActs, HaveDone, Each, in_one_list}
use Rattle.host_workers.specs.Pass.{actors_of, tries_by, IsActOf, IsKeptOf, HasMore, IsCrewAfter, HasWorked, HasWorkedPartly, InTurn}
use Rattle.host_workers.proofs.Calls.{acted-both}
use Rattle.host_workers.proofs.Filters.{filter-own, filter-other, gone-by, turn-by}
use Rattle.host_workers.proofs.Worked.{IsNoLater, none-of, own-of, all-are, own-are, in-turn, own-in-turn, pairs-append}

abbrev core_actor : Owned → Actor
core_actor o = Core o.core

abbrev bank_actor : BankLog → Actor
bank_actor b = Bank b.bank

abbrev core_number : Actor → ℕ
core_number (Core core) = core.0
core_number _ = 0

abbrev bank_number : Actor → ℕ
bank_number (Bank bank) = bank.0
bank_number _ = 0

abbrev in_group : ℕ → Actor → Type 0
in_group zero (Core core) = Unit {0}
in_group (suc zero) (Bank bank) = Unit {0}
in_group (suc (suc n)) Keeper = Unit {0}
in_group _ _ = ⊥

core-bank : (core : CoreId) (bank : BankId) → Core core ≢ Bank bank
core-bank core bank e = subst (in_group 0) e tt

core-keeper : (core : CoreId) → Core core ≢ Keeper
core-keeper core e = subst (in_group 0) e tt

bank-core : (bank : BankId) (core : CoreId) → Bank bank ≢ Core core
bank-core bank core e = subst (in_group 1) e tt

bank-keeper : (bank : BankId) → Bank bank ≢ Keeper
bank-keeper bank e = subst (in_group 1) e tt

keeper-core : (core : CoreId) → Keeper ≢ Core core
keeper-core core e = subst (in_group 2) e tt

keeper-bank : (bank : BankId) → Keeper ≢ Bank bank
keeper-bank bank e = subst (in_group 2) e tt

cores-apart : (cores : List Owned) → AllPairs (λ (a b : Owned). a.core.0 < b.core.0) cores → AllPairs (λ x y. core_actor x ≢ core_actor y) cores
cores-apart cores rise = λ i j d before within e. let r = rise i j d before within in let n = ap core_number e in absurd (omega (arith, r, n))

banks-apart : (banks : List BankLog) → AllPairs (λ (a b : BankLog). a.bank.0 < b.bank.0) banks → AllPairs (λ x y. bank_actor x ≢ bank_actor y) banks
banks-apart banks rise = λ i j d before within e. let r = rise i j d before within in let n = ap bank_number e in absurd (omega (arith, r, n))

cores-no-later : (cores : List Owned) → AllPairs (λ (a b : Owned). a.core.0 < b.core.0) cores → AllPairs (λ x y. IsNoLater (core_actor x) (core_actor y)) cores
cores-no-later cores rise = λ i j d before within. by (get_or cores i d).core.0 (get_or cores j d).core.0 (rise i j d before within) where
  by : (m n : ℕ) → m < n → IsNoLater (Core (record { 0 = m })) (Core (record { 0 = n }))
  by m n less = λ e. absurd (grind (arith, nat_tests))

banks-no-later : (banks : List BankLog) → AllPairs (λ (a b : BankLog). a.bank.0 < b.bank.0) banks → AllPairs (λ x y. IsNoLater (bank_actor x) (bank_actor y)) banks
banks-no-later banks rise = λ i j d before within. by (get_or banks i d).bank.0 (get_or banks j d).bank.0 (rise i j d before within) where
  by : (m n : ℕ) → m < n → IsNoLater (Bank (record { 0 = m })) (Bank (record { 0 = n }))
  by m n less = λ e. absurd (grind (arith, nat_tests))

-- the acts of one group come before those of a later one
before-keeper : (a : Actor) → IsNoLater a Keeper
before-keeper (Core core) e = absurd (grind arith)
before-keeper (Bank bank) e = absurd (grind arith)
before-keeper Keeper e = absurd (grind arith)

core-before-bank : (core : CoreId) (bank : BankId) → IsNoLater (Core core) (Bank bank)
core-before-bank core bank e = absurd (grind arith)

-- whom a turn tries
own-tries : (core : CoreId) (goes : Bool) (e : Option Event) (done : Done) → filter_map tried_in (own_acts core goes e done) ≡ []
own-tries core true (Some e) done = refl
own-tries core true None done = refl
own-tries core false (Some e) done = refl
own-tries core false None done = refl

served-tries : (C : Setting) (o p : Owned) (acts : List Act) → IsCoreServed C o p acts → filter_map tried_in acts ≡ (if owned_has_numbers o then Core o.core ∷ [] else [])
served-tries C o p acts s = by (owned_has_numbers o) refl where
  by : (b : Bool) → owned_has_numbers o ≡ b → filter_map tried_in acts ≡ (if b then Core o.core ∷ [] else [])
  by true e = let t = s.turn e in ap (filter_map tried_in) t.acts_are ∙ ap (λ l. Core o.core ∷ l) (own-tries o.core _ _ t.done)
  by false e = ap (filter_map tried_in) (s.stays e)

cores-tries : (C : Setting) (olds nows : List Owned) (parts : List (List Act)) → Each (IsCoreServed C) olds nows parts → filter_map tried_in (in_one_list parts) ≡ map Core (map owned_core (filter owned_has_numbers olds))
cores-tries C [] [] [] each = refl
cores-tries C (o ∷ olds) (n ∷ nows) (part ∷ parts) each =
    filter_map-append tried_in part (in_one_list parts) ∙ (rw (served-tries C o n part each.0, cores-tries C olds nows parts each.1) (with-first (owned_has_numbers o) (filter owned_has_numbers olds))) where
      with-first : (b : Bool) (rest : List Owned) → (if b then Core o.core ∷ [] else []) ++ map Core (map owned_core rest) ≡ map Core (map owned_core (if b then o ∷ rest else rest))
      with-first true rest = refl
      with-first false rest = refl
cores-tries C [] [] (part ∷ parts) each = absurd each
cores-tries C [] (n ∷ nows) parts each = absurd each
cores-tries C (o ∷ olds) [] parts each = absurd each
cores-tries C (o ∷ olds) (n ∷ nows) [] each = absurd each

banks-tries : (C : Setting) (olds nows : List BankLog) (parts : List (List Act)) → Each (IsStepped C) olds nows parts → filter_map tried_in (in_one_list parts) ≡ map Bank (map bank_of olds)
banks-tries C [] [] [] each = refl
banks-tries C (o ∷ olds) (n ∷ nows) (part ∷ parts) each =
    let here : filter_map tried_in part ≡ Bank o.bank ∷ [] = ap (filter_map tried_in) each.0.acts_are in
    filter_map-append tried_in part (in_one_list parts) ∙ (rw (here, banks-tries C olds nows parts each.1) refl)
banks-tries C [] [] (part ∷ parts) each = absurd each
banks-tries C [] (n ∷ nows) parts each = absurd each
banks-tries C (o ∷ olds) [] parts each = absurd each
banks-tries C (o ∷ olds) (n ∷ nows) [] each = absurd each

abbrev keeper_if : Bool → List Actor
keeper_if true = Keeper ∷ []
keeper_if false = []

kept-tries : (C : Setting) (x y : Option (List Stamped)) (acts : List Act) → IsKeeperServed C x y acts → filter_map tried_in acts ≡ keeper_if (is_some x)
kept-tries C None None acts k = ap (filter_map tried_in) k
kept-tries C (Some x) (Some y) acts k = ap (filter_map tried_in) k.acts_are
kept-tries C None (Some y) acts k = absurd k
kept-tries C (Some x) None acts k = absurd k

kept-noted : (C : Setting) (x y : Option (List Stamped)) (acts : List Act) → IsKeeperServed C x y acts → IsNotedIf C x y acts
kept-noted C None None acts k = k
kept-noted C (Some x) (Some y) acts k = k.notes
kept-noted C None (Some y) acts k = absurd k
kept-noted C (Some x) None acts k = absurd k

noted-are : (C : Setting) (x y : Option (List Stamped)) (acts : List Act) → IsNotedIf C x y acts → AreOf Keeper acts
noted-are C None None acts k = subst (AreOf Keeper) (sym k) tt
noted-are C (Some x) (Some y) acts k = k.own
noted-are C None (Some y) acts k = absurd k
noted-are C (Some x) None acts k = absurd k

noted-more : (C : Setting) (x y : Option (List Stamped)) (acts : List Act) → IsNotedIf C x y acts → HasMore (map note_of (events_in C.shape acts)) x y
noted-more C None None acts k = tt
noted-more C (Some x) (Some y) acts k = k.log
noted-more C None (Some y) acts k = absurd k
noted-more C (Some x) None acts k = absurd k

kept-of : (C : Setting) (x y : Option (List Stamped)) (acts own : List Act) → IsKeeperServed C x y own → filter (is_act_of Keeper) acts ≡ own → IsKeptOf acts (is_some x)
kept-of C None None acts own k is = is ∙ k
kept-of C (Some x) (Some y) acts own k is = (k.pick, k.note, is ∙ k.acts_are)
kept-of C None (Some y) acts own k is = absurd k
kept-of C (Some x) None acts own k is = absurd k

noted-among : (C : Setting) (P : Actor → Type 0) (x y : Option (List Stamped)) (acts : List Act) → IsNotedIf C x y acts → (is_some x ≡ true → P Keeper) → All (λ act. P (actor_of act)) acts
noted-among C P None None acts k has = subst (All (λ act. P (actor_of act))) (sym k) (λ i d within. absurd (omega (arith, within)))
noted-among C P (Some x) (Some y) acts k has = own-are P Keeper acts k.own (has refl)
noted-among C P None (Some y) acts k has = absurd k
noted-among C P (Some x) None acts k has = absurd k

pub is_some-map : {X Y : Type 0} (f : X → Y) (o : Option X) → is_some (option_map f o) ≡ is_some o
is_some-map f None = refl
is_some-map f (Some x) = refl

tries-are : (cores : List CoreId) (banks : List BankId) (keeper : Bool) → (map Core cores ++ map Bank banks) ++ keeper_if keeper ≡ tries_of cores banks keeper
tries-are cores banks true = append_assoc (map Core cores) (map Bank banks) (Keeper ∷ [])
tries-are cores banks false = append-nil (map Core cores ++ map Bank banks)

module _ {A B : Type 0} (Does : A → A → List Act → Type 0) (f : A → B) (keeps : (a b : A) (acts : List Act) → Does a b acts → f b ≡ f a) where
  each-map : (olds nows : List A) (parts : List (List Act)) → Each Does olds nows parts → map f nows ≡ map f olds
  each-map [] [] [] each = refl
  each-map (o ∷ olds) (n ∷ nows) (part ∷ parts) each = rw (keeps o n part each.0, each-map olds nows parts each.1) refl
  each-map [] [] (part ∷ parts) each = absurd each
  each-map [] (n ∷ nows) parts each = absurd each
  each-map (o ∷ olds) [] parts each = absurd each
  each-map (o ∷ olds) (n ∷ nows) [] each = absurd each

module _ {A : Type 0} (Does : A → A → List Act → Type 0) (P : A → Type 0) (keeps : (a b : A) (acts : List Act) → P a → Does a b acts → P b) where
  each-all : (olds nows : List A) (parts : List (List Act)) → Each Does olds nows parts → All P olds → All P nows
  each-all [] [] [] each all = all
  each-all (o ∷ olds) (n ∷ nows) (part ∷ parts) each all =
      All-cons P n nows (keeps o n part (all 0 o (omega arith)) each.0) (each-all olds nows parts each.1 (λ k d within. all (suc k) d (omega (arith, within))))
  each-all [] [] (part ∷ parts) each all = absurd each
  each-all [] (n ∷ nows) parts each all = absurd each
  each-all (o ∷ olds) [] parts each all = absurd each
  each-all (o ∷ olds) (n ∷ nows) [] each all = absurd each

-- an element's value is among the values of all
map-has : {A B : Type 0} (f : A → B) (xs : List A) (i : ℕ) (x : A) → slice_get xs i ≡ Some x → Contains (map f xs) (f x)
map-has f xs i x at =
    let there : slice_get (map f xs) i ≡ Some (f x) = slice_get-map f xs i ∙ ap (option_map f) at in
    (i, slice_get_within (map f xs) i (f x) there, get_or_from_slice_get (map f xs) i (f x) (f x) there)

map_map-has : {A B D : Type 0} (g : B → D) (f : A → B) (xs : List A) (i : ℕ) (x : A) → slice_get xs i ≡ Some x → Contains (map g (map f xs)) (g (f x))
map_map-has g f xs i x at = map-has g (map f xs) i (f x) (slice_get-map f xs i ∙ ap (option_map f) at)

rises : {A B : Type 0} (f : A → B) (number : B → ℕ) (olds nows : List A) → map f nows ≡ map f olds → AllPairs (λ a b. number (f a) < number (f b)) olds → AllPairs (λ a b. number (f a) < number (f b)) nows
rises f number olds nows same rise = λ i j d before within.
    let long : length nows ≡ length olds = sym (length-map nows f) ∙ (ap length same ∙ length-map olds f) in
    let at = λ (k : ℕ). sym (get_or-map f nows k d) ∙ (ap (λ l. get_or l k (f d)) same ∙ get_or-map f olds k d) in
    let r = rise i j d before (omega (arith, within, long)) in
    let one = ap number (at i) in
    let two = ap number (at j) in
    omega (arith, r, one, two)

-- what was done with the cores, the banks and the keeper of a crew, one after the other
module _ (C : Setting) (DoesCore : Owned → Owned → List Act → Type 0) (DoesBank : BankLog → BankLog → List Act → Type 0)
    (moves : (o p : Owned) (acts : List Act) → DoesCore o p acts → IsMoved C o p acts)
    (notes : (b d : BankLog) (acts : List Act) → DoesBank b d acts → IsNotedBank C b d acts)
    (had has : Crew) (crew : IsCrew C had)
    (core_parts bank_parts : List (List Act)) (keeper : List Act)
    (served : Each DoesCore had.cores.items has.cores.items core_parts)
    (stepped : Each DoesBank had.banks.items has.banks.items bank_parts)
    (noted : IsNotedIf C (keeper_log had) (keeper_log has) keeper) where
  abbrev pub all_acts : List Act
  all_acts = (in_one_list core_parts ++ in_one_list bank_parts) ++ keeper

  core-are : (o p : Owned) (acts : List Act) → DoesCore o p acts → AreOf (core_actor o) acts
  core-are o p acts does = (moves o p acts does).own

  bank-are : (b d : BankLog) (acts : List Act) → DoesBank b d acts → AreOf (bank_actor b) acts
  bank-are b d acts does = (notes b d acts does).own

  keeper-are : AreOf Keeper keeper
  keeper-are = noted-are C (keeper_log had) (keeper_log has) keeper noted

  split : (actor : Actor) → filter (is_act_of actor) all_acts ≡ (filter (is_act_of actor) (in_one_list core_parts) ++ filter (is_act_of actor) (in_one_list bank_parts)) ++ filter (is_act_of actor) keeper
  split actor = filter-append (is_act_of actor) (in_one_list core_parts ++ in_one_list bank_parts) keeper ∙ ap (λ l. l ++ filter (is_act_of actor) keeper) (filter-append (is_act_of actor) (in_one_list core_parts) (in_one_list bank_parts))

  pub of-core : (i : ℕ) (o p : Owned) → slice_get had.cores.items i ≡ Some o → slice_get has.cores.items i ≡ Some p → (own : List Act) × (filter (is_act_of (Core o.core)) all_acts ≡ own) × DoesCore o p own
  of-core i o p at now =
      let found = own-of core_actor DoesCore core-are had.cores.items has.cores.items core_parts served (cores-apart had.cores.items crew.cores_rise) i o p at now in
      let no-bank = none-of bank_actor DoesBank bank-are (Core o.core) had.banks.items has.banks.items bank_parts stepped (λ j q there. core-bank o.core q.bank) in
      let no-keeper = filter-other (Core o.core) Keeper keeper (core-keeper o.core) keeper-are in
      (found.0, split (Core o.core) ∙ (rw (found.1, no-bank, no-keeper) (append-nil (found.0 ++ []) ∙ append-nil found.0)), found.2)

  pub of-bank : (i : ℕ) (o p : BankLog) → slice_get had.banks.items i ≡ Some o → slice_get has.banks.items i ≡ Some p → (own : List Act) × (filter (is_act_of (Bank o.bank)) all_acts ≡ own) × DoesBank o p own
  of-bank i o p at now =
      let found = own-of bank_actor DoesBank bank-are had.banks.items has.banks.items bank_parts stepped (banks-apart had.banks.items crew.banks_rise) i o p at now in
      let no-core = none-of core_actor DoesCore core-are (Bank o.bank) had.cores.items has.cores.items core_parts served (λ j q there. bank-core o.bank q.core) in
      let no-keeper = filter-other (Bank o.bank) Keeper keeper (bank-keeper o.bank) keeper-are in
      (found.0, split (Bank o.bank) ∙ (rw (found.1, no-core, no-keeper) (append-nil found.0)), found.2)

  pub of-keeper : filter (is_act_of Keeper) all_acts ≡ keeper
  of-keeper =
      let no-core = none-of core_actor DoesCore core-are Keeper had.cores.items has.cores.items core_parts served (λ j q there. keeper-core q.core) in
      let no-bank = none-of bank_actor DoesBank bank-are Keeper had.banks.items has.banks.items bank_parts stepped (λ j q there. keeper-bank q.bank) in
      let own = filter-own Keeper keeper keeper-are in
      split Keeper ∙ (rw (no-core, no-bank) own)

  actors-are : (map Core (map owned_core had.cores.items) ++ map Bank (map bank_of had.banks.items)) ++ keeper_if (is_some had.keeper) ≡ actors_of had
  actors-are = tries-are (map owned_core had.cores.items) (map bank_of had.banks.items) (is_some had.keeper)

  core-among : (i : ℕ) (o : Owned) → slice_get had.cores.items i ≡ Some o → Contains (actors_of had) (Core o.core)
  core-among i o at = subst (λ l. Contains l (Core o.core)) actors-are (Contains-append_left _ (keeper_if (is_some had.keeper)) (Core o.core) (Contains-append_left (map Core (map owned_core had.cores.items)) (map Bank (map bank_of had.banks.items)) (Core o.core) (map_map-has Core owned_core had.cores.items i o at)))

  bank-among : (i : ℕ) (o : BankLog) → slice_get had.banks.items i ≡ Some o → Contains (actors_of had) (Bank o.bank)
  bank-among i o at = subst (λ l. Contains l (Bank o.bank)) actors-are (Contains-append_left _ (keeper_if (is_some had.keeper)) (Bank o.bank) (Contains-append_right (map Core (map owned_core had.cores.items)) (map Bank (map bank_of had.banks.items)) (Bank o.bank) (map_map-has Bank bank_of had.banks.items i o at)))

  keeper-among : is_some (keeper_log had) ≡ true → Contains (actors_of had) Keeper
  keeper-among e =
      let there : is_some had.keeper ≡ true = sym (is_some-map _ had.keeper) ∙ e in
      let one : Contains (keeper_if (is_some had.keeper)) Keeper = subst (λ t. Contains (keeper_if t) Keeper) (sym there) (0, omega arith, refl) in
      subst (λ l. Contains l Keeper) actors-are (Contains-append_right (map Core (map owned_core had.cores.items) ++ map Bank (map bank_of had.banks.items)) (keeper_if (is_some had.keeper)) Keeper one)

  own-acts : All (IsActOf had) all_acts
  own-acts =
      All-append (IsActOf had) (in_one_list core_parts ++ in_one_list bank_parts) keeper
      (All-append (IsActOf had) (in_one_list core_parts) (in_one_list bank_parts)
      (all-are core_actor DoesCore core-are (Contains (actors_of had)) had.cores.items has.cores.items core_parts served core-among)
      (all-are bank_actor DoesBank bank-are (Contains (actors_of had)) had.banks.items has.banks.items bank_parts stepped bank-among))
      (noted-among C (Contains (actors_of had)) (keeper_log had) (keeper_log has) keeper noted keeper-among)

  pub acts-in-turn : AllPairs InTurn all_acts
  acts-in-turn =
      pairs-append InTurn (in_one_list core_parts ++ in_one_list bank_parts) keeper
      (pairs-append InTurn (in_one_list core_parts) (in_one_list bank_parts)
      (in-turn core_actor DoesCore core-are had.cores.items has.cores.items core_parts served (cores-no-later had.cores.items crew.cores_rise))
      (in-turn bank_actor DoesBank bank-are had.banks.items has.banks.items bank_parts stepped (banks-no-later had.banks.items crew.banks_rise))
      (all-are core_actor DoesCore core-are (λ a. All (λ act. IsNoLater a (actor_of act)) (in_one_list bank_parts)) had.cores.items has.cores.items core_parts served
      (λ i o at. all-are bank_actor DoesBank bank-are (λ b. IsNoLater (Core o.core) b) had.banks.items has.banks.items bank_parts stepped (λ j d there. core-before-bank o.core d.bank))))
      (own-in-turn Keeper keeper keeper-are)
      (λ k d within. own-are (λ b. IsNoLater (actor_of (get_or (in_one_list core_parts ++ in_one_list bank_parts) k d)) b) Keeper keeper keeper-are (before-keeper (actor_of (get_or (in_one_list core_parts ++ in_one_list bank_parts) k d))))

  same-cores : map owned_core has.cores.items ≡ map owned_core had.cores.items
  same-cores = each-map DoesCore owned_core (λ o p acts s. (moves o p acts s).core) had.cores.items has.cores.items core_parts served

  same-banks : map bank_of has.banks.items ≡ map bank_of had.banks.items
  same-banks = each-map DoesBank bank_of (λ o p acts s. (notes o p acts s).bank) had.banks.items has.banks.items bank_parts stepped

  long : length has.cores.items ≡ length had.cores.items
  long = sym (length-map has.cores.items owned_core) ∙ (ap length same-cores ∙ length-map had.cores.items owned_core)

  -- the core stands in its place still
  pub has-core : (i : ℕ) (o : Owned) → slice_get had.cores.items i ≡ Some o → (p : Owned) × (slice_get has.cores.items i ≡ Some p)
  has-core i o at = (get_or has.cores.items i o, slice_get-get_or has.cores.items i o (omega (arith, long, slice_get_within had.cores.items i o at)))

  long-banks : length has.banks.items ≡ length had.banks.items
  long-banks = sym (length-map has.banks.items bank_of) ∙ (ap length same-banks ∙ length-map had.banks.items bank_of)

  -- so does the bank
  pub has-bank : (i : ℕ) (o : BankLog) → slice_get had.banks.items i ≡ Some o → (p : BankLog) × (slice_get has.banks.items i ≡ Some p)
  has-bank i o at = (get_or has.banks.items i o, slice_get-get_or has.banks.items i o (omega (arith, long-banks, slice_get_within had.banks.items i o at)))

  pub crew-after : has.worker ≡ had.worker → IsCrewAfter C had has all_acts
  crew-after worker = record {
    own = own-acts;
    same = record { worker = worker; cores = same-cores; banks = same-banks };
    cores = λ i o p at now. let mine = of-core i o p at now in let m = moves o p mine.0 mine.2 in gone-by C o.core all_acts mine.0 (held_of o) (held_of p) mine.1 m.own m.moved;
    banks = λ i o p at now. let mine = of-bank i o p at now in (notes o p mine.0 mine.2).log ∙ ap (λ l. o.log.items ++ map note_of (events_in C.shape l)) (sym mine.1);
    keeper = subst (λ l. HasMore (map note_of (events_in C.shape l)) (keeper_log had) (keeper_log has)) (sym of-keeper) (noted-more C (keeper_log had) (keeper_log has) keeper noted);
  }

  pub crew-kept : IsCrew C has
  crew-kept = record {
    cores = each-all DoesCore (IsOwned C) (λ o p acts owned s. record { inside = subst (λ (core : CoreId). core.0 < C.shape.cores) (sym (moves o p acts s).core) owned.inside; fits = (moves o p acts s).fits }) had.cores.items has.cores.items core_parts served crew.cores;
    cores_rise = rises owned_core (λ (core : CoreId). core.0) had.cores.items has.cores.items same-cores crew.cores_rise;
    banks = each-all DoesBank (λ (o : BankLog). o.bank.0 < C.shape.banks) (λ o p acts inside s. subst (λ (bank : BankId). bank.0 < C.shape.banks) (sym (notes o p acts s).bank) inside) had.banks.items has.banks.items bank_parts stepped crew.banks;
    banks_rise = rises bank_of (λ (bank : BankId). bank.0) had.banks.items has.banks.items same-banks crew.banks_rise;
  }

  -- a pass of which these are all acts, for which there was no room
  pub partly : (a d : PassView) → has.worker ≡ had.worker → HasStopped C a d all_acts → HasWorkedPartly C a d had has
  partly a d worker stopped = record { acts = all_acts; stopped = stopped; crew = crew-after worker; order = acts-in-turn }

-- a pass was made
module _ (C : Setting) (a b c d : PassView) (had has : Crew) (m n k : ℕ)
    (crew : IsCrew C had)
    (served : HaveDone (IsCoreServed C) C a b had.cores.items has.cores.items m)
    (stepped : HaveDone (IsStepped C) C b c had.banks.items has.banks.items n)
    (kept : HasDoneActs (IsKeeperServed C) C c d (keeper_log had) (keeper_log has) k) where
  noted-all : IsNotedIf C (keeper_log had) (keeper_log has) kept.acts
  noted-all = kept-noted C (keeper_log had) (keeper_log has) kept.acts kept.does

  moves-of : (o p : Owned) (acts : List Act) → IsCoreServed C o p acts → IsMoved C o p acts
  moves-of o p acts s = s.moves

  notes-of : (o p : BankLog) (acts : List Act) → IsStepped C o p acts → IsNotedBank C o p acts
  notes-of o p acts s = s.notes

  abbrev pass_acts : List Act
  pass_acts = (in_one_list served.parts ++ in_one_list stepped.parts) ++ kept.acts

  tried : filter_map tried_in pass_acts ≡ tries_by had
  tried =
      let keeper = kept-tries C (keeper_log had) (keeper_log has) kept.acts kept.does ∙ ap keeper_if (is_some-map _ had.keeper) in
      filter_map-append tried_in (in_one_list served.parts ++ in_one_list stepped.parts) kept.acts
      ∙ (ap (λ l. l ++ filter_map tried_in kept.acts) (filter_map-append tried_in (in_one_list served.parts) (in_one_list stepped.parts))
      ∙ (rw (cores-tries C had.cores.items has.cores.items served.parts served.each, banks-tries C had.banks.items has.banks.items stepped.parts stepped.each, keeper) (tries-are (map owned_core (filter owned_has_numbers had.cores.items)) (map bank_of had.banks.items) (is_some had.keeper))))

  core-there : (i : ℕ) (o : Owned) → slice_get had.cores.items i ≡ Some o → (p : Owned) × (slice_get has.cores.items i ≡ Some p)
  core-there = has-core C (IsCoreServed C) (IsStepped C) moves-of notes-of had has crew served.parts stepped.parts kept.acts served.each stepped.each noted-all

  bank-there : (i : ℕ) (o : BankLog) → slice_get had.banks.items i ≡ Some o → (p : BankLog) × (slice_get has.banks.items i ≡ Some p)
  bank-there = has-bank C (IsCoreServed C) (IsStepped C) moves-of notes-of had has crew served.parts stepped.parts kept.acts served.each stepped.each noted-all

  core-own : (i : ℕ) (o p : Owned) → slice_get had.cores.items i ≡ Some o → slice_get has.cores.items i ≡ Some p → (own : List Act) × (filter (is_act_of (Core o.core)) pass_acts ≡ own) × IsCoreServed C o p own
  core-own = of-core C (IsCoreServed C) (IsStepped C) moves-of notes-of had has crew served.parts stepped.parts kept.acts served.each stepped.each noted-all

  bank-own : (i : ℕ) (o p : BankLog) → slice_get had.banks.items i ≡ Some o → slice_get has.banks.items i ≡ Some p → (own : List Act) × (filter (is_act_of (Bank o.bank)) pass_acts ≡ own) × IsStepped C o p own
  bank-own = of-bank C (IsCoreServed C) (IsStepped C) moves-of notes-of had has crew served.parts stepped.parts kept.acts served.each stepped.each noted-all

  pub worked : pass_number b ≡ pass_number a → pass_number c ≡ pass_number b → has.worker ≡ had.worker → HasWorked C a d had has ((m + n) + k)
  worked same-b same-c worker =
      let acted = acted-both C a c d (in_one_list served.parts ++ in_one_list stepped.parts) kept.acts (m + n) k (acted-both C a b c (in_one_list served.parts) (in_one_list stepped.parts) m n served.acted same-b stepped.acted) (same-c ∙ same-b) kept.acted in record {
        acts = pass_acts;
        work = record { calls = acted.calls; crew = crew-after C (IsCoreServed C) (IsStepped C) moves-of notes-of had has crew served.parts stepped.parts kept.acts served.each stepped.each noted-all worker };
        passed = record { calls = acted.calls; tried = tried; counted = acted.counted };
        is_pass = record {
          turns = λ i o at.
              let there = core-there i o at in
              let mine = core-own i o there.0 at there.1 in
              record { turn = λ e. turn-by C o.core pass_acts mine.0 (held_of o) mine.1 (mine.2.turn e); stays = λ e. mine.1 ∙ mine.2.stays e };
          steps = λ i o at.
              let there = bank-there i o at in
              let mine = bank-own i o there.0 at there.1 in
              record { pick = mine.2.pick; handled = mine.2.handled; acts_are = mine.1 ∙ mine.2.acts_are };
          kept = subst (IsKeptOf pass_acts) (is_some-map _ had.keeper) (kept-of C (keeper_log had) (keeper_log has) pass_acts kept.acts kept.does (of-keeper C (IsCoreServed C) (IsStepped C) moves-of notes-of had has crew served.parts stepped.parts kept.acts served.each stepped.each noted-all));
        };
        order = acts-in-turn C (IsCoreServed C) (IsStepped C) moves-of notes-of had has crew served.parts stepped.parts kept.acts served.each stepped.each noted-all;
      }

  pub crew-still : IsCrew C has
  crew-still = crew-kept C (IsCoreServed C) (IsStepped C) moves-of notes-of had has crew served.parts stepped.parts kept.acts served.each stepped.each noted-all
