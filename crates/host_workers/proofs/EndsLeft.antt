-- What is left of the ends that were seen of each core, entry by entry of the one list.
use Rattle.std.proofs.Common.{◌≡◌, ℕ, zero, suc, ◌+◌, ◌<◌, ◌≤◌, ◌==◌, Bool, true, false, cond, nat_lt, List, [], ◌∷◌, ◌++◌, length, replicate, take, drop, get_or, slice_get, slice_index, slice_index_or, set, Option, Some, None, refl, sym, ap, subst, ◌∙◌, arith}
use Rattle.std.specs.Prelude.{filter, filter_map, option_to_list}
use Rattle.std.specs.List.{cons_option}
use Rattle.std.proofs.lemmas.Bool.Decides.{nat_tests}
use Rattle.std.proofs.lemmas.List.{drop_more, get_or-drop, get_or-map, append_assoc, get_or-set_same, get_or-set_other, length-map, length-drop}
use Rattle.std.proofs.lemmas.Option.{none-some, same_Some, slice_get_within, get_or_from_slice_get}
use Rattle.dn_base.specs.declared.ids.CoreId.{CoreId}
use Rattle.rv_core.specs.declared.ending.TaskEnd.{TaskEnd}
use Rattle.message_net.specs.declared.actor.Actor.{Actor}
use Rattle.message_net.specs.declared.actor.Actor.TheVariants.{Core, Bank, Keeper}
use Rattle.message_net.specs.Id.{same_actor}
use Rattle.message_net.proofs.PoolLemmas.{same_actor-true, same_actor-refl}
use Rattle.grant_log.specs.declared.log.Stamped.{Stamped}
use Rattle.host_workers.specs.declared.end_seen.EndSeen.{EndSeen}
use Rattle.host_workers.specs.Steps.{Done}
use Rattle.host_workers.specs.Acts.{note_of}
use Rattle.host_workers.specs.Passes.{end_seen, seen_at}
use Rattle.host_workers.specs.Rounds.{core_at, done_by, end_of_done}
use Rattle.host_workers.specs.Ends.{IsStampedBefore, EndIsOfCore, AreEndsOf, left_of, first_at, behind_at, end_at_stamp, left_behind}

-- ---- the ends of a core's events

-- what a worker saw of an actor's events
abbrev pub seen_of : Actor → List Done → List EndSeen
seen_of a told = filter_map end_seen (filter (done_by a) told)

-- each event of the actor among these has a later stamp
abbrev pub AreLater : ℕ → Actor → List Done → Type 0
AreLater stamp a told = (i : ℕ) (d : Done) → slice_get told i ≡ Some d → d.stamped.actor ≡ a → stamp < d.stamped.stamp

same-stamp : (n : ℕ) → (n == n) ≡ true
same-stamp n = grind (arith, nat_tests)

other-stamp : (n m : ℕ) → m < n → (n == m) ≡ false
other-stamp n m low = grind (arith, nat_tests, low)

-- an end that is seen later isn't the one at this stamp
record NoneAt (stamp : ℕ) (seen : List EndSeen) : Type 0 where
  first : first_at stamp seen ≡ None
  behind : behind_at stamp seen ≡ seen

none-more : (stamp : ℕ) (a : Actor) (d : Done) (ds : List Done) → (d.stamped.actor ≡ a → stamp < d.stamped.stamp) → NoneAt stamp (seen_of a ds) → NoneAt stamp (seen_of a (d ∷ ds))
none-more stamp a d ds later rest = by_test (done_by a d) refl where
  by_end : stamp < d.stamped.stamp → (o : Option TaskEnd) → NoneAt stamp (cons_option (seen_at d.stamped.stamp o) (seen_of a ds))
  by_end low None = rest
  by_end low (Some e) = let apart = other-stamp d.stamped.stamp stamp low in record { first = rw apart refl; behind = rw apart refl }

  by_test : (t : Bool) → same_actor a d.stamped.actor ≡ t → NoneAt stamp (filter_map end_seen (cond t (d ∷ filter (done_by a) ds) (filter (done_by a) ds)))
  by_test false test = rest
  by_test true test = by_end (later (sym (same_actor-true a d.stamped.actor test))) d.end

none-at : (stamp : ℕ) (a : Actor) (told : List Done) → AreLater stamp a told → NoneAt stamp (seen_of a told)
none-at stamp a [] later = record { first = refl; behind = refl }
none-at stamp a (d ∷ ds) later = none-more stamp a d ds (later 0 d refl) (none-at stamp a ds (λ i x there. later (suc i) x there))

-- the end that an event of the actor tells is the first of those that are left
record OneAt (d : Done) (seen rest : List EndSeen) : Type 0 where
  first : first_at d.stamped.stamp seen ≡ d.end
  behind : behind_at d.stamped.stamp seen ≡ rest

one-at : (a : Actor) (d : Done) (ds : List Done) → d.stamped.actor ≡ a → AreLater d.stamped.stamp a ds → OneAt d (seen_of a (d ∷ ds)) (seen_of a ds)
one-at a d ds own later = by_test (done_by a d) mine where
  mine : same_actor a d.stamped.actor ≡ true
  mine = ap (same_actor a) own ∙ same_actor-refl a

  by_end : (o : Option TaskEnd) → d.end ≡ o → OneAt d (cons_option (seen_at d.stamped.stamp o) (seen_of a ds)) (seen_of a ds)
  by_end None is = let none = none-at d.stamped.stamp a ds later in record { first = none.first ∙ sym is; behind = none.behind }
  by_end (Some e) is = let same = same-stamp d.stamped.stamp in record { first = rw same (sym is); behind = rw same refl }

  by_test : (t : Bool) → t ≡ true → OneAt d (filter_map end_seen (cond t (d ∷ filter (done_by a) ds) (filter (done_by a) ds))) (seen_of a ds)
  by_test false test = absurd (cc)
  by_test true test = by_end d.end refl

-- an event of another actor leaves them
other-seen : (a : Actor) (d : Done) (ds : List Done) → done_by a d ≡ false → seen_of a (d ∷ ds) ≡ seen_of a ds
other-seen a d ds other = ap (λ (t : Bool). filter_map end_seen (cond t (d ∷ filter (done_by a) ds) (filter (done_by a) ds))) other

-- ---- one entry more

-- what is left of each core is what was seen of its events from here on, and the ends so far are noted
pub record IsOnTheWay (ends : List (List EndSeen)) (rest : ℕ → List EndSeen) (told : List Done) (here : ℕ) (noted : List TaskEnd) : Type 0 where
  pub left : (core : ℕ) → core < length ends → rest core ≡ seen_of (core_at core) (drop here told)
  pub none : (core : ℕ) → length ends ≤ core → rest core ≡ []
  pub out : noted ++ filter_map end_of_done (drop here told) ≡ filter_map end_of_done told

-- the event that is told at a place
record IsAt (merged : List Stamped) (told : List Done) (here : ℕ) (e : Stamped) (d : Done) (rest : List Done) : Type 0 where
  noted : d.stamped ≡ e
  is : drop here told ≡ d ∷ rest
  later : AreLater e.stamp e.actor rest

at-entry : (merged : List Stamped) (ends : List (List EndSeen)) (told : List Done) (here : ℕ) (e : Stamped) → AreEndsOf merged ends told → here < length merged → e ≡ get_or merged here e
    → (d : Done) × IsAt merged told here e d (drop (here + 1) told) × EndIsOfCore (length ends) d
at-entry merged ends told here e are low is = (
  d,
  record { noted = noted; is = drop_more told here blank within; later = later },
  are.of_cores here blank within,
)
  where
    blank : Done
    blank = record { stamped = e; sent = []; end = None }

    long : length told ≡ length merged
    long = omega (arith, length-map told note_of, ap (λ (l : List Stamped). length l) are.notes)

    within : here < length told
    within = omega (arith, long, low)

    d : Done
    d = get_or told here blank

    note : (i : ℕ) → i < length told → (get_or told i blank).stamped ≡ get_or merged i e
    note i inside = sym (get_or-map note_of told i blank e inside) ∙ ap (λ (l : List Stamped). get_or l i e) are.notes

    noted : d.stamped ≡ e
    noted = note here within ∙ sym is

    later : AreLater e.stamp e.actor (drop (here + 1) told)
    later i x there same =
        let inside = slice_get_within (drop (here + 1) told) i x there in
        let place : here + 1 + i < length told = omega (arith, inside, length-drop (here + 1) told) in
        let at : get_or told (here + 1 + i) blank ≡ x = sym (get_or-drop (here + 1) told i blank) ∙ get_or_from_slice_get (drop (here + 1) told) i x blank there in
        let shown : get_or merged (here + 1 + i) e ≡ x.stamped = sym (note (here + 1 + i) place) ∙ ap (λ (y : Done). y.stamped) at in
        let first : get_or merged here e ≡ e = sym is in
        let rises : IsStampedBefore (get_or merged here e) (get_or merged (here + 1 + i) e) = are.rising here (here + 1 + i) e (omega arith) (omega (arith, place, long)) in
        let rises_here : IsStampedBefore e x.stamped = subst (λ (y : Stamped). IsStampedBefore e y) shown (subst (λ (y : Stamped). IsStampedBefore y (get_or merged (here + 1 + i) e)) first rises) in
        rises_here (sym same)

-- the end that is taken is the one that the event tells
taken-end : (ends : List (List EndSeen)) (left : ℕ → List EndSeen) (told rest : List Done) (here : ℕ) (out : List TaskEnd) (e : Stamped) (d : Done) (merged : List Stamped)
    → IsAt merged told here e d rest → EndIsOfCore (length ends) d → IsOnTheWay ends left told here out → end_at_stamp e.actor e.stamp left ≡ d.end
taken-end ends left told rest here out e d merged at of way = by_actor e.actor refl where
  by_end : (a : Actor) → e.actor ≡ a → ((core : ℕ) → core < length ends → a ≡ core_at core → ⊥) → (o : Option TaskEnd) → d.end ≡ o → None ≡ d.end
  by_end a of_it other None is = sym is
  by_end a of_it other (Some x) is =
      let core = of x is in
      absurd (other core.0 core.1 (sym of_it ∙ (ap (λ (y : Stamped). y.actor) (sym at.noted) ∙ core.2)))

  by_place : (c : _) → e.actor ≡ Core c → (t : Bool) → nat_lt c.0 (length ends) ≡ t → first_at e.stamp (left c.0) ≡ d.end
  by_place c of_it true test =
      let low : c.0 < length ends = grind (arith, nat_tests, test) in
      let own : d.stamped.actor ≡ core_at c.0 = ap (λ (y : Stamped). y.actor) at.noted ∙ of_it in
      let stamp : d.stamped.stamp ≡ e.stamp = ap (λ (y : Stamped). y.stamp) at.noted in
      let later : AreLater d.stamped.stamp (core_at c.0) rest = rw (stamp) (subst (λ (a : Actor). AreLater e.stamp a rest) of_it at.later) in
      let one = one-at (core_at c.0) d rest own later in
      let is : left c.0 ≡ seen_of (core_at c.0) (d ∷ rest) = way.left c.0 low ∙ ap (seen_of (core_at c.0)) at.is in
      rw (is, ← stamp) one.first
  by_place c of_it false test =
      let high : length ends ≤ c.0 = grind (arith, nat_tests, test) in
      rw (way.none c.0 high) (by_end (Core c) of_it (λ core low same. (let here_is : c.0 ≡ core = number c core same in omega (arith, here_is, low, high))) d.end refl)
    where
      number : (c : _) (core : ℕ) → Core c ≡ core_at core → c.0 ≡ core
      number c core same = cc

  by_actor : (a : Actor) → e.actor ≡ a → end_at_stamp a e.stamp left ≡ d.end
  by_actor (Core c) of_it = by_place c of_it (nat_lt c.0 (length ends)) refl
  by_actor (Bank b) of_it = by_end (Bank b) of_it (λ core low same. cc) d.end refl
  by_actor Keeper of_it = by_end Keeper of_it (λ core low same. cc) d.end refl

-- what is left behind it
taken-left : (ends : List (List EndSeen)) (left : ℕ → List EndSeen) (told rest : List Done) (here : ℕ) (out : List TaskEnd) (e : Stamped) (d : Done) (merged : List Stamped) (core : ℕ)
    → IsAt merged told here e d rest → IsOnTheWay ends left told here out → core < length ends → left_behind e.actor e.stamp left core ≡ seen_of (core_at core) rest
taken-left ends left told rest here out e d merged core at way low = by_actor e.actor refl where
  is : left core ≡ seen_of (core_at core) (d ∷ rest)
  is = way.left core low ∙ ap (seen_of (core_at core)) at.is

  other : (a : Actor) → e.actor ≡ a → same_actor (core_at core) a ≡ false → left core ≡ seen_of (core_at core) rest
  other a of_it apart = is ∙ other-seen (core_at core) d rest (ap (λ (y : Stamped). same_actor (core_at core) y.actor) at.noted ∙ (ap (same_actor (core_at core)) of_it ∙ apart))

  by_test : (c : _) → e.actor ≡ Core c → (t : Bool) → (c.0 == core) ≡ t → cond t (behind_at e.stamp (left core)) (left core) ≡ seen_of (core_at core) rest
  by_test c of_it true test =
      let same : c.0 ≡ core = grind (arith, nat_tests, test) in
      let named : Core c ≡ core_at core = ap core_at same in
      let own : d.stamped.actor ≡ core_at core = ap (λ (y : Stamped). y.actor) at.noted ∙ (of_it ∙ named) in
      let stamp : d.stamped.stamp ≡ e.stamp = ap (λ (y : Stamped). y.stamp) at.noted in
      let later : AreLater d.stamped.stamp (core_at core) rest = rw (stamp) (subst (λ (a : Actor). AreLater e.stamp a rest) (of_it ∙ named) at.later) in
      rw (is, ← stamp) (one-at (core_at core) d rest own later).behind
  by_test c of_it false test =
      let apart : (core == c.0) ≡ false = grind (arith, nat_tests, test) in
      other (Core c) of_it apart

  by_actor : (a : Actor) → e.actor ≡ a → left_behind a e.stamp left core ≡ seen_of (core_at core) rest
  by_actor (Core c) of_it = by_test c of_it (c.0 == core) refl
  by_actor (Bank b) of_it = other (Bank b) of_it refl
  by_actor Keeper of_it = other Keeper of_it refl

behind-none : (a : Actor) (stamp : ℕ) (left : ℕ → List EndSeen) (core : ℕ) → left core ≡ [] → left_behind a stamp left core ≡ []
behind-none (Core c) stamp left core none = by_test (c.0 == core) where
  by_test : (t : Bool) → cond t (behind_at stamp (left core)) (left core) ≡ []
  by_test true = ap (behind_at stamp) none
  by_test false = none
behind-none (Bank b) stamp left core none = none
behind-none Keeper stamp left core none = none

same-item : {X : Type 0} (xs : List X) (i : ℕ) (d e : X) → i < length xs → get_or xs i d ≡ get_or xs i e
same-item [] i d e low = absurd (omega (arith, low))
same-item (x ∷ xs) zero d e low = refl
same-item (x ∷ xs) (suc i) d e low = same-item xs i d e (omega (arith, low))

-- one entry more: what is taken at it is noted
pub entry-more : (merged : List Stamped) (ends : List (List EndSeen)) (left now : ℕ → List EndSeen) (told : List Done) (here : ℕ) (d : Stamped) (out more : List TaskEnd) (taken : Option TaskEnd)
    → AreEndsOf merged ends told → here < length merged → taken ≡ end_at_stamp (get_or merged here d).actor (get_or merged here d).stamp left
    → ((core : ℕ) → now core ≡ left_behind (get_or merged here d).actor (get_or merged here d).stamp left core)
    → more ≡ out ++ option_to_list taken → IsOnTheWay ends left told here out → IsOnTheWay ends now told (here + 1) more
entry-more merged ends left now told here d out more taken are low took behind noted way =
    record { left = now_left; none = λ core high. behind core ∙ behind-none e.actor e.stamp left core (way.none core high); out = now_out }
  where
    e : Stamped
    e = get_or merged here d

    is : e ≡ get_or merged here e
    is = same-item merged here d e low

    at : (d : Done) × IsAt merged told here e d (drop (here + 1) told) × EndIsOfCore (length ends) d
    at = at-entry merged ends told here e are low is

    now_left : (core : ℕ) → core < length ends → now core ≡ seen_of (core_at core) (drop (here + 1) told)
    now_left core inside = behind core ∙ taken-left ends left told (drop (here + 1) told) here out e at.0 merged core at.1 way inside

    ended : taken ≡ at.0.end
    ended = took ∙ taken-end ends left told (drop (here + 1) told) here out e at.0 merged at.1 at.2 way

    one : (o : Option TaskEnd) (xs : List TaskEnd) → option_to_list o ++ xs ≡ cons_option o xs
    one None xs = refl
    one (Some x) xs = refl

    now_out : more ++ filter_map end_of_done (drop (here + 1) told) ≡ filter_map end_of_done told
    now_out =
        ap (λ (xs : List TaskEnd). xs ++ filter_map end_of_done (drop (here + 1) told)) (noted ∙ ap (λ (o : Option TaskEnd). out ++ option_to_list o) ended)
        ∙ (append_assoc out (option_to_list at.0.end) (filter_map end_of_done (drop (here + 1) told))
        ∙ (ap (λ (xs : List TaskEnd). out ++ xs) (one at.0.end (filter_map end_of_done (drop (here + 1) told)) ∙ ap (filter_map end_of_done) (sym at.1.is))
        ∙ way.out))

-- ---- as the walk begins and ends

index-beyond : {X : Type 0} (xs : List X) (i : ℕ) (d : X) → length xs ≤ i → slice_index_or xs i d ≡ d
index-beyond [] i d high = refl
index-beyond (x ∷ xs) zero d high = absurd (omega (arith, high))
index-beyond {X} (x ∷ xs) (suc i) d high = index-beyond xs i d (omega (arith, high))

none-left : (n : ℕ) → drop n (let e : List EndSeen = [] in e) ≡ []
none-left zero = refl
none-left (suc n) = refl

pub begins : (merged : List Stamped) (ends : List (List EndSeen)) (done : List ℕ) (told : List Done) → ((core : ℕ) → slice_index done core ≡ 0) → AreEndsOf merged ends told
    → IsOnTheWay ends (left_of ends done) told 0 []
begins merged ends done told zeros are = record { left = left; none = none; out = refl } where
  item : (core : ℕ) → core < length ends → slice_get ends core ≡ Some (slice_index_or ends core [])
  item core low = there ends core low where
    there : (xs : List (List EndSeen)) (i : ℕ) → i < length xs → slice_get xs i ≡ Some (slice_index_or xs i [])
    there [] i low = absurd (omega (arith, low))
    there (x ∷ xs) zero low = refl
    there (x ∷ xs) (suc i) low = there xs i (omega (arith, low))

  left : (core : ℕ) → core < length ends → left_of ends done core ≡ seen_of (core_at core) told
  left core low = ap (λ (n : ℕ). drop n (slice_index_or ends core [])) (zeros core) ∙ are.seen core (slice_index_or ends core []) (item core low)

  none : (core : ℕ) → length ends ≤ core → left_of ends done core ≡ []
  none core high = ap (drop (slice_index done core)) (index-beyond ends core [] high) ∙ none-left (slice_index done core)

no-more : {X : Type 0} (xs : List X) (n : ℕ) → length xs ≤ n → drop n xs ≡ []
no-more [] zero high = refl
no-more [] (suc n) high = refl
no-more (x ∷ xs) zero high = absurd (omega (arith, high))
no-more {X} (x ∷ xs) (suc n) high = no-more xs n (omega (arith, high))

nil-behind : {X : Type 0} (xs : List X) → xs ++ [] ≡ xs
nil-behind [] = refl
nil-behind {X} (x ∷ xs) = ap (λ (ys : List X). x ∷ ys) (nil-behind xs)

pub ended : (merged : List Stamped) (ends : List (List EndSeen)) (left : ℕ → List EndSeen) (told : List Done) (here : ℕ) (out : List TaskEnd) → length merged ≤ here → AreEndsOf merged ends told
    → IsOnTheWay ends left told here out → out ≡ filter_map end_of_done told
ended merged ends left told here out high are way =
    let long : length told ≤ here = omega (arith, high, length-map told note_of, ap (λ (l : List Stamped). length l) are.notes) in
    sym (nil-behind out) ∙ (ap (λ (ds : List Done). out ++ filter_map end_of_done ds) (sym (no-more told here long)) ∙ way.out)

-- ---- the next end of a core

pub first-left : {X : Type 0} (xs : List X) (n : ℕ) → slice_get (drop n xs) 0 ≡ slice_get xs n
first-left [] zero = refl
first-left [] (suc n) = refl
first-left (x ∷ xs) zero = refl
first-left {X} (x ∷ xs) (suc n) = first-left xs n

first-drop : {X : Type 0} (xs : List X) (n : ℕ) (x : X) → slice_get (drop n xs) 0 ≡ Some x → drop n xs ≡ x ∷ drop (suc n) xs
first-drop [] zero x first = absurd (none-some x first)
first-drop [] (suc n) x first = absurd (none-some x first)
first-drop {X} (y ∷ ys) zero x first = ap (λ (z : X). z ∷ ys) (same_Some y x first)
first-drop (y ∷ ys) (suc n) x first = first-drop ys n x first

-- the next end of a core is done with
pub goes-on : (ends : List (List EndSeen)) (done : List ℕ) (c : CoreId) (stamp : ℕ) (x : EndSeen) → x.stamp ≡ stamp → c.0 < length done → slice_get (left_of ends done c.0) 0 ≡ Some x
    → (core : ℕ) → left_of ends (set done c.0 (slice_index done c.0 + 1)) core ≡ left_behind (Core c) stamp (left_of ends done) core
goes-on ends done c stamp x same low first core = by_test (c.0 == core) refl where
  more : List ℕ
  more = set done c.0 (slice_index done c.0 + 1)

  own : left_of ends more c.0 ≡ behind_at stamp (left_of ends done c.0)
  own =
      let one : slice_index more c.0 ≡ suc (slice_index done c.0) = omega (arith, get_or-set_same done c.0 (slice_index done c.0 + 1) 0 low) in
      let test : (x.stamp == stamp) ≡ true = grind (arith, nat_tests, same) in
      rw (one, first-drop (slice_index_or ends c.0 []) (slice_index done c.0) x first, test) refl

  by_test : (t : Bool) → (c.0 == core) ≡ t → left_of ends more core ≡ cond t (behind_at stamp (left_of ends done core)) (left_of ends done core)
  by_test true test =
      let here : c.0 ≡ core = grind (arith, nat_tests, test) in
      subst (λ (k : ℕ). left_of ends more k ≡ behind_at stamp (left_of ends done k)) here own
  by_test false test =
      let apart : slice_index more core ≡ slice_index done core =
      get_or-set_other done c.0 core (slice_index done c.0 + 1) 0 (λ is. absurd (let hit : (c.0 == core) ≡ true = grind (arith, nat_tests, is) in cc)) in
      ap (λ (n : ℕ). drop n (slice_index_or ends core [])) apart

-- ---- the list of what is done with

pub zeros : (n i : ℕ) → slice_index (replicate n 0) i ≡ 0
zeros zero zero = refl
zeros zero (suc i) = refl
zeros (suc n) zero = refl
zeros (suc n) (suc i) = zeros n i

take-whole : {X : Type 0} (xs : List X) (n : ℕ) → length xs ≡ n → take n xs ≡ xs
take-whole [] zero long = refl
take-whole [] (suc n) long = refl
take-whole (x ∷ xs) zero long = absurd (omega (arith, long))
take-whole {X} (x ∷ xs) (suc n) long = ap (λ (ys : List X). x ∷ ys) (take-whole xs n (omega (arith, long)))

-- a list that is written back into one as long is the whole
pub written-back : {X : Type 0} (new items : List X) (n : ℕ) → length new ≡ n → length items ≡ n → take n (new ++ drop (length new) items) ≡ new
written-back {X} new items n long same =
    ap (λ (ys : List X). take n (new ++ ys)) (no-more items (length new) (omega (arith, long, same))) ∙ (ap (take n) (nil-behind new) ∙ take-whole new n long)
