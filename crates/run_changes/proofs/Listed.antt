-- Lists of changes that are looked at one by one.
use Rattle.std.proofs.Common.{◌≡◌, ℕ, zero, suc, ◌+◌, ◌-◌, ◌<◌, ◌≤◌, List, [], ◌∷◌, ◌++◌, length, get_or, drop, map, flat_map, slice_get, slice_index_or, Option, Some, None, refl, sym, ap, ◌∙◌, arith}
use Rattle.std.proofs.lemmas.List.{append_assoc, drop_more}
use Rattle.std.proofs.lemmas.Option.{none-some, same_Some, slice_get_past}
use Rattle.std.specs.List.{filter}
use Rattle.dn_base.specs.declared.ids.LoadSeen.{LoadSeen}
use Rattle.rv_core.specs.Access.{is_held}
use Rattle.write_signature.specs.declared.signature.Signature.{Signature}
use Rattle.phase_barrier.specs.Barrier.{Barrier, has_arrived}
use Rattle.word_cache.specs.Cache.{Cache, Pair, in_set}
use Rattle.machine_rules.specs.State.{State}
use Rattle.machine_rules.specs.Sound.{IsMachine}
use Rattle.run_changes.specs.declared.look.EntryBefore.{EntryBefore}
use Rattle.run_changes.specs.declared.look.NodeLook.{NodeLook}
use Rattle.run_changes.specs.Looks.{pair_before, cached_from}
use Rattle.run_changes.specs.declared.change.Change.{Change}
use Rattle.run_changes.specs.declared.change.ActorChanges.{ActorChanges}
use Rattle.run_changes.specs.Changes.{entry_change, hold_change, sign_change, lock_changes, core_changes, arrived_core, arrived_from}
use Rattle.run_changes.specs.Since.{pair_held, held_from, core_since, cores_since, word_since, words_since, lock_since, locks_since}

-- what stands from an index on begins with the item there, if there is one
there : {X : Type 0} (xs : List X) (i : ℕ) (x : X) → slice_get xs i ≡ Some x → drop i xs ≡ x ∷ drop (suc i) xs
there [] i x e = absurd (none-some x e)
there (y ∷ ys) zero x e = rw (same_Some y x e) refl
there (y ∷ ys) (suc i) x e = there ys i x e

pub drop_there : {X : Type 0} (xs : List X) (i : ℕ) (x : X) → slice_get xs i ≡ Some x → drop i xs ≡ x ∷ drop (i + 1) xs
drop_there xs i x e =
    let more : i + 1 ≡ suc i = omega arith in
    rw (more) (there xs i x e)

pub drop_none : {X : Type 0} (xs : List X) (i : ℕ) → slice_get xs i ≡ None → drop i xs ≡ []
drop_none [] zero e = refl
drop_none [] (suc i) e = refl
drop_none (y ∷ ys) zero e = absurd (none-some y (sym e))
drop_none (y ∷ ys) (suc i) e = drop_none ys i e

-- what is added to a list so far, and what is left of all
pub goes_on : {X : Type 0} (so_far more added left rest all : List X) → more ≡ so_far ++ added → left ≡ added ++ rest → so_far ++ left ≡ all → more ++ rest ≡ all
goes_on so_far more added left rest all is split led =
    ap (λ (l : List _). l ++ rest) is ∙ append_assoc so_far added rest ∙ ap (λ (l : List _). so_far ++ l) (sym split) ∙ led

-- what one more step of a loop over a list adds: the item at its place, to what was added before it
pub some_read : {X Y : Type 0} (f : X → List Y) (out : List Y) (xs : List X) (i : ℕ) (d : X) (all : List Y) → i < length xs → out ++ flat_map f (drop i xs) ≡ all
    → (out ++ f (get_or xs i d)) ++ flat_map f (drop (i + 1) xs) ≡ all
some_read f out xs i d all within so_far =
    let added = f (get_or xs i d) in
    goes_on out (out ++ added) added (flat_map f (drop i xs)) (flat_map f (drop (i + 1) xs)) all refl (ap (flat_map f) (drop_more xs i d within)) so_far

pub word_read : (S : State) (out : List ActorChanges) (w : ℕ) (values : List ℕ) (i d : ℕ) (all : List ActorChanges) → i < length values → out ++ words_since S w (drop i values) ≡ all
    → (out ++ word_since S w (get_or values i d)) ++ words_since S (w + 1) (drop (i + 1) values) ≡ all
word_read S out w values i d all within so_far =
    let added = word_since S w (get_or values i d) in
    goes_on out (out ++ added) added (words_since S w (drop i values)) (words_since S (w + 1) (drop (i + 1) values)) all refl (ap (words_since S w) (drop_more values i d within)) so_far

pub lock_read : (held holds : ℕ) (before after : List Signature) (out : List Change) (l i : ℕ) (d : Signature) (all : List Change) → i < length after
    → out ++ lock_changes held holds before l (drop i after) ≡ all
    → (out ++ (hold_change l (is_held held l) (is_held holds l) ++ sign_change l (slice_index_or before l (get_or after i d)) (get_or after i d))) ++ lock_changes held holds before (l + 1) (drop (i + 1) after) ≡ all
lock_read held holds before after out l i d all within so_far =
    let s = get_or after i d in
    let hold = hold_change l (is_held held l) (is_held holds l) in
    let sign = sign_change l (slice_index_or before l s) s in
    let rest = lock_changes held holds before (l + 1) (drop (i + 1) after) in
    goes_on out (out ++ (hold ++ sign)) (hold ++ sign) (lock_changes held holds before l (drop i after)) rest all refl
    (ap (lock_changes held holds before l) (drop_more after i d within) ∙ sym (append_assoc hold sign rest)) so_far

pub nothing_behind : {X : Type 0} (xs : List X) → xs ++ [] ≡ xs
nothing_behind [] = refl
nothing_behind (x ∷ xs) = ap (λ (l : List _). x ∷ l) (nothing_behind xs)

pub is_all : {X : Type 0} (so_far left all : List X) → left ≡ [] → so_far ++ left ≡ all → so_far ≡ all
is_all so_far left all end led = sym (nothing_behind so_far) ∙ ap (λ (l : List _). so_far ++ l) (sym end) ∙ led

pub nothing_added : {X : Type 0} (xs added : List X) → added ≡ [] → xs ≡ xs ++ added
nothing_added xs added none = rw (none) (sym (nothing_behind xs))

-- one step of what is counted upward to an end
one_less : (i n : ℕ) → i < n → n - i ≡ suc (n - (i + 1))
one_less i n below = omega (arith, below)

pub cached_step : (c : Cache) (set n : ℕ) → set < n → cached_from c set (n - set) ≡ map pair_before (filter (in_set c.sets set) c.pairs) ++ cached_from c (set + 1) (n - (set + 1))
cached_step c set n below = rw (one_less set n below) refl

-- the words that a cache has, as changes from none
abbrev held : EntryBefore → List Change
held e = entry_change e.word None e.entry

held_pairs : (ps : List Pair) → flat_map held (map pair_before ps) ≡ map pair_held ps
held_pairs [] = refl
held_pairs (p ∷ ps) = ap (λ (l : List Change). pair_held p ∷ l) (held_pairs ps)

held_both : (xs ys : List EntryBefore) → flat_map held (xs ++ ys) ≡ flat_map held xs ++ flat_map held ys
held_both [] ys = refl
held_both (x ∷ xs) ys = ap (λ (l : List Change). held x ++ l) (held_both xs ys) ∙ sym (append_assoc (held x) (flat_map held xs) (flat_map held ys))

pub cached_held : (c : Cache) (set n : ℕ) → flat_map (λ (e : EntryBefore). entry_change e.word None e.entry) (cached_from c set n) ≡ held_from c set n
cached_held c set zero = refl
cached_held c set (suc n) =
    let own = filter (in_set c.sets set) c.pairs in
    held_both (map pair_before own) (cached_from c (set + 1) n) ∙ ap (λ (l : List Change). l ++ flat_map held (cached_from c (set + 1) n)) (held_pairs own)
    ∙ ap (λ (l : List Change). map pair_held own ++ l) (cached_held c (set + 1) n)

pub arrived_step : (k : Barrier) (core n : ℕ) → core < n → arrived_from k core (n - core) ≡ arrived_core core (has_arrived core k) ++ arrived_from k (core + 1) (n - (core + 1))
arrived_step k core n below = rw (one_less core n below) refl

pub cores_step : (S : State) (core n : ℕ) → core < n → cores_since S core (n - core) ≡ core_since core (slice_get S.nodes core) ++ cores_since S (core + 1) (n - (core + 1))
cores_step S core n below = rw (one_less core n below) refl

pub locks_step : (S : State) (l n : ℕ) → l < n → locks_since S l (n - l) ≡ lock_since S l ++ locks_since S (l + 1) (n - (l + 1))
locks_step S l n below = rw (one_less l n below) refl

-- a core that isn't there changes nothing
pub no_core : (S : State) (core : ℕ) (look : NodeLook) (seen : Option LoadSeen) → IsMachine S → S.setting.shape.cores ≤ core → core_changes look seen (slice_get S.nodes core) ≡ []
no_core S core look seen m above = rw (slice_get_past S.nodes core (omega (arith, m.nodes, above))) refl
