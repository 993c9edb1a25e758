-- A cache of words as its contracts describe it: a list of pairs of a word and its entry, the least recently used first.
use Rattle.std.specs.Prelude.{◌≡◌, ℕ, ◌%◌, ◌≤◌, Bool, true, false, not, ◌&&◌, ◌||◌, ◌==◌, nat_lt, List, [], ◌∷◌, ◌++◌, map, Option, Some, None, if◌then◌else◌, count_by}
use Rattle.std.specs.List.{filter, find}
use Rattle.std.specs.Option.{option_map}
use Rattle.dn_base.specs.declared.ids.WordId.{WordId}
use Rattle.region_table.specs.declared.interval.Interval.{Interval}
use Rattle.region_table.specs.Words.{has}
use Rattle.write_signature.specs.declared.signature.Signature.{Signature}
use Rattle.write_signature.specs.Signature.{may_hold}
use Rattle.word_cache.specs.declared.row.Entry.{Entry}
use Rattle.word_cache.specs.declared.row.Probe.{Probe}
use Rattle.word_cache.specs.declared.row.Probe.TheVariants.{Hit, Room, Full}
use Rattle.word_cache.specs.declared.row.Entry.TheVariants.{Valid, Registered, Leaving}

-- a word and its entry
abbrev pub Pair : Type 0
Pair = WordId × Entry

-- how many sets there are, how many pairs a set may have, and the pairs
pub record Cache : Type 0 where
  pub sets : ℕ
  pub ways : ℕ
  pub pairs : List Pair

-- a cache with other pairs
abbrev pub with_pairs : Cache → List Pair → Cache
with_pairs c ps = record c { pairs = ps }

-- whether a pair is the word's
abbrev pub is_of : ℕ → Pair → Bool
is_of w p = p.0.0 == w

-- whether a pair is in the set of the word
abbrev pub shares_set : ℕ → ℕ → Pair → Bool
shares_set sets w p = p.0.0 % sets == w % sets

-- whether a pair is in this set
abbrev pub in_set : ℕ → ℕ → Pair → Bool
in_set sets set p = p.0.0 % sets == set

-- the entry of a word, if it has a pair
abbrev pub lookup : ℕ → List Pair → Option Entry
lookup w [] = None
lookup w (p ∷ ps) = if is_of w p then Some p.1 else lookup w ps

-- no two pairs are of the same word
abbrev pub AreDifferent : List Pair → Type 0
AreDifferent [] = Unit {0}
AreDifferent (p ∷ ps) = (lookup p.0.0 ps ≡ None) × AreDifferent ps

-- the pairs without the word's
abbrev pub without : ℕ → List Pair → List Pair
without w ps = filter (λ (p : Pair). not (is_of w p)) ps

-- the word has this entry, and its pair is the most recently used
abbrev pub put : WordId → Entry → List Pair → List Pair
put word e ps = without word.0 ps ++ (word, e) ∷ []

-- the word's entry becomes this one; its pair keeps its place in the order of use
abbrev pub changed : ℕ → Entry → List Pair → List Pair
changed w e ps = map (λ (p : Pair). if is_of w p then (p.0, e) else p) ps

-- the word's pair, if it has one, is the most recently used
abbrev pub used : WordId → Option Entry → List Pair → List Pair
used word None ps = ps
used word (Some e) ps = put word e ps

abbrev pub touched : WordId → List Pair → List Pair
touched word ps = used word (lookup word.0 ps) ps

-- how many pairs the word's set has
abbrev pub set_count : ℕ → ℕ → List Pair → ℕ
set_count sets w ps = count_by (shares_set sets w) ps

-- whether the word's set has fewer pairs than it may have
abbrev pub has_room : Cache → ℕ → Bool
has_room c w = nat_lt (set_count c.sets w c.pairs) c.ways

-- what a probe for a word tells: its entry, or that it has none and whether its set has room
abbrev pub IsProbe : Probe → Option Entry → Bool → Type 0
IsProbe (Hit place e) entry room = entry ≡ Some e
IsProbe (Room place) entry room = (entry ≡ None) × (room ≡ true)
IsProbe Full entry room = (entry ≡ None) × (room ≡ false)

-- what holds of every cache: no two pairs are of the same word, and no set has more pairs than ways
pub record IsCache (c : Cache) : Type 0 where
  pub apart : AreDifferent c.pairs
  pub within : (w : ℕ) → set_count c.sets w c.pairs ≤ c.ways

-- whether an entry is pending, and whether it may be evicted: it is Valid, or Registered and not pending
abbrev pub is_pending : Entry → Bool
is_pending (Registered value pending) = pending
is_pending _ = false

abbrev pub is_evictable : Entry → Bool
is_evictable (Valid value marked) = true
is_evictable (Registered value pending) = not pending
is_evictable (Leaving value) = false

-- whether a word has an entry that may be evicted
abbrev pub may_go : Option Entry → Bool
may_go None = false
may_go (Some e) = is_evictable e

-- whether a word has an entry that may not be evicted: it is pending or leaving
abbrev pub is_stuck : Option Entry → Bool
is_stuck None = false
is_stuck (Some e) = not (is_evictable e)

-- whether a pair may be evicted to make room for a word
abbrev pub gives_way : ℕ → ℕ → Pair → Bool
gives_way sets w p = shares_set sets w p && is_evictable p.1

-- the word that was used least recently among those that may be evicted to make room for a word
abbrev pub victim_of : Cache → ℕ → Option WordId
victim_of c w = option_map (λ (p : Pair). p.0) (find (gives_way c.sets w) c.pairs)

-- how many entries are pending
abbrev pub pending_count : List Pair → ℕ
pending_count ps = count_by (λ (p : Pair). is_pending p.1) ps

-- 1 if a word's entry is pending, else 0
abbrev pub pending_bit : Option Entry → ℕ
pending_bit None = 0
pending_bit (Some e) = if is_pending e then 1 else 0

-- which entries of words that the phase may have written a core keeps when the phase ends: all but Valid ones that aren't
-- marked
abbrev pub is_kept : Entry → Bool
is_kept (Valid value marked) = marked
is_kept _ = true

abbrev pub stays : List Interval → Pair → Bool
stays words p = is_kept p.1 || not (has words p.0.0)

-- in the next phase no Valid entry is marked
abbrev pub unmarked : Entry → Entry
unmarked (Valid value marked) = Valid value false
unmarked (Registered value pending) = Registered value pending
unmarked (Leaving value) = Leaving value

abbrev pub dropped_written : List Interval → List Pair → List Pair
dropped_written words ps = map (λ (p : Pair). (p.0, unmarked p.1)) (filter (stays words) ps)

-- which entries a core keeps at a grant: all but Valid ones of words that the lock guards and the signature may hold
abbrev pub is_valid : Entry → Bool
is_valid (Valid value marked) = true
is_valid _ = false

abbrev pub is_fresh : Signature → ℕ → List Interval → Pair → Bool
is_fresh signature phase words p = not (is_valid p.1 && has words p.0.0 && may_hold signature p.0.0 phase)

abbrev pub dropped_signed : Signature → ℕ → List Interval → List Pair → List Pair
dropped_signed signature phase words ps = filter (is_fresh signature phase words) ps

-- a word's entry after a phase's end, and after a grant: columns of `dropped_written` and `dropped_signed`, for the law
-- `each_entry_is_judged_alone`
abbrev pub entry_after_phase : List Interval → ℕ → Option Entry → Option Entry
entry_after_phase words w None = None
entry_after_phase words w (Some e) = if is_kept e || not (has words w) then Some (unmarked e) else None

abbrev pub entry_after_grant : Signature → ℕ → List Interval → ℕ → Option Entry → Option Entry
entry_after_grant signature phase words w None = None
entry_after_grant signature phase words w (Some e) =
    if is_valid e && has words w && may_hold signature w phase then None else Some e
