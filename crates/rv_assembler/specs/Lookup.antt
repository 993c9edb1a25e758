-- What a look-up finds in the code's table of names.
use Rattle.std.specs.Prelude.{ℕ, ◌+◌, ◌*◌, ◌%◌, ◌^◌, List, [], ◌∷◌, length, slice_index_or, Option}
use Rattle.std.specs.BTreeMap.{BTreeMap, get_by}
use denote.Ref.{Bor}
use Rattle.std.specs.Cmp.Lexicographic.{slice_cmp}
use Rattle.std.specs.Ordering.{nat_cmp}
use Rattle.rv_assembler.specs.declared.names.Names.{Names}
use Rattle.rv_assembler.specs.declared.names.Meaning.{Meaning}

-- the hash of some bytes, behind bytes with the hash h
abbrev pub hash_after : ℕ → List ℕ → ℕ
hash_after h [] = h
hash_after h (b ∷ bs) = hash_after ((h * 31 + b) % 2 ^ 32) bs

-- the number of a name's shelf, of so many and the last one, which is the one behind them
abbrev pub shelf_number : ℕ → List ℕ → ℕ
shelf_number count name = hash_after 0 name % (count + 1)

-- what a name means by a shelf
abbrev pub found_on : BTreeMap (Bor (List ℕ)) Meaning → List ℕ → Option Meaning
found_on shelf q = get_by (λ k. slice_cmp nat_cmp q k.now) shelf

abbrev pub name_lookup : Names → List ℕ → Option Meaning
name_lookup names q = found_on (slice_index_or names.shelves.items (shelf_number (length names.shelves.items) q) names.last) q
