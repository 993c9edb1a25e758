-- What is left of a cache's pairs.
use Rattle.std.proofs.Common.{◌≡◌, ℕ, Bool, true, List, [], ◌∷◌, refl, arith}
use Rattle.std.specs.List.{filter}
use Rattle.write_signature.specs.declared.signature.Signature.{Signature}
use Rattle.word_cache.specs.declared.row.Entry.{Entry}
use Rattle.word_cache.specs.declared.row.Entry.TheVariants.{Valid, Registered, Leaving}
use Rattle.word_cache.specs.Cache.{Pair, is_fresh, dropped_signed}

all_fresh : (s : Signature) (phase w : ℕ) (word : _) (e : Entry) → is_fresh s phase [] (word, e) ≡ true
all_fresh s phase w word (Valid value marked) = refl
all_fresh s phase w word (Registered value pending) = refl
all_fresh s phase w word (Leaving value) = refl

kept_all : (f : Pair → Bool) → ((p : Pair) → f p ≡ true) → (ps : List Pair) → filter f ps ≡ ps
kept_all f all [] = refl
kept_all f all (p ∷ ps) = let rest = kept_all f all ps in let here = all p in grind (arith, here, rest)

-- a lock that guards no word makes nothing stale
pub dropped-none : (s : Signature) (phase : ℕ) (ps : List Pair) → dropped_signed s phase [] ps ≡ ps
dropped-none s phase ps = kept_all (is_fresh s phase []) (λ p. all_fresh s phase 0 p.0 p.1) ps
