-- A text is split at its first dot.
use Rattle.std.proofs.Common.{◌≡◌, ℕ, ◌<◌, Bool, true, false, nat_lt, List, length, Option, Some, None, option_map, refl, if◌then◌else◌, arith}
use Rattle.std.proofs.lemmas.Bool.{ltb-true, lt-ltb}
use Rattle.std.specs.Borrow.{Bor}
use Rattle.std.specs.Prelude.{MatchOption}
use Rattle.std.specs.List.{position_or_len, before_first, after_first}
use Rattle.sweep_top.specs.Command.{is_dot, around_dot}

-- what `split_once` says of a dot
abbrev pub AreParts : List ℕ → Option (Bor (List ℕ) × Bor (List ℕ)) → Type 0
AreParts s r = MatchOption r (position_or_len is_dot s ≡ length s)
    (λ x. (x.0.now ≡ before_first is_dot s) × (x.1.now ≡ after_first is_dot s) × (position_or_len is_dot s < length s))

pub parts-around_dot : (s : List ℕ) (r : Option (Bor (List ℕ) × Bor (List ℕ))) → AreParts s r
    → ◌≡◌ {A = Option (List ℕ × List ℕ)} (option_map (λ (parts : Bor (List ℕ) × Bor (List ℕ)). (parts.0.now, parts.1.now)) r) (around_dot s)
parts-around_dot s None whole = by_test (nat_lt (position_or_len is_dot s) (length s)) refl where
  by_test : (t : Bool) → nat_lt (position_or_len is_dot s) (length s) ≡ t
      → ◌≡◌ {A = Option (List ℕ × List ℕ)} None (if t then Some (before_first is_dot s, after_first is_dot s) else None)
  by_test true e = let low = ltb-true (position_or_len is_dot s) (length s) e in absurd (omega (arith, whole, low))
  by_test false e = refl
parts-around_dot s (Some x) are = rw (lt-ltb (position_or_len is_dot s) (length s) are.2, are.0, are.1) refl
