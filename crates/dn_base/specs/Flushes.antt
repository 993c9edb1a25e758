-- Whether a sink has flushed all that it took. It is None for a sink that doesn't say so.
use Rattle.std.specs.Prelude.{◌≡◌, ◌==◌, ℕ, Bool, true, false, if◌then◌else◌, Option, Result, MatchResult}
use Rattle.std.specs.Option.{option_map}

-- after a write that took `count` bytes: if it took any, they are still to be flushed
abbrev pub after_write : Option Bool → ℕ → Option Bool
after_write flushed count = if count == 0 then flushed else option_map (λ _. false) flushed

-- after a flush that was Ok: all is flushed
abbrev pub after_flush : Option Bool → Option Bool
after_flush flushed = option_map (λ _. true) flushed

-- how a write changes the flag; a failed one changes nothing
abbrev pub WriteUnflushes : {E : Type 0} → Option Bool → Option Bool → Result ℕ E → Type 0
WriteUnflushes before now result = MatchResult result (λ count. now ≡ after_write before count) (λ _. now ≡ before)

-- how a flush changes the flag; a failed one changes nothing
abbrev pub Flushes : {U E : Type 0} → Option Bool → Option Bool → Result U E → Type 0
Flushes before now result = MatchResult result (λ _. now ≡ after_flush before) (λ _. now ≡ before)
