-- The events that a seed picks.
use Rattle.std.specs.Prelude.{◌≡◌, ℕ, List, [], ◌∷◌, Some, None}
use Rattle.rand_core.specs.Pcg32Seed.{pcg32_seed}
use Rattle.rand_pcg.specs.Lcg.{Lcg}
use Rattle.rand_pcg.specs.Pcg.{pcg32, pcg32_of_seed}
use Rattle.message_net.specs.declared.event.Event.{Event}
use Rattle.machine_rules.specs.State.{State}
use Rattle.machine_rules.specs.Next.{next}
use Rattle.dn_machine.specs.Pick.{pick}

-- the generator of a seed, the next word of a generator, and the generator after that word
unfoldable pub generator_of : ℕ → Lcg
generator_of seed = pcg32_of_seed (pcg32_seed 16 seed)

unfoldable pub word_of : Lcg → ℕ
word_of g = (pcg32 g).0

unfoldable pub after_word : Lcg → Lcg
after_word g = (pcg32 g).1

-- the generator after as many words as there are events
abbrev pub after_words : List Event → Lcg → Lcg
after_words [] g = g
after_words (e ∷ es) g = after_words es (after_word g)

-- each event is the one that the generator's next word picks in its turn
abbrev pub ArePicked : State → Lcg → List Event → Type 0
ArePicked S g [] = Unit {0}
ArePicked S g (e ∷ es) = (pick S (word_of g) ≡ Some e) × ArePicked (next S e) (after_word g) es

-- the events are those that the generator's words pick one after the other, until no event may come
abbrev pub IsPicked : State → Lcg → List Event → Type 0
IsPicked S g [] = pick S (word_of g) ≡ None
IsPicked S g (e ∷ es) = (pick S (word_of g) ≡ Some e) × IsPicked (next S e) (after_word g) es

-- the events are those of a seed
abbrev pub IsScheduled : State → ℕ → List Event → Type 0
IsScheduled S seed events = IsPicked S (generator_of seed) events
