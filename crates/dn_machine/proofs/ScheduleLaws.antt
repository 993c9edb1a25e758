-- What the events of a seed come to.
use Rattle.std.proofs.Common.{◌≡◌, ℕ, ◌+◌, List, [], ◌∷◌, ◌++◌, Some, None, refl, subst}
use Rattle.rand_pcg.specs.Lcg.{Lcg}
use Rattle.message_net.specs.declared.event.Event.{Event}
use Rattle.machine_rules.specs.State.{State}
use Rattle.machine_rules.specs.Next.{next}
use Rattle.machine_rules.specs.Runs.{IsCompleteRun, after}
use Rattle.machine_rules.specs.Sound.{IsSound}
use Rattle.machine_rules.proofs.SoundEvents.{sound-next}
use Rattle.dn_machine.specs.Pick.{pick}
use Rattle.dn_machine.specs.Schedule.{word_of, after_word, after_words, ArePicked, IsPicked}
use Rattle.dn_machine.proofs.PickLaws.{pick-comes, pick-none}

-- the events that the words of a generator pick are a complete run
pub picked-complete : (S : State) (made : ℕ) (g : Lcg) (events : List Event) → IsSound S made → IsPicked S g events → IsCompleteRun S events
picked-complete S made g [] sound is = record { run = tt; over = pick-none S (word_of g) sound.machine is }
picked-complete S made g (e ∷ es) sound is =
    let may = pick-comes S (word_of g) e sound.machine is.0 in
    let rest = picked-complete (next S e) (made + 1) (after_word g) es (sound-next S made e sound may) is.1 in
    record { run = (may, rest.run); over = rest.over }

-- they are no others
pub picked-one : (S : State) (g : Lcg) (events others : List Event) → IsPicked S g events → IsPicked S g others → events ≡ others
picked-one S g [] [] is other = refl
picked-one S g [] (f ∷ fs) is other = absurd (cc)
picked-one S g (e ∷ es) [] is other = absurd (cc)
picked-one S g (e ∷ es) (f ∷ fs) is other =
    let same : f ≡ e = cc in
    let there : IsPicked (next S e) (after_word g) fs = subst (λ (x : Event). IsPicked (next S x) (after_word g) fs) same other.1 in
    let rest = picked-one (next S e) (after_word g) es fs is.1 there in
    cc

-- one more event is picked
pub picked-more : (S : State) (g : Lcg) (events : List Event) (e : Event) → ArePicked S g events → pick (after S events) (word_of (after_words events g)) ≡ Some e → ArePicked S g (events ++ e ∷ [])
picked-more S g [] e are is = (is, tt)
picked-more S g (x ∷ xs) e are is = (are.0, picked-more (next S x) (after_word g) xs e are.1 is)

-- none is picked behind them
pub picked-all : (S : State) (g : Lcg) (events : List Event) → ArePicked S g events → pick (after S events) (word_of (after_words events g)) ≡ None → IsPicked S g events
picked-all S g [] are is = is
picked-all S g (x ∷ xs) are is = (are.0, picked-all (next S x) (after_word g) xs are.1 is)

pub after-more : (S : State) (events : List Event) (e : Event) → after S (events ++ e ∷ []) ≡ next (after S events) e
after-more S [] e = refl
after-more S (x ∷ xs) e = after-more (next S x) xs e

pub after_words-more : (g : Lcg) (events : List Event) (e : Event) → after_words (events ++ e ∷ []) g ≡ after_word (after_words events g)
after_words-more g [] e = refl
after_words-more g (x ∷ xs) e = after_words-more (after_word g) xs e
