-- What an actor can start first: its own event, or the first message to it.
use Rattle.std.proofs.Common.{◌≡◌, ◌⊎◌, inl, inr, ℕ, ◌<◌, ◌≤◌, max, Bool, true, false, cond, nat_lt, Option, Some, None, refl, sym, subst, arith}
use Rattle.std.proofs.lemmas.Bool.Decides.{nat_tests}
use Rattle.std.proofs.lemmas.Option.{none-some, same_Some}
use Rattle.message_net.specs.declared.event.Event.{Event}
use Rattle.time_order.specs.declared.choice.Choice.{Choice}
use Rattle.time_order.specs.declared.flight.Flight.{Flight}
use Rattle.time_order.specs.Choices.{own_choice, mail_choice, choice_of}

-- the choice is the own event, which can start before the first message arrives
pub record IsOwnChosen (own : Option Event) (free : ℕ) (first : Option Flight) (c : Choice) : Type 0 where
  pub event : own ≡ Some c.event
  pub start : c.start ≡ free
  pub sooner : (f : Flight) → first ≡ Some f → free < f.arrival

-- the choice is the first message, which no own event comes before
pub record IsMailChosen (own : Option Event) (free : ℕ) (first : Option Flight) (c : Choice) : Type 0 where
  pub flight : Flight
  pub is_first : first ≡ Some flight
  pub choice : c ≡ mail_choice free flight
  pub arrived : (e : Event) → own ≡ Some e → flight.arrival ≤ free

pub chosen-either : (own : Option Event) (free : ℕ) (first : Option Flight) (c : Choice) → choice_of own free first ≡ Some c → IsOwnChosen own free first c ⊎ IsMailChosen own free first c
chosen-either None free None c is = absurd (none-some c is)
chosen-either (Some e) free None c is =
    let same : own_choice free e ≡ c = same_Some (own_choice free e) c is in
    inl (subst (IsOwnChosen (Some e) free None) same (record { event = refl; start = refl; sooner = λ f none. absurd (none-some f none) }))
chosen-either None free (Some f) c is =
    inr (record { flight = f; is_first = refl; choice = sym (same_Some (mail_choice free f) c is); arrived = λ e none. absurd (none-some e none) })
chosen-either (Some e) free (Some f) c is = by_test (nat_lt free f.arrival) refl is where
  by_test : (t : Bool) → nat_lt free f.arrival ≡ t → cond t (Some (own_choice free e)) (Some (mail_choice free f)) ≡ Some c → IsOwnChosen (Some e) free (Some f) c ⊎ IsMailChosen (Some e) free (Some f) c
  by_test true low is =
      let same : own_choice free e ≡ c = same_Some (own_choice free e) c is in
      let sooner : (g : Flight) → Some f ≡ Some g → free < g.arrival = λ g here. subst (λ (x : Flight). free < x.arrival) (same_Some f g here) (grind (arith, nat_tests, low)) in
      inl (subst (IsOwnChosen (Some e) free (Some f)) same (record { event = refl; start = refl; sooner = sooner }))
  by_test false low is =
      inr (record { flight = f; is_first = refl; choice = sym (same_Some (mail_choice free f) c is); arrived = λ x own. grind (arith, nat_tests, low) })

-- where there is an own event or a message there is a choice, which starts no later than each of them can
pub own-start : (own : Option Event) (free : ℕ) (first : Option Flight) (e : Event) → own ≡ Some e → (c : Choice) × (choice_of own free first ≡ Some c) × (c.start ≤ free)
own-start None free first e is = absurd (none-some e is)
own-start (Some x) free None e is = (own_choice free x, refl, omega arith)
own-start (Some x) free (Some f) e is = by_test (nat_lt free f.arrival) refl where
  by_test : (t : Bool) → nat_lt free f.arrival ≡ t → (c : Choice) × (cond t (Some (own_choice free x)) (Some (mail_choice free f)) ≡ Some c) × (c.start ≤ free)
  by_test true low = (own_choice free x, refl, omega arith)
  by_test false low = (mail_choice free f, refl, grind (arith, nat_tests, low))

pub mail-start : (own : Option Event) (free : ℕ) (first : Option Flight) (f : Flight) → first ≡ Some f → (c : Choice) × (choice_of own free first ≡ Some c) × (c.start ≤ max f.arrival free)
mail-start own free None f is = absurd (none-some f is)
mail-start None free (Some g) f is =
    let same : g ≡ f = same_Some g f is in
    (mail_choice free g, refl, subst (λ (x : Flight). max g.arrival free ≤ max x.arrival free) same (omega arith))
mail-start (Some e) free (Some g) f is = by_test (nat_lt free g.arrival) refl where
  same : g ≡ f
  same = same_Some g f is

  by_test : (t : Bool) → nat_lt free g.arrival ≡ t → (c : Choice) × (cond t (Some (own_choice free e)) (Some (mail_choice free g)) ≡ Some c) × (c.start ≤ max f.arrival free)
  by_test true low = (own_choice free e, refl, omega arith)
  by_test false low = (mail_choice free g, refl, subst (λ (x : Flight). max g.arrival free ≤ max x.arrival free) same (omega arith))
