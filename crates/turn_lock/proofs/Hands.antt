-- Giving the slot back with the desk that is in the caller's hand.
use Rattle.std.proofs.Common.{◌≡◌, ℕ, ◌+◌, ◌%◌, ◌^◌, List, [], ◌∷◌, ◌++◌, Option, Some, None, sym, refl, ap, ◌∙◌, subst, append-nil}
use Rattle.std.proofs.lemmas.List.Elements.{All-nil, All-cons}
use mathlib.Core.Option.{none}
use Rattle.atomic_table.specs.Table.{Me, step, rest, Allows}
use Rattle.turn_lock.specs.declared.desk.Desk.{Desk}
use Rattle.turn_lock.specs.declared.entry.Entry.{Entry}
use Rattle.turn_lock.specs.declared.view.Claim.{Claim}
use Rattle.turn_lock.specs.declared.view.Stage.{Stage}
use Rattle.turn_lock.specs.declared.view.Stage.TheVariants.{Inside}
use Rattle.turn_lock.specs.declared.view.View.{View}
use Rattle.turn_lock.specs.History.{Legal, maker}
use Rattle.turn_lock.specs.Slots.{Lies, history_in_slot}
use Rattle.turn_lock.specs.Standing.{standing}
use Rattle.turn_lock.specs.Turns.{Kept}
use Rattle.turn_lock.specs.Steps.{HasTurn, left, passed}
use Rattle.turn_lock.specs.Calling.{IsIdle, InHand}
use Rattle.turn_lock.proofs.Moves.{leave, pass_on}

-- the value of the slot that was taken last, or a default
front : {S : Type 0} → S → List (ℕ × S) → S
front y [] = y
front y (held ∷ others) = held.1

same_value : {S : Type 0} (y z : S) (others others' : List (ℕ × S)) → (0, y) ∷ others ≡ (0, z) ∷ others' → y ≡ z
unfolding front
same_value y z others others' e = ap (front y) e

module _ {O I U C : Type 0} (content : O → C) (answer : C → I → U) (next : C → I → C) where
  -- the desk lies in the slot
  holding : (x : O) (more : List (Entry O I U)) (desk : Desk O I U) (me me' : Me (Option (Desk O I U)) (View O (Entry O I U))) (hand : InHand content answer next x me more desk) → me' ≡ (me.0, (0, Some desk) ∷ [])
      → me' ≡ (standing x me.0.own me.0.next (Inside hand.ticket hand.log), (0, Some desk) ∷ [])
  holding x more desk me me' hand is = is ∙ ap (λ (m : Me (Option (Desk O I U)) (View O (Entry O I U))). (m.0, (0, Some desk) ∷ [])) hand.me_is

  pub leave_desk : (x : O) (passes slots id : ℕ) (desk : Desk O I U) (me me' : Me (Option (Desk O I U)) (View O (Entry O I U))) → InHand content answer next x me [] desk → me' ≡ (me.0, (0, Some desk) ∷ [])
      → Allows (Kept maker (Lies content answer next) x passes) slots id me' 1 (λ k. (k + 1) % 2 ^ 64) (left (step 0 0 0 0 none) me')
  leave_desk x passes slots id desk me me' hand is =
      let whole : desk.history.items ≡ hand.log = hand.longer ∙ append-nil hand.log in
      leave maker (Lies content answer next) x passes slots id me.0.own me.0.next hand.ticket hand.log (Some desk) me' (step 0 0 0 0 none) (holding x [] desk me me' hand is) (whole, subst (λ l. Legal answer next (content x) l (content desk.object)) whole hand.legal)

  pub pass_on_desk : (x : O) (passes slots id : ℕ) (more : List (Entry O I U)) (desk : Desk O I U) (me me' : Me (Option (Desk O I U)) (View O (Entry O I U))) → InHand content answer next x me more desk → me' ≡ (me.0, (0, Some desk) ∷ [])
      → Allows (Kept maker (Lies content answer next) x passes) slots id me' 1 (λ k. (k + 1) % 2 ^ 64) (passed maker history_in_slot (step 0 0 0 0 none) me')
  pass_on_desk x passes slots id more desk me me' hand is =
      pass_on maker (Lies content answer next) x passes slots history_in_slot id me.0.own me.0.next hand.ticket hand.log more (Some desk) me' (step 0 0 0 0 none) (holding x more desk me me' hand is) hand.longer (refl, hand.legal) hand.theirs

  pub at_opening : (x y : O) (more : List (Entry O I U)) (desk : Desk O I U) (me : Me (Option (Desk O I U)) (View O (Entry O I U))) → y ≡ x → InHand content answer next x me more desk → InHand content answer next y me more desk
  at_opening x y more desk me same hand = subst (λ o. InHand content answer next o me more desk) (sym same) hand

  -- the fields of a standing seat, read from the seat itself
  itself : (x : O) (own : Claim (Entry O I U)) (n : ℕ) (s : Stage (Entry O I U)) (held : List (ℕ × Option (Desk O I U))) (me : Me (Option (Desk O I U)) (View O (Entry O I U))) → me ≡ (standing x own n s, held) → me ≡ (standing x me.0.own me.0.next s, held)
  itself x own n s held me e = e ∙ ap (λ (m : Me (Option (Desk O I U)) (View O (Entry O I U))). (standing x m.0.own m.0.next s, held)) (sym e)

  pub takes_out : (x : O) (ticket : ℕ) (desk : Desk O I U) (me me' me'' : Me (Option (Desk O I U)) (View O (Entry O I U))) → IsIdle x me → HasTurn maker (Lies content answer next) me.0 ticket me' → me'.1 ≡ (0, Some desk) ∷ rest me'.1 → me'' ≡ (me'.0, (0, None) ∷ rest me'.1) → InHand content answer next x me'' [] desk
  takes_out x ticket desk me me' me'' idle turn out left_in =
      let stands : me.0 ≡ standing x me.0.own me.0.next _ = ap (λ (m : Me (Option (Desk O I U)) (View O (Entry O I U))). m.0) idle in
      let from : Some x ≡ Some turn.opening = sym (ap (λ (v : View O (Entry O I U)). v.opening) stands) ∙ turn.from in
      let same : turn.opening ≡ x = cc in
      let had = ap (λ (m : Me (Option (Desk O I U)) (View O (Entry O I U))). m.1) turn.me_is in
      let value : turn.value ≡ Some desk = same_value turn.value (Some desk) [] (rest me'.1) (sym had ∙ out) in
      let good = subst (λ v. Lies content answer next turn.opening turn.log v) value turn.good in
      let inside : me'.0 ≡ standing x me.0.own me.0.next (Inside ticket turn.log) = ap (λ (m : Me (Option (Desk O I U)) (View O (Entry O I U))). m.0) turn.me_is ∙ ap (λ (v : View O (Entry O I U)). record v { stage = Inside ticket turn.log }) stands in
      let at : me'' ≡ (standing x me.0.own me.0.next (Inside ticket turn.log), (0, None) ∷ rest me'.1) = left_in ∙ ap (λ v. (v, (0, None) ∷ rest me'.1)) inside in
      let none_else : rest me'.1 ≡ [] = ap rest had in
      let now : me'' ≡ (standing x me.0.own me.0.next (Inside ticket turn.log), (0, None) ∷ []) = at ∙ ap (λ l. (standing x me.0.own me.0.next (Inside ticket turn.log), (0, None) ∷ l)) none_else in record {
        ticket = ticket;
        log = turn.log;
        me_is = itself x me.0.own me.0.next (Inside ticket turn.log) ((0, None) ∷ []) me'' now;
        longer = good.0 ∙ sym (append-nil turn.log);
        theirs = All-nil _;
        legal = subst (λ l. Legal answer next (content x) l (content desk.object)) (sym good.0) (subst (λ o. Legal answer next (content o) turn.log (content desk.object)) same good.1);
      }

  pub Legal-push : (c : C) (history : List (Entry O I U)) (y : C) (e : Entry O I U) → Legal answer next c history y → e.output ≡ answer y e.input → Legal answer next c (history ++ e ∷ []) (next y e.input)
  Legal-push c [] y e legal is = (is ∙ ap (λ k. answer k e.input) (sym legal), ap (λ k. next k e.input) legal)
  Legal-push c (d ∷ ds) y e legal is = (legal.0, Legal-push (next c d.input) ds y e legal.1 is)

  pub makes : (x : O) (e : Entry O I U) (desk desk' : Desk O I U) (me : Me (Option (Desk O I U)) (View O (Entry O I U))) → InHand content answer next x me [] desk → desk'.history.items ≡ desk.history.items ++ e ∷ [] → e.pass ≡ me.0.own.number → e.output ≡ answer (content desk.object) e.input → content desk'.object ≡ next (content desk.object) e.input
      → InHand content answer next x me (e ∷ []) desk'
  makes x e desk desk' me hand longer number output left = record {
    ticket = hand.ticket;
    log = hand.log;
    me_is = hand.me_is;
    longer = longer ∙ ap (λ l. l ++ e ∷ []) (hand.longer ∙ append-nil hand.log);
    theirs = All-cons (λ (d : Entry O I U). d.pass ≡ me.0.own.number) e [] number (All-nil _);
    legal = subst (λ y. Legal answer next (content x) desk'.history.items y) (sym left) (subst (λ l. Legal answer next (content x) l (next (content desk.object) e.input)) (sym longer) (Legal-push (content x) desk.history.items (content desk.object) e hand.legal output));
  }

  pub reserves : (x : O) (more : List (Entry O I U)) (desk desk' : Desk O I U) (me : Me (Option (Desk O I U)) (View O (Entry O I U))) → InHand content answer next x me more desk → content desk'.object ≡ content desk.object → desk'.history.items ≡ desk.history.items
      → InHand content answer next x me more desk'
  reserves x more desk desk' me hand same whole = record {
    ticket = hand.ticket;
    log = hand.log;
    me_is = hand.me_is;
    longer = whole ∙ hand.longer;
    theirs = hand.theirs;
    legal = subst (λ y. Legal answer next (content x) desk'.history.items y) (sym same) (subst (λ l. Legal answer next (content x) l (content desk.object)) (sym whole) hand.legal);
  }
