-- What a call tells its caller, from what its steps left.
use Rattle.std.proofs.Common.{◌≡◌, ℕ, List, [], ◌∷◌, ◌++◌, length, Option, Some, sym, refl, ap, ◌∙◌, subst}
use Rattle.std.proofs.lemmas.List.Elements.{All-nil, All-cons}
use Rattle.atomic_table.specs.Seated.{TableId}
use Rattle.atomic_table.specs.Table.{Me}
use Rattle.turn_lock.specs.declared.desk.Desk.{Desk}
use Rattle.turn_lock.specs.declared.entry.Entry.{Entry}
use Rattle.turn_lock.specs.declared.view.Claim.{Claim}
use Rattle.turn_lock.specs.declared.view.Stage.TheVariants.{Idle}
use Rattle.turn_lock.specs.declared.view.View.{View}
use Rattle.turn_lock.specs.History.{BeginsWith, EndsWith, IsAnswered, Legal, entry, calls_by, maker}
use Rattle.turn_lock.specs.Passes.{Token, IsSamePass}
use Rattle.turn_lock.specs.Standing.{claim, standing, resting}
use Rattle.turn_lock.proofs.Lists.{own_more}

module _ {S O I U : Type 0} where
  -- a pass, as callers see it, whose seat is this
  abbrev token : TableId → Me S (View O (Entry O I U)) → ℕ → Token O I U
  token table me number = record { table = table; opening = me.0.opening; number = number; seen = me.0.own.seen; made = me.0.own.mine }

  -- a seat that stands idle keeps what is said of a pass's seat
  pub rests : (x : O) (own : Claim (Entry O I U)) (n number count : ℕ) (me : Me S (View O (Entry O I U))) → me ≡ (standing x own n Idle, []) → own.number ≡ number → length own.seen ≡ count
      → (me ≡ (resting me.0.opening me.0.own me.0.next, [])) × (me.0.own.number ≡ number) × (length me.0.own.seen ≡ count)
  rests x own n number count me is numbered counted = (
    is ∙ ap (λ (m : Me S (View O (Entry O I U))). (resting m.0.opening m.0.own m.0.next, [])) (sym is),
    ap (λ (m : Me S (View O (Entry O I U))). m.0.own.number) is ∙ numbered,
    ap (λ (m : Me S (View O (Entry O I U))). length m.0.own.seen) is ∙ counted,
  )

  -- the pass stays that of its turn, with its number
  pub same_pass : (p : Token O I U) (x : O) (table table' : TableId) (number n : ℕ) (own : Claim (Entry O I U)) (old me : Me S (View O (Entry O I U)))
      → token table old number ≡ p → table' ≡ table → p.opening ≡ Some x → me ≡ (standing x own n Idle, []) → IsSamePass p (token table' me number)
  same_pass p x table table' number n own old me view same opened is = (
    same ∙ ap (λ (q : Token O I U). q.table) view,
    ap (λ (m : Me S (View O (Entry O I U))). m.0.opening) is ∙ sym opened,
    ap (λ (q : Token O I U). q.number) view,
  )

  -- a call that was refused leaves the pass as it was
  pub left_as_before : (p : Token O I U) (x : O) (table table' : TableId) (number n : ℕ) (own : Claim (Entry O I U)) (old me : Me S (View O (Entry O I U)))
      → token table old number ≡ p → table' ≡ table → p.opening ≡ Some x → own ≡ old.0.own → me ≡ (standing x own n Idle, []) → token table' me number ≡ p
  left_as_before p x table table' number n own old me view same opened owned is =
      ap (λ (m : Me S (View O (Entry O I U))). token table' m number) is
      ∙ (ap (λ (c : Claim (Entry O I U)). token table' (standing x c n Idle, []) number) owned
      ∙ (ap (λ (t : TableId). token t (standing x old.0.own n Idle, []) number) same
      ∙ (ap (λ (o : Option O). token table (resting o old.0.own n, []) number) (sym opened ∙ sym (ap (λ (q : Token O I U). q.opening) view))
      ∙ view)))

module _ {O I U C : Type 0} (content : O → C) (answer : C → I → U) (next : C → I → C) (x : O) where
  -- what the caller is told of the history, the calls of its pass, and the answer
  pub record Told (p : Token O I U) (number : ℕ) (input : I) (output : U) (after : Claim (Entry O I U)) : Type 0 where
    pub legal : (left : C) × Legal answer next (content x) after.seen left
    pub seen : EndsWith p.seen (entry p.number input output) after.seen
    pub made : after.mine ≡ p.made ++ entry p.number input output ∷ []
    pub own : calls_by number after.seen ≡ after.mine
    pub answered : IsAnswered answer next (content x) (entry p.number input output) after.seen

  -- the history h became h', and h'' with the call
  told_of : (table : TableId) (number k : ℕ) (old : Me (Option (Desk O I U)) (View O (Entry O I U))) (input : I) (output : U) (h h' h'' : List (Entry O I U)) (y y' : C)
      → k ≡ number → old.0.own.number ≡ number → BeginsWith h old.0.own.seen → calls_by old.0.own.number h ≡ old.0.own.mine → h' ≡ h → h'' ≡ h' ++ entry number input output ∷ []
      → Legal answer next (content x) h' y → output ≡ answer y input → Legal answer next (content x) h'' y' → Told (token table old number) number input output (claim k h'' (calls_by k h''))
  told_of table number k old input output h h' h'' y y' numbered own_number begun mine same grown legal answered legal' =
      let e = entry {O = O} number input output in
      let had : calls_by number h' ≡ old.0.own.mine = ap (calls_by number) same ∙ (ap (λ j. calls_by j h) (sym own_number) ∙ mine) in record {
        legal = (y', legal');
        seen = (begun.0, grown ∙ ap (λ l. l ++ e ∷ []) (same ∙ begun.1));
        made = ap (λ j. calls_by j h'') numbered ∙ (ap (calls_by number) grown ∙ (own_more maker number h' (e ∷ []) (All-cons (λ (d : Entry O I U). maker d ≡ number) e [] refl (All-nil _)) ∙ ap (λ l. l ++ e ∷ []) had));
        own = ap (λ j. calls_by j h'') (sym numbered);
        answered = (h', y, grown, legal, answered);
      }

  -- the same of the desk that was in the caller's hand, and of the seat after the call
  pub tells : (p : Token O I U) (table : TableId) (number n : ℕ) (old inside me : Me (Option (Desk O I U)) (View O (Entry O I U))) (input : I) (output : U) (desk desk' desk'' : Desk O I U)
      → token table old number ≡ p → inside.0.own ≡ old.0.own → old.0.own.number ≡ number → BeginsWith desk.history.items old.0.own.seen → calls_by old.0.own.number desk.history.items ≡ old.0.own.mine
      → desk'.history.items ≡ desk.history.items → desk''.history.items ≡ desk'.history.items ++ entry number input output ∷ [] → output ≡ answer (content desk'.object) input
      → Legal answer next (content x) desk'.history.items (content desk'.object) → Legal answer next (content x) desk''.history.items (content desk''.object)
      → me ≡ (standing x (claim inside.0.own.number desk''.history.items (calls_by inside.0.own.number desk''.history.items)) n Idle, []) → Told p number input output me.0.own
  tells p table number n old inside me input output desk desk' desk'' view owned numbered begun mine same grown answered legal legal' is =
      let numbered_inside : inside.0.own.number ≡ number = ap (λ (c : Claim (Entry O I U)). c.number) owned ∙ numbered in
      let told = told_of table number inside.0.own.number old input output desk.history.items desk'.history.items desk''.history.items (content desk'.object) (content desk''.object) numbered_inside numbered begun mine same grown legal answered legal' in
      subst (λ q. Told q number input output me.0.own) view (subst (λ c. Told (token table old number) number input output c) (sym (ap (λ (m : Me (Option (Desk O I U)) (View O (Entry O I U))). m.0.own) is)) told)
