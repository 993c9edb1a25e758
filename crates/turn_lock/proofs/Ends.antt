-- Taking all passes in, and the object out.
use Rattle.std.proofs.Common.{◌≡◌, ℕ, zero, suc, ◌<◌, ⊎_elim, List, [], ◌∷◌, ◌++◌, length, Option, Some, None, sym, refl, ap, ◌∙◌, subst, arith, length-append}
use Rattle.std.specs.List.{All, Any}
use Rattle.std.proofs.lemmas.List.Elements.{All-push, All-pop, All-same}
use mathlib.Core.Option.{some, some-injective, some-ne-none}
use lib.ListN.{get_elem?}
use Rattle.atomic_table.specs.Table.{State, Me, Final, Seen}
use Rattle.turn_lock.specs.declared.desk.Desk.{Desk}
use Rattle.turn_lock.specs.declared.entry.Entry.{Entry}
use Rattle.turn_lock.specs.declared.view.Claim.{Claim}
use Rattle.turn_lock.specs.declared.view.Stage.TheVariants.{Idle}
use Rattle.turn_lock.specs.declared.view.View.{View}
use Rattle.turn_lock.specs.History.{Legal, maker}
use Rattle.turn_lock.specs.Passes.{Token, IsTold}
use Rattle.turn_lock.specs.Slots.{Lies}
use Rattle.turn_lock.specs.Standing.{claim, resting, gathered, weight}
use Rattle.turn_lock.specs.Turns.{HasSeen, Kept}
use Rattle.turn_lock.specs.Dealing.{Gathers, IsTrueClaim}
use Rattle.atomic_table.proofs.Lists.{at_longer, at_last}
use Rattle.turn_lock.proofs.Lists.{at_same, any_at, at_snoc_place}
use Rattle.turn_lock.proofs.Keeps.{settles}

module _ {O I U C : Type 0} (content : O → C) (answer : C → I → U) (next : C → I → C) (x : O) (passes : ℕ) where
  -- what is known of the slot of a turn where one seat stands for all passes
  pub record Ended (v : View O (Entry O I U)) (slot : Option (Desk O I U)) : Type 0 where
    pub log : List (Entry O I U)
    pub good : Lies content answer next x log slot
    pub own : IsTrueClaim log v.own
    pub joined : All (IsTrueClaim log) v.joined
    pub longest : HasSeen log v
    pub named : All (λ e. e.pass < passes) log

  pub ends : (id : ℕ) (v : View O (Entry O I U)) (words : List ℕ) (items : List (Option (Desk O I U))) (slot : Option (Desk O I U)) → Final (Seen (Kept maker (Lies content answer next) x passes) id v) words items → v.stage ≡ Idle → weight v ≡ passes → get_elem? items 0 ≡ some slot → Ended v slot
  ends id v words items slot final idle whole taken =
      let s : State (Option (Desk O I U)) (View O (Entry O I U)) = final.0 in
      let settled = settles maker (Lies content answer next) x passes id v _ _ s.homes s.views final.1.0.turns final.1.1 idle whole in
      let there : get_elem? items 0 ≡ some settled.value = final.4 0 settled.value (subst (λ h. get_elem? h 0 ≡ some (some settled.value)) (sym settled.home) refl) in
      let same : settled.value ≡ slot = at_same items 0 settled.value slot there taken in
      record { log = settled.log; good = subst (Lies content answer next x settled.log) same settled.good; own = settled.own; joined = settled.joined; longest = settled.longest; named = settled.named }

  pub never_empty : (v : View O (Entry O I U)) (slot : Option (Desk O I U)) → Ended v slot → slot ≡ None → ⊥
  never_empty v slot e is = subst (Lies content answer next x e.log) is e.good

  -- the same of the desk that was taken out
  pub record Handed (v : View O (Entry O I U)) (desk : Desk O I U) : Type 0 where
    pub legal : Legal answer next (content x) desk.history.items (content desk.object)
    pub own : IsTrueClaim desk.history.items v.own
    pub joined : All (IsTrueClaim desk.history.items) v.joined
    pub longest : HasSeen desk.history.items v
    pub named : All (λ e. e.pass < passes) desk.history.items

  pub hands : (v : View O (Entry O I U)) (slot : Option (Desk O I U)) (desk : Desk O I U) → Ended v slot → slot ≡ Some desk → Handed v desk
  hands v slot desk e is =
      let good = subst (Lies content answer next x e.log) is e.good in
      let here = sym good.0 in record {
        legal = subst (λ l. Legal answer next (content x) l (content desk.object)) here good.1;
        own = subst (λ l. IsTrueClaim l v.own) here e.own;
        joined = subst (λ l. All (IsTrueClaim l) v.joined) here e.joined;
        longest = subst (λ l. HasSeen l v) here e.longest;
        named = subst (All (λ d. d.pass < passes)) here e.named;
      }

module _ {O I U C : Type 0} (content : O → C) (answer : C → I → U) (next : C → I → C) where
  -- the same by other names for the first object and the number of passes
  pub hands_over : (x x' : O) (passes passes' : ℕ) (v : View O (Entry O I U)) (slot : Option (Desk O I U)) (desk : Desk O I U) → x ≡ x' → passes ≡ passes' → Ended content answer next x passes v slot → slot ≡ Some desk → Handed content answer next x' passes' v desk
  hands_over x x' passes passes' v slot desk same same' e is =
      subst (λ o. Handed content answer next o passes' v desk) same (subst (λ n. Handed content answer next x n v desk) same' (hands content answer next x passes v slot desk e is))

module _ {S O I U : Type 0} where
  pub gathers_first : (passes left : List (Token O I U)) (p : Token O I U) (n : ℕ) (y : Option O) (me : Me S (View O (Entry O I U))) → passes ≡ left ++ p ∷ [] → me ≡ (resting y (claim p.number p.seen p.made) n, []) → Gathers passes left me
  gathers_first passes left p n y me split is = subst (Gathers passes left) (sym is) (record {
    slot = refl;
    stage = refl;
    spare = refl;
    count = omega (arith, length-append left (p ∷ []), ap length split);
    claims = λ history seen. one_claim history seen.0 seen.1 seen.2 seen.3;
    others = λ history place q at has. any_at (λ k. k.seen ≡ history) passes place q (subst (λ l. get_elem? l place ≡ some q) (sym split) (at_longer left (p ∷ []) place q at)) has;
    told = λ history own joined others. All-same (IsTold history) passes (left ++ p ∷ []) split (All-push (IsTold history) left p others own);
  })
    where
      one_claim : (history : List (Entry O I U)) (place : ℕ) (c : Claim (Entry O I U)) → get_elem? (claim p.number p.seen p.made ∷ []) place ≡ some c → c.seen ≡ history → Any (λ (k : Token O I U). k.seen ≡ history) passes
      one_claim history zero c at has =
          let same : p.seen ≡ c.seen = ap (λ (k : Claim (Entry O I U)). k.seen) (some-injective _ c at) in
          any_at (λ (k : Token O I U). k.seen ≡ history) passes (length left) p (subst (λ l. get_elem? l (length left) ≡ some p) (sym split) (at_last left p (length left) refl)) (same ∙ has)
      one_claim history (suc place) c at has = absurd (some-ne-none c (sym at))

  pub gathers_more : (passes left rest : List (Token O I U)) (p : Token O I U) (n : ℕ) (y : Option O) (w : View O (Entry O I U)) (me me' : Me S (View O (Entry O I U))) → Gathers passes left me → left ≡ rest ++ p ∷ [] → w ≡ resting y (claim p.number p.seen p.made) n → me' ≡ (gathered me.0 w, me.1) → Gathers passes rest me'
  gathers_more passes left rest p n y w me me' had split is after = subst (Gathers passes rest) (sym (after ∙ ap (λ k. (gathered me.0 k, me.1)) is)) (record {
    slot = had.slot;
    stage = had.stage;
    spare = had.spare;
    count = omega (arith, had.count, length-append rest (p ∷ []), ap length split, length-append me.0.joined (claim p.number p.seen p.made ∷ []));
    claims = λ history seen.
        ⊎_elim
        (λ old. had.claims history (seen.0, seen.1, old, seen.3))
        (λ new. had.others history (length rest) p (subst (λ l. get_elem? l (length rest) ≡ some p) (sym split) (at_last rest p (length rest) refl)) (ap (λ (k : Claim (Entry O I U)). k.seen) new.1 ∙ seen.3))
        (at_snoc_place (me.0.own ∷ me.0.joined) (claim p.number p.seen p.made) seen.1 seen.0 seen.2);
    others = λ history place q at. had.others history place q (subst (λ l. get_elem? l place ≡ some q) (sym split) (at_longer rest (p ∷ []) place q at));
    told = λ history own joined others.
        let all = All-pop (IsTrueClaim history) (me.0.joined ++ claim p.number p.seen p.made ∷ []) me.0.joined (Some (claim p.number p.seen p.made)) refl joined in
        had.told history own all.0 (All-same (IsTold history) left (rest ++ p ∷ []) split (All-push (IsTold history) rest p others all.1));
  })
