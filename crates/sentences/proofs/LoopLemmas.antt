-- A loop that is named is one around the instruction.
use Rattle.std.proofs.Common.{◌≡◌, ◌≤◌, ℕ, suc, Bool, true, false, ◌&&◌, cond, nat_le, List, [], ◌∷◌, Option, Some, None, refl, sym, ap, ◌∙◌, subst, arith}
use Rattle.std.specs.Option.{option_or}
use Rattle.std.proofs.lemmas.Bool.{and_parts}
use Rattle.std.proofs.lemmas.Bool.Decides.{nat_tests}
use Rattle.std.proofs.lemmas.Option.{none-some, same_Some}
use Rattle.sentences.specs.declared.loops.Loop.{Loop}
use Rattle.sentences.specs.Loops.{word_target, loop_if, address_behind, loop_among, IsLoopAround}

low : (a b : ℕ) → nat_le a b ≡ true → a ≤ b
low a b e = grind (arith, nat_tests)

module _ (pc : ℕ) (l : Loop) where
  -- the code word at this address closes the loop
  record IsClosed (address word : ℕ) : Type 0 where
    head : l.head ≤ pc
    back : pc ≤ l.back
    at' : l.back ≡ address
    goes : word_target address word ≡ Some l.head

  closed-by : (address word : ℕ) (o : Option ℕ) → word_target address word ≡ o → loop_if pc address o ≡ Some l → IsClosed address word
  closed-by address word None goes e = absurd (none-some l e)
  closed-by address word (Some head) goes e = by (nat_le head pc && nat_le pc address) refl e
    where
      made : Loop
      made = record { head = head; back = address }

      by : (b : Bool) → (nat_le head pc && nat_le pc address) ≡ b → cond b (Some made) None ≡ Some l → IsClosed address word
      by false test h = absurd (none-some l h)
      by true test h =
          let parts = and_parts (nat_le head pc) (nat_le pc address) test in
          let same : made ≡ l = same_Some made l h in
          record {
            head = subst (λ (x : Loop). x.head ≤ pc) same (low head pc parts.0);
            back = subst (λ (x : Loop). pc ≤ x.back) same (low pc address parts.1);
            at' = ap (λ (x : Loop). x.back) (sym same);
            goes = goes ∙ ap (λ (x : Loop). Some x.head) same;
          }

  one-behind : (code : List ℕ) (w address : ℕ) → IsLoopAround code pc (address_behind address) l → IsLoopAround (w ∷ code) pc address l
  one-behind code w address h =
      record { head = h.head; back = h.back; number = suc h.number; word = h.word; there = h.there; at = h.at; goes = h.goes }

  pub around : (code : List ℕ) (address : ℕ) → loop_among pc address code ≡ Some l → IsLoopAround code pc address l
  around [] address e = absurd (none-some l e)
  around (w ∷ ws) address e = by (loop_if pc address (word_target address w)) refl e (λ h. around ws (address_behind address) h)
    where
      by : (o : Option Loop) → loop_if pc address (word_target address w) ≡ o → option_or o (loop_among pc (address_behind address) ws) ≡ Some l
          → (loop_among pc (address_behind address) ws ≡ Some l → IsLoopAround ws pc (address_behind address) l) → IsLoopAround (w ∷ ws) pc address l
      by None is h rest = one-behind ws w address (rest h)
      by (Some m) is h rest =
          let c = closed-by address w (word_target address w) refl (is ∙ h) in
          record {
            head = c.head;
            back = c.back;
            number = 0;
            word = w;
            there = refl;
            at = c.at';
            goes = ap (λ (a : ℕ). word_target a w) c.at' ∙ c.goes;
          }
