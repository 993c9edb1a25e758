-- Other cores' copies, core by core.
use Rattle.std.proofs.Common.{◌≡◌, ℕ, zero, suc, ◌+◌, Bool, true, false, cond, List, [], ◌∷◌, drop, replicate, slice_get, Some, None, refl, sym, ap, ◌∙◌, arith}
use Rattle.std.specs.Prelude.{count_by}
use Rattle.std.proofs.lemmas.List.Sums.{sum_by-cons}
use Rattle.registration_protocol.specs.Node.{NodeParts}
use Rattle.run_account.specs.declared.item.Item.{Item}
use Rattle.run_account.specs.Events.{item_if}
use Rattle.run_account.specs.Account.{Accounted, adding}

drop-at : (nodes : List NodeParts) (k : ℕ) (n : NodeParts) → slice_get nodes k ≡ Some n → drop k nodes ≡ n ∷ drop (suc k) nodes
drop-at [] k n there = absurd (let e : None ≡ Some n = there in cc)
drop-at (m ∷ nodes) zero n there = by_some there where
  by_some : Some m ≡ Some n → m ∷ nodes ≡ n ∷ nodes
  by_some e = let same : m ≡ n = cc in rw same refl
drop-at (m ∷ nodes) (suc k) n there = drop-at nodes k n there

pub one-node : (test : NodeParts → Bool) (item : Item) (A B E : Accounted) (nodes : List NodeParts) (k : ℕ) (n : NodeParts) → slice_get nodes k ≡ Some n
    → B ≡ adding A (item_if (test n) item) → adding A (replicate (count_by test (drop k nodes)) item) ≡ E
    → adding B (replicate (count_by test (drop (k + 1) nodes)) item) ≡ E
one-node test item A B E nodes k n there is led =
    rw is (by_test (test n) refl) ∙ ap (λ (ns : List NodeParts). adding A (replicate (count_by test ns) item)) (sym (drop-at nodes k n there)) ∙ led
  where
    next : suc k ≡ k + 1
    next = omega arith

    later : List NodeParts
    later = drop (suc k) nodes

    by_test : (t : Bool) → test n ≡ t → adding (adding A (item_if t item)) (replicate (count_by test (drop (k + 1) nodes)) item) ≡ adding A (replicate (count_by test (n ∷ later)) item)
    by_test true e =
        let more : count_by test (n ∷ later) ≡ suc (count_by test later) = sum_by-cons (λ (x : NodeParts). cond (test x) 1 0) n later ∙ rw e (omega arith) in
        ap (λ (j : ℕ). adding A (item ∷ replicate (count_by test (drop j nodes)) item)) (sym next)
        ∙ ap (λ (j : ℕ). adding A (replicate j item)) (sym more)
    by_test false e =
        let same : count_by test (n ∷ later) ≡ count_by test later = sum_by-cons (λ (x : NodeParts). cond (test x) 1 0) n later ∙ rw e (omega arith) in
        ap (λ (j : ℕ). adding A (replicate (count_by test (drop j nodes)) item)) (sym next)
        ∙ ap (λ (j : ℕ). adding A (replicate j item)) (sym same)
