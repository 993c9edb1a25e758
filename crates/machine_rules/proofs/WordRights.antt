-- Who has a word pending may store it: what each event leaves of that right.
use Rattle.std.proofs.Common.{◌≡◌, ℕ, ◌==◌, ◌^◌, ◌||◌, Bool, true, false, bit_or, Option, Some, None, refl, sym, ap, subst, ◌∙◌, arith}
use Rattle.std.proofs.lemmas.Bool.{eqb-true}
use Rattle.message_net.specs.declared.message.Outgoing.{Outgoing}
use Rattle.rv_core.specs.declared.task.TaskState.{TaskState}
use Rattle.rv_core.specs.Access.{is_held, may_store}
use Rattle.rv_core.proofs.HeldLemmas.{holds-acquired}
use Rattle.flat_machine.specs.Laws.{HoldsLess}
use Rattle.flat_machine.proofs.Rights.{may_store-less}
use Rattle.word_cache.specs.declared.row.Entry.{Entry}
use Rattle.word_cache.specs.declared.row.Entry.TheVariants.{Valid, Registered, Leaving}
use Rattle.word_cache.specs.Cache.{pending_count, pending_bit as cached_pending}
use Rattle.word_cache.proofs.WeightLemmas.{pending-most}
use Rattle.registration_protocol.specs.Node.{NodeParts, entry_of, is_settled}
use Rattle.machine_rules.specs.State.{State, entry_in, entry_at}
use Rattle.machine_rules.specs.Coherent.{MayStore}
use Rattle.machine_rules.proofs.Bits.{pending_bit}
use Rattle.machine_rules.proofs.Steps.{NodeStep}
use Rattle.machine_rules.proofs.WordGood.{KeepsRights}

-- the task keeps its rights where it stays, or holds the same locks
pub keeps-same : (n m : NodeParts) → m.task ≡ n.task → KeepsRights n m
keeps-same n m same t has = (t, same ∙ has, λ decl w may. may)

pub keeps-held : (n m : NodeParts) (t u : TaskState) → n.task ≡ Some t → m.task ≡ Some u → u.held ≡ t.held → KeepsRights n m
keeps-held n m t u has becomes same s is =
    let one : t ≡ s = some-same t s (sym has ∙ is) in
    (u, becomes, λ decl w may. subst (λ (x : ℕ). may_store decl x w ≡ true) (ap (λ (x : TaskState). x.held) (sym one) ∙ sym same) may)
  where
    some-same : (t s : TaskState) → Some t ≡ Some s → t ≡ s
    some-same t s is = cc

-- the task holds more
pub keeps-more : (n m : NodeParts) (t u : TaskState) → n.task ≡ Some t → m.task ≡ Some u → HoldsLess t.held u.held → KeepsRights n m
keeps-more n m t u has becomes less s is =
    let one : t ≡ s = some-same t s (sym has ∙ is) in
    (u, becomes, λ decl w may. may_store-less decl t.held u.held w less (subst (λ (x : TaskState). may_store decl x.held w ≡ true) (sym one) may))
  where
    some-same : (t s : TaskState) → Some t ≡ Some s → t ≡ s
    some-same t s is = cc

pub acquired-more : (held lock : ℕ) → HoldsLess held (bit_or held (2 ^ lock))
acquired-more held lock = record { among = λ k here. holds-acquired held lock k ∙ either (k == lock) (is_held held k) here } where
  either : (x y : Bool) → y ≡ true → (x || y) ≡ true
  either true y here = refl
  either false y here = here

-- a settled node has nothing pending
same-pending : (e : Option Entry) → pending_bit e ≡ cached_pending e
same-pending None = refl
same-pending (Some (Valid value marked)) = refl
same-pending (Some (Registered value pending)) = refl
same-pending (Some (Leaving value)) = refl

pub settled-none : (n : NodeParts) → is_settled n ≡ true → (w : ℕ) → pending_bit (entry_of n w) ≡ 0
settled-none n settled w =
    let none : pending_count n.cache.pairs ≡ 0 = eqb-true (pending_count n.cache.pairs) 0 settled in
    omega (arith, none, same-pending (entry_of n w), pending-most w n.cache.pairs)

-- a core's step where nothing of the core is pending
pub right-others : (S T : State) (core : ℕ) (n m : NodeParts) (left sent : Option Outgoing) → NodeStep S T core n m left sent → ((w : ℕ) → pending_bit (entry_of n w) ≡ 0)
    → (d w : ℕ) → pending_bit (entry_at S d w) ≡ 1 → MayStore S d w → MayStore T d w
right-others S T core n m left sent step none d w one may = by_test (core == d) refl where
  by_test : (x : Bool) → (core == d) ≡ x → MayStore T d w
  by_test false e =
      record {
        node = may.node;
        found = rw (e) at (step.nodes d) ∙ may.found;
        task = may.task;
        has = may.has;
        decl = may.decl;
        declares = rw (step.setting) may.declares;
        right = may.right;
      }
  by_test true e =
      let here : entry_at S d w ≡ entry_of n w = subst (λ (x : ℕ). entry_at S x w ≡ entry_of n w) (eqb-true core d e) (ap (entry_in w) step.found) in
      absurd (omega (arith, one, ap pending_bit here, none w))

-- an event in which no node has a part
pub right-nodes : (S T : State) → T.setting ≡ S.setting → T.nodes ≡ S.nodes → (d w : ℕ) → MayStore S d w → MayStore T d w
right-nodes S T setting nodes d w may =
    record {
      node = may.node;
      found = rw (nodes) may.found;
      task = may.task;
      has = may.has;
      decl = may.decl;
      declares = rw (setting) may.declares;
      right = may.right;
    }
