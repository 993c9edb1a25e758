-- What else is kept of words: one pending at the most, the values of write-backs, and the right to store.
use Rattle.std.proofs.Common.{◌≡◌, ℕ, ◌+◌, ◌≤◌, ◌==◌, ◌&&◌, Bool, true, false, slice_get, Option, Some, None, refl, sym, ap, subst, ◌∙◌, arith}
use Rattle.std.proofs.lemmas.Bool.{eqb-true}
use Rattle.std.proofs.lemmas.Bool.Decides.{nat_tests}
use Rattle.std.proofs.lemmas.List.Sums.{sum_by-le-sum_by}
use Rattle.message_net.specs.declared.message.Mail.{Mail}
use Rattle.message_net.specs.declared.message.Message.{Message}
use Rattle.message_net.specs.declared.message.Message.TheVariants.{ReadReq, ReadFwd, DataReply, RegReq, RegFwd, RegAck, WriteBack, WbAck, Acquire, Release, Grant, Arrived, Go, Halt}
use Rattle.message_net.specs.declared.message.Outgoing.{Outgoing}
use Rattle.region_table.specs.declared.declared.TaskDecl.{TaskDecl}
use Rattle.rv_core.specs.declared.task.TaskState.{TaskState}
use Rattle.rv_core.specs.Access.{may_store}
use Rattle.word_cache.specs.declared.row.Entry.{Entry}
use Rattle.word_cache.specs.declared.row.Entry.TheVariants.{Valid, Registered, Leaving}
use Rattle.registration_protocol.specs.Node.{NodeParts}
use Rattle.region_table.specs.Tasks.{declared}
use Rattle.machine_rules.specs.State.{State, entry_at}
use Rattle.machine_rules.specs.Flight.{bit, mail_count, flight, is_write_back_of, is_write_back_with}
use Rattle.machine_rules.specs.Coherent.{MayStore}
use Rattle.machine_rules.proofs.Bits.{passes, pending_bit}
use Rattle.machine_rules.proofs.Steps.{NodeStep}
use Rattle.machine_rules.proofs.WordEvents.{Flown}

-- ---- One core at the most has a word pending.

abbrev pub IsSingle : State → Type 0
IsSingle S = (w c d : ℕ) → pending_bit (entry_at S c w) + pending_bit (entry_at S d w) ≤ 1 + bit (c == d)

pub single-calm : (S T : State) → IsSingle S → ((d v : ℕ) → pending_bit (entry_at T d v) ≤ pending_bit (entry_at S d v)) → IsSingle T
single-calm S T single calm w c d = omega (arith, single w c d, calm c w, calm d w)

pub pending-one : (e : Option Entry) → pending_bit e ≤ 1
pending-one None = omega arith
pending-one (Some (Valid value marked)) = omega arith
pending-one (Some (Registered value true)) = omega arith
pending-one (Some (Registered value false)) = omega arith
pending-one (Some (Leaving value)) = omega arith

-- a core registers a word that nobody else is about to register
pub single-registered : (S T : State) (w core : ℕ) → IsSingle S → ((d : ℕ) → (core == d) ≡ false → pending_bit (entry_at S d w) ≡ 0)
    → ((d v : ℕ) → (core == d) && (w == v) ≡ false → pending_bit (entry_at T d v) ≤ pending_bit (entry_at S d v)) → IsSingle T
single-registered S T w core single alone calm v c d = by_word (w == v) refl (core == c) refl (core == d) refl where
  by_word : (x : Bool) → (w == v) ≡ x → (y : Bool) → (core == c) ≡ y → (z : Bool) → (core == d) ≡ z
      → pending_bit (entry_at T c v) + pending_bit (entry_at T d v) ≤ 1 + bit (c == d)
  by_word false e y f z g = omega (arith, single v c d, calm c v (grind (arith, nat_tests, e, f)), calm d v (grind (arith, nat_tests, e, g)))
  by_word true e false f false g = omega (arith, single v c d, calm c v (grind (arith, nat_tests, e, f)), calm d v (grind (arith, nat_tests, e, g)))
  by_word true e true f true g =
      let same : (c == d) ≡ true = grind (arith, nat_tests, f, g) in
      rw (same) (omega (arith, pending-one (entry_at T c v), pending-one (entry_at T d v)))
  by_word true e true f false g =
      let none = subst (λ (x : ℕ). pending_bit (entry_at S d x) ≡ 0) (eqb-true w v e) (alone d g) in
      omega (arith, pending-one (entry_at T c v), calm d v (grind (arith, nat_tests, e, g)), none)
  by_word true e false f true g =
      let none = subst (λ (x : ℕ). pending_bit (entry_at S c x) ≡ 0) (eqb-true w v e) (alone c f) in
      omega (arith, pending-one (entry_at T d v), calm c v (grind (arith, nat_tests, e, f)), none)

-- ---- A write-back has the leaving entry's value.

abbrev pub AreValued : State → Type 0
AreValued S = (w c value : ℕ) → entry_at S c w ≡ Some (Leaving value) → flight S (is_write_back_with w c value) ≡ flight S (is_write_back_of w c)

pub value-le : (w c value : ℕ) (m : Mail) → mail_count (is_write_back_with w c value) m ≤ mail_count (is_write_back_of w c) m
value-le w c value m = by_message m.message where
  by_message : (message : Message) → bit (is_write_back_with w c value m.to message) ≤ bit (is_write_back_of w c m.to message)
  by_message (WriteBack word v core) = by_tests (word.0 == w) (core.0 == c) (v == value) where
    by_tests : (x y z : Bool) → bit (x && (y && z)) ≤ bit (x && y)
    by_tests true true true = omega arith
    by_tests true true false = omega arith
    by_tests true false z = omega arith
    by_tests false y z = omega arith
  by_message (ReadReq word reader) = omega arith
  by_message (ReadFwd word reader) = omega arith
  by_message (DataReply word v) = omega arith
  by_message (RegReq word core) = omega arith
  by_message (RegFwd word core) = omega arith
  by_message (RegAck word) = omega arith
  by_message (WbAck word) = omega arith
  by_message (Acquire lock core) = omega arith
  by_message (Release lock core s) = omega arith
  by_message (Grant lock s) = omega arith
  by_message (Arrived core bad) = omega arith
  by_message (Go phase) = omega arith
  by_message Halt = omega arith

pub valued-within : (S : State) (w c value : ℕ) → flight S (is_write_back_with w c value) ≤ flight S (is_write_back_of w c)
valued-within S w c value = sum_by-le-sum_by (mail_count (is_write_back_with w c value)) (mail_count (is_write_back_of w c)) S.mails (value-le w c value)

-- no write-back comes or goes, and no entry begins to leave
pub valued-still : (S T : State) (left sent : Option Outgoing) → AreValued S → Flown S T left sent
    → ((d v value : ℕ) → entry_at T d v ≡ Some (Leaving value) → entry_at S d v ≡ Some (Leaving value))
    → ((d v : ℕ) → (passes (is_write_back_of v d) left ≡ 0) × (passes (is_write_back_of v d) sent ≡ 0))
    → ((d v value : ℕ) → (passes (is_write_back_with v d value) left ≡ 0) × (passes (is_write_back_with v d value) sent ≡ 0)) → AreValued T
valued-still S T left sent valued flown still none none_valued w c value is =
    omega (arith, valued w c value (still c w value is), flown (is_write_back_of w c), flown (is_write_back_with w c value), none c w, none_valued c w value)

-- ---- The right to store a pending word.

-- the node's task keeps its rights
abbrev pub KeepsRights : NodeParts → NodeParts → Type 0
KeepsRights n m =
    (t : TaskState) → n.task ≡ Some t → (u : TaskState) × (m.task ≡ Some u) × ((decl : TaskDecl) (w : ℕ) → may_store decl t.held w ≡ true → may_store decl u.held w ≡ true)

pub right-kept : (S T : State) (core : ℕ) (n m : NodeParts) (left sent : Option Outgoing) → NodeStep S T core n m left sent → m.phase ≡ n.phase → KeepsRights n m
    → (d w : ℕ) → MayStore S d w → MayStore T d w
right-kept S T core n m left sent step phase keeps d w may = by_test (core == d) refl where
  by_test : (x : Bool) → (core == d) ≡ x → MayStore T d w
  by_test false e =
      record {
        node = may.node;
        found = rw (e) at (step.nodes d) ∙ may.found;
        task = may.task;
        has = may.has;
        decl = may.decl;
        declares = rw (step.setting) may.declares;
        right = may.right;
      }
  by_test true e =
      let same : core ≡ d = eqb-true core d e in
      let found : Some n ≡ Some may.node = sym step.found ∙ ap (λ (x : ℕ). slice_get S.nodes x) same ∙ may.found in
      let node : n ≡ may.node = cc in
      let kept = keeps may.task (ap (λ (x : NodeParts). x.task) node ∙ may.has) in
      record {
        node = m;
        found = rw (e) at (step.nodes d);
        task = kept.0;
        has = kept.1;
        decl = may.decl;
        declares = rw (step.setting, phase) (subst (λ (x : NodeParts). declared S.setting.program x.phase d ≡ Some may.decl) (sym node) may.declares);
        right = kept.2 may.decl w may.right;
      }

-- a write-back that comes or goes counts for no value that it doesn't count for without
pub passes-le : (w c value : ℕ) (out : Option Outgoing) → passes (is_write_back_with w c value) out ≤ passes (is_write_back_of w c) out
passes-le w c value None = omega arith
passes-le w c value (Some out) = value-le w c value (record { id = record { sender = out.to; number = 0 }; to = out.to; message = out.message })

-- a write-back comes, and entries stay
pub valued-taken : (S T : State) (left sent : Option Outgoing) → AreValued S → Flown S T left sent → ((d v : ℕ) → entry_at T d v ≡ entry_at S d v)
    → ((d v : ℕ) → passes (is_write_back_of v d) sent ≡ 0) → ((d v value : ℕ) → passes (is_write_back_with v d value) sent ≡ 0) → AreValued T
valued-taken S T left sent valued flown same none none_valued w c value is =
    omega (
      arith,
      valued w c value (sym (same c w) ∙ is),
      flown (is_write_back_of w c),
      flown (is_write_back_with w c value),
      none c w,
      none_valued c w value,
      passes-le w c value left,
      valued-within T w c value,
    )
