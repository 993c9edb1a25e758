-- Loads and stores keep that the task of the run is where the task alone is.
use Rattle.std.proofs.Common.{◌≡◌, ◌≢◌, ℕ, ◌%◌, ◌^◌, ◌<◌, Bool, true, false, ◌&&◌, ◌==◌, if◌then◌else◌, List, length, slice_index, slice_set, Option, Some, None, refl, sym, ap, ◌∙◌, subst, arith, ⊎_elim}
use Rattle.std.proofs.lemmas.Bool.{eqb-true, and_parts, cases_eq}
use Rattle.std.proofs.lemmas.List.{length-set, get_or-set_same, get_or-set_other}
use Rattle.std.proofs.lemmas.Option.{none-some, same_Some}
use Rattle.dn_base.specs.declared.ids.WordId.{WordId}
use Rattle.dn_base.specs.declared.ids.LoadSeen.{LoadSeen}
use Rattle.region_table.specs.Program.{ProgramParts}
use Rattle.rv_isa.specs.declared.instr.Width.{Width}
use Rattle.rv_isa.specs.declared.instr.Width as width
use Rattle.rv_isa.specs.declared.instr.Instr.{Instr}
use Rattle.rv_isa.specs.declared.instr.Instr.TheVariants.{Load, Store, Ecall}
use Rattle.rv_core.specs.declared.task.TaskState.{TaskState}
use Rattle.rv_core.specs.declared.need.Need.{Need}
use Rattle.rv_core.specs.declared.need.Need as need
use Rattle.rv_core.specs.Access.{may_store}
use Rattle.rv_core.specs.Address.{code_at}
use Rattle.rv_core.specs.Kinds.{IsLoad, IsStore, Allowed}
use Rattle.rv_core.specs.Need.{need_of, fetch_need, word_need, instr_need, address_of}
use Rattle.rv_core.specs.Registers.{value_in}
use Rattle.rv_core.specs.Step.{read_instr, instr_at, after_fetch, after_load, after_store, advanced, loaded_of, merged_of}
use Rattle.rv_core.proofs.Needs.{fuelled, no_call, need-allowed, load-tells}
use Rattle.flat_machine.specs.Step.{Started, in_state, in_load}
use Rattle.effect_prover.proofs.FollowWords.{replaced-small}
use Rattle.common_outcomes.specs.declared.value.Kind.{Kind}
use Rattle.common_outcomes.specs.declared.value.Kind.TheVariants.{Known, Offset, Varying}
use Rattle.common_outcomes.specs.declared.value.Value.{Value}
use Rattle.common_outcomes.specs.declared.value.Cell.{Cell}
use Rattle.common_outcomes.specs.Values.{register_kind, kinds_fetched, kinds_loaded, whole_kind, merged_kind, kind_stored}
use Rattle.common_outcomes.specs.Alone.{Setup, Alone, untouched, cell_at, is_settled_if, is_settled_next, is_shared, value_at_start, seen, unstored, or_unstored, load_alone, stored_value, store_alone}
use Rattle.common_outcomes.specs.Agreeing.{IsBetween, AreFirst, DenotesBy, Denotes, without_registers, AreRegisters, IsInSection, IsOfSection, IsStored, IsOfWord, IsOfSharedWord, FitsAlone}
use Rattle.common_outcomes.proofs.Beside.{store-writes}
use Rattle.common_outcomes.proofs.Deciding.{read-small}
use Rattle.common_outcomes.proofs.Stepping.{KnowsLock, load-steps, store-stands}
use Rattle.common_outcomes.proofs.Fitting.{EachKind, GoesBy, goes, settled-at, at-same, moved, stored-moved, seen-stands, seen-taken, load-keeps}

-- ---- Load

loaded-end : (t : TaskState) (n : ℕ) (o : Option Instr) → (after_load t n o).end ≡ t.end
loaded-end t n None = refl
loaded-end t n (Some (Load size rd source offset)) = refl
loaded-end t n (Some _) = refl

pub load-fits : (S : Setup) (base : ℕ → ℕ) (a : Alone) (r : Started) (m : List ℕ) (word : WordId) (note : LoadSeen) → FitsAlone S base a r m → AreFirst S → a.state.end ≡ None → is_settled_next S a ≡ true
    → need_of S.program S.decl S.fuel a.state ≡ need.TheVariants.Load word → (is_shared S.phase S.decl word.0 ≡ true → IsInSection S.decl a.state.held word.0)
    → FitsAlone S base (load_alone S.program a (seen S a.cells word.0)) (in_load r (loaded_of S.program (slice_index m word.0) r.state) note) m
unfolding loaded_of
load-fits S base a r m word note h firsts runs s n inside =
    moved S base a r m (after_load a.state v.number (instr_at P a.state)) (after_load r.state x (instr_at P r.state)) (kinds_loaded a.kinds v.kind (instr_at P a.state))
    (in_load r (after_load r.state x (instr_at P r.state)) note) h refl refl
    (ap (λ (o : Option Instr). without_registers (after_load r.state x o)) at' ∙ both.0)
    (subst (λ (o : Option Instr). AreRegisters (kinds_loaded a.kinds v.kind (instr_at P a.state)) (after_load a.state v.number (instr_at P a.state)).regs base (after_load r.state x o).regs) (sym at') both.1)
    (load-tells P S.decl S.fuel a.state v.number is_load).held
    (loaded-end a.state v.number (instr_at P a.state))
    (load-keeps (IsOfSection S a.state.held) a.kinds v (instr_at P a.state) tt tt (seen-taken S base a r m word.0 h inside firsts.between) h.taken)
  where
    P : ProgramParts
    P = S.program

    v : Value
    v = seen S a.cells word.0

    x : ℕ
    x = slice_index m word.0

    at' : instr_at P r.state ≡ instr_at P a.state
    at' = at-same P a.state r.state h.state

    is_load : IsLoad (need_of P S.decl S.fuel a.state)
    is_load = subst IsLoad (sym n) tt

    settled : is_settled_if a.kinds a.state (instr_at P a.state) ≡ true
    settled = settled-at P S.fuel a.kinds a.state (fuelled P S.decl S.fuel a.state IsLoad (λ f. f) is_load).0 s

    there : Denotes v base x × (v.number < 2 ^ 32)
    there = seen-stands S base a r m word.0 h runs inside firsts.small

    by_instr : (o : Option Instr) → is_settled_if a.kinds a.state o ≡ true
        → (without_registers (after_load r.state x o) ≡ without_registers (after_load a.state v.number o)) × AreRegisters (kinds_loaded a.kinds v.kind o) (after_load a.state v.number o).regs base (after_load r.state x o).regs
    by_instr None e = (h.state, h.registers)
    by_instr (Some i) e = load-steps a.kinds base a.state r.state v x i h.state h.registers e there.0 there.1

    both : (without_registers (after_load r.state x (instr_at P a.state)) ≡ without_registers (after_load a.state v.number (instr_at P a.state)))
        × AreRegisters (kinds_loaded a.kinds v.kind (instr_at P a.state)) (after_load a.state v.number (instr_at P a.state)).regs base (after_load r.state x (instr_at P a.state)).regs
    both = by_instr (instr_at P a.state) settled

-- ---- Store

whole-own : (S : Setup) (w : ℕ) (k : Kind) → IsOfWord w (whole_kind (is_shared S.phase S.decl w) w k) × IsOfSharedWord S w (whole_kind (is_shared S.phase S.decl w) w k)
whole-own S w Known = (tt, tt)
whole-own S w (Offset v) = by_test (is_shared S.phase S.decl w && (v.0 == w)) refl
  where
    by_test : (b : Bool) → (is_shared S.phase S.decl w && (v.0 == w)) ≡ b → IsOfWord w (if b then Offset v else Varying) × IsOfSharedWord S w (if b then Offset v else Varying)
    by_test true e = let parts = and_parts (is_shared S.phase S.decl w) (v.0 == w) e in (eqb-true v.0 w parts.1, parts.0)
    by_test false e = (tt, tt)
whole-own S w Varying = (tt, tt)

merged-own : (S : Setup) (w : ℕ) (k j : Kind) → IsOfWord w (merged_kind k j) × IsOfSharedWord S w (merged_kind k j)
merged-own S w Known Known = (tt, tt)
merged-own S w Known (Offset v) = (tt, tt)
merged-own S w Known Varying = (tt, tt)
merged-own S w (Offset v) j = (tt, tt)
merged-own S w Varying j = (tt, tt)

-- what is stored is an offset of its own word, if of any, and then the word is shared
store-own : (S : Setup) (kinds : List Kind) (w : ℕ) (k : Kind) (o : Option Instr) → IsOfWord w k × IsOfSharedWord S w k
    → IsOfWord w (kind_stored kinds (is_shared S.phase S.decl w) w k o) × IsOfSharedWord S w (kind_stored kinds (is_shared S.phase S.decl w) w k o)
store-own S kinds w k None h = h
store-own S kinds w k (Some (Store width.TheVariants.W src source offset)) h = whole-own S w (register_kind kinds src)
store-own S kinds w k (Some (Store width.TheVariants.B src source offset)) h = merged-own S w k (register_kind kinds src)
store-own S kinds w k (Some (Store width.TheVariants.H src source offset)) h = merged-own S w k (register_kind kinds src)
store-own S kinds w k (Some (Store width.TheVariants.Bu src source offset)) h = merged-own S w k (register_kind kinds src)
store-own S kinds w k (Some (Store width.TheVariants.Hu src source offset)) h = merged-own S w k (register_kind kinds src)
store-own S kinds w k (Some _) h = h

seen-own : (S : Setup) (base : ℕ → ℕ) (a : Alone) (r : Started) (m : List ℕ) (w : ℕ) → FitsAlone S base a r m → AreFirst S → IsOfWord w (seen S a.cells w).kind × IsOfSharedWord S w (seen S a.cells w).kind
seen-own S base a r m w h firsts = by_stored (cell_at a.cells w).stored refl
  where
    by_first : (k : Kind) → IsBetween k → IsOfWord w k × IsOfSharedWord S w k
    by_first Known i = (tt, tt)
    by_first (Offset u) i = absurd i
    by_first Varying i = (tt, tt)

    by_shared : (b : Bool) → is_shared S.phase S.decl w ≡ b → IsOfWord w (unstored b w (value_at_start S w)).kind × IsOfSharedWord S w (unstored b w (value_at_start S w)).kind
    by_shared true e = (refl, e)
    by_shared false e = by_first (value_at_start S w).kind (firsts.between w)

    by_stored : (o : Option Value) → (cell_at a.cells w).stored ≡ o
        → IsOfWord w (or_unstored o (unstored (is_shared S.phase S.decl w) w (value_at_start S w))).kind × IsOfSharedWord S w (or_unstored o (unstored (is_shared S.phase S.decl w) w (value_at_start S w))).kind
    by_stored None e = by_shared (is_shared S.phase S.decl w) refl
    by_stored (Some v) e = let k = h.stored w v e in (k.own, k.shared)

pub merged-below : (t : TaskState) (old : ℕ) (o : Option Instr) → old < 2 ^ 32 → ((q : ℕ) → value_in t.regs q < 2 ^ 32) → after_store t old o < 2 ^ 32
merged-below t old None low regs = low
merged-below t old (Some (Store size src source offset)) low regs = replaced-small size old (address_of t source offset % 4) (value_in t.regs src) low (regs src)
merged-below t old (Some _) low regs = low

-- a store isn't a call
store-knows : (P : ProgramParts) (d : _) (kinds : List Kind) (a : TaskState) (i : Instr) → IsStore (instr_need P d a i) → KnowsLock kinds i
store-knows P d kinds a Ecall e = absurd (no_call IsStore P a (slice_index a.regs 17) (slice_index a.regs 10) (λ x f. f) (λ x f. f) (λ x f. f) e)
store-knows P d kinds a _ e = tt

pub store-fits : (S : Setup) (base : ℕ → ℕ) (a : Alone) (r : Started) (m : List ℕ) (word : WordId) (whole : Bool) → FitsAlone S base a r m → AreFirst S → a.state.end ≡ None → is_settled_next S a ≡ true
    → need_of S.program S.decl S.fuel a.state ≡ need.TheVariants.Store word whole → (is_shared S.phase S.decl word.0 ≡ true → IsInSection S.decl a.state.held word.0) → word.0 < length m
    → FitsAlone S base (store_alone S a word.0) (in_state r (advanced S.program r.state)) (slice_set m word.0 (merged_of S.program (slice_index m word.0) r.state))
unfolding advanced merged_of
store-fits S base a r m word whole h firsts runs s n inside within =
    record {
      decl = h.decl;
      state = ap (λ (o : Option Instr). without_registers (after_fetch r.state o)) at' ∙ g.same;
      registers = subst (λ (o : Option Instr). AreRegisters (kinds_fetched a.kinds (instr_at P a.state)) (after_fetch a.state (instr_at P a.state)).regs base (after_fetch r.state o).regs) (sym at') g.registers;
      taken = subst (λ (x : ℕ). EachKind (IsOfSection S x) (kinds_fetched a.kinds (instr_at P a.state))) (sym held) g.keeps;
      words = length-set a.cells word.0 new ∙ h.words ∙ sym (length-set m word.0 y);
      base_small = h.base_small;
      stored = λ w u e. ⊎_elim (λ (is : w ≡ word.0). put w is u e) (λ (apart : w ≢ word.0). left w apart u e) (cases_eq w word.0);
      kept = λ w going e shared inside. let apart = unlike w e in get_or-set_other m word.0 w y 0 apart ∙ h.kept w runs (sym (ap (λ (c : Cell). c.stored) (cell_other w apart)) ∙ e) shared (subst (λ (x : ℕ). IsInSection S.decl x w) held inside);
      first = λ w going e shared. let apart = unlike w e in subst (Denotes (value_at_start S w) base) (sym (get_or-set_other m word.0 w y 0 apart)) (h.first w runs (sym (ap (λ (c : Cell). c.stored) (cell_other w apart)) ∙ e) shared);
    }
  where
    P : ProgramParts
    P = S.program

    w0 : ℕ
    w0 = word.0

    v : Value
    v = seen S a.cells word.0

    x : ℕ
    x = slice_index m word.0

    y : ℕ
    y = after_store r.state x (instr_at P r.state)

    at' : instr_at P r.state ≡ instr_at P a.state
    at' = at-same P a.state r.state h.state

    is_store : IsStore (need_of P S.decl S.fuel a.state)
    is_store = subst IsStore (sym n) tt

    left_over : (a.state.retired ≡ S.fuel → ⊥) × IsStore (fetch_need P S.decl a.state (code_at P.code a.state.pc))
    left_over = fuelled P S.decl S.fuel a.state IsStore (λ f. f) is_store

    settled : is_settled_if a.kinds a.state (instr_at P a.state) ≡ true
    settled = settled-at P S.fuel a.kinds a.state left_over.0 s

    knows : (i : Instr) → instr_at P a.state ≡ Some i → KnowsLock a.kinds i
    knows i e = by_word (code_at P.code a.state.pc) e left_over.1
      where
        by_word : (o : Option ℕ) → read_instr o ≡ Some i → IsStore (fetch_need P S.decl a.state o) → KnowsLock a.kinds i
        by_word None e k = absurd (none-some i e)
        by_word (Some w) e k = store-knows P S.decl a.kinds a.state i (subst (λ (o : Option Instr). IsStore (word_need P S.decl a.state w o)) e k)

    g : GoesBy (IsOfSection S a.state.held) a.kinds base a.state r.state (instr_at P a.state)
    g = goes P (IsOfSection S a.state.held) a.kinds base a.state r.state h.state h.registers settled knows tt tt h.taken

    allowed : Allowed P S.decl a.state (need.TheVariants.Store word whole)
    allowed = subst (Allowed P S.decl a.state) n (need-allowed P S.decl S.fuel a.state)

    held : (advanced P a.state).held ≡ a.state.held
    held = allowed.2

    value : Value
    value = stored_value S a word.0

    new : Cell
    new = record { stored = Some value; effect = (cell_at a.cells word.0).effect }

    there : Denotes v base x × (v.number < 2 ^ 32)
    there = seen-stands S base a r m word.0 h runs inside firsts.small

    by_instr : (o : Option Instr) → is_settled_if a.kinds a.state o ≡ true
        → DenotesBy (kind_stored a.kinds (is_shared S.phase S.decl word.0) word.0 v.kind o) (after_store a.state v.number o) base (after_store r.state x o)
    by_instr None e = there.0
    by_instr (Some i) e = store-stands a.kinds base a.state r.state (is_shared S.phase S.decl word.0) word.0 v x i h.registers e there.0

    stands : Denotes value base y
    stands = subst (λ (o : Option Instr). DenotesBy value.kind value.number base (after_store r.state x o)) (sym at') (by_instr (instr_at P a.state) settled)

    cell_same : cell_at (slice_set a.cells word.0 new) word.0 ≡ new
    cell_same = let l = h.words in get_or-set_same a.cells word.0 new untouched (omega arith)

    cell_other : (w : ℕ) → w ≢ word.0 → cell_at (slice_set a.cells word.0 new) w ≡ cell_at a.cells w
    cell_other w apart = get_or-set_other a.cells word.0 w new untouched apart

    unlike : (w : ℕ) → (cell_at (slice_set a.cells word.0 new) w).stored ≡ None → w ≢ word.0
    unlike w e is =
        none-some value (sym (sym (ap (λ (c : Cell). c.stored) cell_same) ∙ ap (λ (q : ℕ). (cell_at (slice_set a.cells word.0 new) q).stored) (sym is) ∙ e))

    own : IsOfWord word.0 value.kind × IsOfSharedWord S word.0 value.kind
    own = store-own S a.kinds word.0 v.kind (instr_at P a.state) (seen-own S base a r m word.0 h firsts)

    here : IsStored S base (advanced P a.state) (slice_set m word.0 y) word.0 value
    here =
        record {
          may = λ e. subst (λ (q : ℕ). may_store S.decl q word.0 ≡ true) (sym held) allowed.1;
          writes = store-writes S.decl a.state.held word.0 allowed.1;
          runs = g.ended ∙ runs;
          own = own.0;
          shared = own.1;
          stands = subst (Denotes value base) (sym (get_or-set_same m word.0 y 0 within)) stands;
          small = merged-below a.state v.number (instr_at P a.state) there.1 (λ q. read-small a.kinds a.state.regs r.state.regs base q h.registers);
        }

    put : (w : ℕ) → w ≡ word.0 → (u : Value) → (cell_at (slice_set a.cells word.0 new) w).stored ≡ Some u → IsStored S base (advanced P a.state) (slice_set m word.0 y) w u
    put w is u e =
        let same : value ≡ u = same_Some value u (sym (ap (λ (c : Cell). c.stored) cell_same) ∙ ap (λ (q : ℕ). (cell_at (slice_set a.cells word.0 new) q).stored) (sym is) ∙ e) in
        subst (λ (q : ℕ). IsStored S base (advanced P a.state) (slice_set m word.0 y) q u) (sym is)
        (subst (IsStored S base (advanced P a.state) (slice_set m word.0 y) word.0) same here)

    left : (w : ℕ) → w ≢ word.0 → (u : Value) → (cell_at (slice_set a.cells word.0 new) w).stored ≡ Some u → IsStored S base (advanced P a.state) (slice_set m word.0 y) w u
    left w apart u e =
        let k = h.stored w u (sym (ap (λ (c : Cell). c.stored) (cell_other w apart)) ∙ e) in
        let moved' = stored-moved S base a.state (advanced P a.state) m w u held g.ended k in
        record {
          may = moved'.may;
          writes = moved'.writes;
          runs = moved'.runs;
          own = moved'.own;
          shared = moved'.shared;
          stands = subst (Denotes u base) (sym (get_or-set_other m word.0 w y 0 apart)) moved'.stands;
          small = moved'.small;
        }
