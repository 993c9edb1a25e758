-- Tables to which rows are given, word by word.
use Rattle.std.proofs.Common.{◌≡◌, ◌≢◌, ℕ, zero, suc, ◌+◌, ◌-◌, ◌*◌, ◌<◌, ◌≤◌, ◌⊎◌, inl, inr, Bool, true, false, List, length, get_or, replicate, slice_index_or, slice_set, Option, Some, None, refl, sym, ap, ◌∙◌, subst, arith, ⊎_elim}
use Rattle.std.proofs.lemmas.Bool.{true≢false, cases_eq, cases_lt, eq-eqb, eqb-true}
use Rattle.std.proofs.lemmas.List.{length-set, get_or-set_same, get_or-set_other, set-get_or, get_or_past, get_or-replicate, length-replicate, ext_get_or}
use Rattle.std.proofs.lemmas.List.Sums.{sum_by-set}
use Rattle.std.proofs.lemmas.Nat.{and_le_l, mul-le}
use Rattle.std.proofs.lemmas.Nat.Bits.{bit_at-lt, same_from_bits}
use Rattle.std.specs.Int.{bit_at}
use Rattle.std.specs.List.{All}
use Rattle.region_table.specs.Tasks.{IsDeclaration}
use Rattle.region_table.specs.declared.declared.Phase.{Phase}
use Rattle.region_table.proofs.TaskLemmas.{declared-tells}
use Rattle.rv_core.specs.Access.{is_held}
use Rattle.rv_core.proofs.HeldLemmas.{holds-bit}
use Rattle.flat_machine.specs.Laws.{HoldsLess}
use Rattle.effect_prover.specs.Answer.{IsProvenTask, IsProven, IsUnbounded}
use Rattle.std.specs.Option.{IfSome}
use Rattle.std.proofs.lemmas.Option.{none-some, same_Some, slice_get_past, get_or_from_slice_get}
use Rattle.region_table.specs.Program.{ProgramParts, IsProgram}
use Rattle.region_table.specs.declared.declared.TaskDecl.{TaskDecl}
use Rattle.rv_isa.specs.declared.instr.Instr.{Instr}
use Rattle.rv_core.specs.Step.{read_instr}
use Rattle.effect_prover.specs.declared.row.Row.{Row}
use Rattle.effect_prover.specs.declared.successors.Successors.{Successors}
use Rattle.effect_prover.specs.Range.{one}
use Rattle.effect_prover.specs.Row.{range_of, start_row, IsRow, IsBelow, IsUnder}
use Rattle.effect_prover.specs.Successors.{successors}
use Rattle.effect_prover.specs.Table.{Table, row_at, address_at, instr_of, target_of, IsLoopHead, IsHeadRange, IsTable, Covers, IsPassedOn, IsClosed, IsLeastTable}
use Rattle.effect_prover.specs.Blocks.{is_straight, IsStraightAt, is_leader, HasLeaders, leader_of, IsLast, row_behind, filled_row, filled_before, filled}
use Rattle.effect_prover.specs.Sweep.{IsJoinedTo, IsTakenIn, row_room, room_of, table_room, HasHeads, row_is_pending, IsTableUnder, HasPassedOn, IsSwept, CoversAt, IsRowGiven, IsPut, AreMarked}
use Rattle.effect_prover.proofs.RowLemmas.{under-itself, under-trans}
use Rattle.effect_prover.proofs.JoinLemmas.{joined-row, joined-first, joined-second, joined-least, grown-room, row-room, same_row, same_range}
use Rattle.effect_prover.proofs.SuccessorLemmas.{IsRowIn}
use Rattle.effect_prover.proofs.BlockLemmas.{is-either, next-suc, leader-below, leader-is, last-same, plain-nowhere, instr-fits, filled-leads, filled-behind, filled-same, filled-none, filled-in, gives-below, filled-below, filled-at, filled-length, filled-past, filled-within}

-- ---- tables

pub table-itself : (t : Table) → IsTableUnder t t
table-itself t i = under-itself (row_at t i)

pub table-trans : (a b c : Table) → IsTableUnder a b → IsTableUnder b c → IsTableUnder a c
table-trans a b c h k i = under-trans (row_at a i) (row_at b i) (row_at c i) (h i) (k i)

pub covers-grows : (t u : Table) (address : ℕ) (given : Option Row) → length u ≡ length t → IsTableUnder t u → Covers t address given → Covers u address given
covers-grows t u address given same grows h i within at' =
    under-trans given (row_at t i) (row_at u i) (h i (omega arith) at') (grows i)

pub passed-grows : (t u : Table) (pc : ℕ) (instr : Instr) (s : Successors) → length u ≡ length t → IsTableUnder t u → IsPassedOn t pc instr s → IsPassedOn u pc instr s
passed-grows t u pc instr s same grows h =
    record {
      next = covers-grows t u (pc + 4) s.next same grows h.next;
      target = λ address aims. covers-grows t u address s.target same grows (h.target address aims);
    }

-- what holds of the row that is written, and of each other one, holds after the write
pub written : (t : Table) (place : ℕ) (o : Option Row) (i : ℕ) → place < length t → (Q : Option Row → Type 0) → (i ≡ place → Q o) → (i ≢ place → Q (row_at t i)) → Q (row_at (slice_set t place o) i)
written t place o i within Q new old =
    ⊎_elim
    (λ (same : i ≡ place). subst (λ (k : ℕ). Q (row_at (slice_set t place o) k)) (sym same)
    (subst Q (sym (get_or-set_same t place o None within)) (new same)))
    (λ (apart : i ≡ place → ⊥). subst Q (sym (get_or-set_other t place i o None apart)) (old apart))
    (cases_eq i place)

-- ---- what is joined

pub to-row : (head : Bool) (argument : ℕ) (o : Option Row) (given row : Row) → ((old : Row) → o ≡ Some old → IsRow old) → IsRow given → IsJoinedTo head argument o given row → IsRow row
to-row head argument None given row ho hg j = joined-row head argument given given row hg hg j
to-row head argument (Some old) given row ho hg j = joined-row head argument old given row (ho old refl) hg j

to-first : (head : Bool) (argument : ℕ) (o : Option Row) (given row : Row) → IsJoinedTo head argument o given row → IsUnder o (Some row)
to-first head argument None given row j = tt
to-first head argument (Some old) given row j = joined-first head argument old given row j

to-second : (head : Bool) (argument : ℕ) (o : Option Row) (given row : Row) → IsJoinedTo head argument o given row → IsUnder (Some given) (Some row)
to-second head argument None given row j = joined-second head argument given given row j
to-second head argument (Some old) given row j = joined-second head argument old given row j

to-least : (head : Bool) (argument : ℕ) (o : Option Row) (given row : Row) (all : Option Row) → IsJoinedTo head argument o given row
    → ((z : Row) → all ≡ Some z → head ≡ true → (r : ℕ) → r < 32 → IsHeadRange argument (range_of z r)) → IsUnder o all → IsUnder (Some given) all → IsUnder (Some row) all
to-least head argument o given row None j headed p q = absurd q
to-least head argument None given row (Some z) j headed p q = joined-least head argument given given row z j (headed z refl) q q
to-least head argument (Some old) given row (Some z) j headed p q = joined-least head argument old given row z j (headed z refl) p q

to-heads : (argument : ℕ) (head : Bool) (o : Option Row) (given row : Row) → IsJoinedTo head argument o given row → head ≡ true → (r : ℕ) → r < 32 → IsHeadRange argument (range_of row r)
to-heads argument head None given row j e r within = (j.ranges r within).head_range e
to-heads argument head (Some old) given row j e r within = (j.ranges r within).head_range e

to-room : (head : Bool) (argument : ℕ) (o : Option Row) (given row : Row) → ((old : Row) → o ≡ Some old → IsRow old) → IsRow given → IsJoinedTo head argument o given row → o ≢ Some row
    → row_room row < room_of o
to-room head argument None given row ho hg j apart = row-room row (joined-row head argument given given row hg hg j)
to-room head argument (Some old) given row ho hg j apart =
    let is = j.held in
    let l = and_le_l old.held given.held in
    grown-room old row (ho old refl) (joined-row head argument old given row (ho old refl) hg j) (joined-first head argument old given row j) (omega arith) (λ e. apart (ap Some e))

-- ---- what is given

-- nothing was to be given
pub nothing-given : (P : ProgramParts) (d : TaskDecl) (t : Table) (p : List Bool) (address : Option ℕ) (given : Option Row) (cursor : ℕ) → IsTable P d t → CoversAt t address given
    → IsRowGiven P d t p address given cursor t p cursor
nothing-given P d t p address given cursor shape covers =
    record {
      words = refl;
      marks = refl;
      shape = shape;
      grows = table-itself t;
      covers = covers;
      least = λ all s u c. u;
      same = λ i e. refl;
      unmarked = λ i e. e;
      before = λ i l. refl;
      within = omega arith;
      room_falls = omega arith;
      room_less = λ l. absurd (omega arith);
    }

pub row-known : (o : Option Row) → ((row : Row) → o ≡ Some row → IsRow row) → IfSome o IsRow
row-known None h = tt
row-known (Some row) h = h row refl

-- what a filled table has at a word, and at the word before
pub filled-known : (P : ProgramParts) (L : List Bool) (t : Table) (i : ℕ) → i < length P.code → ((k : ℕ) (row : Row) → row_at (filled P L t) k ≡ Some row → IsRow row)
    → IfSome (filled_row P L t i) IsRow
filled-known P L t i within rows = row-known (filled_row P L t i) (λ row e. rows i row (filled-at P L t i within ∙ e))

pub before-known : (P : ProgramParts) (L : List Bool) (t : Table) (i : ℕ) → i ≤ length P.code → ((k : ℕ) (row : Row) → row_at (filled P L t) k ≡ Some row → IsRow row)
    → IfSome (filled_before P L t i) IsRow
before-known P L t zero within rows = tt
before-known P L t (suc i) within rows = filled-known P L t i (omega arith) rows

put-none : (head : Bool) (argument : ℕ) (t : Table) (place : ℕ) (given row : Row) → IsJoinedTo head argument (row_at t place) given row → row_at t place ≡ Some row
    → IsPut head argument t place given t false
put-none head argument t place given row j same =
    record {
      row = row;
      table = sym (set-get_or t place None) ∙ ap (slice_set t place) same;
      joined = j;
      changed = λ e. absurd (true≢false (sym e));
      unchanged = λ e. same;
    }

-- a row that is taken in changes nothing
pub put-taken : (head : Bool) (argument : ℕ) (t : Table) (place : ℕ) (given : Row) → IsTakenIn head argument (row_at t place) given → IsPut head argument t place given t false
put-taken head argument t place given taken = by_row (row_at t place) refl taken
  where
    by_row : (o : Option Row) → row_at t place ≡ o → IsTakenIn head argument o given → IsPut head argument t place given t false
    by_row None e h = absurd h
    by_row (Some old) e h = put-none head argument t place given old (subst (λ (o : Option Row). IsJoinedTo head argument o given old) (sym e) h) e

pub taken-itself : (head : Bool) (argument : ℕ) (o : Option Row) (given row : Row) → o ≡ Some row → IsJoinedTo head argument o given row → IsTakenIn head argument o given
taken-itself head argument o given row e h = subst (λ (p : Option Row). IsTakenIn head argument p given) (sym e) (subst (λ (p : Option Row). IsJoinedTo head argument p given row) e h)

pub put-some : (head : Bool) (argument : ℕ) (t : Table) (place : ℕ) (given row : Row) → IsJoinedTo head argument (row_at t place) given row → row_at t place ≢ Some row
    → IsPut head argument t place given (slice_set t place (Some row)) true
put-some head argument t place given row j apart =
    record { row = row; table = refl; joined = j; changed = λ e. apart; unchanged = λ e. absurd (true≢false e) }

-- a row was put at a place, and didn't grow there
pub put-same : (head : Bool) (argument : ℕ) (old : Table) (place : ℕ) (given : Row) (new : Table) → IsPut head argument old place given new false → new ≡ old
put-same head argument old place given new h =
    h.table ∙ sym (ap (slice_set old place) (h.unchanged refl)) ∙ set-get_or old place None

same_place : (i place : ℕ) → address_at i ≡ address_at place → i ≡ place
same_place i place e = omega arith

pub put-covers : (head : Bool) (argument : ℕ) (old : Table) (place : ℕ) (given : Row) (new : Table) (address : ℕ) → address ≡ address_at place → IsPut head argument old place given new false
    → CoversAt old (Some address) (Some given)
put-covers head argument old place given new address at' h a e i within is =
    let here : i ≡ place = same_place i place (sym is ∙ sym (same_Some address a e) ∙ at') in
    subst (λ (k : ℕ). IsUnder (Some given) (row_at old k)) (sym here)
    (subst (IsUnder (Some given)) (sym (h.unchanged refl)) (to-second head argument (row_at old place) given h.row h.joined))

pub put-given : (P : ProgramParts) (d : TaskDecl) (heads : List Bool) (old new : Table) (was : List Bool) (place address : ℕ) (given : Row) (cursor next : ℕ)
    → HasHeads P.code heads → IsTable P d old → length was ≡ length old → place < length old → address ≡ address_at place → IsRow given
    → IsPut (slice_index_or heads place false) d.arg old place given new true → next ≤ cursor → next ≤ place
    → IsRowGiven P d old was (Some address) (Some given) cursor new (slice_set was place true) next
put-given P d heads old new was place address given cursor next known shape marks within at' hg h below early =
    subst (λ (t : Table). IsRowGiven P d old was (Some address) (Some given) cursor t (slice_set was place true) next) (sym h.table)
    (record {
      words = length-set old place (Some row);
      marks = length-set was place true;
      shape = record { words = length-set old place (Some row) ∙ shape.words; rows = rows; heads = headed };
      grows = λ i. written old place (Some row) i within (IsUnder (row_at old i))
          (λ e. subst (λ (k : ℕ). IsUnder (row_at old k) (Some row)) (sym e) (to-first head d.arg (row_at old place) given row h.joined)) (λ e. under-itself (row_at old i));
      covers = λ a e i inside is.
          let here : i ≡ place = same_place i place (sym is ∙ sym (same_Some address a e) ∙ at') in
          subst (λ (k : ℕ). IsUnder (Some given) (row_at (slice_set old place (Some row)) k)) (sym here)
          (subst (IsUnder (Some given)) (sym (get_or-set_same old place (Some row) None within)) (to-second head d.arg (row_at old place) given row h.joined));
      least = λ all sound under covered i.
          written old place (Some row) i within (λ (o : Option Row). IsUnder o (row_at all i))
          (λ e. subst (λ (k : ℕ). IsUnder (Some row) (row_at all k)) (sym e) (least all sound under covered)) (λ e. under i);
      same = λ i e. get_or-set_other old place i (Some row) None (λ s. marked i e s);
      unmarked = λ i e. subst (λ (b : Bool). b ≡ false) (get_or-set_other was place i true false (λ s. marked i e s)) e;
      before = λ i l. get_or-set_other was place i true false (λ s. absurd (omega arith));
      within = below;
      room_falls = let f = falls in omega arith;
      room_less = λ l. falls;
    })
  where
    head : Bool
    head = slice_index_or heads place false

    row : Row
    row = h.row

    old_row : (o : Row) → row_at old place ≡ Some o → IsRow o
    old_row o e = shape.rows place o e

    place_within : place < length P.code
    place_within = let e = shape.words in omega arith

    rows : (i : ℕ) (x : Row) → row_at (slice_set old place (Some row)) i ≡ Some x → IsRow x
    rows i = written old place (Some row) i within (λ (o : Option Row). (x : Row) → o ≡ Some x → IsRow x)
        (λ s x e. subst IsRow (same_Some row x e) (to-row head d.arg (row_at old place) given row old_row hg h.joined)) (λ s x e. shape.rows i x e)

    headed : (i : ℕ) (x : Row) → IsLoopHead P.code i → row_at (slice_set old place (Some row)) i ≡ Some x → (r : ℕ) → r < 32 → IsHeadRange d.arg (range_of x r)
    headed i x is = written old place (Some row) i within (λ (o : Option Row). o ≡ Some x → (r : ℕ) → r < 32 → IsHeadRange d.arg (range_of x r))
        (λ s e r low. subst (λ (y : Row). IsHeadRange d.arg (range_of y r)) (same_Some row x e)
        (to-heads d.arg head (row_at old place) given row h.joined ((known.tells place place_within).1 (subst (IsLoopHead P.code) s is)) r low))
        (λ s e. shape.heads i x is e)

    least : (all : Table) → IsTable P d all → IsTableUnder old all → CoversAt all (Some address) (Some given) → IsUnder (Some row) (row_at all place)
    least all sound under covered =
        to-least head d.arg (row_at old place) given row (row_at all place) h.joined
        (λ z e is. sound.heads place z ((known.tells place place_within).0 is) e) (under place)
        (covered address refl place (let a = sound.words in let b = shape.words in omega arith) at')

    marked : (i : ℕ) → row_is_pending (slice_set was place true) i ≡ false → i ≡ place → ⊥
    marked i e s =
        true≢false (sym (get_or-set_same was place true false (omega arith)) ∙ subst (λ (k : ℕ). row_is_pending (slice_set was place true) k ≡ false) s e)

    falls : table_room (slice_set old place (Some row)) < table_room old
    falls =
        let sum = sum_by-set room_of old place (Some row) None within in
        let less = to-room head d.arg (row_at old place) given row old_row hg h.joined (h.changed refl) in
        omega arith

-- ---- a word passes its row on

-- the leader at the cursor isn't pending any more, as its block has passed its row on
swept-next : (P : ProgramParts) (d : TaskDecl) (L : List Bool) (t : Table) (p : List Bool) (cursor : ℕ) → IsSwept P d L t p cursor → cursor < length p
    → ((i : ℕ) → IsLast L (length P.code) i → leader_of L i ≡ cursor → HasPassedOn P L t i) → IsSwept P d L t (slice_set p cursor false) (cursor + 1)
swept-next P d L t p cursor h within gone =
    record {
      shape = h.shape;
      least = h.least;
      marks = length-set p cursor false ∙ h.marks;
      passed = λ i last e.
          ⊎_elim
          (λ (s : leader_of L i ≡ cursor). gone i last s)
          (λ (apart : leader_of L i ≡ cursor → ⊥). h.passed i last (sym (get_or-set_other p cursor (leader_of L i) false false apart) ∙ e))
          (cases_eq (leader_of L i) cursor);
      before = λ i l e.
          ⊎_elim
          (λ (s : i ≡ cursor). subst (λ (k : ℕ). row_is_pending (slice_set p cursor false) k ≡ false) (sym s) (get_or-set_same p cursor false false within))
          (λ (apart : i ≡ cursor → ⊥). get_or-set_other p cursor i false false apart ∙ h.before i (omega arith) e)
          (cases_eq i cursor);
    }

-- the leader at the cursor isn't reached
pub swept-none : (P : ProgramParts) (d : TaskDecl) (L : List Bool) (t : Table) (p : List Bool) (cursor : ℕ) → IsSwept P d L t p cursor → cursor < length p
    → row_at t cursor ≡ None → IsSwept P d L t (slice_set p cursor false) (cursor + 1)
swept-none P d L t p cursor h within none =
    swept-next P d L t p cursor h within
    (λ i last s row instr is read. absurd (none-some row (sym (filled-none P L t i (subst (λ (k : ℕ). row_at t k ≡ None) (sym s) none)) ∙ is)))

-- the last word of the cursor's block is no instruction
pub swept-stop : (P : ProgramParts) (d : TaskDecl) (L : List Bool) (t : Table) (p : List Bool) (cursor last : ℕ) → IsSwept P d L t p cursor → cursor < length p
    → IsLast L (length P.code) last → leader_of L last ≡ cursor → instr_of P.code last ≡ None → IsSwept P d L t (slice_set p cursor false) (cursor + 1)
swept-stop P d L t p cursor last h within ends own none =
    swept-next P d L t p cursor h within
    (λ i end s row instr is read.
    let same : i ≡ last = last-same L (length P.code) i last end ends (s ∙ sym own) in
    absurd (none-some instr (sym none ∙ subst (λ (k : ℕ). instr_of P.code k ≡ Some instr) same read)))

-- a block whose last word's row was given to both its successors has passed it on, unless its leader grew itself
pub two-given : (P : ProgramParts) (d : TaskDecl) (L : List Bool) (t t1 t2 : Table) (p q1 q2 : List Bool) (cursor last c1 c2 : ℕ) (row : Row) (instr : Instr) → IsProgram P
    → IsSwept P d L t p cursor → cursor < length p → IsLast L (length P.code) last → leader_of L last ≡ cursor
    → filled_row P L t last ≡ Some row → instr_of P.code last ≡ Some instr
    → IsRowGiven P d t (slice_set p cursor false) (Some (address_at last + 4)) (successors (length P.locks) (address_at last) row instr).next (cursor + 1) t1 q1 c1
    → IsRowGiven P d t1 q1 (target_of (address_at last) instr) (successors (length P.locks) (address_at last) row instr).target c1 t2 q2 c2
    → IsSwept P d L t2 q2 c2
two-given P d L t t1 t2 p q1 q2 cursor last c1 c2 row instr good h within ends own reached there g1 g2 =
    record {
      shape = g2.shape;
      least = λ all closed.
          let fits = instr-fits P.code last instr there in
          let is : IsRow row = subst IsRowIn reached (filled-in P d L t last good h.shape ends.within) in
          let under : IsUnder (Some row) (row_at all last) =
          subst (λ (o : Option Row). IsUnder o (row_at all last)) reached (filled-below P d L t all last good h.shape closed (h.least all closed) ends.within) in
          let gives = gives-below P d all last row instr fits.0 fits.1 is closed under there in
          g2.least all closed.shape
          (g1.least all closed.shape (h.least all closed) (λ a e. subst (λ (k : ℕ). Covers all k s.next) (same_Some (address_at last + 4) a e) gives.next))
          gives.target;
      marks = g2.marks ∙ g1.marks ∙ length-set p cursor false ∙ h.marks ∙ sym g1.words ∙ sym g2.words;
      passed = λ i end e.
          let e1 = g2.unmarked (leader_of L i) e in
          let e0 = g1.unmarked (leader_of L i) e1 in
          let kept : filled_row P L t2 i ≡ filled_row P L t i = filled-same P L t t2 i (g2.same (leader_of L i) e ∙ g1.same (leader_of L i) e1) in
          ⊎_elim
          (λ (s : leader_of L i ≡ cursor).
          let at' : i ≡ last = last-same L (length P.code) i last end ends (s ∙ sym own) in
          subst (HasPassedOn P L t2) (sym at') (passed (subst (λ (k : ℕ). filled_row P L t2 k ≡ filled_row P L t k) at' kept)))
          (λ (apart : leader_of L i ≡ cursor → ⊥). λ x j is read.
          passed-grows t t2 (address_at i) j (successors (length P.locks) (address_at i) x j) words grows
          (h.passed i end (sym (get_or-set_other p cursor (leader_of L i) false false apart) ∙ e0) x j (sym kept ∙ is) read))
          (cases_eq (leader_of L i) cursor);
      before = λ i l e.
          let w2 = g2.within in
          let w1 = g1.within in
          let unmarked = g2.before i l ∙ g1.before i (omega arith) in
          unmarked
          ∙ ⊎_elim
          (λ (at' : i ≡ cursor). subst (λ (k : ℕ). row_is_pending (slice_set p cursor false) k ≡ false) (sym at') (get_or-set_same p cursor false false within))
          (λ (apart : i ≡ cursor → ⊥). get_or-set_other p cursor i false false apart ∙ h.before i (omega arith) e)
          (cases_eq i cursor);
    }
  where
    s : Successors
    s = successors (length P.locks) (address_at last) row instr

    words : length t2 ≡ length t
    words = g2.words ∙ g1.words

    grows : IsTableUnder t t2
    grows = table-trans t t1 t2 g1.grows g2.grows

    passed : filled_row P L t2 last ≡ filled_row P L t last → HasPassedOn P L t2 last
    passed kept x j is read =
        let row_is : row ≡ x = same_Some row x (sym reached ∙ sym kept ∙ is) in
        let instr_is : instr ≡ j = same_Some instr j (sym there ∙ read) in
        subst (λ (y : Row). IsPassedOn t2 (address_at last) j (successors (length P.locks) (address_at last) y j)) row_is
        (subst (λ (k : Instr). IsPassedOn t2 (address_at last) k (successors (length P.locks) (address_at last) row k)) instr_is
        (record {
          next = covers-grows t1 t2 (address_at last + 4) s.next g2.words g2.grows (g1.covers (address_at last + 4) refl);
          target = g2.covers;
        }))

-- ---- the sweep

pub sweep-falls : (n before after at' next : ℕ) → at' < n → next ≤ at' + 1 → after ≤ before → (next ≤ at' → after < before) → after * (n + 1) + (n - next) < before * (n + 1) + (n - at')
sweep-falls n before after at' next within step falls less =
    ⊎_elim
    (λ (forward : at' < next). let m = mul-le after (n + 1) before (n + 1) falls (omega arith) in omega arith)
    (λ (back : next ≤ at').
    let l = less back in
    let m = mul-le (after + 1) (n + 1) before (n + 1) (omega arith) (omega arith) in
    let split : (after + 1) * (n + 1) ≡ after * (n + 1) + (n + 1) = omega arith in
    omega arith)
    (cases_lt at' next)

-- the same with names for the successors and the addresses
pub two-passed : (P : ProgramParts) (d : TaskDecl) (L : List Bool) (t t1 t2 : Table) (p q1 q2 : List Bool) (cursor last c1 c2 : ℕ) (row : Row) (instr : Instr) (pc : ℕ) (aim : Option ℕ) (s : Successors)
    → IsProgram P → IsSwept P d L t p cursor → cursor < length p → IsLast L (length P.code) last → leader_of L last ≡ cursor
    → filled_row P L t last ≡ Some row → instr_of P.code last ≡ Some instr
    → pc ≡ address_at last → aim ≡ target_of pc instr → s ≡ successors (length P.locks) (address_at last) row instr
    → IsRowGiven P d t (slice_set p cursor false) (Some (pc + 4)) s.next (cursor + 1) t1 q1 c1
    → IsRowGiven P d t1 q1 aim s.target c1 t2 q2 c2
    → IsSwept P d L t2 q2 c2
two-passed P d L t t1 t2 p q1 q2 cursor last c1 c2 row instr pc aim s good h within ends own reached there at' aims is g1 g2 =
    two-given P d L t t1 t2 p q1 q2 cursor last c1 c2 row instr good h within ends own reached there
    (subst (λ (z : Successors). IsRowGiven P d t (slice_set p cursor false) (Some (address_at last + 4)) z.next (cursor + 1) t1 q1 c1) is
    (subst (λ (k : ℕ). IsRowGiven P d t (slice_set p cursor false) (Some (k + 4)) s.next (cursor + 1) t1 q1 c1) at' g1))
    (subst (λ (z : Successors). IsRowGiven P d t1 q1 (target_of (address_at last) instr) z.target c1 t2 q2 c2) is
    (subst (λ (o : Option ℕ). IsRowGiven P d t1 q1 o s.target c1 t2 q2 c2) (aims ∙ ap (λ (k : ℕ). target_of k instr) at') g2))

pub known-rows : (o : Option Row) → IsRowIn o → IfSome o IsRow
known-rows None h = tt
known-rows (Some row) h = h

-- ---- where the sweep begins and ends

replicated : (n i : ℕ) → row_at (replicate n None) i ≡ None
replicated n i =
    ⊎_elim
    (λ (inside : i < n). get_or-replicate n i None None inside)
    (λ (past : n ≤ i). get_or_past (replicate n None) i None (let l : length (replicate {A = Option Row} n None) ≡ n = length-replicate n None in omega arith))
    (cases_lt i n)

unmarked : (n i : ℕ) → row_is_pending (replicate n false) i ≡ false
unmarked n i =
    ⊎_elim
    (λ (inside : i < n). get_or-replicate n i false false inside)
    (λ (past : n ≤ i). get_or_past (replicate n false) i false (let l : length (replicate n false) ≡ n = length-replicate n false in omega arith))
    (cases_lt i n)

head-within : (code : List ℕ) (i : ℕ) (h : IsLoopHead code i) → h.place < length code
head-within code i h =
    ⊎_elim
    (λ (inside : h.place < length code). inside)
    (λ (past : length code ≤ h.place). absurd (none-some h.instr (sym (ap read_instr (slice_get_past code h.place past)) ∙ h.there)))
    (cases_lt h.place (length code))

pub swept-first : (P : ProgramParts) (d : TaskDecl) (L : List Bool) (n : ℕ) (t : Table) (p : List Bool) (cursor : ℕ) (start : Row) → n ≡ length P.code → start ≡ start_row d
    → IsRowGiven P d (replicate n None) (replicate n false) (Some d.entry) (Some start) n t p cursor → IsSwept P d L t p cursor
swept-first P d L n t p cursor start count is g =
    record {
      shape = g.shape;
      least = λ all closed.
          g.least all closed.shape (λ i. subst (λ (o : Option Row). IsUnder o (row_at all i)) (sym (replicated n i)) tt)
          (λ a e. subst (λ (k : ℕ). Covers all k (Some start)) (same_Some d.entry a e) (subst (λ (x : Row). Covers all d.entry (Some x)) (sym is) closed.entry));
      marks = g.marks ∙ length-replicate n false ∙ sym (length-replicate {A = Option Row} n None) ∙ sym g.words;
      passed = λ i last e row instr reached.
          absurd (none-some row (sym (filled-none P L t i (g.same (leader_of L i) e ∙ replicated n (leader_of L i))) ∙ reached));
      before = λ i l e. g.before i l ∙ unmarked n i;
    }

-- a word is the last of its block, or the next belongs to that too
last-or-not : (L : List Bool) (n i : ℕ) → i < n → IsLast L n i ⊎ ((suc i < n) × (is_leader L (suc i) ≡ false))
last-or-not L n i within =
    ⊎_elim
    (λ (more : suc i < n).
    ⊎_elim (λ (y : is_leader L (suc i) ≡ true). inl (record { within = within; behind = λ l. subst (λ (k : ℕ). is_leader L k ≡ true) (sym (next-suc i)) y }))
    (λ (none : is_leader L (suc i) ≡ false). inr (more, none)) (is-either (is_leader L (suc i))))
    (λ (past : n ≤ suc i). inl (record { within = within; behind = λ l. absurd (omega arith) }))
    (cases_lt (suc i) n)

-- once no leader is pending the table that the leaders' rows fill up is the least closed one
pub swept-least : (P : ProgramParts) (d : TaskDecl) (L : List Bool) (t : Table) (p : List Bool) (cursor : ℕ) → IsProgram P → HasLeaders P d L → IsSwept P d L t p cursor → length t ≤ cursor
    → Covers t d.entry (Some (start_row d)) → IsLeastTable P d (filled P L t)
swept-least P d L t p cursor good leads h past entry =
    record {
      closed = record {
        shape = record { words = filled-length P L t; rows = rows; heads = heads };
        entry = covers d.entry (Some (start_row d)) leads.entry entry;
        passes = passes;
      };
      least = least;
    }
  where
    n : ℕ
    n = length P.code

    at-leader : (i : ℕ) → i < n → is_leader L i ≡ true → row_at (filled P L t) i ≡ row_at t i
    at-leader i within e = filled-at P L t i within ∙ filled-leads P L t i e

    rows : (i : ℕ) (row : Row) → row_at (filled P L t) i ≡ Some row → IsRow row
    rows i row e =
        let within = filled-within P L t i row e in
        subst IsRowIn (sym (filled-at P L t i within) ∙ e) (filled-in P d L t i good h.shape within)

    heads : (i : ℕ) (row : Row) → IsLoopHead P.code i → row_at (filled P L t) i ≡ Some row → (r : ℕ) → r < 32 → IsHeadRange d.arg (range_of row r)
    heads i row head e =
        let within = filled-within P L t i row e in
        h.shape.heads i row head (sym (at-leader i within (leads.led.aimed head.place i head.instr (head-within P.code i head) within head.there head.aims)) ∙ e)

    covers : (address : ℕ) (given : Option Row) → ((i : ℕ) → i < n → address ≡ address_at i → is_leader L i ≡ true) → Covers t address given → Covers (filled P L t) address given
    covers address given leader k i within at' =
        let words = filled-length P L t in
        let all = h.shape.words in
        let inside : i < n = omega arith in
        subst (IsUnder given) (sym (at-leader i inside (leader i inside at'))) (k i (omega arith) at')

    by_last : (i : ℕ) (row : Row) (instr : Instr) → i < n → filled_row P L t i ≡ Some row → instr_of P.code i ≡ Some instr → IsLast L n i
        → IsPassedOn (filled P L t) (address_at i) instr (successors (length P.locks) (address_at i) row instr)
    by_last i row instr within is there last =
        let s : Successors = successors (length P.locks) (address_at i) row instr in
        let below = leader-below L i in
        let words = h.shape.words in
        let passed = h.passed i last (h.before (leader_of L i) (omega arith) (leader-is L i (leads.led.first (omega arith)))) row instr is there in
        record {
          next = covers (address_at i + 4) s.next (λ j inside at'. let here : i + 1 ≡ j = omega arith in subst (λ (k : ℕ). is_leader L k ≡ true) here (last.behind (omega arith))) passed.next;
          target = λ address aims. covers address s.target (λ j inside at'. leads.led.aimed i j instr within inside there (aims ∙ ap Some at')) (passed.target address aims);
        }

    by_next : (i : ℕ) (row : Row) (instr : Instr) → i < n → filled_row P L t i ≡ Some row → instr_of P.code i ≡ Some instr → suc i < n → is_leader L (suc i) ≡ false
        → IsPassedOn (filled P L t) (address_at i) instr (successors (length P.locks) (address_at i) row instr)
    by_next i row instr within is there inside none =
        let s : Successors = successors (length P.locks) (address_at i) row instr in
        let gives : row_behind P i (filled_row P L t i) (instr_of P.code i) ≡ s.next =
        ap (λ (o : Option Row). row_behind P i o (instr_of P.code i)) is ∙ ap (row_behind P i (Some row)) there in
        let same : row_at (filled P L t) (suc i) ≡ s.next = filled-at P L t (suc i) inside ∙ filled-behind P L t i none ∙ gives in
        let plain : is_straight instr ≡ true =
        ⊎_elim (λ (k : IsStraightAt P.code i). subst (λ (x : Instr). is_straight x ≡ true) (same_Some k.instr instr (sym k.there ∙ there)) k.plain)
        (λ (y : is_leader L (i + 1) ≡ true). absurd (true≢false (sym (subst (λ (k : ℕ). is_leader L k ≡ true) (next-suc i) y) ∙ none)))
        (leads.led.behind i within (omega arith)) in
        record {
          next = λ j l at'. let here : suc i ≡ j = omega arith in
              subst (λ (k : ℕ). IsUnder s.next (row_at (filled P L t) k)) here (subst (IsUnder s.next) (sym same) (under-itself s.next));
          target = λ address aims. absurd (plain-nowhere (address_at i) instr address plain aims);
        }

    passes : (i : ℕ) (row : Row) (instr : Instr) → row_at (filled P L t) i ≡ Some row → instr_of P.code i ≡ Some instr
        → IsPassedOn (filled P L t) (address_at i) instr (successors (length P.locks) (address_at i) row instr)
    passes i row instr e there =
        let within = filled-within P L t i row e in
        let is : filled_row P L t i ≡ Some row = sym (filled-at P L t i within) ∙ e in
        ⊎_elim (λ (last : IsLast L n i). by_last i row instr within is there last)
        (λ (inner : (suc i < n) × (is_leader L (suc i) ≡ false)). by_next i row instr within is there inner.0 inner.1)
        (last-or-not L n i within)

    least : (all : Table) → IsClosed P d all → (i : ℕ) → IsUnder (row_at (filled P L t) i) (row_at all i)
    least all closed i =
        ⊎_elim
        (λ (inside : i < n). subst (λ (o : Option Row). IsUnder o (row_at all i)) (sym (filled-at P L t i inside)) (filled-below P d L t all i good h.shape closed (h.least all closed) inside))
        (λ (out : n ≤ i). subst (λ (o : Option Row). IsUnder o (row_at all i)) (sym (filled-past P L t i out)) tt)
        (cases_lt i n)

-- ---- heads

pub mark-last : (code : List ℕ) (heads : List Bool) → length heads ≡ length code → AreMarked code (length code) heads → HasHeads code heads
mark-last code heads same h =
    record {
      words = same;
      tells = λ i l. (λ e. ((h i l).0 e).head, λ k. (h i l).1 (record { head = k; before = head-within code i k }));
    }

-- a code word that makes no word a head
pub mark-skip : (code : List ℕ) (n : ℕ) (heads : List Bool)
    → ((instr : Instr) (i : ℕ) → instr_of code n ≡ Some instr → i < length code → i ≤ n → target_of (address_at n) instr ≡ Some (address_at i) → ⊥)
    → AreMarked code n heads → AreMarked code (n + 1) heads
mark-skip code n heads none h i l = (
  λ e. let k = (h i l).0 e in record { head = k.head; before = let b = k.before in omega arith },
  λ k.
      ⊎_elim
      (λ (here : k.head.place ≡ n).
      absurd (none k.head.instr i (subst (λ (j : ℕ). instr_of code j ≡ Some k.head.instr) here k.head.there) l (let m = k.head.later in omega arith)
      (subst (λ (j : ℕ). target_of (address_at j) k.head.instr ≡ Some (address_at i)) here k.head.aims)))
      (λ (apart : k.head.place ≡ n → ⊥). (h i l).1 (record { head = k.head; before = let b = k.before in omega arith }))
      (cases_eq k.head.place n),
)

-- the same of an instruction that aims nowhere, or at a later word
pub mark-skip_at : (code : List ℕ) (n : ℕ) (heads : List Bool) (found : Instr) (pc : ℕ) (aim : Option ℕ) → instr_of code n ≡ Some found → pc ≡ address_at n → aim ≡ target_of pc found
    → ((i : ℕ) → i < length code → i ≤ n → aim ≡ Some (address_at i) → ⊥) → AreMarked code n heads → AreMarked code (n + 1) heads
mark-skip_at code n heads found pc aim known at' is none =
    mark-skip code n heads (λ instr i there l e aims.
    none i l e (is ∙ ap (λ (k : ℕ). target_of k found) at' ∙ ap (target_of (address_at n)) (same_Some found instr (sym known ∙ there)) ∙ aims))

-- a code word that makes another, or itself, a head
pub mark-one : (code : List ℕ) (n head : ℕ) (heads : List Bool) (instr : Instr) → length heads ≡ length code → instr_of code n ≡ Some instr → target_of (address_at n) instr ≡ Some (address_at head)
    → head ≤ n → head < length code → AreMarked code n heads → AreMarked code (n + 1) (slice_set heads head true)
mark-one code n head heads instr same there aims early within h i l =
    ⊎_elim
    (λ (here : i ≡ head). (
      λ e. record { head = subst (IsLoopHead code) (sym here) (record { place = n; later = early; instr = instr; there = there; aims = aims }); before = at_place here },
      λ k. subst (λ (j : ℕ). slice_index_or (slice_set heads head true) j false ≡ true) (sym here) (get_or-set_same heads head true false (omega arith)),
    ))
    (λ (apart : i ≡ head → ⊥).
    let other : slice_index_or (slice_set heads head true) i false ≡ slice_index_or heads i false = get_or-set_other heads head i true false apart in (
      λ e. let k = (h i l).0 (sym other ∙ e) in record { head = k.head; before = let b = k.before in omega arith },
      λ k.
          other
          ∙ ⊎_elim
          (λ (now' : k.head.place ≡ n).
          let aim : target_of (address_at n) k.head.instr ≡ Some (address_at i) = subst (λ (j : ℕ). target_of (address_at j) k.head.instr ≡ Some (address_at i)) now' k.head.aims in
          let one' : instr ≡ k.head.instr = same_Some instr k.head.instr (sym there ∙ subst (λ (j : ℕ). instr_of code j ≡ Some k.head.instr) now' k.head.there) in
          let two : address_at head ≡ address_at i = same_Some (address_at head) (address_at i) (sym aims ∙ ap (target_of (address_at n)) one' ∙ aim) in
          absurd (apart (omega arith)))
          (λ (then' : k.head.place ≡ n → ⊥). (h i l).1 (record { head = k.head; before = let b = k.before in omega arith }))
          (cases_eq k.head.place n),
    ))
    (cases_eq i head)
  where
    at_place : (here : i ≡ head) → (subst (IsLoopHead code) (sym here) (record { place = n; later = early; instr = instr; there = there; aims = aims })).place < n + 1
    at_place here = omega arith

pub ruleset sweeping = nothing-given

-- ---- least tables

held-same : (a b : ℕ) → HoldsLess a b → HoldsLess b a → a ≡ b
held-same a b h k = same_from_bits a b (λ i. by_bits i (bit_at a i) (bit_at b i) refl refl (bit_at-lt a i) (bit_at-lt b i))
  where
    held_bit : (n i : ℕ) → bit_at n i ≡ 1 → is_held n i ≡ true
    held_bit n i e = holds-bit n i ∙ eq-eqb (bit_at n i) 1 e

    bit_held : (n i : ℕ) → is_held n i ≡ true → bit_at n i ≡ 1
    bit_held n i e = eqb-true (bit_at n i) 1 (sym (holds-bit n i) ∙ e)

    by_bits : (i x y : ℕ) → bit_at a i ≡ x → bit_at b i ≡ y → bit_at a i < 2 → bit_at b i < 2 → bit_at a i ≡ bit_at b i
    by_bits i x y ex ey lx ly =
        ⊎_elim
        (λ (one' : bit_at a i ≡ 1). let two = bit_held b i (h.among i (held_bit a i one')) in omega arith)
        (λ (none : bit_at a i ≡ 1 → ⊥).
        ⊎_elim
        (λ (one' : bit_at b i ≡ 1). absurd (none (bit_held a i (k.among i (held_bit b i one')))))
        (λ (also : bit_at b i ≡ 1 → ⊥). let p : bit_at a i ≡ 0 = zero_bit (bit_at a i) lx none in let q : bit_at b i ≡ 0 = zero_bit (bit_at b i) ly also in omega arith)
        (cases_eq (bit_at b i) 1))
        (cases_eq (bit_at a i) 1)
      where
        zero_bit : (n : ℕ) → n < 2 → (n ≡ 1 → ⊥) → n ≡ 0
        zero_bit n l apart = ⊎_elim (λ (e : n ≡ 0). e) (λ (e : n ≡ 0 → ⊥). absurd (omega arith)) (cases_eq n 0)

below-same : (a b : Row) → IsRow a → IsRow b → IsBelow a b → IsBelow b a → a ≡ b
below-same a b ha hb h k =
    let ca = ha.count in
    let cb = hb.count in
    same_row a b
    (ext_get_or (one 0) a.ranges b.ranges (omega arith) (λ r l.
    let p = h.ranges r (omega arith) in
    let q = k.ranges r (omega arith) in
    same_range (range_of a r) (range_of b r) (omega arith) (omega arith)))
    (held-same a.held b.held k.locks h.locks)

under-same : (o q : Option Row) → ((a : Row) → o ≡ Some a → IsRow a) → ((b : Row) → q ≡ Some b → IsRow b) → IsUnder o q → IsUnder q o → o ≡ q
under-same None None ho hq h k = refl
under-same None (Some b) ho hq h k = absurd k
under-same (Some a) None ho hq h k = absurd h
under-same (Some a) (Some b) ho hq h k = ap Some (below-same a b (ho a refl) (hq b refl) h k)

-- a task has one least table
pub one-least : (P : ProgramParts) (d : TaskDecl) (a b : Table) → IsLeastTable P d a → IsLeastTable P d b → a ≡ b
one-least P d a b h k =
    let wa = h.closed.shape.words in
    let wb = k.closed.shape.words in
    ext_get_or None a b (omega arith) (λ i l.
    under-same (row_at a i) (row_at b i) (h.closed.shape.rows i) (k.closed.shape.rows i) (h.least b k.closed i) (k.least a h.closed i))

pub not-both : (P : ProgramParts) (phase core pc : ℕ) → IsProven P → IsUnbounded P phase core pc → ⊥
not-both P phase core pc proven u =
    let d : IsDeclaration P phase core u.decl = declared-tells P phase core u.decl u.task in
    let at_phase : get_or P.phases phase d.phase ≡ d.phase = get_or_from_slice_get P.phases phase d.phase d.phase d.there in
    let tasks : All (IsProvenTask P) d.phase.tasks = subst (λ (p : Phase). All (IsProvenTask P) p.tasks) at_phase (proven phase d.phase d.within) in
    let task : IsProvenTask P u.decl = subst (IsProvenTask P) (sym d.among.1.1) (tasks d.among.0 u.decl d.among.1.0) in
    let same : task.table ≡ u.table = one-least P u.decl task.table u.table task.least u.least in
    u.outside (task.inside u.place u.row u.instr (subst (λ (t : Table). row_at t u.place ≡ Some u.row) (sym same) u.reached) u.there)
