-- Blocks: their leaders, and what the row at a leader tells of the other words.
use Rattle.std.proofs.Common.{◌≡◌, ℕ, zero, suc, ◌+◌, ◌<◌, ◌≤◌, Bool, true, false, ◌⊎◌, inl, inr, List, length, slice_get, Option, Some, None, refl, sym, ap, ◌∙◌, subst, arith, ⊎_elim}
use Rattle.std.proofs.lemmas.Bool.{true≢false, false≢true, cond-true, cond-false, cond_both, cases_eq, cases_lt, cases_order}
use Rattle.std.proofs.lemmas.Option.{none-some}
use Rattle.std.proofs.lemmas.List.{get_or_past}
use Rattle.std.proofs.lemmas.List.FromFn.{length-map-range_with_len, get_or-map-range_with_len}
use Rattle.region_table.specs.Program.{ProgramParts, IsProgram}
use Rattle.region_table.specs.declared.declared.TaskDecl.{TaskDecl}
use Rattle.rv_isa.specs.Range.{IsEncodable, HasRegisters}
use Rattle.rv_isa.specs.declared.instr.Instr.{Instr}
use Rattle.rv_isa.specs.declared.instr.Instr.TheVariants.{Lui, Auipc, Jal, Jalr, Branch, Load, Store, OpImm, Op, Fence, Ecall, Ebreak}
use Rattle.rv_isa.proofs.EncodingLemmas.{Fits-row, HasRegisters-row}
use Rattle.rv_isa.proofs.RowLemmas.{decoded-row}
use Rattle.rv_core.specs.Step.{read_instr}
use Rattle.effect_prover.specs.declared.row.Row.{Row}
use Rattle.effect_prover.specs.declared.successors.Successors.{Successors}
use Rattle.effect_prover.specs.Row.{IsRow, IsUnder}
use Rattle.effect_prover.specs.Successors.{successors}
use Rattle.effect_prover.specs.Table.{Table, row_at, address_at, instr_of, target_of, IsTable, IsPassedOn, IsClosed}
use Rattle.effect_prover.specs.Blocks.{is_straight, is_leader, AreLed, leader_of, IsLast, row_behind, filled_row, filled}
use Rattle.effect_prover.specs.Sweep.{IsTableUnder}
use Rattle.effect_prover.proofs.RowLemmas.{under-trans}
use Rattle.effect_prover.proofs.SuccessorLemmas.{IsRowIn, successors-under, successors-rows}

pub is-either : (b : Bool) → (b ≡ true) ⊎ (b ≡ false)
is-either true = inl refl
is-either false = inr refl

pub next-suc : (i : ℕ) → i + 1 ≡ suc i
next-suc i = omega arith

-- ---- leaders

pub leader-leads : (L : List Bool) (i : ℕ) → is_leader L i ≡ true → leader_of L i ≡ i
leader-leads L zero e = refl
leader-leads L (suc i) e = cond-true (is_leader L (suc i)) (suc i) (leader_of L i) e

leader-behind : (L : List Bool) (i : ℕ) → is_leader L (suc i) ≡ false → leader_of L (suc i) ≡ leader_of L i
leader-behind L i e = cond-false (is_leader L (suc i)) (suc i) (leader_of L i) e

pub leader-below : (L : List Bool) (i : ℕ) → leader_of L i ≤ i
leader-below L zero = omega arith
leader-below L (suc i) =
    let before = leader-below L i in
    cond_both (is_leader L (suc i)) (suc i) (leader_of L i) (λ (k : ℕ). k ≤ suc i) (λ e. omega arith) (λ e. omega arith)

pub leader-is : (L : List Bool) (i : ℕ) → is_leader L zero ≡ true → is_leader L (leader_of L i) ≡ true
leader-is L zero first = first
leader-is L (suc i) first = cond_both (is_leader L (suc i)) (suc i) (leader_of L i) (λ (k : ℕ). is_leader L k ≡ true) (λ e. e) (λ e. leader-is L i first)

leader-from : (L : List Bool) (j i : ℕ) → is_leader L j ≡ true → j ≤ i → j ≤ leader_of L i
leader-from L j zero e l = l
leader-from L j (suc i) e l =
    cond_both (is_leader L (suc i)) (suc i) (leader_of L i) (λ (k : ℕ). j ≤ k) (λ y. l)
    (λ n. leader-from L j i e
    (⊎_elim (λ (same : j ≡ suc i). absurd (true≢false (sym e ∙ ap (is_leader L) same ∙ n))) (λ (apart : j ≡ suc i → ⊥). omega arith) (cases_eq j (suc i))))

-- a word that isn't the last of its block has the next one's leader
pub leader-next : (L : List Bool) (i : ℕ) → is_leader L (i + 1) ≡ false → leader_of L (i + 1) ≡ leader_of L i
leader-next L i e =
    subst (λ (k : ℕ). leader_of L k ≡ leader_of L i) (sym (next-suc i)) (leader-behind L i (subst (λ (k : ℕ). is_leader L k ≡ false) (next-suc i) e))

-- a block has one last word
last-before : (L : List Bool) (n i j : ℕ) → IsLast L n i → IsLast L n j → leader_of L i ≡ leader_of L j → i < j → ⊥
last-before L n i j h k same less =
    let inside = k.within in
    let from = leader-from L (i + 1) j (h.behind (omega arith)) (omega arith) in
    let below = leader-below L i in
    omega arith

pub last-same : (L : List Bool) (n i j : ℕ) → IsLast L n i → IsLast L n j → leader_of L i ≡ leader_of L j → i ≡ j
last-same L n i j h k same =
    ⊎_elim (λ (e : i ≡ j). e)
    (λ (others : (i < j) ⊎ (j < i)).
    ⊎_elim (λ (less : i < j). absurd (last-before L n i j h k same less)) (λ (more : j < i). absurd (last-before L n j i k h (sym same) more)) others)
    (cases_order i j)

-- ---- marks

pub led-first : (code : List ℕ) (L : List Bool) → length L ≡ length code → (0 < length L → is_leader L 0 ≡ true) → AreLed code 0 L
led-first code L words first =
    record { words = words; first = λ l. first (omega arith); behind = λ i l. absurd (omega arith); aimed = λ i j instr l. absurd (omega arith) }

-- a word is the last of its block where the next one is a leader, or isn't there
pub last-here : (L : List Bool) (n i : ℕ) → i < n → length L ≡ n → (((i + 1 < length L) × (is_leader L (i + 1) ≡ false)) → ⊥) → IsLast L n i
last-here L n i within words none =
    record {
      within = within;
      behind = λ l.
          ⊎_elim (λ (y : is_leader L (i + 1) ≡ true). y) (λ (e : is_leader L (i + 1) ≡ false). absurd (none (omega arith, e))) (is-either (is_leader L (i + 1)));
    }

-- ---- straight instructions

pub plain-nowhere : (pc : ℕ) (instr : Instr) (a : ℕ) → is_straight instr ≡ true → target_of pc instr ≡ Some a → ⊥
plain-nowhere pc (Lui rd imm) a p e = none-some a e
plain-nowhere pc (Auipc rd imm) a p e = none-some a e
plain-nowhere pc (Jal rd offset) a p e = false≢true p
plain-nowhere pc (Jalr rd base offset) a p e = false≢true p
plain-nowhere pc (Branch test x y offset) a p e = false≢true p
plain-nowhere pc (Load width rd base offset) a p e = none-some a e
plain-nowhere pc (Store width src base offset) a p e = none-some a e
plain-nowhere pc (OpImm op rd x imm) a p e = none-some a e
plain-nowhere pc (Op op rd x y) a p e = none-some a e
plain-nowhere pc Fence a p e = none-some a e
plain-nowhere pc Ecall a p e = false≢true p
plain-nowhere pc Ebreak a p e = false≢true p

pub instr-fits : (code : List ℕ) (i : ℕ) (instr : Instr) → instr_of code i ≡ Some instr → HasRegisters instr × IsEncodable instr
instr-fits code i instr e = by_word (slice_get code i) e
  where
    by_word : (o : Option ℕ) → read_instr o ≡ Some instr → HasRegisters instr × IsEncodable instr
    by_word None is = absurd (none-some instr is)
    by_word (Some word) is = (HasRegisters-row instr word (decoded-row word instr is), Fits-row instr word (decoded-row word instr is))

-- ---- the rows of a block

pub filled-leads : (P : ProgramParts) (L : List Bool) (t : Table) (i : ℕ) → is_leader L i ≡ true → filled_row P L t i ≡ row_at t i
filled-leads P L t zero e = refl
filled-leads P L t (suc i) e = cond-true (is_leader L (suc i)) (row_at t (suc i)) (row_behind P i (filled_row P L t i) (instr_of P.code i)) e

pub filled-behind : (P : ProgramParts) (L : List Bool) (t : Table) (i : ℕ) → is_leader L (suc i) ≡ false → filled_row P L t (suc i) ≡ row_behind P i (filled_row P L t i) (instr_of P.code i)
filled-behind P L t i e = cond-false (is_leader L (suc i)) (row_at t (suc i)) (row_behind P i (filled_row P L t i) (instr_of P.code i)) e

pub filled-next : (P : ProgramParts) (L : List Bool) (t : Table) (i : ℕ) (o : Option Row) → is_leader L (i + 1) ≡ false → filled_row P L t i ≡ o
    → filled_row P L t (i + 1) ≡ row_behind P i o (instr_of P.code i)
filled-next P L t i o e is =
    subst (λ (k : ℕ). filled_row P L t k ≡ row_behind P i o (instr_of P.code i)) (sym (next-suc i))
    (filled-behind P L t i (subst (λ (k : ℕ). is_leader L k ≡ false) (next-suc i) e) ∙ ap (λ (x : Option Row). row_behind P i x (instr_of P.code i)) is)

-- the rows of a block hang on its leader's row alone
pub filled-same : (P : ProgramParts) (L : List Bool) (t u : Table) (i : ℕ) → row_at u (leader_of L i) ≡ row_at t (leader_of L i) → filled_row P L u i ≡ filled_row P L t i
filled-same P L t u zero e = e
filled-same P L t u (suc i) e =
    ⊎_elim
    (λ (y : is_leader L (suc i) ≡ true).
    filled-leads P L u (suc i) y ∙ subst (λ (k : ℕ). row_at u k ≡ row_at t k) (leader-leads L (suc i) y) e ∙ sym (filled-leads P L t (suc i) y))
    (λ (n : is_leader L (suc i) ≡ false).
    filled-behind P L u i n
    ∙ ap (λ (o : Option Row). row_behind P i o (instr_of P.code i)) (filled-same P L t u i (subst (λ (k : ℕ). row_at u k ≡ row_at t k) (leader-behind L i n) e))
    ∙ sym (filled-behind P L t i n))
    (is-either (is_leader L (suc i)))

-- where the leader isn't reached no word of its block is
pub filled-none : (P : ProgramParts) (L : List Bool) (t : Table) (i : ℕ) → row_at t (leader_of L i) ≡ None → filled_row P L t i ≡ None
filled-none P L t zero e = e
filled-none P L t (suc i) e =
    ⊎_elim
    (λ (y : is_leader L (suc i) ≡ true). filled-leads P L t (suc i) y ∙ subst (λ (k : ℕ). row_at t k ≡ None) (leader-leads L (suc i) y) e)
    (λ (n : is_leader L (suc i) ≡ false).
    filled-behind P L t i n
    ∙ ap (λ (o : Option Row). row_behind P i o (instr_of P.code i)) (filled-none P L t i (subst (λ (k : ℕ). row_at t k ≡ None) (leader-behind L i n) e)))
    (is-either (is_leader L (suc i)))

-- ---- what is reached has rows

pub row-in : (o : Option Row) → ((row : Row) → o ≡ Some row → IsRow row) → IsRowIn o
row-in None h = tt
row-in (Some row) h = h row refl

behind-row : (P : ProgramParts) (i : ℕ) → IsProgram P → i < length P.code → (o : Option Row) → IsRowIn o → (q : Option Instr) → instr_of P.code i ≡ q → IsRowIn (row_behind P i o q)
behind-row P i good within None h q e = tt
behind-row P i good within (Some row) h None e = tt
behind-row P i good within (Some row) h (Some instr) e =
    let fits = instr-fits P.code i instr e in
    (successors-rows (length P.locks) (address_at i) row instr (let a = good.locks in omega arith) (let b = good.code in omega arith) fits.0 fits.1 h).next

pub filled-in : (P : ProgramParts) (d : TaskDecl) (L : List Bool) (t : Table) (i : ℕ) → IsProgram P → IsTable P d t → i < length P.code → IsRowIn (filled_row P L t i)
filled-in P d L t zero good shape within = row-in (row_at t zero) (shape.rows zero)
filled-in P d L t (suc i) good shape within =
    cond_both (is_leader L (suc i)) (row_at t (suc i)) (row_behind P i (filled_row P L t i) (instr_of P.code i)) IsRowIn
    (λ e. row-in (row_at t (suc i)) (shape.rows (suc i)))
    (λ e. behind-row P i good (omega arith) (filled_row P L t i) (filled-in P d L t i good shape (omega arith)) (instr_of P.code i) refl)

-- ---- closed tables

-- what a word gives is covered by each closed table above it
pub gives-below : (P : ProgramParts) (d : TaskDecl) (all : Table) (i : ℕ) (row : Row) (instr : Instr) → HasRegisters instr → IsEncodable instr → IsRow row → IsClosed P d all
    → IsUnder (Some row) (row_at all i) → instr_of P.code i ≡ Some instr → IsPassedOn all (address_at i) instr (successors (length P.locks) (address_at i) row instr)
gives-below P d all i row instr regs fits is closed under there = by_row (row_at all i) refl under
  where
    by_row : (o : Option Row) → row_at all i ≡ o → IsUnder (Some row) o → IsPassedOn all (address_at i) instr (successors (length P.locks) (address_at i) row instr)
    by_row None e h = absurd h
    by_row (Some wide) e h =
        let passed = closed.passes i wide instr e there in
        let less = successors-under (length P.locks) (address_at i) row wide instr regs fits is (closed.shape.rows i wide e) h in
        let s : Successors = successors (length P.locks) (address_at i) row instr in
        let w : Successors = successors (length P.locks) (address_at i) wide instr in
        record {
          next = λ k within at'. under-trans s.next w.next (row_at all k) less.next (passed.next k within at');
          target = λ address aims k within at'. under-trans s.target w.target (row_at all k) less.target (passed.target address aims k within at');
        }

behind-below : (P : ProgramParts) (d : TaskDecl) (all : Table) (i : ℕ) → IsClosed P d all → suc i < length P.code → (o : Option Row) → IsRowIn o → IsUnder o (row_at all i)
    → (q : Option Instr) → instr_of P.code i ≡ q → IsUnder (row_behind P i o q) (row_at all (suc i))
behind-below P d all i closed within None h under q e = tt
behind-below P d all i closed within (Some row) h under None e = tt
behind-below P d all i closed within (Some row) h under (Some instr) e =
    let fits = instr-fits P.code i instr e in
    let words = closed.shape.words in
    (gives-below P d all i row instr fits.0 fits.1 h closed under e).next (suc i) (omega arith) (omega arith)

-- a table of leaders below a closed table fills up to one below it
pub filled-below : (P : ProgramParts) (d : TaskDecl) (L : List Bool) (t all : Table) (i : ℕ) → IsProgram P → IsTable P d t → IsClosed P d all → IsTableUnder t all → i < length P.code
    → IsUnder (filled_row P L t i) (row_at all i)
filled-below P d L t all zero good shape closed under within = under zero
filled-below P d L t all (suc i) good shape closed under within =
    cond_both (is_leader L (suc i)) (row_at t (suc i)) (row_behind P i (filled_row P L t i) (instr_of P.code i)) (λ (o : Option Row). IsUnder o (row_at all (suc i)))
    (λ e. under (suc i))
    (λ e. behind-below P d all i closed within (filled_row P L t i) (filled-in P d L t i good shape (omega arith))
    (filled-below P d L t all i good shape closed under (omega arith)) (instr_of P.code i) refl)

-- ---- the table of all words

pub filled-at : (P : ProgramParts) (L : List Bool) (t : Table) (i : ℕ) → i < length P.code → row_at (filled P L t) i ≡ filled_row P L t i
unfolding filled
filled-at P L t i within = get_or-map-range_with_len (filled_row P L t) 0 (length P.code) i i None within (omega arith)

pub filled-length : (P : ProgramParts) (L : List Bool) (t : Table) → length (filled P L t) ≡ length P.code
unfolding filled
filled-length P L t = length-map-range_with_len (filled_row P L t) 0 (length P.code)

pub filled-past : (P : ProgramParts) (L : List Bool) (t : Table) (i : ℕ) → length P.code ≤ i → row_at (filled P L t) i ≡ None
filled-past P L t i past = get_or_past (filled P L t) i None (let l = filled-length P L t in omega arith)

pub filled-within : (P : ProgramParts) (L : List Bool) (t : Table) (i : ℕ) (row : Row) → row_at (filled P L t) i ≡ Some row → i < length P.code
filled-within P L t i row e =
    ⊎_elim (λ (inside : i < length P.code). inside) (λ (past : length P.code ≤ i). absurd (none-some row (sym (filled-past P L t i past) ∙ e))) (cases_lt i (length P.code))
