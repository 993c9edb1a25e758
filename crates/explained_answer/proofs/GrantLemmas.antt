-- The last grant of each lock, and what one more line changes.
use Rattle.std.proofs.Common.{◌≡◌, ℕ, zero, suc, ◌+◌, ◌<◌, Bool, true, false, cond, ◌&&◌, ◌==◌, List, [], ◌∷◌, ◌++◌, length, replicate, take, get_or, find, flat_map, slice_index_or, slice_set, All, Option, Some, None, refl, sym, ap, subst, ◌∙◌, arith}
use Rattle.std.proofs.lemmas.Bool.{eqb-true, eqb-false, ltb-true, false≢true}
use Rattle.std.proofs.lemmas.List.{reverse-append, append-nil, append_assoc, length-map, length-set, get_or-map, map_more, get_or-set_same, get_or-set_other}
use Rattle.std.proofs.lemmas.List.Elements.{All-get_or}
use Rattle.std.proofs.lemmas.Grind.{flat_map-append}
use Rattle.dn_base.specs.declared.ids.Grant.{Grant}
use Rattle.rv_core.specs.declared.ending.TaskEnd.{TaskEnd}
use Rattle.text_places.specs.declared.places.Located.{Located}
use Rattle.explained_answer.specs.declared.line.AnswerLine.{AnswerLine}
use Rattle.explained_answer.specs.declared.line.AnswerLine as line
use Rattle.explained_answer.specs.declared.parsing.ReadLine.{ReadLine}
use Rattle.explained_answer.specs.AnswerLines.{answer_line}
use Rattle.explained_answer.specs.Ended.{named_on}
use Rattle.explained_answer.specs.Holders.{is_of_lock, last_grant, AreLastGrants, grant_on, answer_grants, with_last_grant}
use Rattle.sentences.specs.declared.endings.Standstill.{Standstill}
use Rattle.explained_answer.specs.declared.run_again.AgainRun.{AgainRun}
use Rattle.explained_answer.specs.RunAgain.{standstill_on}
use Rattle.explained_answer.specs.Reasons.{said_of_reason}
use Rattle.explained_answer.specs.Lines.{has_task, has_named_lock, IsLineOf, line_read, lines_in, sentences_behind, explained_line}

-- a grant of another lock is passed over, and one of the lock is its last
pub last-push : (gs : List Grant) (g : Grant) (lock : ℕ) → last_grant (gs ++ g ∷ []) lock ≡ cond (g.lock.0 == lock) (Some g) (last_grant gs lock)
last-push gs g lock = ap (find (is_of_lock lock)) (reverse-append gs (g ∷ []))

-- the place of a lock has its new grant, and the others what they had
set-at : (table : List (Option Grant)) (g : Grant) (lock : ℕ) (b : Bool) → (g.lock.0 == lock) ≡ b → g.lock.0 < length table
    → slice_index_or (slice_set table g.lock.0 (Some g)) lock None ≡ cond b (Some g) (slice_index_or table lock None)
set-at table g lock true e within =
    ap (λ (k : ℕ). slice_index_or (slice_set table g.lock.0 (Some g)) k None) (sym (eqb-true g.lock.0 lock e))
    ∙ get_or-set_same table g.lock.0 (Some g) None within
set-at table g lock false e within = get_or-set_other table g.lock.0 lock (Some g) None (λ same. eqb-false g.lock.0 lock e (sym same))

one-grant : (table : List (Option Grant)) (gs : List Grant) (g : Grant) → g.lock.0 < length table → AreLastGrants gs table
    → AreLastGrants (gs ++ g ∷ []) (slice_set table g.lock.0 (Some g))
one-grant table gs g within so_far = λ lock.
    set-at table g lock (g.lock.0 == lock) refl within
    ∙ ap (λ (o : Option Grant). cond (g.lock.0 == lock) (Some g) o) (so_far lock) ∙ sym (last-push gs g lock)

no-grant : (table : List (Option Grant)) (gs : List Grant) → AreLastGrants gs table → AreLastGrants (gs ++ []) table
no-grant table gs so_far = subst (λ (hs : List Grant). AreLastGrants hs table) (sym (append-nil gs)) so_far

and-second : (a b : Bool) → (a && b) ≡ true → b ≡ true
and-second true b e = e
and-second false b e = absurd (false≢true e)

-- the lock of a line's grant is one of the program
pub has-place : (l : Located) (g : Grant) → IsLineOf l (line.TheVariants.Grant g) → g.lock.0 < length l.program.locks
has-place l g is = ltb-true g.lock.0 (length l.program.locks) (and-second (has_task l g.phase.0 g.core.0) (has_named_lock l g.lock.0) is.of)

-- one more line
pub with_last_grant-is : (l : Located) (table : List (Option Grant)) (gs : List Grant) (x : AnswerLine) → IsLineOf l x → length table ≡ length l.program.locks
    → AreLastGrants gs table → AreLastGrants (gs ++ grant_on x) (with_last_grant table x)
with_last_grant-is l table gs (line.TheVariants.Grant g) is room so_far = let place = has-place l g is in one-grant table gs g (omega (arith, room)) so_far
with_last_grant-is l table gs (line.TheVariants.Outcome o) is room so_far = no-grant table gs so_far
with_last_grant-is l table gs (line.TheVariants.Task t) is room so_far = no-grant table gs so_far
with_last_grant-is l table gs (line.TheVariants.Word w v) is room so_far = no-grant table gs so_far
with_last_grant-is l table gs (line.TheVariants.Count c n) is room so_far = no-grant table gs so_far
with_last_grant-is l table gs (line.TheVariants.Sum v) is room so_far = no-grant table gs so_far
with_last_grant-is l table gs (line.TheVariants.Time t) is room so_far = no-grant table gs so_far
with_last_grant-is l table gs (line.TheVariants.Network t) is room so_far = no-grant table gs so_far
with_last_grant-is l table gs (line.TheVariants.Link k) is room so_far = no-grant table gs so_far
with_last_grant-is l table gs (line.TheVariants.Checked a b c) is room so_far = no-grant table gs so_far
with_last_grant-is l table gs (line.TheVariants.Unbounded a b c) is room so_far = no-grant table gs so_far
with_last_grant-is l table gs (line.TheVariants.Varies w) is room so_far = no-grant table gs so_far
with_last_grant-is l table gs (line.TheVariants.OpenControl a b c) is room so_far = no-grant table gs so_far
with_last_grant-is l table gs (line.TheVariants.OpenHeld a b c) is room so_far = no-grant table gs so_far
with_last_grant-is l table gs (line.TheVariants.OpenStuck a b) is room so_far = no-grant table gs so_far
with_last_grant-is l table gs (line.TheVariants.Fixed f) is room so_far = no-grant table gs so_far

-- what some functions of lines give for one line more
pub flat-more : {X : Type 0} (f : AnswerLine → List X) (read : List ReadLine) (i : ℕ) (r : ReadLine) → i < length read
    → flat_map f (lines_in (take (i + 1) read)) ≡ flat_map f (lines_in (take i read)) ++ f (get_or read i r).line
flat-more f read i r within =
    ap (flat_map f) (map_more line_read read i r within) ∙ flat_map-append f (lines_in (take i read)) ((get_or read i r).line ∷ [])
    ∙ ap (λ ys. flat_map f (lines_in (take i read)) ++ ys) (append-nil (f (get_or read i r).line))

-- no lock has a grant at first
none-at : (n lock : ℕ) → slice_index_or (replicate n None) lock None ≡ last_grant [] lock
none-at zero lock = refl
none-at (suc n) zero = refl
none-at (suc n) (suc lock) = none-at n lock

pub no-grants : (n : ℕ) → AreLastGrants [] (replicate n None)
no-grants n = λ lock. none-at n lock

-- a line that was read is one of the program's answers
pub fits-at : (l : Located) (read : List ReadLine) (i : ℕ) (d : ReadLine) → All (IsLineOf l) (lines_in read) → i < length read → IsLineOf l (get_or read i d).line
fits-at l read i d are within =
    subst (IsLineOf l) (get_or-map line_read read i d d.line within) (All-get_or (IsLineOf l) (lines_in read) i d.line (omega (arith, within, length-map read line_read)) are)

pub length-with_last_grant : (table : List (Option Grant)) (x : AnswerLine) → length (with_last_grant table x) ≡ length table
length-with_last_grant table (line.TheVariants.Grant g) = length-set table g.lock.0 (Some g)
length-with_last_grant table (line.TheVariants.Outcome o) = refl
length-with_last_grant table (line.TheVariants.Task t) = refl
length-with_last_grant table (line.TheVariants.Word w v) = refl
length-with_last_grant table (line.TheVariants.Count c n) = refl
length-with_last_grant table (line.TheVariants.Sum v) = refl
length-with_last_grant table (line.TheVariants.Time t) = refl
length-with_last_grant table (line.TheVariants.Network t) = refl
length-with_last_grant table (line.TheVariants.Link k) = refl
length-with_last_grant table (line.TheVariants.Checked a b c) = refl
length-with_last_grant table (line.TheVariants.Unbounded a b c) = refl
length-with_last_grant table (line.TheVariants.Varies w) = refl
length-with_last_grant table (line.TheVariants.OpenControl a b c) = refl
length-with_last_grant table (line.TheVariants.OpenHeld a b c) = refl
length-with_last_grant table (line.TheVariants.OpenStuck a b) = refl
length-with_last_grant table (line.TheVariants.Fixed f) = refl

-- the table that one more line leaves
pub more-grants : (l : Located) (read : List ReadLine) (table after : List (Option Grant)) (i : ℕ) (d : ReadLine) → All (IsLineOf l) (lines_in read) → i < length read
    → length table ≡ length l.program.locks → AreLastGrants (answer_grants (lines_in (take i read))) table → after ≡ with_last_grant table (get_or read i d).line
    → AreLastGrants (answer_grants (lines_in (take (i + 1) read))) after × (length after ≡ length l.program.locks)
more-grants l read table after i d are within room so_far note =
    let x = (get_or read i d).line in
    let gs = answer_grants (lines_in (take i read)) in
    let more_here : AreLastGrants (gs ++ grant_on x) (with_last_grant table x) = with_last_grant-is l table gs x (fits-at l read i d are within) room so_far in (
      subst (λ (hs : List Grant). AreLastGrants hs after) (sym (flat-more grant_on read i d within)) (subst (AreLastGrants (gs ++ grant_on x)) (sym note) more_here),
      ap length note ∙ length-with_last_grant table x ∙ room,
    )

-- one more line explained, after the bytes `front`
pub more-explained : (text : List ℕ) (l : Located) (read : List ReadLine) (again told : AgainRun) (i : ℕ) (d : ReadLine) (front before after : List ℕ) (still : Standstill) (named : Option TaskEnd)
    → i < length read → told ≡ again → still ≡ standstill_on told (lines_in read) (get_or read i d).line → named ≡ named_on (lines_in read) (get_or read i d).line
    → before ≡ front ++ flat_map (explained_line text l again (lines_in read)) (lines_in (take i read))
    → after ≡ before ++ (answer_line (get_or read i d).line ++ sentences_behind text l still named (get_or read i d).line ++ said_of_reason text l told.why (get_or read i d).line)
    → after ≡ front ++ flat_map (explained_line text l again (lines_in read)) (lines_in (take (i + 1) read))
more-explained text l read again told i d front before after still named within same stands names so_far said =
    let lines = lines_in read in
    let x = (get_or read i d).line in
    let said_before = flat_map (explained_line text l again lines) (lines_in (take i read)) in
    said ∙ ap (λ (r : AgainRun). before ++ (answer_line x ++ sentences_behind text l still named x ++ said_of_reason text l r.why x)) same
    ∙ ap (λ (s : Standstill). before ++ (answer_line x ++ sentences_behind text l s named x ++ said_of_reason text l again.why x)) (stands ∙ ap (λ (r : AgainRun). standstill_on r lines x) same)
    ∙ ap (λ (n : Option TaskEnd). before ++ (answer_line x ++ sentences_behind text l (standstill_on again lines x) n x ++ said_of_reason text l again.why x)) names
    ∙ ap (λ (bs : List ℕ). bs ++ explained_line text l again lines x) so_far ∙ append_assoc front said_before (explained_line text l again lines x)
    ∙ ap (λ (bs : List ℕ). front ++ bs) (sym (flat-more (explained_line text l again lines) read i d within))
