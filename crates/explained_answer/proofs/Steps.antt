-- One line more of an answer.
use Rattle.std.proofs.Common.{◌≡◌, ℕ, ◌+◌, ◌*◌, ◌-◌, ◌<◌, ◌≤◌, List, [], ◌∷◌, ◌++◌, length, take, flat_map, codes, Result, Ok, Err, IfOk, All, refl, sym, ap, subst, ◌∙◌, arith, length-append, append_assoc}
use Rattle.std.proofs.lemmas.List.Elements.{All-nil, All-push}
use Rattle.std.proofs.lemmas.Grind.{flat_map-append}
use Rattle.std.proofs.lemmas.List.{append-nil, length-map, map-append}
use Rattle.std.proofs.Math.Seq.{take-append_seam}
use Rattle.text_places.specs.declared.places.Located.{Located}
use Rattle.text_pieces.specs.Field.{field, Stands}
use Rattle.text_pieces.specs.Pieces.{newline, space, hexadecimal}
use Rattle.std.specs.Fmt.{decimal}
use Rattle.run_report.specs.Answer.{outcome_word, outcome_line, end_text, task_line, words_line}
use Rattle.run_report.specs.Grants.{grant_line}
use Rattle.run_report.specs.Run.{event_word, counted_line}
use Rattle.explained_answer.specs.declared.line.AnswerLine as line
use Rattle.explained_answer.specs.declared.line.AnswerLine.{AnswerLine}
use Rattle.explained_answer.specs.declared.line.Count as count
use Rattle.run_report.specs.Summary.{count_line}
use Rattle.run_report.specs.Refusal.{refusal_of}
use Rattle.explained_answer.specs.declared.line.FixedLine as fixed
use Rattle.explained_answer.specs.Parts.{pair_fields, three_line}
use Rattle.explained_answer.specs.AnswerLines.{IsAnswerLine, answer_line, address_line, link_line, sum_line, place_line, varies_line}
use Rattle.explained_answer.proofs.Forms.{word-is}
use Rattle.explained_answer.specs.declared.parsing.ReadLine.{ReadLine}
use Rattle.explained_answer.specs.Lines.{IsLineOf, NoLineOf, IsRefusedAt, line_read, lines_in, IsWritten, AreLinesRead, lines_and_sentences, AreAllLinesExplained}

-- what stands in front of a rest is as long as the rest leaves it
pub front_of : (xs front rest : List ℕ) → xs ≡ front ++ rest → take (length xs - length rest) xs ≡ front
front_of xs front rest is =
    let size : length xs - length rest ≡ length front = omega (arith, ap length is, length-append front rest) in
    ap (λ k. take k xs) size ∙ ap (take (length front)) is ∙ take-append_seam front rest

pub no_longer : (xs front rest : List ℕ) → xs ≡ front ++ rest → length rest ≤ length xs
no_longer xs front rest is = omega (arith, ap length is, length-append front rest)

-- a line has a byte
behind-line : (xs : List ℕ) → 0 < length (xs ++ newline)
behind-line xs = omega (arith, length-append xs newline)

word-some : (a v : ℕ) → 0 < length (address_line a v)
unfolding address_line
word-some a v = behind-line (codes "word " ++ hexadecimal a ++ space ++ hexadecimal v)

pub line-some : (x : AnswerLine) → IsAnswerLine x → 0 < length (answer_line x)
unfolding outcome_line task_line words_line counted_line count_line grant_line sum_line link_line three_line place_line varies_line pair_fields field refusal_of
line-some (line.TheVariants.Outcome o) fits = behind-line (codes "outcome " ++ outcome_word o)
line-some (line.TheVariants.Task t) fits =
    behind-line (codes "task " ++ decimal t.phase.0 ++ space ++ decimal t.core.0 ++ space ++ end_text t.end ++ codes " retired " ++ decimal t.retired)
line-some (line.TheVariants.Word w v) fits = rw (word-is w v fits.some) (word-some (268435456 + 4 * w) v)
line-some (line.TheVariants.Grant g) fits = behind-line (codes "grant " ++ decimal g.phase.0 ++ space ++ decimal g.core.0 ++ space ++ decimal g.lock.0)
line-some (line.TheVariants.Count count.TheVariants.Words n) fits = behind-line (codes "words " ++ decimal n)
line-some (line.TheVariants.Count count.TheVariants.Events n) fits = behind-line (codes "count " ++ codes "events" ++ space ++ decimal n)
line-some (line.TheVariants.Count (count.TheVariants.Kind k) n) fits = behind-line (codes "count " ++ event_word k ++ space ++ decimal n)
line-some (line.TheVariants.Count count.TheVariants.Tasks n) fits = behind-line (codes "tasks " ++ decimal n)
line-some (line.TheVariants.Count count.TheVariants.Retired n) fits = behind-line (codes "retired " ++ decimal n)
line-some (line.TheVariants.Count count.TheVariants.Links n) fits = behind-line (codes "chain " ++ decimal n)
line-some (line.TheVariants.Count count.TheVariants.WholeEvents n) fits = behind-line (codes "refused trace event " ++ decimal n)
line-some (line.TheVariants.Count count.TheVariants.EnabledEvents n) fits = behind-line (codes "refused trace not-enabled " ++ decimal n)
line-some (line.TheVariants.Sum v) fits = behind-line (codes "sum " ++ hexadecimal v)
line-some (line.TheVariants.Time t) fits = behind-line (codes "time " ++ decimal t)
line-some (line.TheVariants.Network t) fits = behind-line (codes "network " ++ decimal t)
line-some (line.TheVariants.Link l) fits = behind-line (codes "link " ++ decimal l.event ++ space ++ event_word l.kind ++ space ++ decimal l.finish)
line-some (line.TheVariants.Checked a b c) fits = behind-line (codes "checked " ++ decimal a ++ space ++ decimal b ++ space ++ decimal c)
line-some (line.TheVariants.Unbounded p c a) fits = behind-line (codes "unbounded " ++ decimal p ++ space ++ decimal c ++ space ++ hexadecimal a)
line-some (line.TheVariants.Varies w) fits = behind-line (codes "varies " ++ hexadecimal (268435456 + 4 * w))
line-some (line.TheVariants.OpenControl p c a) fits = behind-line (codes "open control " ++ decimal p ++ space ++ decimal c ++ space ++ hexadecimal a)
line-some (line.TheVariants.OpenHeld a b c) fits = behind-line (codes "open held " ++ decimal a ++ space ++ decimal b ++ space ++ decimal c)
line-some (line.TheVariants.OpenStuck a b) fits = omega arith
line-some (line.TheVariants.Fixed fixed.TheVariants.Inside) fits = behind-line (codes "proved inside")
line-some (line.TheVariants.Fixed fixed.TheVariants.Usage) fits = behind-line (codes "refused usage")
line-some (line.TheVariants.Fixed fixed.TheVariants.TooLarge) fits = behind-line (codes "refused trace too-large")
line-some (line.TheVariants.Fixed fixed.TheVariants.Head) fits = behind-line (codes "refused trace head")
line-some (line.TheVariants.Fixed fixed.TheVariants.Rest) fits = behind-line (codes "refused trace rest")
line-some (line.TheVariants.Fixed fixed.TheVariants.Incomplete) fits = behind-line (codes "refused trace incomplete")

-- no line so far
pub none-yet : (l : Located) (bytes : List ℕ) → AreLinesRead l bytes [] bytes
none-yet l bytes = record { before = record { are = All-nil (IsLineOf l); parts = refl }; written = All-nil IsWritten }

one-line : {X : Type 0} (f : X → List ℕ) (xs : List X) (x : X) → flat_map f (xs ++ x ∷ []) ≡ flat_map f xs ++ f x
one-line f xs x = flat_map-append f xs (x ∷ []) ∙ ap (λ ys. flat_map f xs ++ ys) (append-nil (f x))

lines-push : (read : List ReadLine) (r : ReadLine) → lines_in (read ++ r ∷ []) ≡ lines_in read ++ r.line ∷ []
lines-push read r = map-append line_read read (r ∷ [])

-- one more line
pub one-more : (l : Located) (bytes rest behind : List ℕ) (read : List ReadLine) (r : ReadLine)
    → AreLinesRead l bytes read rest → Stands (IsLineOf l) answer_line rest r.line behind → IsWritten r → AreLinesRead l bytes (read ++ r ∷ []) behind
one-more l bytes rest behind read r so_far more writes =
    let xs = lines_in read in
    let are : All (IsLineOf l) (xs ++ r.line ∷ []) = All-push (IsLineOf l) xs r.line so_far.before.are more.fits in
    let parts : bytes ≡ flat_map answer_line (xs ++ r.line ∷ []) ++ behind =
    so_far.before.parts ∙ ap (λ bs. flat_map answer_line xs ++ bs) more.parts ∙ sym (append_assoc (flat_map answer_line xs) (answer_line r.line) behind)
    ∙ ap (λ bs. bs ++ behind) (sym (one-line answer_line xs r.line)) in
    record {
      before =
          record {
            are = subst (All (IsLineOf l)) (sym (lines-push read r)) are;
            parts = parts ∙ ap (λ ls. flat_map answer_line ls ++ behind) (sym (lines-push read r));
          };
      written = All-push IsWritten read r so_far.written writes;
    }

-- all lines were read, and then explained
pub all-explained : (text : List ℕ) (l : Located) (bytes : List ℕ) (read : List ReadLine) (out : List ℕ)
    → AreLinesRead l bytes read [] → out ≡ lines_and_sentences text l (lines_in read) → AreAllLinesExplained text l bytes out
all-explained text l bytes read out all said = record { lines = lines_in read; all = all.before; said = said }

-- some bytes are left, and none of them begin a line
pub refused : (l : Located) (bytes rest : List ℕ) (read : List ReadLine) (number : ℕ)
    → AreLinesRead l bytes read rest → number ≡ length read + 1 → 0 < length rest → NoLineOf l rest → IsRefusedAt l bytes number
refused l bytes rest read number so_far is some none =
    record {
      lines = lines_in read;
      rest = rest;
      before = so_far.before;
      next = omega (arith, is, length-map read line_read);
      some = some;
      none = none;
    }

pub shorter : (l : Located) (rest : List ℕ) (x : AnswerLine) (behind : List ℕ) → Stands (IsLineOf l) answer_line rest x behind → length behind + 1 ≤ length rest
shorter l rest x behind more = omega (arith, line-some x more.fits.fits, ap length more.parts, length-append (answer_line x) behind)

-- ---- results

pub if-ok : {X E : Type 0} (r : Result X E) (P Q : X → Type 0) → ((x : X) → P x → Q x) → IfOk r P → IfOk r Q
if-ok (Ok x) P Q more h = more x h
if-ok (Err e) P Q more h = tt
