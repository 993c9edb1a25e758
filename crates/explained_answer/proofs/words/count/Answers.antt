use Rattle.std.proofs.Common.{◌++◌, List, length, take, sym, ap, subst, ◌∙◌, arith}
use Rattle.std.specs.List.{All}
use Rattle.std.proofs.lemmas.List.{take_all}
use Rattle.std.proofs.lemmas.List.Elements.{All-more, All-nil}
use Rattle.text_pieces.specs.Pieces.{newline}
use Rattle.text_pieces.specs.Field.{NoneStands, field}
use Rattle.explained_answer.specs.declared.line.Count.{Count}
use Rattle.explained_answer.specs.Parts.{IsNumber}
use Rattle.explained_answer.specs.AnswerLines.{count_front, all_counts}
use Rattle.explained_answer.proofs.Ends.{each-count, counts-length}
use Rattle.explained_answer.proofs.words.count.Goals as goal

pub loop-of-init : goal.loop-of-init
loop-of-init c = All-nil (λ (k : Count). NoneStands IsNumber (field (count_front k) newline) c.args.bytes.now)

pub loop-of-preserved : goal.loop-of-preserved
loop-of-preserved c =
    All-more (λ (k : Count). NoneStands IsNumber (field (count_front k) newline) c.args.bytes.now) c.all_counts-counts.result c.loop-of.of-index _
    (omega (arith, c.loop-of-test.true, ap length c.all_counts-counts.ensures, counts-length)) c.loop-of.invariant
    (λ n rest st. c.in_default.ensures.none n rest (record { fits = st.fits; parts = st.parts ∙ ap (λ f. field f newline n ++ rest) (sym c.count_front.ensures) }))

pub returns-clause-none : goal.returns-clause-none
returns-clause-none c =
    let P : Count → Type 0 = λ k. NoneStands IsNumber (field (count_front k) newline) c.args.bytes.now in
    let some : All P (take c.loop-of.of-index all_counts) = subst (λ (xs : List Count). All P (take c.loop-of.of-index xs)) c.all_counts-counts.ensures c.loop-of.invariant in
    let all : All P all_counts = subst (λ (xs : List Count). All P xs) (take_all c.loop-of.of-index all_counts (omega (arith, c.loop-of-test.false, counts-length))) some in
    each-count P all
