use Rattle.std.proofs.Common.{◌++◌, List, length, take, sym, ap, subst, ◌∙◌, arith}
use Rattle.std.specs.List.{All}
use Rattle.std.proofs.lemmas.List.{take_all}
use Rattle.std.proofs.lemmas.List.Elements.{All-more, All-nil}
use Rattle.text_pieces.specs.Pieces.{newline}
use Rattle.message_net.specs.declared.event.EventKind.{EventKind}
use Rattle.text_pieces.specs.Field.{NoneStands, field}
use Rattle.run_report.specs.Run.{all_kinds}
use Rattle.explained_answer.specs.Parts.{IsTicks}
use Rattle.explained_answer.specs.AnswerLines.{kind_front}
use Rattle.explained_answer.proofs.Ends.{each-kind, kinds-length}
use Rattle.explained_answer.proofs.timing.finish.Goals as goal

pub loop-kind-init : goal.loop-kind-init
loop-kind-init c = All-nil (λ (k : EventKind). NoneStands IsTicks (field (kind_front k) newline) c.args.bytes.now)

pub loop-kind-preserved : goal.loop-kind-preserved
loop-kind-preserved c =
    All-more (λ (k : EventKind). NoneStands IsTicks (field (kind_front k) newline) c.args.bytes.now) c.all_kinds-kinds.result c.loop-kind.kind-index _
    (omega (arith, c.loop-kind-test.true, ap length c.all_kinds-kinds.ensures, kinds-length)) c.loop-kind.invariant
    (λ n rest st. c.in_default.ensures.none n rest (record { fits = st.fits; parts = st.parts ∙ ap (λ f. field f newline n ++ rest) (sym c.kind_front.ensures) }))

pub returns-clause-none : goal.returns-clause-none
returns-clause-none c =
    let P : EventKind → Type 0 = λ k. NoneStands IsTicks (field (kind_front k) newline) c.args.bytes.now in
    let some : All P (take c.loop-kind.kind-index all_kinds) = subst (λ (xs : List EventKind). All P (take c.loop-kind.kind-index xs)) c.all_kinds-kinds.ensures c.loop-kind.invariant in
    let all : All P all_kinds = subst (λ (xs : List EventKind). All P xs) (take_all c.loop-kind.kind-index all_kinds (omega (arith, c.loop-kind-test.false, kinds-length))) some in
    each-kind P all
