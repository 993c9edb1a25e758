use Rattle.std.proofs.Common.{◌++◌, List, length, take, sym, ap, subst, ◌∙◌, arith}
use Rattle.std.specs.List.{All}
use Rattle.std.proofs.lemmas.List.{take_all}
use Rattle.std.proofs.lemmas.List.Elements.{All-more, All-nil}
use Rattle.rv_core.specs.declared.task.TrapKind.{TrapKind}
use Rattle.text_pieces.specs.Field.{NoneStands}
use Rattle.explained_answer.specs.AnswerLines.{HasTrapNumbers, trap_front, trap_rest, all_traps}
use Rattle.explained_answer.proofs.Ends.{each-trap, traps-length}
use Rattle.explained_answer.proofs.tasks.trap.Goals as goal

pub loop-kind-init : goal.loop-kind-init
loop-kind-init c = All-nil (λ (k : TrapKind). NoneStands HasTrapNumbers (trap_rest (trap_front k)) c.args.bytes.now)

pub loop-kind-preserved : goal.loop-kind-preserved
loop-kind-preserved c =
    All-more (λ (k : TrapKind). NoneStands HasTrapNumbers (trap_rest (trap_front k)) c.args.bytes.now) c.trap_kinds-kinds.result c.loop-kind.kind-index _
    (omega (arith, c.loop-kind-test.true, ap length c.trap_kinds-kinds.ensures, traps-length)) c.loop-kind.invariant
    (λ t rest st. c.in_default.ensures.none t rest (record { fits = st.fits; parts = st.parts ∙ ap (λ f. trap_rest f t ++ rest) (sym c.trap_front.ensures) }))

pub returns-clause-none : goal.returns-clause-none
returns-clause-none c =
    let P : TrapKind → Type 0 = λ k. NoneStands HasTrapNumbers (trap_rest (trap_front k)) c.args.bytes.now in
    let some : All P (take c.loop-kind.kind-index all_traps) = subst (λ (xs : List TrapKind). All P (take c.loop-kind.kind-index xs)) c.trap_kinds-kinds.ensures c.loop-kind.invariant in
    let all : All P all_traps = subst (λ (xs : List TrapKind). All P xs) (take_all c.loop-kind.kind-index all_traps (omega (arith, c.loop-kind-test.false, traps-length))) some in
    each-trap P all
