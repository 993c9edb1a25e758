use Rattle.std.proofs.Common.{IfSome, sym, refl, ◌∙◌, subst, arith}
use Rattle.std.specs.Option.{option_to_list}
use Rattle.bank_hall.specs.Halls.{HasMadeCalls, pass_number}
use Rattle.host_workers.specs.Acts.{postings, keeper_done}
use Rattle.host_workers.specs.Deeds.{IsEarly}
use Rattle.host_workers.specs.Work.{HasBegunPosts}
use Rattle.host_workers.proofs.Calls.{at-exit, made-none, letters-more, letters-begun}
use Rattle.host_workers.proofs.Stamping.{letter-early}
use Rattle.host_workers.proofs.emitting.emit_letters.Goals as goal

pub loop-core-init : goal.loop-core-init
loop-core-init g c = record { pass = (c.requires.pass, refl); made = made-none c.args.pass.now }

pub loop-core-preserved : goal.loop-core-preserved
loop-core-preserved g c =
    let had = c.loop-core.invariant in record {
      pass = (c.in_ok-emit.ensures.pass.0, c.in_ok-emit.ensures.pass.1 ∙ had.pass.1);
      made = letters-more c.args.pass.now c.loop-core.pass c.emit.new.pass c.args.shape c.args.handled.now c.loop-core.core had.made had.pass.1 (subst (λ o. HasMadeCalls c.loop-core.pass c.emit.new.pass (postings c.args.shape (pass_number c.loop-core.pass) (option_to_list o))) c.letter.ensures c.in_ok-emit.ensures.made);
    }

pub emit-requires-clause-early : goal.emit-requires-clause-early
emit-requires-clause-early g c = subst (λ o. IfSome o IsEarly) (sym c.letter.ensures) (letter-early c.args.handled.now c.loop-core.core c.requires.early)

pub returns-in_err-emit-clause-pass : goal.returns-in_err-emit-clause-pass
returns-in_err-emit-clause-pass g c = (c.emit.ensures.pass.0, c.emit.ensures.pass.1 ∙ c.loop-core.invariant.pass.1)

pub returns-in_err-emit-clause-begun : goal.returns-in_err-emit-clause-begun
returns-in_err-emit-clause-begun g c =
    at-exit _ (subst (λ q. HasBegunPosts c.args.shape c.args.pass.now q (keeper_done c.args.shape.cores c.args.handled.now).sent) (sym c.in_err-emit.ensures.same)
    (letters-begun c.args.pass.now c.loop-core.pass c.args.shape c.args.handled.now c.loop-core.core c.args.shape.cores (omega arith) c.loop-core.invariant.made))
