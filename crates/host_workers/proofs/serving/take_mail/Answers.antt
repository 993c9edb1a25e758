use Rattle.std.proofs.Common.{refl, sym, subst, ◌∙◌}
use Rattle.registration_protocol.specs.Setting.{setting}
use Rattle.host_workers.specs.Crews.{held_of}
use Rattle.host_workers.specs.Work.{IsMoved, HasDonePartly}
use Rattle.host_workers.proofs.Turning.{took-none, took-some, took-partly, moves-none}
use Rattle.host_workers.proofs.Stamping.{takes-early}
use Rattle.host_workers.proofs.Calls.{at-exit}
use Rattle.host_workers.proofs.serving.take_mail.Goals as goal

pub handle-sent-requires-clause-early : goal.handle-sent-requires-clause-early
handle-sent-requires-clause-early g c =
    let call = rw c.in-Some.is at c.in_ok-posted.ensures.call in
    takes-early call.call.there c.args.pick c.in-Some.posted call.call.answered

pub returns-in_default-clause-taken : goal.returns-in_default-clause-taken
returns-in_default-clause-taken g c =
    let made = rw c.in_default.is at c.in_ok-posted.ensures.made in
    took-none (setting c.args.context.now) c.args.owned.now.core c.args.pick c.args.pass.now c.take.new.pass (held_of c.args.owned.now) made c.in_ok-posted.ensures.pass.1

pub returns-clause-pass : goal.returns-clause-pass
returns-clause-pass g c = (c.emit.ensures.pass.0, c.emit.ensures.pass.1 ∙ c.take.ensures.pass.1)

pub returns-in_err-emit-clause-pass : goal.returns-in_err-emit-clause-pass
returns-in_err-emit-clause-pass g c = (c.emit.ensures.pass.0, c.emit.ensures.pass.1 ∙ c.take.ensures.pass.1)

pub returns-clause-taken : goal.returns-clause-taken
returns-clause-taken g c =
    let made = rw c.in-Some.is at c.in_ok-posted.ensures.made in
    took-some (setting c.args.context.now) c.args.owned.now.core c.args.pick c.args.pass.now c.take.new.pass c.emit.new.pass (held_of c.args.owned.now) (held_of c.handle-sent.new.self) c.in-Some.posted c.handle-sent.result
    made c.in_ok-posted.ensures.pass.1 c.handle-sent.ensures.moved c.handle-sent.ensures.sent c.in_ok-emit.ensures.made

pub returns-in_err-posted-clause-part : goal.returns-in_err-posted-clause-part
returns-in_err-posted-clause-part g c =
    let C = setting c.args.context.now in
    at-exit _ (subst (λ q. HasDonePartly (IsMoved C) C c.args.pass.now q c.args.owned.now c.args.owned.now) (sym c.in_err-posted.ensures.same) (moves-none C c.args.owned.now c.args.owned.now c.args.pass.now refl refl c.requires.owned.fits))

pub returns-in_err-emit-clause-part : goal.returns-in_err-emit-clause-part
returns-in_err-emit-clause-part g c =
    let C = setting c.args.context.now in
    let made = rw c.in-Some.is at c.in_ok-posted.ensures.made in
    at-exit _ (subst (λ q. HasDonePartly (IsMoved C) C c.args.pass.now q c.args.owned.now c.handle-sent.new.self) (sym c.in_err-emit.ensures.same)
    (took-partly C c.args.owned.now c.handle-sent.new.self c.args.pick c.args.pass.now c.take.new.pass c.in-Some.posted made c.in_ok-posted.ensures.pass.1 c.handle-sent.ensures.core c.handle-sent.ensures.fits c.handle-sent.ensures.moved))
