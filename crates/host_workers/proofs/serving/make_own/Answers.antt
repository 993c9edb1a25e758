use Rattle.std.proofs.Common.{sym, ◌∙◌, subst}
use Rattle.registration_protocol.specs.Setting.{setting}
use Rattle.host_workers.specs.Crews.{held_of}
use Rattle.host_workers.specs.Work.{IsMoved, HasDonePartly}
use Rattle.host_workers.proofs.Turning.{own-spent, own-still, own-some, made-partly}
use Rattle.host_workers.proofs.Calls.{at-exit}
use Rattle.host_workers.proofs.serving.make_own.Goals as goal

pub returns-then-not-has_numbers_left-clause-made : goal.returns-then-not-has_numbers_left-clause-made
returns-then-not-has_numbers_left-clause-made g c =
    own-spent (setting c.args.context.now) c.args.owned.now.core c.args.pass.now (held_of c.args.owned.now) (sym c.has_numbers_left.ensures ∙ c.if-not-has_numbers_left.true)

pub returns-in_default-clause-made : goal.returns-in_default-clause-made
returns-in_default-clause-made g c =
    own-still (setting c.args.context.now) c.args.owned.now.core c.args.pass.now (held_of c.args.owned.now) (sym c.own.ensures.event ∙ c.in_default.is)

pub returns-clause-made : goal.returns-clause-made
returns-clause-made g c =
    own-some (setting c.args.context.now) c.args.owned.now.core c.args.pass.now c.emit.new.pass (held_of c.args.owned.now) (held_of c.make-sent.new.self) c.in-Some.event c.make-sent.result
    (sym c.has_numbers_left.ensures ∙ c.if-not-has_numbers_left.false) (sym c.own.ensures.event ∙ c.in-Some.is) c.make-sent.ensures.moved c.make-sent.ensures.sent c.in_ok-emit.ensures.made

pub returns-in_err-emit-clause-part : goal.returns-in_err-emit-clause-part
returns-in_err-emit-clause-part g c =
    let C = setting c.args.context.now in
    at-exit _ (subst (λ q. HasDonePartly (IsMoved C) C c.args.pass.now q c.args.owned.now c.make-sent.new.self) (sym c.in_err-emit.ensures.same)
    (made-partly C c.args.owned.now c.make-sent.new.self c.args.pass.now c.in-Some.event c.make-sent.ensures.core c.make-sent.ensures.fits c.make-sent.ensures.moved))
