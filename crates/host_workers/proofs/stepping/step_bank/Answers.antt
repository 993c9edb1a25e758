use Rattle.std.proofs.Common.{List, ◌∷◌, [], ◌++◌, refl, sym, ap, ◌∙◌, subst}
use Rattle.grant_log.specs.declared.log.Stamped.{Stamped}
use Rattle.registration_protocol.specs.Setting.{setting}
use Rattle.host_workers.specs.Work.{IsNotedBank, HasDonePartly}
use Rattle.host_workers.proofs.Turning.{steps, steps-not, steps-partly, notes-none}
use Rattle.host_workers.proofs.Stamping.{reply-early}
use Rattle.host_workers.proofs.Calls.{at-exit}
use Rattle.host_workers.proofs.stepping.step_bank.Goals as goal

pub returns-in_default-clause-stepped : goal.returns-in_default-clause-stepped
returns-in_default-clause-stepped g c =
    let made = rw c.in_default.is at c.in_ok-handled.ensures.made in
    steps-not (setting c.args.context.now) c.args.owned.now _ c.args.pick c.args.pass.now c.bank_step.new.pass refl c.reserve.ensures.items made c.in_ok-handled.ensures.pass.1

pub emit-requires-clause-early : goal.emit-requires-clause-early
emit-requires-clause-early g c =
    let call = rw c.in-Some.is at c.in_ok-handled.ensures.call in
    reply-early call.call.there c.args.pick c.in-Some.handled call.call.answered

pub returns-clause-pass : goal.returns-clause-pass
returns-clause-pass g c = (c.emit.ensures.pass.0, c.emit.ensures.pass.1 ∙ c.bank_step.ensures.pass.1)

pub returns-in_err-emit-clause-pass : goal.returns-in_err-emit-clause-pass
returns-in_err-emit-clause-pass g c = (c.emit.ensures.pass.0, c.emit.ensures.pass.1 ∙ c.bank_step.ensures.pass.1)

pub returns-clause-stepped : goal.returns-clause-stepped
returns-clause-stepped g c =
    let made = rw c.in-Some.is at c.in_ok-handled.ensures.made in
    steps (setting c.args.context.now) c.args.owned.now _ c.args.pick c.args.pass.now c.bank_step.new.pass c.emit.new.pass c.in-Some.handled refl
    (c.push_reserved.ensures.items ∙ ap (λ (l : List Stamped). l ++ c.in-Some.handled.stamped ∷ []) c.reserve.ensures.items) made c.in_ok-handled.ensures.pass.1 c.in_ok-emit.ensures.made

pub returns-in_err-reserve-clause-part : goal.returns-in_err-reserve-clause-part
returns-in_err-reserve-clause-part g c =
    at-exit _ (notes-none (setting c.args.context.now) c.args.owned.now _ c.args.pass.now refl c.reserve.ensures.items)

pub returns-in_err-handled-clause-part : goal.returns-in_err-handled-clause-part
returns-in_err-handled-clause-part g c =
    let C = setting c.args.context.now in
    at-exit _ (subst (λ q. HasDonePartly (IsNotedBank C) C c.args.pass.now q c.args.owned.now (record c.args.owned.now { log = c.reserve.new.self })) (sym c.in_err-handled.ensures.same) (notes-none C c.args.owned.now _ c.args.pass.now refl c.reserve.ensures.items))

pub returns-in_err-emit-clause-part : goal.returns-in_err-emit-clause-part
returns-in_err-emit-clause-part g c =
    let C = setting c.args.context.now in
    let made = rw c.in-Some.is at c.in_ok-handled.ensures.made in
    at-exit _ (subst (λ q. HasDonePartly (IsNotedBank C) C c.args.pass.now q c.args.owned.now (record c.args.owned.now { log = c.push_reserved.new.self })) (sym c.in_err-emit.ensures.same)
    (steps-partly C c.args.owned.now _ c.args.pick c.args.pass.now c.bank_step.new.pass c.in-Some.handled refl
    (c.push_reserved.ensures.items ∙ ap (λ (l : List Stamped). l ++ c.in-Some.handled.stamped ∷ []) c.reserve.ensures.items) made c.in_ok-handled.ensures.pass.1))
