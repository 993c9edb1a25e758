use Rattle.std.proofs.Common.{List, ◌∷◌, [], ◌++◌, sym, ap, ◌∙◌, subst, arith}
use Rattle.grant_log.specs.declared.log.Stamped.{Stamped}
use Rattle.region_table.specs.Program.{IsProgram}
use Rattle.registration_protocol.specs.Setting.{setting}
use Rattle.bank_hall.specs.Note.{KeeperNote}
use Rattle.host_workers.proofs.Cores.{few-cores}
use Rattle.host_workers.specs.Work.{IsNotedKeeper, HasDonePartly}
use Rattle.host_workers.proofs.Turning.{keeps, keeps-not, keeps-partly, keeps-none}
use Rattle.host_workers.proofs.Stamping.{note-early}
use Rattle.host_workers.proofs.Calls.{at-exit}
use Rattle.host_workers.proofs.stepping.step_keeper.Goals as goal

pub returns-in_default-clause-stepped : goal.returns-in_default-clause-stepped
returns-in_default-clause-stepped g c =
    let made = rw c.in_default.is at c.in_ok-handled.ensures.made in
    keeps-not (setting c.args.context.now) c.args.log.now.items c.reserve.new.self.items c.args.pick c.args.pass.now c.keeper_step.new.pass c.reserve.ensures.items made c.in_ok-handled.ensures.pass.1

pub emit_letters-requires-clause-cores : goal.emit_letters-requires-clause-cores
emit_letters-requires-clause-cores g c =
    let most = few-cores (setting c.args.context.now).program (subst IsProgram c.program.ensures c.a_program_is_well_formed.ensures) in
    omega (arith, most, c.requires.may.context.cores)

pub emit_letters-requires-clause-early : goal.emit_letters-requires-clause-early
emit_letters-requires-clause-early g c =
    let call = rw c.in-Some.is at c.in_ok-handled.ensures.call in
    note-early call.call.there c.args.pick c.in-Some.handled call.call.answered

pub returns-clause-pass : goal.returns-clause-pass
returns-clause-pass g c = (c.emit_letters.ensures.pass.0, c.emit_letters.ensures.pass.1 ∙ c.keeper_step.ensures.pass.1)

pub returns-in_err-emit_letters-clause-pass : goal.returns-in_err-emit_letters-clause-pass
returns-in_err-emit_letters-clause-pass g c = (c.emit_letters.ensures.pass.0, c.emit_letters.ensures.pass.1 ∙ c.keeper_step.ensures.pass.1)

pub returns-clause-stepped : goal.returns-clause-stepped
returns-clause-stepped g c =
    let made = rw c.in-Some.is at c.in_ok-handled.ensures.made in
    keeps (setting c.args.context.now) c.args.log.now.items c.push_reserved.new.self.items c.args.pick c.args.pass.now c.keeper_step.new.pass c.emit_letters.new.pass c.in-Some.handled
    (c.push_reserved.ensures.items ∙ (ap (λ (n : KeeperNote). c.reserve.new.self.items ++ n.stamped ∷ []) c.handled.view_is ∙ ap (λ (l : List Stamped). l ++ c.in-Some.handled.stamped ∷ []) c.reserve.ensures.items)) made c.in_ok-handled.ensures.pass.1 c.in_ok-emit_letters.ensures.made

pub returns-in_err-reserve-clause-part : goal.returns-in_err-reserve-clause-part
returns-in_err-reserve-clause-part g c =
    at-exit _ (keeps-none (setting c.args.context.now) c.args.log.now.items c.reserve.new.self.items c.args.pass.now c.reserve.ensures.items)

pub returns-in_err-handled-clause-part : goal.returns-in_err-handled-clause-part
returns-in_err-handled-clause-part g c =
    let C = setting c.args.context.now in
    at-exit _ (subst (λ q. HasDonePartly (IsNotedKeeper C) C c.args.pass.now q c.args.log.now.items c.reserve.new.self.items) (sym c.in_err-handled.ensures.same) (keeps-none C c.args.log.now.items c.reserve.new.self.items c.args.pass.now c.reserve.ensures.items))

pub returns-in_err-emit_letters-clause-part : goal.returns-in_err-emit_letters-clause-part
returns-in_err-emit_letters-clause-part g c =
    let made = rw c.in-Some.is at c.in_ok-handled.ensures.made in
    at-exit _ (keeps-partly (setting c.args.context.now) c.args.log.now.items c.push_reserved.new.self.items c.args.pick c.args.pass.now c.keeper_step.new.pass c.emit_letters.new.pass c.in-Some.handled
    (c.push_reserved.ensures.items ∙ (ap (λ (n : KeeperNote). c.reserve.new.self.items ++ n.stamped ∷ []) c.handled.view_is ∙ ap (λ (l : List Stamped). l ++ c.in-Some.handled.stamped ∷ []) c.reserve.ensures.items)) made c.in_ok-handled.ensures.pass.1 c.in_err-emit_letters.ensures.begun)
