use Rattle.std.proofs.Common.{◌<◌, sym, ap, ◌∙◌, subst}
use Rattle.registration_protocol.specs.Setting.{setting}
use Rattle.dn_base.specs.declared.ids.CoreId.{CoreId}
use Rattle.registration_protocol.specs.Fit.{Fits}
use Rattle.grant_log.specs.Stamps.{has_numbers_left}
use Rattle.host_workers.specs.Passes.{Held}
use Rattle.host_workers.specs.Crews.{held_of}
use Rattle.host_workers.specs.Work.{HasTaken, HasMadeOwn}
use Rattle.host_workers.proofs.Turning.{serves, stays, moves-none, from-held, turns-partly}
use Rattle.host_workers.proofs.Calls.{at-exit}
use Rattle.host_workers.proofs.serving.serve_core.Goals as goal

pub take_mail-requires-clause-owned : goal.take_mail-requires-clause-owned
take_mail-requires-clause-owned g c =
    let C = setting c.args.context.now in record {
      inside = subst (λ (core : CoreId). core.0 < C.shape.cores) (sym c.reserve.ensures.core) c.requires.owned.inside;
      fits = subst (Fits C) (sym (ap (λ (h : Held). h.node) c.reserve.ensures.held)) c.requires.owned.fits;
    }

pub take_mail-requires-clause-goes : goal.take_mail-requires-clause-goes
take_mail-requires-clause-goes g c =
    ap (λ (h : Held). has_numbers_left h.clock h.next) c.reserve.ensures.held ∙ (sym c.has_numbers_left.ensures ∙ c.if-not-has_numbers_left.false)

pub make_own-requires-clause-may : goal.make_own-requires-clause-may
make_own-requires-clause-may g c = record {
  context = c.requires.may.context;
  pass_is = c.take_mail.ensures.pass.0;
  ports = c.requires.may.ports;
  banks = c.requires.may.banks;
}

pub make_own-requires-clause-owned : goal.make_own-requires-clause-owned
make_own-requires-clause-owned g c =
    let C = setting c.args.context.now in record {
      inside = subst (λ (core : CoreId). core.0 < C.shape.cores) (sym (c.take_mail.ensures.core ∙ c.reserve.ensures.core)) c.requires.owned.inside;
      fits = c.in_ok-handled.ensures.fits;
    }

pub returns-clause-pass : goal.returns-clause-pass
returns-clause-pass g c = (c.make_own.ensures.pass.0, c.make_own.ensures.pass.1 ∙ c.take_mail.ensures.pass.1)

pub returns-in_err-own-clause-pass : goal.returns-in_err-own-clause-pass
returns-in_err-own-clause-pass g c = (c.make_own.ensures.pass.0, c.make_own.ensures.pass.1 ∙ c.take_mail.ensures.pass.1)

pub returns-then-not-has_numbers_left-clause-served : goal.returns-then-not-has_numbers_left-clause-served
returns-then-not-has_numbers_left-clause-served g c =
    stays (setting c.args.context.now) c.args.owned.now c.args.pass.now c.requires.owned.fits (sym c.has_numbers_left.ensures ∙ c.if-not-has_numbers_left.true)

pub returns-clause-served : goal.returns-clause-served
returns-clause-served g c =
    let same = c.reserve.ensures.core in
    let same-too = c.take_mail.ensures.core ∙ same in
    let taken = subst (λ (core : CoreId). HasTaken (setting c.args.context.now) core c.draw-pick.result c.args.pass.now c.take_mail.new.pass (held_of c.args.owned.now) (held_of c.take_mail.new.owned) c.in_ok-handled.handled) same
    (subst (λ (h : Held). HasTaken (setting c.args.context.now) c.reserve.new.self.core c.draw-pick.result c.args.pass.now c.take_mail.new.pass h (held_of c.take_mail.new.owned) c.in_ok-handled.handled) c.reserve.ensures.held c.in_ok-handled.ensures.taken) in
    let own = subst (λ (core : CoreId). HasMadeOwn (setting c.args.context.now) core c.take_mail.new.pass c.make_own.new.pass (held_of c.take_mail.new.owned) (held_of c.make_own.new.owned) c.in_ok-own.own) same-too c.in_ok-own.ensures.made in
    serves (setting c.args.context.now) c.args.owned.now c.make_own.new.owned c.draw-pick.result c.args.pass.now c.take_mail.new.pass c.make_own.new.pass (held_of c.take_mail.new.owned) c.in_ok-handled.handled c.in_ok-own.own
    (c.make_own.ensures.core ∙ same-too) c.in_ok-own.ensures.fits (sym c.has_numbers_left.ensures ∙ c.if-not-has_numbers_left.false) taken c.in_ok-handled.ensures.pass.1 own

pub returns-in_err-reserve-clause-part : goal.returns-in_err-reserve-clause-part
returns-in_err-reserve-clause-part g c =
    let C = setting c.args.context.now in
    let held = c.reserve.ensures.held in
    at-exit _ (moves-none C c.args.owned.now c.reserve.new.self c.args.pass.now c.reserve.ensures.core held (subst (Fits C) (sym (ap (λ (h : Held). h.node) held)) c.requires.owned.fits))

pub returns-in_err-handled-clause-part : goal.returns-in_err-handled-clause-part
returns-in_err-handled-clause-part g c =
    at-exit _ (from-held (setting c.args.context.now) c.args.owned.now c.reserve.new.self c.take_mail.new.owned c.args.pass.now c.take_mail.new.pass c.reserve.ensures.core c.reserve.ensures.held c.in_err-handled.ensures.part)

pub returns-in_err-own-clause-part : goal.returns-in_err-own-clause-part
returns-in_err-own-clause-part g c =
    let C = setting c.args.context.now in
    let same = c.reserve.ensures.core in
    let taken = subst (λ (core : CoreId). HasTaken C core c.draw-pick.result c.args.pass.now c.take_mail.new.pass (held_of c.args.owned.now) (held_of c.take_mail.new.owned) c.in_ok-handled.handled) same
    (subst (λ (h : Held). HasTaken C c.reserve.new.self.core c.draw-pick.result c.args.pass.now c.take_mail.new.pass h (held_of c.take_mail.new.owned) c.in_ok-handled.handled) c.reserve.ensures.held c.in_ok-handled.ensures.taken) in
    at-exit _ (turns-partly C c.args.owned.now c.take_mail.new.owned c.make_own.new.owned c.draw-pick.result c.args.pass.now c.take_mail.new.pass c.make_own.new.pass c.in_ok-handled.handled (c.take_mail.ensures.core ∙ same) taken c.in_ok-handled.ensures.pass.1 c.in_err-own.ensures.part)
