use Rattle.std.proofs.Common.{◌≡◌, ◌<◌, take, get_or, sym, refl, ◌∙◌, subst, arith}
use Rattle.std.proofs.lemmas.List.{length-set, get_or-set_other, take_all}
use Rattle.registration_protocol.specs.Setting.{setting}
use Rattle.host_workers.specs.declared.crew.BankLog.{BankLog}
use Rattle.host_workers.specs.Work.{IsNotedBank, IsStepped, HasDoneActs, HaveDone, HasDonePartly}
use Rattle.host_workers.proofs.Served.{done-none, done-next, partly-next}
use Rattle.host_workers.proofs.Turning.{notes-not}
use Rattle.host_workers.proofs.Calls.{at-exit}
use Rattle.host_workers.proofs.stepping.step_banks.Goals as goal

pub loop-place-init : goal.loop-place-init
loop-place-init g c = record {
  pass = (c.requires.may.pass_is, refl);
  long = refl;
  later = λ i d from. refl;
  few = omega arith;
  done = done-none (IsStepped (setting c.args.context.now)) (setting c.args.context.now) c.args.pass.now;
}

pub index_mut-requires : goal.index_mut-requires
index_mut-requires g c = let long = c.loop-place.invariant.long in omega (arith, long)

pub step_bank-requires-clause-may : goal.step_bank-requires-clause-may
step_bank-requires-clause-may g c = record {
  context = c.requires.may.context;
  pass_is = c.loop-place.invariant.pass.0;
  ports = c.requires.may.ports;
  banks = c.requires.may.banks;
}

pub step_bank-requires-clause-bank : goal.step_bank-requires-clause-bank
step_bank-requires-clause-bank g c =
    let had = c.loop-place.invariant in
    let x = c.index_mut.result.now in
    let long = had.long in
    let was : get_or c.args.banks.now.items c.loop-place.place x ≡ x = sym (had.later c.loop-place.place x (omega arith)) ∙ sym c.index_mut.ensures.value in
    subst (λ (b : BankLog). b.bank.0 < (setting c.args.context.now).shape.banks) was (c.requires.banks c.loop-place.place x (omega (arith, long)))

pub loop-place-preserved : goal.loop-place-preserved
loop-place-preserved g c =
    let had = c.loop-place.invariant in
    let C = setting c.args.context.now in
    let x = c.index_mut.result.now in
    let long = had.long in
    let few = had.few in
    let now = c.step_bank.new.owned in
    let was : get_or c.args.banks.now.items c.loop-place.place x ≡ x = sym (had.later c.loop-place.place x (omega arith)) ∙ sym c.index_mut.ensures.value in
    let one = subst (λ (o : BankLog). HasDoneActs (IsStepped C) C c.loop-place.pass c.step_bank.new.pass o now c.in_ok-events.events) (sym was) c.in_ok-events.ensures.stepped in
    record {
      pass = (c.in_ok-events.ensures.pass.0, c.in_ok-events.ensures.pass.1 ∙ had.pass.1);
      long = length-set c.loop-place.banks.items c.loop-place.place now ∙ had.long;
      later = λ i d from. get_or-set_other c.loop-place.banks.items c.loop-place.place i now d (λ e. absurd (omega (arith, from, e))) ∙ had.later i d (omega (arith, from));
      few = omega (arith, few, c.in_ok-events.ensures.few);
      done = done-next (IsStepped C) C c.args.pass.now c.loop-place.pass c.step_bank.new.pass c.args.banks.now.items c.loop-place.banks.items c.loop-place.place now c.loop-place.made c.in_ok-events.events had.done had.pass.1 (omega (arith, long)) had.long x one;
    }

pub returns-clause-stepped : goal.returns-clause-stepped
returns-clause-stepped g c =
    let had = c.loop-place.invariant in
    let C = setting c.args.context.now in
    let long = had.long in
    let all : take c.loop-place.place c.args.banks.now.items ≡ c.args.banks.now.items = take_all c.loop-place.place c.args.banks.now.items (omega arith) in
    let now : take c.loop-place.place c.loop-place.banks.items ≡ c.loop-place.banks.items = take_all c.loop-place.place c.loop-place.banks.items (omega (arith, long)) in
    subst (λ l. HaveDone (IsStepped C) C c.args.pass.now c.loop-place.pass l c.loop-place.banks.items c.loop-place.made) all
    (subst (λ l. HaveDone (IsStepped C) C c.args.pass.now c.loop-place.pass (take c.loop-place.place c.args.banks.now.items) l c.loop-place.made) now had.done)

pub returns-in_err-events-clause-pass : goal.returns-in_err-events-clause-pass
returns-in_err-events-clause-pass g c = (c.step_bank.ensures.pass.0, c.step_bank.ensures.pass.1 ∙ c.loop-place.invariant.pass.1)

pub returns-in_err-events-clause-part : goal.returns-in_err-events-clause-part
returns-in_err-events-clause-part g c =
    let had = c.loop-place.invariant in
    let C = setting c.args.context.now in
    let x = c.index_mut.result.now in
    let long = had.long in
    let now = c.step_bank.new.owned in
    let was : get_or c.args.banks.now.items c.loop-place.place x ≡ x = sym (had.later c.loop-place.place x (omega arith)) ∙ sym c.index_mut.ensures.value in
    let one = subst (λ (o : BankLog). HasDonePartly (IsNotedBank C) C c.loop-place.pass c.step_bank.new.pass o now) (sym was) c.in_err-events.ensures.part in
    at-exit _ (partly-next (IsStepped C) (IsNotedBank C) (λ b d acts s. s.notes) C c.args.pass.now c.loop-place.pass c.step_bank.new.pass c.args.banks.now.items c.loop-place.banks.items c.loop-place.place now c.loop-place.made had.done had.pass.1 (omega (arith, long)) had.long had.later
    (λ k d within. notes-not C (get_or c.args.banks.now.items k d) (get_or c.args.banks.now.items k d) refl refl) x one)
