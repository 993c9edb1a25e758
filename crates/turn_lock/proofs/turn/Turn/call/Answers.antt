use Rattle.std.proofs.Common.{[], length, sym, refl, ◌∙◌, ap}
use Rattle.turn_lock.specs.Passes.{Token}
use Rattle.turn_lock.specs.declared.entry.Entry.{Entry}
use Rattle.turn_lock.specs.declared.view.Claim.{Claim}
use Rattle.turn_lock.specs.History.{entry}
use Rattle.turn_lock.proofs.Called.{rests, same_pass, left_as_before, tells}
use Rattle.turn_lock.proofs.Hands.{reserves, makes}
use Rattle.turn_lock.proofs.turn.Turn.call.Goals as goal

pub leave-requires : goal.leave-requires
leave-requires g c = record {
  table = c.enter-desk.ensures.same.0 ∙ (ap (λ (p : Token g.row.O.Denot g.row.O-In.Denot g.row.O-Out.Denot). p.table) c.pass.view_is ∙ c.requires.pass.0);
  none = reserves _ _ _ c.args.self.now.opening [] c.enter-desk.result c.reserve.new.self _ c.enter-desk.ensures.hand c.reserve.ensures.content c.reserve.ensures.history;
}

-- the pass after a refused call
pub invariant_of-pass : goal.invariant_of-pass
invariant_of-pass g c =
    let own = c.enter-desk.ensures.own.0 in
    rests _ _ _ _ _ _ c.leave.ensures.me
    (ap (λ (o : Claim (Entry g.row.O.Denot g.row.O-In.Denot g.row.O-Out.Denot)). o.number) own ∙ c.pass.invariant.1)
    (ap (λ (o : Claim (Entry g.row.O.Denot g.row.O-In.Denot g.row.O-Out.Denot)). length o.seen) own ∙ c.pass.invariant.2)

pub returns-then-is_err : goal.returns-then-is_err
returns-then-is_err g c =
    let table = c.leave.ensures.same.0 ∙ c.enter-desk.ensures.same.0 in record {
      pass = same_pass _ _ _ _ _ _ _ c.pass.inside.seat.me _ c.pass.view_is table c.requires.pass.1 c.leave.ensures.me;
      legal = tt;
      seen = tt;
      made = tt;
      own = tt;
      answer = tt;
      same = left_as_before _ _ _ _ _ _ _ c.pass.inside.seat.me _ c.pass.view_is table c.requires.pass.1 c.enter-desk.ensures.own.0 c.leave.ensures.me;
      back = refl;
    }

-- the desk after the call has its entry
pub pass_on-requires : goal.pass_on-requires
pass_on-requires g c =
    let e = entry {O = g.row.O.Denot} c.pass.inside.number c.args.input c.make-output.result in
    let number = sym (ap (λ (o : Claim (Entry g.row.O.Denot g.row.O-In.Denot g.row.O-Out.Denot)). o.number) c.enter-desk.ensures.own.0 ∙ c.pass.invariant.1) in
    let ready = reserves _ _ _ c.args.self.now.opening [] c.enter-desk.result c.reserve.new.self _ c.enter-desk.ensures.hand c.reserve.ensures.content c.reserve.ensures.history in record {
      table = c.enter-desk.ensures.same.0 ∙ (ap (λ (p : Token g.row.O.Denot g.row.O-In.Denot g.row.O-Out.Denot). p.table) c.pass.view_is ∙ c.requires.pass.0);
      call = (e, makes _ _ _ c.args.self.now.opening e c.reserve.new.self c.make-output.new.self _ ready c.make-output.ensures.history number c.make-output.ensures.answer c.make-output.ensures.content);
    }

-- the pass after a call
pub invariant_of-pass-2 : goal.invariant_of-pass-2
invariant_of-pass-2 g c =
    rests _ _ _ _ _ _ c.pass_on.ensures.me
    (ap (λ (o : Claim (Entry g.row.O.Denot g.row.O-In.Denot g.row.O-Out.Denot)). o.number) c.enter-desk.ensures.own.0 ∙ c.pass.invariant.1)
    (sym (c.len.ensures ∙ c.make-output.new.self.history.ok.0))

pub returns : goal.returns
returns g c =
    let e = entry {O = g.row.O.Denot} c.pass.inside.number c.args.input c.make-output.result in
    let number = sym (ap (λ (o : Claim (Entry g.row.O.Denot g.row.O-In.Denot g.row.O-Out.Denot)). o.number) c.enter-desk.ensures.own.0 ∙ c.pass.invariant.1) in
    let ready = reserves _ _ _ c.args.self.now.opening [] c.enter-desk.result c.reserve.new.self _ c.enter-desk.ensures.hand c.reserve.ensures.content c.reserve.ensures.history in
    let hand = makes _ _ _ c.args.self.now.opening e c.reserve.new.self c.make-output.new.self _ ready c.make-output.ensures.history number c.make-output.ensures.answer c.make-output.ensures.content in
    let told = tells
    g.O.Object.content
    g.O.Object.answer
    g.O.Object.next
    c.args.self.now.opening
    c.args.pass.now
    c.pass.inside.seat.table_id
    c.pass.inside.number
    _
    c.pass.inside.seat.me
    c.enter-desk.new.seat.me
    c.pass_on.new.seat.me
    c.args.input
    c.make-output.result
    c.enter-desk.result
    c.reserve.new.self
    c.make-output.new.self
    c.pass.view_is
    c.enter-desk.ensures.own.0
    c.pass.invariant.1
    c.enter-desk.ensures.seen
    c.enter-desk.ensures.mine
    c.reserve.ensures.history
    c.make-output.ensures.history
    c.make-output.ensures.answer
    ready.legal
    hand.legal
    c.pass_on.ensures.me in record {
      pass = same_pass _ _ _ _ _ _ _ c.pass.inside.seat.me _ c.pass.view_is (c.pass_on.ensures.same.0 ∙ c.enter-desk.ensures.same.0) c.requires.pass.1 c.pass_on.ensures.me;
      legal = told.legal;
      seen = told.seen;
      made = told.made;
      own = told.own;
      answer = told.answered;
      same = tt;
      back = tt;
    }
