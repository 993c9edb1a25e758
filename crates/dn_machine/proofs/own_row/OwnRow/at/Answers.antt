use Rattle.std.proofs.Common.{sym, arith}
use Rattle.std.proofs.lemmas.Option.{slice_get_past}
use Rattle.dn_machine.specs.Pick.{known_events}
use Rattle.dn_machine.proofs.Listed.{listed-count, listed-at}
use Rattle.dn_machine.proofs.own_row.OwnRow.at.Goals as goal

pub returns-then-place-self : goal.returns-then-place-self
returns-then-place-self c =
    let many = listed-count c.self.inside.own c.self.inside.cores c.self.inside.count c.self.invariant c.self.told in
    rw (← c.self.view_is) (sym (slice_get_past (known_events c.self.inside.own) c.args.place (omega (arith, many, c.if-place-self.true))))

pub bounds-self-inside-core : goal.bounds-self-inside-core
bounds-self-inside-core c =
    omega (arith, (listed-at c.self.inside.own c.self.inside.cores c.self.inside.count c.args.place c.self.invariant c.self.told c.if-place-self.false).0, c.self.invariant.whole)

pub returns : goal.returns
returns c =
    rw (← c.self.view_is) (listed-at c.self.inside.own c.self.inside.cores c.self.inside.count c.args.place c.self.invariant c.self.told c.if-place-self.false).1
