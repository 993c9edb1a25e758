use Rattle.std.proofs.Common.{rules, ◌≡◌, arith, true, false, refl}
use Rattle.rv_assembler.specs.Number.{is_interval}
use Rattle.rv_assembler.proofs.LoopLemmas.{stepped_join, stepped_off}
use Rattle.rv_assembler.proofs.testing.+stepped_fits.Goals as goal

pub returns : goal.returns
returns t c =
    let inside : c.is_interval.result ≡ is_interval c.args.lo c.args.hi c.args.len = search rules in
    let yes : c.is_interval.result ≡ true = search rules in
    stepped_join c.args.len c.args.step c.args.lo c.args.hi c.args.count c.is_interval.result c.stepped_fits.result (omega arith) inside yes (search rules)

pub returns-then-count-eq0 : goal.returns-then-count-eq0
returns-then-count-eq0 t c = rw c.if-count-eq0.true refl

pub returns-then-not-is_interval : goal.returns-then-not-is_interval
returns-then-not-is_interval t c =
    let inside : c.is_interval.result ≡ is_interval c.args.lo c.args.hi c.args.len = search rules in
    let no : c.is_interval.result ≡ false = search rules in
    stepped_off c.args.len c.args.step c.args.lo c.args.hi c.args.count c.is_interval.result (omega arith) inside no

pub overflow_add-lo : goal.overflow_add-lo
overflow_add-lo t c = search rules

pub overflow_add-hi : goal.overflow_add-hi
overflow_add-hi t c = search rules

pub overflow_sub-count : goal.overflow_sub-count
overflow_sub-count t c = search rules

pub stepped_fits-requires : goal.stepped_fits-requires
stepped_fits-requires t c = search rules
