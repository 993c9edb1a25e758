use Rattle.std.proofs.Common.{sym, ap, ◌∙◌}
use Rattle.std.specs.Option.{option_or}
use Rattle.std.proofs.lemmas.List.{drop_all}
use Rattle.rv_assembler.specs.Lookup.{name_lookup}
use Rattle.rv_assembler.specs.Gathering.{no_count, meaning_in}
use Rattle.rv_assembler.proofs.NameLemmas.{first-none, found-onward}
use Rattle.rv_assembler.proofs.names.survey.Goals as goal

pub loop-reading-preserved : goal.loop-reading-preserved
loop-reading-preserved c = λ q.
    rw c.count_after-count.ensures
    (found-onward c.args.text.now (name_lookup c.loop-reading.names) (name_lookup c.declare_line.new.self) c.loop-reading.count c.args.readings.now c.loop-reading.reading-index c.reading-item.result _ q
    c.loop-reading-test.true c.reading-item.is (c.in_ok-declare_line.ensures q) (c.loop-reading.invariant q))

pub loop-reading-init : goal.loop-reading-init
loop-reading-init c = λ q. ap (λ known. option_or known (meaning_in c.args.text.now no_count c.args.readings.now q)) (c.in_ok-names.ensures q)

pub returns : goal.returns
returns c = λ q.
    let names = name_lookup c.loop-reading.names in
    first-none (names q)
    ∙ ap (λ left. option_or (names q) (meaning_in c.args.text.now c.loop-reading.count left q)) (sym (drop_all c.loop-reading.reading-index c.args.readings.now c.loop-reading-test.false))
    ∙ c.loop-reading.invariant q
