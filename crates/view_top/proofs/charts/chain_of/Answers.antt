use Rattle.view_top.proofs.Pictures.{chain-is}
use Rattle.view_top.proofs.charts.chain_of.Goals as goal

pub returns-clause-chain : goal.returns-clause-chain
returns-clause-chain c =
    chain-is c.args.kept.now c.args.options.now c.chart_ticks.result c.in_ok-timing.timing c.as_slice.result.now c.numbers_in.result c.chart_ticks.ensures.value c.as_slice.ensures.value
    c.in_ok-timing.ensures.timing c.numbers_in.ensures
