use Rattle.view_top.proofs.Pictures.{picture-is}
use Rattle.view_top.proofs.charts.picture.Goals as goal

pub returns : goal.returns
returns c =
    picture-is c.args.kept.now c.args.options.now c.in_ok-chain.chain c.as_slice.result.now c.range_for.result c.in_ok-charted.charted.chart c.draw_named.result c.requires.within c.range_for.ensures c.as_slice.ensures
    c.in_ok-chain.ensures.chain c.in_ok-charted.ensures.chart c.draw_named.ensures
