use Rattle.view_top.proofs.Pictures.{drawn-is}
use Rattle.view_top.proofs.charts.draw_named.Goals as goal

pub returns : goal.returns
returns c =
    drawn-is c.args.options.now c.args.kept.now.text c.args.charted.chart c.in_ok-located.located c.in_ok-picture.field-0.items c.done_with.result c.in_ok-located.ensures.program c.in_ok-located.ensures.places
    c.in_ok-picture.ensures c.done_with.ensures
