use Rattle.view_top.proofs.Pictures.{is-drawn}
use Rattle.view_top.proofs.charts.draw.Goals as goal

pub returns : goal.returns
returns c = is-drawn c.args.kept.now c.args.options.now c.picture.result c.picture.ensures
