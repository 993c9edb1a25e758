use Rattle.view_top.proofs.Paged.{page-is}
use Rattle.view_top.proofs.pages.data.Goals as goal

pub returns : goal.returns
returns c =
    rw c.output.ensures
    (page-is c.args.kept.now c.args.options.now c.page_ticks.result c.in_ok-timing.timing c.page_for-page.result c.in_ok-bytes.bytes c.page_ticks.ensures.value c.requires.within c.in_ok-timing.ensures.timing c.page_for-page.ensures
    c.in_ok-bytes.ensures)
