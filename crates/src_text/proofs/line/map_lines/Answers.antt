use Rattle.std.proofs.Common.{[], List, sym, subst, None}
use Rattle.std.specs.List.{AllZip}
use Rattle.std.specs.Fn.{FnReturnsAt}
use Rattle.std.proofs.lemmas.List.{append-nil}
use Rattle.src_text.specs.Line.{lines_of, IsNextLine}
use Rattle.src_text.specs.declared.line.Line.{Line}
use Rattle.src_text.proofs.line.map_lines.Goals as goal

pub returns : goal.returns
returns g c =
    let ended : IsNextLine c.loop-made.reader c.next.new.self None = subst (IsNextLine c.loop-made.reader c.next.new.self) c.in_default.is c.in_ok-line.ensures in
    subst (AllZip (FnReturnsAt g.F.Fn c.args.f) (lines_of c.args.text.now)) (append-nil c.loop-made.made.items)
    (c.loop-made.invariant [] (subst (λ (ls : List Line). AllZip (FnReturnsAt g.F.Fn c.args.f) ls []) (sym ended.0) tt))
