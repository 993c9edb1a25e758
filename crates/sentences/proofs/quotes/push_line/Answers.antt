use Rattle.std.proofs.Common.{◌≡◌, ◌++◌, ◌∙◌, ◌-◌, OnOk, List, ℕ, Some, None, slice_get, sym, ap, subst, arith}
use Rattle.sentences.proofs.Spans.{quoted-some, quoted-none}
use Rattle.std.proofs.lemmas.List.{append-nil}
use Rattle.sentences.proofs.quotes.push_line.Goals as goal

pub returns-in-Some : goal.returns-in-Some
returns-in-Some c =
    let text = c.args.text.now in
    let spans = c.args.spans.now in
    let found : slice_get spans (c.args.line - 1) ≡ Some c.in-Some.span = sym c.span_at.ensures ∙ c.in-Some.is in
    let same = quoted-some text spans c.args.line c.in-Some.span c.requires (omega (arith, c.if-line-eq0.false)) found in
    subst (λ (b : List ℕ). OnOk c.push_quoted.result (c.push_quoted.new.out.items ≡ c.args.out.now.items ++ b)) same c.push_quoted.ensures

pub returns-in-None : goal.returns-in-None
returns-in-None c =
    let spans = c.args.spans.now in
    let found : slice_get spans (c.args.line - 1) ≡ None = sym c.span_at.ensures ∙ c.in-None.is in
    let same = quoted-none c.args.text.now spans c.args.line c.requires (omega (arith, c.if-line-eq0.false)) found in
    sym (append-nil c.args.out.now.items) ∙ ap (λ (b : List ℕ). c.args.out.now.items ++ b) same
