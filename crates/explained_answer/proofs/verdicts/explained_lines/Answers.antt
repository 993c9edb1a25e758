use Rattle.std.proofs.Common.{rules, ◌≡◌, ℕ, ◌+◌, ◌-◌, ◌<◌, ◌++◌, List, length, drop, Some, None, ap, ◌∙◌, length-drop, arith}
use Rattle.src_text.specs.Line.{cut}
use Rattle.explained_answer.specs.declared.explaining.Explained.{Explained}
use Rattle.explained_answer.specs.Verdicts.{said_line, verdict_from}
use Rattle.explained_answer.proofs.VerdictLemmas.{line-said, line-refused}
use Rattle.explained_answer.proofs.verdicts.explained_lines.Goals as goal

pub returns-in_default : goal.returns-in_default
returns-in_default c =
    let line : List ℕ = c.first_line-line.result.now in
    let refused : said_line c.args.text.now c.args.located.now c.args.on_answer line ≡ None = search rules in
    line-refused c.args.text.now c.args.located.now c.args.on_answer c.loop-rest.number c.loop-rest.out.items c.loop-rest.rest.now line
    (omega (arith, c.loop-rest-test.true)) c.first_line-line.ensures.value refused
    ∙ c.loop-rest.invariant.1

pub loop-rest-preserved : goal.loop-rest-preserved
loop-rest-preserved c =
    let number = c.loop-rest.number in
    let line : List ℕ = c.first_line-line.result.now in
    let rest : List ℕ = c.loop-rest.rest.now in
    let out : List ℕ = c.loop-rest.out.items in
    let says : said_line c.args.text.now c.args.located.now c.args.on_answer line ≡ Some c.in-Some.said = search rules in
    let pushed : c.push.new.out.items ≡ out ++ c.in-Some.said = search rules in
    let behind : c.behind-rest.result.now ≡ drop (length line + 1) rest = c.behind-rest.ensures in
    let left : length c.behind-rest.result.now ≡ length rest - (length line + 1) = ap length behind ∙ length-drop (length line + 1) rest in
    let some : 0 < length rest = omega (arith, c.loop-rest-test.true) in
    let from : ℕ → List ℕ → List ℕ → Explained = λ n before behind. verdict_from c.args.text.now c.args.located.now c.args.on_answer n before (cut behind) in (
      omega (arith, left, some, c.loop-rest.invariant.0),
      ap (λ (o : List ℕ). from (number + 1) o c.behind-rest.result.now) pushed
          ∙ ap (λ (r : List ℕ). from (number + 1) (out ++ c.in-Some.said) r) behind
          ∙ line-said c.args.text.now c.args.located.now c.args.on_answer number out rest line some c.first_line-line.ensures.value c.in-Some.said says
          ∙ c.loop-rest.invariant.1,
    )
