use Rattle.std.proofs.Common.{Some, ap, subst, ◌∙◌}
use Rattle.std.specs.BTreeMap.{UpdatesBy}
use Rattle.sentences.specs.declared.told.Told.{Told}
use Rattle.sentences.specs.Told.{with_line}
use Rattle.sentences.proofs.ToldLemmas.{key_cmp, told-added}
use Rattle.sentences.proofs.told.ToldEffects.add.Goals as goal

pub returns : goal.returns
returns c =
    let region = c.token_bytes-region.result in
    let before = c.args.self.now.by_task in
    let told = c.with_line-told.ensures ∙ ap (λ (t : Told). with_line t c.args.line) c.effects_of_family.ensures in
    told-added c.args.text.now c.args.line before c.insert.new.self region c.token_bytes-region.ensures
    (subst (λ (t : Told). UpdatesBy key_cmp (key_cmp (c.args.line.family, region)) before c.insert.new.self (Some t)) told c.in_ok-insert.ensures.updates)
