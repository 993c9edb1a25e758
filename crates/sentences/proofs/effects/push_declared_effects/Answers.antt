use Rattle.std.proofs.Common.{◌≡◌, ◌++◌, ℕ, List, Option, OnOk, sym, ap, subst, ◌∙◌}
use Rattle.text_places.specs.declared.places.TaskPlace.{TaskPlace}
use Rattle.sentences.specs.Effects.{told_of_region, declared_text}
use Rattle.sentences.specs.Told.{told_text}
use Rattle.sentences.proofs.ToldLemmas.{told-said}
use Rattle.sentences.proofs.effects.push_declared_effects.Goals as goal

pub returns-in-Some : goal.returns-in-Some
returns-in-Some c =
    let text = c.args.text.now in
    let p = c.args.program.now in
    let t = c.in-Some.task in
    let said =
    ap (told_text text p t c.args.region) (c.told_of_region-told.ensures text c.requires) ∙ told-said text p t c.args.region (told_of_region text p t c.args.region)
    ∙ ap (λ (o : Option TaskPlace). declared_text text p o c.args.region) (sym c.in-Some.is) in
    subst (λ (bs : List ℕ). OnOk c.push_told.result (c.push_told.new.out.items ≡ c.args.out.now.items ++ bs)) said c.push_told.ensures
