use Rattle.text_places.proofs.PlaceLemmas.{few-bytes, places-in}
use Rattle.text_places.proofs.places.text_places.Goals as goal

pub places_by_line-requires : goal.places_by_line-requires
places_by_line-requires c = few-bytes c.args.text.now c.args.program.now c.requires

pub returns : goal.returns
returns c = places-in c.args.text.now c.args.program.now c.places_by_line.result c.requires c.places_by_line.ensures
