use Rattle.std.proofs.Common.{◌≡◌, ◌<◌, length, get_or, ap, sym, ◌∙◌, arith}
use Rattle.std.proofs.lemmas.List.{map-set}
use Rattle.word_cache.specs.Row.{place_word, has_pending, has_copy}
use Rattle.word_cache.proofs.CountLemmas.{countable, recounted, count-most}
use Rattle.word_cache.proofs.row.Row.set.Goals as goal

pub recount-pending-requires : goal.recount-pending-requires
recount-pending-requires c =
    let within : c.args.index < length c.self.inside.places.items = rw (← c.self.view_is) at c.requires in
    let here : c.at-old.result ≡ get_or c.self.inside.places.items c.args.index c.at-old.result = rw (← c.self.view_is) at (c.at-old.ensures c.at-old.result) in
    record {
      did = countable has_pending c.self.inside.places.items c.args.index c.at-old.result c.self.inside.pending c.has_pending.result within c.self.invariant.pending_are (c.has_pending.ensures ∙ ap has_pending here);
      count = omega (arith, c.self.invariant.pending_are, count-most has_pending c.self.inside.places.items, c.self.inside.places.ok.0);
    }

pub recount-copies-requires : goal.recount-copies-requires
recount-copies-requires c =
    let within : c.args.index < length c.self.inside.places.items = rw (← c.self.view_is) at c.requires in
    let here : c.at-old.result ≡ get_or c.self.inside.places.items c.args.index c.at-old.result = rw (← c.self.view_is) at (c.at-old.ensures c.at-old.result) in
    record {
      did = countable has_copy c.self.inside.places.items c.args.index c.at-old.result c.self.inside.copies c.has_copy.result within c.self.invariant.copies_are (c.has_copy.ensures ∙ ap has_copy here);
      count = omega (arith, c.self.invariant.copies_are, count-most has_copy c.self.inside.places.items, c.self.inside.places.ok.0);
    }

pub invariant_of-self : goal.invariant_of-self
invariant_of-self c =
    let within : c.args.index < length c.self.inside.places.items = rw (← c.self.view_is) at c.requires in
    let here : c.at-old.result ≡ get_or c.self.inside.places.items c.args.index c.at-old.result = rw (← c.self.view_is) at (c.at-old.ensures c.at-old.result) in
    record {
      words_are = rw (c.place_word.ensures, c.self.invariant.words_are) (sym (map-set place_word c.self.inside.places.items c.args.index c.args.place));
      pending_are = recounted has_pending c.self.inside.places.items c.args.index c.args.place c.at-old.result c.self.inside.pending c.recount-pending.result c.has_pending.result c.has_pending-2.result within c.self.invariant.pending_are (c.has_pending.ensures ∙ ap has_pending here) c.has_pending-2.ensures c.recount-pending.ensures;
      copies_are = recounted has_copy c.self.inside.places.items c.args.index c.args.place c.at-old.result c.self.inside.copies c.recount-copies.result c.has_copy.result c.has_copy-2.result within c.self.invariant.copies_are (c.has_copy.ensures ∙ ap has_copy here) c.has_copy-2.ensures c.recount-copies.ensures;
    }
