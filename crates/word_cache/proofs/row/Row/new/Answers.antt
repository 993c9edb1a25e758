use Rattle.std.proofs.Common.{refl, sym, rules}
use Rattle.word_cache.specs.Row.{has_pending, has_copy}
use Rattle.word_cache.proofs.CountLemmas.{count-zero}
use Rattle.word_cache.proofs.row.Row.new.Goals as goal

pub invariant_of-result : goal.invariant_of-result
invariant_of-result c = record {
  words_are = search rules;
  pending_are = sym (count-zero has_pending c.args.places.items (λ i d below. rw (c.requires i d below) refl));
  copies_are = sym (count-zero has_copy c.args.places.items (λ i d below. rw (c.requires i d below) refl));
}
