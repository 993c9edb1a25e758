use Rattle.std.proofs.Common.{rules}
use Rattle.std.specs.Prelude.{not}
use Rattle.std.proofs.lemmas.Fn.{filter_same}
use Rattle.run_account.specs.declared.cache.Line.{Line}
use Rattle.run_account.specs.Caches.{is_line_of}
use Rattle.run_account.proofs.cache.LineSet.lose.Goals as goal

pub returns : goal.returns
returns c = rw (← c.self.view_is) (filter_same _ (λ (line : Line). not (is_line_of c.args.word.0 line)) _ (λ x b f' k. search rules) _ _ c.retain.ensures.filtered)
