use Rattle.std.proofs.Common.{inl, inr}
use Rattle.explained_answer.proofs.Steps.{if-ok}
use Rattle.explained_answer.proofs.explaining.explained_unlisted.Goals as goal

pub returns-in-Some : goal.returns-in-Some
returns-in-Some c =
    if-ok c.explained_conflict.result _ _
    (λ e h. inl (record {
      located = c.args.located.now;
      is_located = c.requires.located;
      fault = c.in-Some.fault;
      is = c.in-Some.ensures.some;
      no_listing = c.requires.no_listing;
      answer_is = h;
    }))
    c.explained_conflict.ensures

pub returns-in-None : goal.returns-in-None
returns-in-None c = if-ok c.explained_checked.result _ _ (λ e h. inr h) c.explained_checked.ensures
