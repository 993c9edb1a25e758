use Rattle.std.proofs.Common.{rules, ◌≡◌, List, Ok, ℕ, subst}
use Rattle.rv_assembler.specs.Source.{source}
use Rattle.dn_top.proofs.answers.list_plain.Goals as goal

pub returns : goal.returns
returns c =
    record {
      answer = search rules;
      again = λ is within. subst (λ (text : List ℕ). source text ≡ Ok c.args.program.now) c.in_ok-listing.ensures.text (c.in_ok-listing.ensures.again c.requires within);
    }
