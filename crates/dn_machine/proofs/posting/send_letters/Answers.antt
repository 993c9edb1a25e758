use Rattle.std.proofs.Common.{◌≡◌, sym, ap, ◌∙◌}
use Rattle.phase_barrier.specs.Letters.{letters, to_each, letters_to_all}
use Rattle.phase_barrier.proofs.LetterLemmas.{length-to_each}
use Rattle.dn_machine.proofs.posting.send_letters.Goals as goal

pub returns-clause-numbers : goal.returns-clause-numbers
returns-clause-numbers c =
    let is : letters c.args.cores c.args.verdict ≡ to_each 0 c.args.cores c.in-Some.message = ap (letters_to_all c.args.cores) (sym c.letter.ensures ∙ c.in-Some.is) in
    rw (is, length-to_each 0 c.args.cores c.in-Some.message, ← c.next_number-first.ensures) c.set.ensures
