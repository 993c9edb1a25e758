use Rattle.std.proofs.Common.{◌≡◌, Bool, true, false, ◌&&◌, ◌||◌, refl, sym, ap, ◌∙◌}
use Rattle.rv_core.specs.Access.{is_held}
use Rattle.common_outcomes.proofs.Acquired.{holds-either}
use Rattle.outcomes_top.proofs.circles.pass_through.Goals as goal

kept : (h t a : Bool) → a ≡ false → h ≡ (h || (a && t))
kept true t a e = refl
kept false t a e = sym (ap (λ (x : Bool). x && t) e)

pub returns-then-has_lock : goal.returns-then-has_lock
returns-then-has_lock c = λ b.
    let holds : is_held c.args.row c.args.lock ≡ true = cc in
    holds-either c.args.row c.args.through b ∙ sym (ap (λ (x : Bool). is_held c.args.row b || (x && is_held c.args.through b)) holds)

pub returns-else-has_lock : goal.returns-else-has_lock
returns-else-has_lock c = λ b.
    let holds : is_held c.args.row c.args.lock ≡ false = cc in
    kept (is_held c.args.row b) (is_held c.args.through b) (is_held c.args.row c.args.lock) holds
