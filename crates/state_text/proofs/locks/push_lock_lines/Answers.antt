use Rattle.std.proofs.Common.{◌≡◌, ◌++◌, Option, Some, OnOk, sym, ap, subst, ◌∙◌}
use Rattle.std.specs.Option.{option_copied}
use Rattle.queue_lock.specs.Lock.{Lock}
use Rattle.machine_rules.specs.State.{lock_at}
use Rattle.state_text.specs.Parts.{lock_lines_of}
use Rattle.state_text.proofs.locks.push_lock_lines.Goals as goal

pub returns-in-Some : goal.returns-in-Some
returns-in-Some c =
    let at : lock_at c.args.machine.now.state c.args.lock.0 ≡ Some c.in-Some.home.now = sym c.lock_of.ensures ∙ ap option_copied c.in-Some.is in
    subst
    (λ (o : Option Lock). OnOk c.push_home_lines.result (c.push_home_lines.new.out.items ≡ c.args.out.now.items ++ lock_lines_of c.args.machine.now.state c.args.lock.0 o))
    (sym at) c.push_home_lines.ensures
