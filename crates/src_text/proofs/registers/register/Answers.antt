use Rattle.src_text.proofs.NameLemmas.{register-found}
use Rattle.src_text.proofs.registers.register.Goals as goal

pub loop-known-init : goal.loop-known-init
loop-known-init c = rw (c.names_ending_in-known-items.ensures, c.last_byte.ensures) (register-found c.args.name.now)
