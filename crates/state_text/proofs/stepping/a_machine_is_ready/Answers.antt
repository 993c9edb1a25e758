use Rattle.state_text.proofs.stepping.a_machine_is_ready.Goals as goal

pub returns : goal.returns
returns c = c.a_machine_is_kept.ensures.left.ready
