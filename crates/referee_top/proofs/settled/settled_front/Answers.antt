use Rattle.std.proofs.Common.{◌≡◌, map, ap, ◌∙◌}
use Rattle.run_report.specs.Answer.{answer_of}
use Rattle.referee_top.specs.Settled.{no_number, settled_front}
use Rattle.referee_top.proofs.SettledLemmas.{front-text}
use Rattle.referee_top.proofs.Told.{ok-by}
use Rattle.referee_top.proofs.settled.settled_front.Goals as goal

pub returns : goal.returns
returns c =
    ok-by c.answer_text.result (λ t. t.items ≡ answer_of (record { outcome = c.args.common.now.outcome; tasks = c.in_ok-tasks.tasks; memory = c.in_ok-memory.memory })) (λ t. t.items ≡ settled_front c.args.common.now)
    c.answer_text.ensures (λ t is. is ∙ front-text c.args.common.now c.in_ok-tasks.tasks c.in_ok-memory.memory (c.in_ok-tasks.ensures ∙ c.as_slice.ensures) (c.in_ok-memory.ensures.words ∙ ap (λ vs. map no_number vs) c.as_slice-2.ensures))
