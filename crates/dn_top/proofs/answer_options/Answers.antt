-- with one worker the options are those with one worker
use Rattle.std.proofs.Common.{◌≡◌, refl, subst}
use Rattle.dn_top.specs.declared.options.Options.{Options}
use Rattle.program_outside.specs.Outside.{devices_of}
use Rattle.dn_top.specs.Runs.{with_one_worker}
use Rattle.dn_top.specs.Serving.{IsDoneBy}
use Rattle.dn_top.proofs.answer_options.Goals as goal

one-worker : (o : Options) → o.workers ≡ 1 → with_one_worker o ≡ o
one-worker o one = let same : record { mode = o.mode; addresses = o.addresses; order = o.order; seed = o.seed; banks = o.banks; sets = o.sets; ways = o.ways; fuel = o.fuel; size = o.size; tick_core = o.tick_core; tick_bank = o.tick_bank; tick_mail = o.tick_mail; latency = o.latency; net = o.net; workers = 1 } ≡ o = rw one refl in same

pub returns-then-options-eq1-clause-served : goal.returns-then-options-eq1-clause-served
returns-then-options-eq1-clause-served g c =
    subst (λ (o : Options). IsDoneBy o (devices_of g.S.Source g.K.Sink c.args.source.now c.args.sink.now) (devices_of g.S.Source g.K.Sink c.answer_alone.new.source c.answer_alone.new.sink) c.answer_alone.result)
    (one-worker c.args.options.now c.if-options-eq1.true) c.answer_alone.ensures.served
