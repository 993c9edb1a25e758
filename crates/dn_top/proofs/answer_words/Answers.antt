use Rattle.std.proofs.Common.{map, string_bytes, ap}
use Rattle.std.specs.Option.{option_map}
use Rattle.dn_top.specs.Command.{options_of}
use Rattle.program_outside.specs.Outside.{devices_of}
use Rattle.dn_top.specs.Runs.{with_one_worker}
use Rattle.dn_top.proofs.Clauses.{serves-options}
use Rattle.dn_top.proofs.answer_words.Goals as goal

pub returns-in-Ok : goal.returns-in-Ok
returns-in-Ok g c =
    record {
      serves = serves-options (option_map with_one_worker (options_of (map string_bytes c.args.words.now))) (with_one_worker c.in-Ok.options)
          (devices_of g.S.Source g.K.Sink c.args.source.now c.args.sink.now)
          (devices_of g.S.Source g.K.Sink c.answer_alone.new.source c.answer_alone.new.sink)
          c.answer_alone.result (ap (option_map with_one_worker) c.in-Ok.ensures.taken) c.answer_alone.ensures.served c.answer_alone.ensures.few c.answer_alone.ensures.unread;
    }
