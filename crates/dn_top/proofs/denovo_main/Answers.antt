use Rattle.std.proofs.Common.{map, string_bytes}
use Rattle.dn_top.specs.Command.{options_of}
use Rattle.program_outside.specs.Outside.{devices_of}
use Rattle.dn_top.proofs.Clauses.{serves-options}
use Rattle.dn_top.proofs.denovo_main.Goals as goal

pub returns-in-Ok : goal.returns-in-Ok
returns-in-Ok g c =
    record {
      serves = serves-options (options_of (map string_bytes c.args.words.now)) c.in-Ok.options
          (devices_of g.S.Source g.K.Sink c.args.source.now c.args.sink.now)
          (devices_of g.S.Source g.K.Sink c.answer_options.new.source c.answer_options.new.sink)
          c.answer_options.result c.in-Ok.ensures.taken c.answer_options.ensures.served c.answer_options.ensures.few c.answer_options.ensures.unread;
    }
