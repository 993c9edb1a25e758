use Rattle.std.proofs.Common.{map, string_bytes}
use Rattle.program_outside.specs.Outside.{devices_of}
use Rattle.explain_top.specs.Command.{name_in}
use Rattle.explain_top.specs.Serving.{texts_of}
use Rattle.explain_top.proofs.Starved.{starved}
use Rattle.explain_top.proofs.serving.explain_main.Goals as goal

pub returns-in-Ok : goal.returns-in-Ok
returns-in-Ok g c = record { serves = rw c.in-Ok.ensures.taken c.serve_named.ensures }

pub returns-in-Err-Memory : goal.returns-in-Err-Memory
returns-in-Err-Memory g c =
    record {
      serves = starved (name_in (map string_bytes c.args.words.now)) (texts_of g.T.Texts c.args.texts.now) (devices_of g.S.Source g.K.Sink c.args.source.now c.args.sink.now);
    }
