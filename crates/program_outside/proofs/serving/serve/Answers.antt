use Rattle.std.proofs.Common.{◌≡◌, inl}
use Rattle.program_outside.specs.Outside.{devices_of, sink_of, source_of}
use Rattle.program_outside.specs.Serving.{IsSourceServed}
use Rattle.program_outside.proofs.Replies.{replied}
use Rattle.program_outside.proofs.Wholes.{input-served, read-for}
use Rattle.program_outside.proofs.serving.serve.Goals as goal

pub returns-in-Ok : goal.returns-in-Ok
returns-in-Ok g c =
    let told = g.P.Status.EndStatus.told in
    let answers = g.P.Answers.IsAnswer c.args.asked.now in
    let most = g.P.Answers.most_read in
    let before = devices_of g.S.Source g.K.Sink c.args.source.now c.args.sink.now in
    let after = devices_of g.S.Source g.K.Sink c.read_text.new.source c.reply.new.sink in
    let same : c.reads_at_most.result ≡ most = c.reads_at_most.ensures.value in
    let within : IsSourceServed told most answers before after c.reply.result = (
      rw same at c.read_text.ensures.few,
      inl (record {
        text = c.as_slice.result.now;
        obtained = rw c.as_slice.ensures.value (read-for told answers most before.source after.source c.in-Ok.text.items
            (λ text rest out. c.reads_at_most.ensures.enough c.args.asked.now text rest out) (rw same at c.in-Ok.ensures.text));
        reply = replied told c.answer.result (answers c.as_slice.result.now) before.sink after.sink c.reply.result c.answer.ensures c.reply.ensures;
      }),
    ) in
    record { within = within; serves = input-served told answers most before after c.reply.result (rw same at c.reads_at_most.ensures.within) within }
