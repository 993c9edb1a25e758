use Rattle.std.proofs.Common.{◌≡◌, ◌≢◌, nat_lt, Result, Ok, Err, OnOk, IfErr, refl, ap, subst, ◌∙◌}
use Rattle.rv_assembler.specs.declared.fault.SourceFault.{SourceFault}
use Rattle.rv_assembler.specs.declared.fault.SourceFault.TheVariants.{Memory}
use Rattle.rv_assembler.specs.declared.draft.Draft.{Draft}
use Rattle.src_text.specs.Line.{lines_of}
use Rattle.rv_assembler.specs.Lookup.{name_lookup}
use Rattle.rv_assembler.specs.Adding.{total, draft_of}
use Rattle.rv_assembler.proofs.SourceLemmas.{draft-from}
use Rattle.rv_assembler.proofs.assembling.add_text.Goals as goal

pub returns-clause-ok : goal.returns-clause-ok
returns-clause-ok c =
    let read = c.as_slice-readings.ensures.value ∙ c.in_ok-read.ensures in
    let same : total (nat_lt 0 c.in_ok-version.version) c.args.text.now (name_lookup c.in_ok-names.names) c.args.draft.now c.as_slice-readings.result.now ≡ draft_of c.args.text.now =
    ap (λ (d : Draft). total (nat_lt 0 c.in_ok-version.version) c.args.text.now (name_lookup c.in_ok-names.names) d c.as_slice-readings.result.now) c.requires.empty
    ∙ draft-from c.args.text.now (lines_of c.args.text.now) c.in_ok-version.version c.as_slice-readings.result.now (name_lookup c.in_ok-names.names) refl c.in_ok-version.ensures read c.in_ok-names.ensures in
    subst (λ (v : Result Draft SourceFault). OnOk c.add_lines.result (v ≡ Ok c.add_lines.new.draft)) same c.add_lines.ensures.ok

pub returns-clause-err : goal.returns-clause-err
returns-clause-err c =
    let read = c.as_slice-readings.ensures.value ∙ c.in_ok-read.ensures in
    let same : total (nat_lt 0 c.in_ok-version.version) c.args.text.now (name_lookup c.in_ok-names.names) c.args.draft.now c.as_slice-readings.result.now ≡ draft_of c.args.text.now =
    ap (λ (d : Draft). total (nat_lt 0 c.in_ok-version.version) c.args.text.now (name_lookup c.in_ok-names.names) d c.as_slice-readings.result.now) c.requires.empty
    ∙ draft-from c.args.text.now (lines_of c.args.text.now) c.in_ok-version.version c.as_slice-readings.result.now (name_lookup c.in_ok-names.names) refl c.in_ok-version.ensures read c.in_ok-names.ensures in
    subst (λ (v : Result Draft SourceFault). IfErr c.add_lines.result (λ f. f ≢ Memory → v ≡ Err f)) same c.add_lines.ensures.err
