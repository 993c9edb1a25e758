use Rattle.std.proofs.Common.{refl, ◌∙◌}
use Rattle.view_top.proofs.documents.kept_trace.Goals as goal

pub returns-clause-kept : goal.returns-clause-kept
returns-clause-kept c =
    record { told = c.in_ok-run.ensures.told; printable = c.in_ok-run.ensures.printable; is = rw (c.in_ok-text.ensures ∙ c.as_slice.ensures) refl }
