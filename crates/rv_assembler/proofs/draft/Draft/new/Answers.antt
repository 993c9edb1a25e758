use Rattle.rv_assembler.proofs.draft.Draft.new.Goals as goal

pub returns : goal.returns
returns c = cc
