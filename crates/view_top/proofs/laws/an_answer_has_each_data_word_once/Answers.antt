use Rattle.view_top.proofs.ForReaders.{each-once, each-stands}
use Rattle.view_top.proofs.laws.an_answer_has_each_data_word_once.Goals as goal

pub returns-clause-once : goal.returns-clause-once
returns-clause-once c = each-once

pub returns-clause-place : goal.returns-clause-place
returns-clause-place c = λ t r P word value is told. each-stands t r P is told word value
