use Rattle.std.proofs.Common.{rules, refl, sym}
use Rattle.src_text.specs.Register.{register_rows}
use Rattle.src_text.specs.RegisterName.{rows_ending_in}
use Rattle.src_text.proofs.NameLemmas.{none-other}
use Rattle.src_text.proofs.registers.names_ending_in.Goals as goal

pub returns-in-48 : goal.returns-in-48
unfolding register_rows rows_ending_in
returns-in-48 c = rw c.in-48.is refl

pub returns-in-49 : goal.returns-in-49
unfolding register_rows rows_ending_in
returns-in-49 c = rw c.in-49.is refl

pub returns-in-50 : goal.returns-in-50
unfolding register_rows rows_ending_in
returns-in-50 c = rw c.in-50.is refl

pub returns-in-51 : goal.returns-in-51
unfolding register_rows rows_ending_in
returns-in-51 c = rw c.in-51.is refl

pub returns-in-52 : goal.returns-in-52
unfolding register_rows rows_ending_in
returns-in-52 c = rw c.in-52.is refl

pub returns-in-53 : goal.returns-in-53
unfolding register_rows rows_ending_in
returns-in-53 c = rw c.in-53.is refl

pub returns-in-54 : goal.returns-in-54
unfolding register_rows rows_ending_in
returns-in-54 c = rw c.in-54.is refl

pub returns-in-55 : goal.returns-in-55
unfolding register_rows rows_ending_in
returns-in-55 c = rw c.in-55.is refl

pub returns-in-56 : goal.returns-in-56
unfolding register_rows rows_ending_in
returns-in-56 c = rw c.in-56.is refl

pub returns-in-57 : goal.returns-in-57
unfolding register_rows rows_ending_in
returns-in-57 c = rw c.in-57.is refl

pub returns-in-97 : goal.returns-in-97
unfolding register_rows rows_ending_in
returns-in-97 c = rw c.in-97.is refl

pub returns-in-111 : goal.returns-in-111
unfolding register_rows rows_ending_in
returns-in-111 c = rw c.in-111.is refl

pub returns-in-112 : goal.returns-in-112
unfolding register_rows rows_ending_in
returns-in-112 c = rw c.in-112.is refl

pub returns-in_default : goal.returns-in_default
returns-in_default c = sym (none-other c.args.last (search rules))
