use Rattle.std.proofs.Common.{◌≡◌, ℕ, ◌≤◌, length, take, get_or}
use Rattle.registration_protocol.specs.Setting.{setting}
use Rattle.host_workers.specs.declared.crew.BankLog.{BankLog}
use Rattle.host_workers.specs.Work.{KeepsNumber, IsStepped, HaveDone}
use Rattle.host_workers.proofs.stepping.step_banks.Given as goal

abbrev pub invariant-loop-place : goal.invariant-loop-place
invariant-loop-place g l = record {
  pass : KeepsNumber l.hall l.fn.pass l.pass;
  long : length l.banks.items ≡ length l.fn.banks.items;
  later : (i : ℕ) (d : BankLog) → l.place ≤ i → get_or l.banks.items i d ≡ get_or l.fn.banks.items i d;
  few : l.made ≤ l.place;
  done : HaveDone (IsStepped (setting l.context)) (setting l.context) l.fn.pass l.pass (take l.place l.fn.banks.items) (take l.place l.banks.items) l.made;
}
