use Rattle.std.proofs.Common.{◌≡◌, ℕ, ◌*◌, ◌≤◌, length, take, get_or}
use Rattle.registration_protocol.specs.Setting.{setting}
use Rattle.host_workers.specs.declared.owned.Owned.{Owned}
use Rattle.host_workers.specs.Work.{KeepsNumber, IsCoreServed, HaveDone}
use Rattle.host_workers.proofs.serving.serve_cores.Given as goal

abbrev pub invariant-loop-place : goal.invariant-loop-place
invariant-loop-place g l = record {
  pass : KeepsNumber l.hall l.fn.pass l.pass;
  long : length l.cores.items ≡ length l.fn.cores.items;
  later : (i : ℕ) (d : Owned) → l.place ≤ i → get_or l.cores.items i d ≡ get_or l.fn.cores.items i d;
  few : l.made ≤ 2 * l.place;
  done : HaveDone (IsCoreServed (setting l.context)) (setting l.context) l.fn.pass l.pass (take l.place l.fn.cores.items) (take l.place l.cores.items) l.made;
}
