-- What a pass of a worker leaves for which there was no room, by where it ended.
use Rattle.std.proofs.Common.{◌≡◌, ℕ, ◌+◌, List, [], ◌++◌, refl, sym, ap, ◌∙◌, subst}
use Rattle.std.proofs.lemmas.List.{append-nil}
use Rattle.registration_protocol.specs.Node.{Setting}
use Rattle.bank_hall.specs.Halls.{PassView, pass_number}
use Rattle.host_workers.specs.Acts.{Act}
use Rattle.host_workers.specs.declared.crew.BankLog.{BankLog}
use Rattle.host_workers.specs.declared.crew.Crew.{Crew}
use Rattle.host_workers.specs.declared.owned.Owned.{Owned}
use Rattle.host_workers.specs.Crews.{keeper_log, IsCrew}
use Rattle.host_workers.specs.Work.{HasStopped, IsMoved, IsCoreServed, IsNotedBank, IsStepped, IsNotedIf, HaveDone, HasDonePartly, HaveDonePartly, Each, in_one_list}
use Rattle.host_workers.specs.Pass.{HasWorkedPartly}
use Rattle.host_workers.proofs.Calls.{acted-both, stopped-after}
use Rattle.host_workers.proofs.Served.{no_acts, joined-none, each-still, each-weaker}
use Rattle.host_workers.proofs.Turning.{notes-not, noted-if-none}
use Rattle.host_workers.proofs.Crewed.{partly, crew-kept}

-- the pass, and its crew is one still
abbrev pub Parted : Setting → PassView → PassView → Crew → Crew → Type 0
Parted C a d had has = HasWorkedPartly C a d had has × IsCrew C has

module _ (C : Setting) (had has : Crew) (crew : IsCrew C had) (worker : has.worker ≡ had.worker) where
  moves-same : (o p : Owned) (acts : List Act) → IsMoved C o p acts → IsMoved C o p acts
  moves-same o p acts m = m

  notes-same : (b d : BankLog) (acts : List Act) → IsNotedBank C b d acts → IsNotedBank C b d acts
  notes-same b d acts n = n

  served-moves : (o p : Owned) (acts : List Act) → IsCoreServed C o p acts → IsMoved C o p acts
  served-moves o p acts s = s.moves

  stepped-notes : (b d : BankLog) (acts : List Act) → IsStepped C b d acts → IsNotedBank C b d acts
  stepped-notes b d acts s = s.notes

  banks-still : (banks : List BankLog) → Each (IsNotedBank C) banks banks (no_acts banks)
  banks-still banks = each-still (IsNotedBank C) banks (λ k d within. notes-not C _ _ refl refl)

  by-parts : (a d : PassView) (cores banks : List (List Act)) (keeper : List Act) → Each (IsMoved C) had.cores.items has.cores.items cores → Each (IsNotedBank C) had.banks.items has.banks.items banks
      → IsNotedIf C (keeper_log had) (keeper_log has) keeper → HasStopped C a d ((in_one_list cores ++ in_one_list banks) ++ keeper) → Parted C a d had has
  by-parts a d cores banks keeper served stepped noted stopped = (
    partly C (IsMoved C) (IsNotedBank C) moves-same notes-same had has crew cores banks keeper served stepped noted a d worker stopped,
    crew-kept C (IsMoved C) (IsNotedBank C) moves-same notes-same had has crew cores banks keeper served stepped noted,
  )

  -- while the cores had their turns
  pub at-cores : (a d : PassView) → HaveDonePartly (IsMoved C) C a d had.cores.items has.cores.items → has.banks ≡ had.banks → has.keeper ≡ had.keeper → Parted C a d had has
  at-cores a d served banks keeper =
      let none = had.banks.items in
      let all : in_one_list served.parts ≡ (in_one_list served.parts ++ in_one_list (no_acts none)) ++ [] = sym (append-nil (in_one_list served.parts ++ in_one_list (no_acts none)) ∙ (ap (λ l. in_one_list served.parts ++ l) (joined-none none) ∙ append-nil (in_one_list served.parts))) in
      by-parts a d served.parts (no_acts none) [] served.each
      (subst (λ bs. Each (IsNotedBank C) none bs.items (no_acts none)) (sym banks) (banks-still none))
      (subst (λ k. IsNotedIf C (keeper_log had) (keeper_log (record had { keeper = k })) []) (sym keeper) (noted-if-none C (keeper_log had)))
      (subst (HasStopped C a d) all served.stopped)

  -- while the banks made their steps
  pub at-banks : (a b d : PassView) (m : ℕ) → HaveDone (IsCoreServed C) C a b had.cores.items has.cores.items m → pass_number b ≡ pass_number a
      → HaveDonePartly (IsNotedBank C) C b d had.banks.items has.banks.items → has.keeper ≡ had.keeper → Parted C a d had has
  at-banks a b d m served same stepped keeper =
      by-parts a d served.parts stepped.parts [] (each-weaker (IsCoreServed C) (IsMoved C) served-moves had.cores.items has.cores.items served.parts served.each) stepped.each
      (subst (λ k. IsNotedIf C (keeper_log had) (keeper_log (record had { keeper = k })) []) (sym keeper) (noted-if-none C (keeper_log had)))
      (subst (HasStopped C a d) (sym (append-nil (in_one_list served.parts ++ in_one_list stepped.parts))) (stopped-after C a b d (in_one_list served.parts) (in_one_list stepped.parts) m served.acted same stepped.stopped))

  -- while the keeper made its step
  pub at-keeper : (a b c d : PassView) (m n : ℕ) → HaveDone (IsCoreServed C) C a b had.cores.items has.cores.items m → pass_number b ≡ pass_number a
      → HaveDone (IsStepped C) C b c had.banks.items has.banks.items n → pass_number c ≡ pass_number b
      → HasDonePartly (IsNotedIf C) C c d (keeper_log had) (keeper_log has) → Parted C a d had has
  at-keeper a b c d m n served same-b stepped same-c kept =
      by-parts a d served.parts stepped.parts kept.acts (each-weaker (IsCoreServed C) (IsMoved C) served-moves had.cores.items has.cores.items served.parts served.each)
      (each-weaker (IsStepped C) (IsNotedBank C) stepped-notes had.banks.items has.banks.items stepped.parts stepped.each) kept.does
      (stopped-after C a c d (in_one_list served.parts ++ in_one_list stepped.parts) kept.acts (m + n) (acted-both C a b c (in_one_list served.parts) (in_one_list stepped.parts) m n served.acted same-b stepped.acted) (same-c ∙ same-b) kept.stopped)
