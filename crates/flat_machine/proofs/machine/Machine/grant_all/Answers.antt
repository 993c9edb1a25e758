use Rattle.std.proofs.Common.{◌≡◌, ◌+◌, true, false, Ok, List, [], ◌++◌, drop, get_or, Option, Some, sym, ap, ◌∙◌, arith}
use Rattle.std.proofs.lemmas.List.{append-nil, drop_all}
use Rattle.dn_base.specs.declared.ids.Grant.{Grant}
use Rattle.flat_machine.specs.declared.accesses.FlatAction.{FlatAction}
use Rattle.flat_machine.specs.Phases.{Flat}
use Rattle.flat_machine.specs.Accesses.{with_actions, granted_actions, grants_actions}
use Rattle.flat_machine.proofs.ActionLemmas.{with-none, with-more, actions-end, grants-actions-more}
use Rattle.flat_machine.proofs.RunLemmas.{grants-front}
use Rattle.flat_machine.proofs.machine.Machine.grant_all.Goals as goal

pub loop-place-preserved : goal.loop-place-preserved
loop-place-preserved c =
    let taken : c.in_ok-grant.field-0 ≡ true = cc in
    let first : Grant = record { phase = record { 0 = 0 }; core = record { 0 = 0 }; lock = record { 0 = 0 } } in
    let given = c.in_ok-grant.ensures.legal (ap Ok taken) in
    let rest : Option Flat → List FlatAction = λ o. granted_actions c.args.program.now c.args.fuel (get_or c.args.grants.now c.loop-place.place first) c.loop-place.self ++ grants_actions c.args.program.now c.args.fuel o (drop (c.loop-place.place + 1) c.args.grants.now) in
    record {
      front =
          grants-front c.args.program.now c.args.fuel (Some c.args.self.now) c.loop-place.self c.args.grants.now c.loop-place.place first (omega arith) c.loop-place.invariant.front
          ∙ given;
      log =
          with-more c.loop-place.log c.grant.new.log _ _ _ c.in_ok-grant.ensures.log
          (grants-actions-more c.args.program.now c.args.fuel c.loop-place.place c.loop-place.self c.args.grants.now first (omega arith) ∙ ap rest given)
          ∙ c.loop-place.invariant.log;
      sound = c.in_ok-grant.ensures.sound;
    }

pub returns-then-not-branch-clause-log : goal.returns-then-not-branch-clause-log
returns-then-not-branch-clause-log c =
    let P = c.args.program.now in
    let fuel = c.args.fuel in
    let first : Grant = record { phase = record { 0 = 0 }; core = record { 0 = 0 }; lock = record { 0 = 0 } } in
    let refused : c.in_ok-grant.field-0 ≡ false = cc in
    let illegal = c.in_ok-grant.ensures.illegal (ap Ok refused) in
    let left : List Grant = drop (c.loop-place.place + 1) c.args.grants.now in
    let rest : Option Flat → List FlatAction = λ o. granted_actions P fuel (get_or c.args.grants.now c.loop-place.place first) c.loop-place.self ++ grants_actions P fuel o left in
    c.in_ok-grant.ensures.log
    ∙ ap (with_actions c.loop-place.log) (sym (append-nil _))
    ∙ ap (λ (more : List FlatAction). with_actions c.loop-place.log (granted_actions P fuel (get_or c.args.grants.now c.loop-place.place first) c.loop-place.self ++ more)) (sym (actions-end P fuel left))
    ∙ ap (with_actions c.loop-place.log) (ap rest (sym illegal))
    ∙ ap (with_actions c.loop-place.log) (sym (grants-actions-more P fuel c.loop-place.place c.loop-place.self c.args.grants.now first (omega arith)))
    ∙ c.loop-place.invariant.log

pub returns-clause-log : goal.returns-clause-log
returns-clause-log c =
    let none : drop c.loop-place.place c.args.grants.now ≡ [] = drop_all c.loop-place.place c.args.grants.now (omega arith) in
    sym (with-none c.loop-place.log)
    ∙ ap (λ (gs : List Grant). with_actions c.loop-place.log (grants_actions c.args.program.now c.args.fuel (Some c.loop-place.self) gs)) (sym none)
    ∙ c.loop-place.invariant.log
