use Rattle.std.proofs.Common.{◌≡◌, true, false, None, Some, Option, IfSome, refl, sym, ap, subst, ◌∙◌}
use Rattle.dn_base.specs.declared.ids.WordId.{WordId}
use Rattle.word_cache.specs.Cache.{may_go}
use Rattle.message_net.specs.declared.event.Event.TheVariants.{Evict}
use Rattle.registration_protocol.specs.Node.{NodeParts, entry_of, need_now}
use Rattle.registration_protocol.specs.OwnEvents.{may_evict, victim_for, wanted_by, me}
use Rattle.registration_protocol.specs.Setting.{setting}
use Rattle.registration_protocol.proofs.OwnLemmas.{without-victim, victim-idles, victim-evicted, victim-stays, not-both}
use Rattle.registration_protocol.proofs.node.Node.eviction.Goals as goal

pub returns-in_err-victim-clause-none : goal.returns-in_err-victim-clause-none
returns-in_err-victim-clause-none c =
    let none : victim_for c.args.self.now (wanted_by c.args.self.now (need_now (setting c.args.context.now) c.args.self.now)) ≡ None =
    ap (victim_for c.args.self.now) (sym c.requires.wanted) ∙ sym c.victim.ensures.value ∙ c.in_err-victim.was in
    ((λ e. without-victim (setting c.args.context.now) c.args.self.now none), (λ all. c.from_residual.ensures))

pub returns-then-is_idle-clause-value : goal.returns-then-is_idle-clause-value
returns-then-is_idle-clause-value c =
    let some : victim_for c.args.self.now (wanted_by c.args.self.now (need_now (setting c.args.context.now) c.args.self.now)) ≡ Some c.in_ok-victim.victim =
    ap (victim_for c.args.self.now) (sym c.requires.wanted) ∙ sym c.victim.ensures.value ∙ c.in_ok-victim.was in
    let may : may_go (entry_of c.args.self.now c.in_ok-victim.victim.0) ≡ true =
    subst (λ (o : Option WordId). IfSome o (λ w. may_go (entry_of c.args.self.now w.0) ≡ true)) c.in_ok-victim.was c.victim.ensures.evictable in
    let idles = victim-idles (setting c.args.context.now) c.args.self.now c.in_ok-victim.victim some may in
    let evicted = victim-evicted (setting c.args.context.now) c.args.self.now c.in_ok-victim.victim true some (idles ∙ sym c.is_idle.ensures ∙ c.if-is_idle.true) in
    ap (λ (n : NodeParts). Some (Evict (me n) c.in_ok-victim.victim)) c.self.view_is ∙ sym evicted

pub returns-then-is_idle-clause-none : goal.returns-then-is_idle-clause-none
returns-then-is_idle-clause-none c =
    let some : victim_for c.args.self.now (wanted_by c.args.self.now (need_now (setting c.args.context.now) c.args.self.now)) ≡ Some c.in_ok-victim.victim =
    ap (victim_for c.args.self.now) (sym c.requires.wanted) ∙ sym c.victim.ensures.value ∙ c.in_ok-victim.was in
    let may : may_go (entry_of c.args.self.now c.in_ok-victim.victim.0) ≡ true =
    subst (λ (o : Option WordId). IfSome o (λ w. may_go (entry_of c.args.self.now w.0) ≡ true)) c.in_ok-victim.was c.victim.ensures.evictable in
    let idles = victim-idles (setting c.args.context.now) c.args.self.now c.in_ok-victim.victim some may in
    let goes : may_evict (setting c.args.context.now) c.args.self.now c.in_ok-victim.victim.0 ≡ true = idles ∙ sym c.is_idle.ensures ∙ c.if-is_idle.true in
    ((λ e. absurd (cc)), (λ all. absurd (not-both _ goes (all c.in_ok-victim.victim.0))))

pub returns-else-is_idle-clause-value : goal.returns-else-is_idle-clause-value
returns-else-is_idle-clause-value c =
    let some : victim_for c.args.self.now (wanted_by c.args.self.now (need_now (setting c.args.context.now) c.args.self.now)) ≡ Some c.in_ok-victim.victim =
    ap (victim_for c.args.self.now) (sym c.requires.wanted) ∙ sym c.victim.ensures.value ∙ c.in_ok-victim.was in
    let may : may_go (entry_of c.args.self.now c.in_ok-victim.victim.0) ≡ true =
    subst (λ (o : Option WordId). IfSome o (λ w. may_go (entry_of c.args.self.now w.0) ≡ true)) c.in_ok-victim.was c.victim.ensures.evictable in
    let idles = victim-idles (setting c.args.context.now) c.args.self.now c.in_ok-victim.victim some may in
    sym (victim-evicted (setting c.args.context.now) c.args.self.now c.in_ok-victim.victim false some (idles ∙ sym c.is_idle.ensures ∙ c.if-is_idle.false))

pub returns-else-is_idle-clause-none : goal.returns-else-is_idle-clause-none
returns-else-is_idle-clause-none c =
    let some : victim_for c.args.self.now (wanted_by c.args.self.now (need_now (setting c.args.context.now) c.args.self.now)) ≡ Some c.in_ok-victim.victim =
    ap (victim_for c.args.self.now) (sym c.requires.wanted) ∙ sym c.victim.ensures.value ∙ c.in_ok-victim.was in
    let may : may_go (entry_of c.args.self.now c.in_ok-victim.victim.0) ≡ true =
    subst (λ (o : Option WordId). IfSome o (λ w. may_go (entry_of c.args.self.now w.0) ≡ true)) c.in_ok-victim.was c.victim.ensures.evictable in
    let idles = victim-idles (setting c.args.context.now) c.args.self.now c.in_ok-victim.victim some may in
    let stays : may_evict (setting c.args.context.now) c.args.self.now c.in_ok-victim.victim.0 ≡ false = idles ∙ sym c.is_idle.ensures ∙ c.if-is_idle.false in
    ((λ e. victim-stays (setting c.args.context.now) c.args.self.now c.in_ok-victim.victim some may stays), (λ all. refl))
