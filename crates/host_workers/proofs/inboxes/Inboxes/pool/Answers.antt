use Rattle.std.proofs.Common.{◌++◌, map, sym, ap, ◌∙◌, subst}
use Rattle.message_net.specs.Pool.{AreDistinct}
use Rattle.host_workers.specs.Rounds.{mail_in}
use Rattle.host_workers.specs.Inboxes.{inboxes_of, all_mails_in}
use Rattle.host_workers.proofs.Posting.{distinct-front, all-parts}
use Rattle.host_workers.proofs.inboxes.Inboxes.pool.Goals as goal

pub post_each-requires-clause-distinct : goal.post_each-requires-clause-distinct
post_each-requires-clause-distinct c =
    let all = inboxes_of c.args.self.now in
    let whole = subst AreDistinct (all-parts all) c.requires.distinct in
    let cores = distinct-front (all_mails_in all.cores) (all_mails_in all.banks) (distinct-front (all_mails_in all.cores ++ all_mails_in all.banks) (map mail_in all.keeper) whole) in
    let is = ap (λ l. l ++ all_mails_in (map (λ v. v.items) c.as_slice.result.now)) c.new-pool.ensures.mails ∙ ap (λ l. all_mails_in (map (λ v. v.items) l)) c.as_slice.ensures.value in
    subst AreDistinct (sym is) cores

pub post_each-requires-2-clause-distinct : goal.post_each-requires-2-clause-distinct
post_each-requires-2-clause-distinct c =
    let all = inboxes_of c.args.self.now in
    let whole = subst AreDistinct (all-parts all) c.requires.distinct in
    let banks = distinct-front (all_mails_in all.cores ++ all_mails_in all.banks) (map mail_in all.keeper) whole in
    let cores-are = ap (λ l. l ++ all_mails_in (map (λ v. v.items) c.as_slice.result.now)) c.new-pool.ensures.mails ∙ ap (λ l. all_mails_in (map (λ v. v.items) l)) c.as_slice.ensures.value in
    let is = ap (λ l. l ++ all_mails_in (map (λ v. v.items) c.as_slice-2.result.now)) (c.in_ok-post_each.ensures ∙ cores-are) ∙ ap (λ l. all_mails_in all.cores ++ all_mails_in (map (λ v. v.items) l)) c.as_slice-2.ensures.value in
    subst AreDistinct (sym is) banks

pub post_all-requires-clause-distinct : goal.post_all-requires-clause-distinct
post_all-requires-clause-distinct c =
    let all = inboxes_of c.args.self.now in
    let whole = subst AreDistinct (all-parts all) c.requires.distinct in
    let cores-are = ap (λ l. l ++ all_mails_in (map (λ v. v.items) c.as_slice.result.now)) c.new-pool.ensures.mails ∙ ap (λ l. all_mails_in (map (λ v. v.items) l)) c.as_slice.ensures.value in
    let banks-are = ap (λ l. l ++ all_mails_in (map (λ v. v.items) c.as_slice-2.result.now)) (c.in_ok-post_each.ensures ∙ cores-are) ∙ ap (λ l. all_mails_in all.cores ++ all_mails_in (map (λ v. v.items) l)) c.as_slice-2.ensures.value in
    let is = ap (λ l. l ++ map mail_in c.as_slice-3.result.now) (c.in_ok-post_each-2.ensures ∙ banks-are) ∙ ap (λ l. (all_mails_in all.cores ++ all_mails_in all.banks) ++ map mail_in l) c.as_slice-3.ensures.value in
    subst AreDistinct (sym is) whole
