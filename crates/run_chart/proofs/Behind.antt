-- What stands behind the rows, one mail and one task at a time.
use Rattle.std.proofs.Common.{◌≡◌, ℕ, ◌+◌, ◌<◌, List, [], ◌∷◌, ◌++◌, length, get_or, slice_get, drop, Option, Some, None, sym, ap, ◌∙◌, append_assoc}
use Rattle.std.proofs.lemmas.List.{at_drop_more}
use Rattle.std.proofs.lemmas.Option.{get_or_from_slice_get, slice_get_within}
use Rattle.dn_base.specs.declared.ids.LockId.{LockId}
use Rattle.message_net.specs.declared.message.Mail.{Mail}
use Rattle.registration_protocol.specs.Node.{NodeParts}
use Rattle.run_chart.specs.declared.parts.LeavingMail.{LeavingMail}
use Rattle.run_chart.specs.declared.parts.WaitingTask.{WaitingTask}
use Rattle.run_chart.specs.declared.mails.SentMail.{SentMail}
use Rattle.run_chart.specs.Finishing.{leaving_mail, leaving_by, leaving_from, lock_wanted, waiting_by, waiting_from}

-- what is added to some items, before others
added : {X : Type 0} (out out' rest : List X) (x : X) (whole : List X) → out' ≡ out ++ x ∷ [] → out ++ x ∷ rest ≡ whole → out' ++ rest ≡ whole
added out out' rest x whole pushed so_far = rw pushed (append_assoc out (x ∷ []) rest ∙ so_far)

module _ (sent : List SentMail) (mails : List Mail) (i line : ℕ) (m : Mail) (d : SentMail) where
  leaving-next : i < length sent → slice_get mails i ≡ Some m
      → leaving_from line (drop i sent) (drop i mails) ≡ leaving_by line (get_or sent i d).line m (λ next. leaving_from next (drop (i + 1) sent) (drop (i + 1) mails))
  leaving-next within here =
      let item : get_or mails i m ≡ m = get_or_from_slice_get mails i m m here in
      at_drop_more (λ (l : List SentMail). leaving_from line l (drop i mails)) sent i d within
      ∙ at_drop_more (λ (l : List Mail). leaving_from line (get_or sent i d ∷ drop (i + 1) sent) l) mails i m (slice_get_within mails i m here)
      ∙ ap (λ (x : Mail). leaving_by line (get_or sent i d).line x (λ next. leaving_from next (drop (i + 1) sent) (drop (i + 1) mails))) item

  pub leaving-skipped : (out whole : List LeavingMail) → i < length sent → slice_get mails i ≡ Some m → (get_or sent i d).line ≡ None → out ++ leaving_from line (drop i sent) (drop i mails) ≡ whole
      → out ++ leaving_from line (drop (i + 1) sent) (drop (i + 1) mails) ≡ whole
  leaving-skipped out whole within here none so_far =
      let step = leaving-next within here ∙ ap (λ (o : Option ℕ). leaving_by line o m (λ next. leaving_from next (drop (i + 1) sent) (drop (i + 1) mails))) none in
      ap (λ (l : List LeavingMail). out ++ l) (sym step) ∙ so_far

  pub leaving-added : (out out' whole : List LeavingMail) (k : ℕ) (x : LeavingMail) → i < length sent → slice_get mails i ≡ Some m → (get_or sent i d).line ≡ Some k → x ≡ leaving_mail m k line → out' ≡ out ++ x ∷ []
      → out ++ leaving_from line (drop i sent) (drop i mails) ≡ whole → out' ++ leaving_from (line + 1) (drop (i + 1) sent) (drop (i + 1) mails) ≡ whole
  leaving-added out out' whole k x within here some is pushed so_far =
      let rest = leaving_from (line + 1) (drop (i + 1) sent) (drop (i + 1) mails) in
      let step : leaving_from line (drop i sent) (drop i mails) ≡ x ∷ rest =
      leaving-next within here
      ∙ ap (λ (o : Option ℕ). leaving_by line o m (λ next. leaving_from next (drop (i + 1) sent) (drop (i + 1) mails))) some
      ∙ ap (λ (y : LeavingMail). y ∷ rest) (sym is)
      in
      added out out' rest x whole pushed (ap (λ (l : List LeavingMail). out ++ l) (sym step) ∙ so_far)

module _ (nodes : List NodeParts) (i line : ℕ) (n : NodeParts) where
  waiting-next : slice_get nodes i ≡ Some n → waiting_from line (drop i nodes) ≡ waiting_by line n (lock_wanted n.waiting) (λ next. waiting_from next (drop (i + 1) nodes))
  waiting-next here =
      let item : get_or nodes i n ≡ n = get_or_from_slice_get nodes i n n here in
      at_drop_more (λ (l : List NodeParts). waiting_from line l) nodes i n (slice_get_within nodes i n here)
      ∙ ap (λ (x : NodeParts). waiting_by line x (lock_wanted x.waiting) (λ next. waiting_from next (drop (i + 1) nodes))) item

  pub waiting-skipped : (out whole : List WaitingTask) → slice_get nodes i ≡ Some n → lock_wanted n.waiting ≡ None → out ++ waiting_from line (drop i nodes) ≡ whole
      → out ++ waiting_from line (drop (i + 1) nodes) ≡ whole
  waiting-skipped out whole here none so_far =
      let step = waiting-next here ∙ ap (λ (o : Option LockId). waiting_by line n o (λ next. waiting_from next (drop (i + 1) nodes))) none in
      ap (λ (l : List WaitingTask). out ++ l) (sym step) ∙ so_far

  pub waiting-added : (out out' whole : List WaitingTask) (lock : LockId) (x : WaitingTask) → slice_get nodes i ≡ Some n → lock_wanted n.waiting ≡ Some lock
      → x ≡ record { core = record { 0 = n.core }; lock = lock; line = line } → out' ≡ out ++ x ∷ [] → out ++ waiting_from line (drop i nodes) ≡ whole
      → out' ++ waiting_from (line + 1) (drop (i + 1) nodes) ≡ whole
  waiting-added out out' whole lock x here some is pushed so_far =
      let rest = waiting_from (line + 1) (drop (i + 1) nodes) in
      let step : waiting_from line (drop i nodes) ≡ x ∷ rest =
      waiting-next here
      ∙ ap (λ (o : Option LockId). waiting_by line n o (λ next. waiting_from next (drop (i + 1) nodes))) some
      ∙ ap (λ (y : WaitingTask). y ∷ rest) (sym is)
      in
      added out out' rest x whole pushed (ap (λ (l : List WaitingTask). out ++ l) (sym step) ∙ so_far)
