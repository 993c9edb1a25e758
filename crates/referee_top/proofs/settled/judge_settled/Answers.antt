use Rattle.std.proofs.Common.{◌≡◌, ◌+◌, ◌∙◌, ap, List, ℕ}
use Rattle.claims.specs.declared.verdict.Verdict.{Verdict}
use Rattle.referee_top.specs.Settled.{behind_prefix, settled_verdict, words_verdict}
use Rattle.referee_top.proofs.SettledLemmas.{some-verdict}
use Rattle.referee_top.proofs.Told.{ok-by}
use Rattle.referee_top.proofs.settled.judge_settled.Goals as goal

pub returns-in-Some : goal.returns-in-Some
returns-in-Some c =
    ok-by c.judge_words.result (λ (v : Verdict). v ≡ words_verdict (c.len.result + 2) 0 c.as_slice.result.now c.in-Some.rest.now) (λ (v : Verdict). v ≡ settled_verdict c.args.common.now c.args.claimed.now)
    c.judge_words.ensures
    (λ (v : Verdict) is.
    is ∙ some-verdict c.args.common.now c.args.claimed.now c.in_ok-front.front.items c.in-Some.rest.now (c.len.result + 2) c.as_slice.result.now c.in_ok-front.ensures (c.in-Some.ensures ∙ ap (λ (f : List ℕ). behind_prefix f c.args.claimed.now) c.deref.ensures.value) (ap (λ (n : ℕ). n + 2) c.len.ensures) c.as_slice.ensures)
