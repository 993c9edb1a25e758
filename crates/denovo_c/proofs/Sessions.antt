-- The events that calls of one handle have made lead from the machine that was opened to the one behind the handle.
use Rattle.std.proofs.Common.{◌≡◌, inl, inr, ℕ, ℤ, pos, List, [], ◌∷◌, Option, Some, None, refl, sym, ap, subst, ◌∙◌}
use Rattle.std.specs.List.{cons_option}
use Rattle.std.proofs.lemmas.List.{nil_from_length, length-map}
use Rattle.message_net.specs.declared.event.Event.{Event}
use Rattle.machine_rules.specs.State.{initial_state}
use Rattle.machine_rules.specs.Runs.{IsCompleteRun}
use Rattle.dn_machine.specs.Kept.{Made}
use Rattle.run_report.specs.Texts.{IsStop, IsUnfit}
use Rattle.run_report.specs.declared.programs.Stop.{Stop}
use Rattle.run_report.specs.declared.programs.Stop as stop
use Rattle.state_text.specs.Coming.{enabled_events}
use Rattle.state_text.specs.Stepping.{HasMadeEvent, HasMadeEvents}
use Rattle.state_text.proofs.StepByStep.{from-opened, none-left}
use Rattle.denovo_c.specs.declared.codes.EventCode.{EventCode}
use Rattle.denovo_c.specs.declared.steps.Sizes.{Sizes}
use Rattle.denovo_c.specs.declared.steps.StepResult.{StepResult}
use Rattle.denovo_c.specs.declared.steps.Unopened.{Unopened}
use Rattle.denovo_c.specs.declared.steps.Unopened as unopened
use Rattle.denovo_c.specs.declared.steps.StepResult as stepped
use Rattle.denovo_c.specs.Codes.{coded_event, event_code}
use Rattle.denovo_c.specs.Sessions.{StepCall, AreStepCalls, IsHandleInRun, event_if_made, event_of_call, events_made}
use Rattle.denovo_c.specs.Steps.{FitsSizes, IsOpened, IsUnopened, IsCodeTried, result_code, why_code, why_stopped}
use Rattle.denovo_c.specs.StepCalls.{IsListCall, IsOpenCall, IsStepCall}

-- ---- why there is no machine

pub stopped : (text : List ℕ) (sizes : Sizes) (why : Stop) → FitsSizes sizes → IsStop (IsUnfit text) why → IsUnopened text sizes (why_stopped why)
stopped text sizes (stop.TheVariants.Refused line) fits unfit = (line, unfit)
stopped text sizes stop.TheVariants.Memory fits unfit = fits

-- ---- the events of a list of calls

abbrev Leads : Made → List StepCall → Option Made → Type 0
Leads m calls last = (n : Made) × (last ≡ Some n) × HasMadeEvents m (events_made calls) n

-- which event a call with this result has made
told-by : (call : StepCall) (result : StepResult) → call.result ≡ result_code result → event_of_call call ≡ event_if_made (coded_event call.code) (result_code result)
told-by call result is = ap (λ (code : ℤ). event_if_made (coded_event call.code) code) is

-- a call that made its event, in front of others
made-first : (call : StepCall) (calls : List StepCall) (e : Event) (m k : Made) (last : Option Made) → event_of_call call ≡ Some e → HasMadeEvent m k e → Leads k calls last → Leads m (call ∷ calls) last
made-first call calls e m k last told made leads =
    let first : events_made (call ∷ calls) ≡ e ∷ events_made calls = ap (λ (event : Option Event). cons_option event (events_made calls)) told in
    (leads.0, leads.1, subst (λ (events : List Event). HasMadeEvents m events leads.0) (sym first) (k, made, leads.2))

-- a call that made none, in front of others
made-nothing : (call : StepCall) (calls : List StepCall) (m : Made) (last : Option Made) → event_of_call call ≡ None → Leads m calls last → Leads m (call ∷ calls) last
made-nothing call calls m last told leads =
    let same : events_made (call ∷ calls) ≡ events_made calls = ap (λ (event : Option Event). cons_option event (events_made calls)) told in
    (leads.0, leads.1, subst (λ (events : List Event). HasMadeEvents m events leads.0) (sym same) leads.2)

-- what a call has made leads on
one-call : (call : StepCall) (calls : List StepCall) (m k : Made) (result : StepResult) (last : Option Made) → call.result ≡ result_code result → IsCodeTried m k call.code result → Leads k calls last
    → Leads m (call ∷ calls) last
one-call call calls m k stepped.TheVariants.Made last is tried leads =
    made-first call calls tried.0 m k last (told-by call stepped.TheVariants.Made is ∙ tried.1) tried.2 leads
one-call call calls m k stepped.TheVariants.Usage last is tried leads =
    made-nothing call calls m last (told-by call stepped.TheVariants.Usage is) (subst (λ (from : Made). Leads from calls last) tried.1 leads)
one-call call calls m k stepped.TheVariants.Disabled last is tried leads =
    made-nothing call calls m last (told-by call stepped.TheVariants.Disabled is) (subst (λ (from : Made). Leads from calls last) tried.3 leads)
one-call call calls m k stepped.TheVariants.Memory last is tried leads =
    made-nothing call calls m last (told-by call stepped.TheVariants.Memory is) (subst (λ (from : Made). Leads from calls last) tried.4 leads)

calls-lead : (calls : List StepCall) (m : Made) (last : Option Made) → AreStepCalls (Some m) calls last → Leads m calls last
calls-lead [] m last are = (m, are, refl)
calls-lead (call ∷ calls) m last are =
    let called : IsStepCall (Some m) are.0 call.code call.result = are.1 in
    let rest : AreStepCalls (Some called.0) calls last = subst (λ (from : Option Made). AreStepCalls from calls last) called.1 are.2 in
    one-call call calls m called.0 called.2 last called.3 called.4 (calls-lead calls called.0 last rest)

-- ---- a run behind a handle

opened-runs : (text : List ℕ) (sizes : Sizes) (calls : List StepCall) (first : Made) (last : Option Made) → IsOpened text sizes first → AreStepCalls (Some first) calls last
    → IsHandleInRun text sizes (events_made calls) last
opened-runs text sizes calls first last opened are =
    let leads : Leads first calls last = calls-lead calls first last are in
    record {
      first = first;
      opened = opened;
      machine = leads.0;
      behind = leads.1;
      run = from-opened first.state.setting (events_made calls) first leads.0 opened.ready opened.initial.holds.state opened.initial.holds.made leads.2;
    }

pub handle-runs : (text : List ℕ) (sizes : Sizes) (calls : List StepCall) (opened last : Option Made) → IsOpenCall text sizes opened (pos 0) → AreStepCalls opened calls last
    → IsHandleInRun text sizes (events_made calls) last
handle-runs text sizes calls (Some first) last opens are = opened-runs text sizes calls first last opens.1 are
handle-runs text sizes calls None last opens are = absurd (no-machine opens.0 opens.1) where
  no-machine : (why : Unopened) → pos 0 ≡ why_code why → ⊥
  no-machine unopened.TheVariants.Usage is = cc
  no-machine unopened.TheVariants.Refused is = cc
  no-machine unopened.TheVariants.Memory is = cc

-- where nothing is listed, nothing is enabled
listed-none : (m : Made) (before after : List EventCode) → IsListCall (Some m) before after 0 (pos 0) → enabled_events m.state ≡ []
listed-none m before after (inl listed) =
    nil_from_length (enabled_events m.state) (sym (length-map (enabled_events m.state) event_code) ∙ sym listed.2)
listed-none m before after (inr starved) = let never : pos 0 ≡ pos 8 = starved.0 in absurd cc

pub handle-ends : (text : List ℕ) (sizes : Sizes) (events : List Event) (last : Option Made) (before after : List EventCode) (has : IsHandleInRun text sizes events last)
    → IsListCall last before after 0 (pos 0) → IsCompleteRun (initial_state has.first.state.setting) events
handle-ends text sizes events last before after has list =
    none-left has.first.state.setting events has.machine has.opened.ready has.run
    (listed-none has.machine before after (subst (λ (behind : Option Made). IsListCall behind before after 0 (pos 0)) has.behind list))
