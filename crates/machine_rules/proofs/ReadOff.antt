-- What is read off the events of a run, and the event that tells an item of it.
use Rattle.std.proofs.Common.{◌≡◌, true, List, [], ◌∷◌, ◌++◌, Option, Some, None, refl, ap, ◌∙◌, sym}
use Rattle.message_net.specs.declared.event.Event.{Event}
use Rattle.machine_rules.specs.State.{State}
use Rattle.machine_rules.specs.Next.{next, enabled}
use Rattle.machine_rules.specs.Runs.{after, IsRun, read_off}

pub read-none : {X : Type 0} (tell : State → Event → Option X) (S : State) (e : Event) (es : List Event) → tell S e ≡ None → read_off tell S (e ∷ es) ≡ read_off tell (next S e) es
read-none tell S e es is = rw (is) refl

pub read-some : {X : Type 0} (tell : State → Event → Option X) (S : State) (e : Event) (es : List Event) (x : X) → tell S e ≡ Some x → read_off tell S (e ∷ es) ≡ x ∷ read_off tell (next S e) es
read-some tell S e es x is = rw (is) refl

-- the events up to the one that tells x, that event, and those after it
pub record IsSplit {X : Type 0} (tell : State → Event → Option X) (S : State) (events : List Event) (before : List X) (x : X) (rest : List X) : Type 0 where
  pub past : List Event
  pub event : Event
  pub later : List Event
  pub is : events ≡ past ++ event ∷ later
  pub front : read_off tell S past ≡ before
  pub told : tell (after S past) event ≡ Some x
  pub back : read_off tell (next (after S past) event) later ≡ rest

list-head : {X : Type 0} (x y : X) (xs ys : List X) → x ∷ xs ≡ y ∷ ys → x ≡ y
list-head x y xs ys e = cc

list-tail : {X : Type 0} (x y : X) (xs ys : List X) → x ∷ xs ≡ y ∷ ys → xs ≡ ys
list-tail x y xs ys e = cc

pub split : {X : Type 0} (tell : State → Event → Option X) (S : State) (events : List Event) (before : List X) (x : X) (rest : List X) → read_off tell S events ≡ before ++ x ∷ rest
    → IsSplit tell S events before x rest
split tell S [] [] x rest is = absurd (cc)
split tell S [] (b ∷ bs) x rest is = absurd (cc)
split {X} tell S (e ∷ es) before x rest is = by_told (tell S e) refl (λ front same. split tell (next S e) es front x rest same) where
  with_quiet : tell S e ≡ None → IsSplit tell (next S e) es before x rest → IsSplit tell S (e ∷ es) before x rest
  with_quiet none s =
      record {
        past = e ∷ s.past;
        event = s.event;
        later = s.later;
        is = ap (λ (l : List Event). e ∷ l) s.is;
        front = read-none tell S e s.past none ∙ s.front;
        told = s.told;
        back = s.back;
      }

  with_told : (y : X) (bs : List X) → tell S e ≡ Some y → before ≡ y ∷ bs → IsSplit tell (next S e) es bs x rest → IsSplit tell S (e ∷ es) before x rest
  with_told y bs told begins s =
      record {
        past = e ∷ s.past;
        event = s.event;
        later = s.later;
        is = ap (λ (l : List Event). e ∷ l) s.is;
        front = read-some tell S e s.past y told ∙ (ap (λ (l : List X). y ∷ l) s.front ∙ sym begins);
        told = s.told;
        back = s.back;
      }

  by_front : (y : X) (bs : List X) → tell S e ≡ Some y → before ≡ bs → y ∷ read_off tell (next S e) es ≡ bs ++ x ∷ rest
      → ((front : List X) → read_off tell (next S e) es ≡ front ++ x ∷ rest → IsSplit tell (next S e) es front x rest) → IsSplit tell S (e ∷ es) before x rest
  by_front y [] told begins is later =
      record {
        past = [];
        event = e;
        later = es;
        is = refl;
        front = sym begins;
        told = told ∙ ap (λ (z : X). Some z) (list-head y x (read_off tell (next S e) es) rest is);
        back = list-tail y x (read_off tell (next S e) es) rest is;
      }
  by_front y (b ∷ bs) told begins is later =
      let same = list-head y b (read_off tell (next S e) es) (bs ++ x ∷ rest) is in
      with_told y bs told (begins ∙ ap (λ (z : X). z ∷ bs) (sym same)) (later bs (list-tail y b (read_off tell (next S e) es) (bs ++ x ∷ rest) is))

  by_told : (o : Option X) → tell S e ≡ o → ((front : List X) → read_off tell (next S e) es ≡ front ++ x ∷ rest → IsSplit tell (next S e) es front x rest) → IsSplit tell S (e ∷ es) before x rest
  by_told None told later = with_quiet told (later before (sym (read-none tell S e es told) ∙ is))
  by_told (Some y) told later = by_front y before told refl (sym (read-some tell S e es y told) ∙ is) later

-- a run, up to an event and from there
pub run-front : (S : State) (past later : List Event) (e : Event) → IsRun S (past ++ e ∷ later) → IsRun S past × (enabled (after S past) e ≡ true) × IsRun (next (after S past) e) later
run-front S [] later e run = (tt, run.0, run.1)
run-front S (f ∷ fs) later e run =
    let rest = run-front (next S f) fs later e run.1 in
    ((run.0, rest.0), rest.1, rest.2)
