-- The rule of a turn, which holds between any two steps.
-- Word 0 counts the tickets drawn and word 1 the turns passed on, modulo 2^64. The slot holds the object with its history.
-- A call names its pass by `by`, and `Good x log y` says that the slot's value y is the object that began as x, with this history.
use Rattle.std.specs.Prelude.{◌≡◌, ◌≢◌, ℕ, ◌+◌, ◌%◌, ◌^◌, ◌<◌, ◌≤◌, ◌⊎◌, ◌==◌, List, [], ◌∷◌, length, filter, sum_by, All, Some, slice_index}
use mathlib.Core.Option.{Option, some, none}
use lib.ListN.{get_elem?}
use Rattle.atomic_table.specs.Table.{State}
use Rattle.turn_lock.specs.declared.view.Claim.{Claim}
use Rattle.turn_lock.specs.declared.view.Stage.{Stage}
use Rattle.turn_lock.specs.declared.view.Stage.TheVariants.{Idle, Waiting, Inside, Gone}
use Rattle.turn_lock.specs.declared.view.View.{View}
use Rattle.turn_lock.specs.History.{BeginsWith}
use Rattle.turn_lock.specs.Standing.{ticket, in_line, weight}

-- A claim of a seat: its number is that seat's, what it has seen is a beginning of the history, and its own calls are all that the history has of it
pub record IsClaim {E : Type 0} (by : E → ℕ) (owners : List ℕ) (log : List E) (seat : ℕ) (c : Claim E) : Type 0 where
  pub owner : get_elem? owners c.number ≡ some seat
  pub seen : BeginsWith log c.seen
  pub mine : filter (λ e. by e == c.number) log ≡ c.mine

-- A live seat. Pass 0's seat deals out the numbers that are still free
pub record Lives {X E : Type 0} (by : E → ℕ) (x : X) (passes : ℕ) (owners : List ℕ) (log : List E) (seat : ℕ) (v : View X E) : Type 0 where
  pub opening : v.opening ≡ Some x
  pub own : IsClaim by owners log seat v.own
  pub joined : All (IsClaim by owners log seat) v.joined
  pub deals : 0 < v.spare → (v.own.number ≡ 0) × (v.next ≡ length owners) × (length owners + v.spare ≡ passes)

-- A seat that waits stands in line at its ticket. One that is served is the first, knows the whole history, and has the slot
abbrev pub StandsInLine : {S E : Type 0} → ℕ → List ℕ → List E → List (Option S) → ℕ → Stage E → Type 0
StandsInLine served line log homes seat Idle = Unit {0}
StandsInLine served line log homes seat (Waiting t) = (i : ℕ) × (get_elem? line i ≡ some seat) × (t ≡ (served + i) % 2 ^ 64)
StandsInLine served line log homes seat (Inside t known) = (get_elem? line 0 ≡ some seat) × (t ≡ served) × (known ≡ log) × (homes ≡ none ∷ [])
StandsInLine served line log homes seat Gone = Unit {0}

abbrev pub HasTicket : {X E : Type 0} → List (View X E) → ℕ → ℕ → Type 0
HasTicket {X} {E} views seat t = (v : View X E) × (get_elem? views seat ≡ some v) × (ticket v.stage ≡ some t)

-- the slot is out with the seat that is being served
abbrev pub IsOut : {X E : Type 0} → List ℕ → List E → List (View X E) → Type 0
IsOut {X} {E} line log views =
    (seat : ℕ) × (v : View X E) × (t : ℕ) × (get_elem? line 0 ≡ some seat) × (get_elem? views seat ≡ some v) × (v.stage ≡ Inside t log)

-- this whole history is what one of a seat's claims has seen
abbrev pub HasSeen : {X E : Type 0} → List E → View X E → Type 0
HasSeen {X} {E} log v = (place : ℕ) × (c : Claim E) × (get_elem? (v.own ∷ v.joined) place ≡ some c) × (c.seen ≡ log)

-- Some pass has seen this whole history, by a claim of a live seat
pub record IsSeen {X E : Type 0} (log : List E) (views : List (View X E)) : Type 0 where
  pub seat : ℕ
  pub view : View X E
  pub here : get_elem? views seat ≡ some view
  pub lives : view.stage ≢ Gone
  pub seen : HasSeen log view

pub record Turns {S X E : Type 0} (by : E → ℕ) (Good : X → List E → S → Type 0) (x : X) (passes drawn served : ℕ) (homes : List (Option S)) (views : List (View X E)) : Type 0 where
  -- the longest history, the seats with a ticket in the order of their tickets, and the seat of each number given
  pub log : List E
  pub line : List ℕ
  pub owners : List ℕ
  pub few : passes ≤ 17
  pub given : length owners ≤ passes
  -- there are as many tickets between the two words as seats in line, and their tickets are the numbers from word 1 on
  pub tickets : drawn ≡ (served + length line) % 2 ^ 64
  pub waiting : sum_by (λ v. in_line v.stage) views ≡ length line
  pub lined : (i seat : ℕ) → get_elem? line i ≡ some seat → HasTicket views seat ((served + i) % 2 ^ 64)
  -- the object is at home, or with the seat that is being served
  pub slot : ((y : S) × (homes ≡ some y ∷ []) × Good x log y) ⊎ ((homes ≡ none ∷ []) × IsOut line log views)
  -- a seat is live, or it was taken in by another
  pub seats : (seat : ℕ) (v : View X E) → get_elem? views seat ≡ some v → (v.stage ≡ Gone) ⊎ (Lives by x passes owners log seat v × StandsInLine served line log homes seat v.stage)
  -- no history is longer than what some pass has seen
  pub longest : IsSeen log views
  -- each call is of a number that was given, and the live seats stand for all passes
  pub named : All (λ e. by e < length owners) log
  pub parts : sum_by weight views ≡ passes

pub record Kept {S X E : Type 0} (by : E → ℕ) (Good : X → List E → S → Type 0) (x : X) (passes : ℕ) (s : State S (View X E)) : Type 0 where
  pub words : length s.words ≡ 2
  pub turns : Turns by Good x passes (slice_index s.words 0) (slice_index s.words 1) s.homes s.views
