-- The stage machine of the list reader: how a label's end is told, and that every stage keeps room in the arrays. Assumes nothing.
use Prim.Native.Nat.{ℕ, ◌+◌, ◌*◌, ◌≤◌, ◌<◌}
use native.Mathlib.Omega.{arith}
use mathlib.Core.Path.{◌≡◌, refl, ap, sym}
use mathlib.Core.Bool.{Bool, true, false, cond}
use mathlib.Core.List.{List, [], ◌∷◌}
use lib.Dec.{eqb, ltb}
use lib.ListN.{set}
use borrow.Author.Tests.{ltb-true}
use Rattle.std.specs.Prelude.{Result, Ok, Err}
use Rattle.trees.specs.declared.Kind.{Kind}
use Rattle.trees.specs.declared.Kind.TheVariants.{Label as LabelByte, Open, Close, Comma, Semicolon, Quote, Blank, Other}
use Rattle.trees.specs.declared.Reason.{Reason}
use Rattle.trees.specs.declared.Reason.TheVariants.{BadByte, LabelTooLong, TooMany, Repeated}
use Rattle.trees.specs.declared.Body.{Body}
use Rattle.trees.specs.declared.Refusal.{Refusal}
use Rattle.trees.specs.Bytes.{kind_of}
use Rattle.trees.specs.Label.{label_limit}
use Rattle.trees.specs.Reading.{refused}
use Rattle.lists.specs.ListMachine.{Stage, Start, Due, Bare, Quoted, Closed}
use Rattle.lists.specs.ListMachine.{Move, Next, Stop}
use Rattle.lists.specs.declared.ListRead.{ListRead}
use Rattle.lists.specs.ReadList.{list_limit, list_read}
use Rattle.lists.specs.ListMachine.{After, after, ended, token_room, Room, repeat_of, begin_of, due_of, close_of, more_of, bare_of, quote_of, quoted_of}
use Rattle.lists.specs.ListMachine.{closed_of, step_of, end_at, answer_of, run_from}

-- what keeping a label gives: whether it repeats, and the arrays with its place
abbrev pub Kept : (text start size : List ℕ) (count first len : ℕ) → Bool → List ℕ → List ℕ → Type 0
Kept text start size count first len b start' size' =
    (b ≡ repeat_of text start size count first len) × ((start' ≡ set start count first) × (size' ≡ set size count len))

module _
    (text start size : List ℕ) (count first len : ℕ) (b : Bool) (start' size' : List ℕ)
    (kept : Kept text start size count first len b start' size') where
  pub close_repeat : (following : Move) → b ≡ true
      → after (Stop Repeated first) start' size' ≡ close_of text start size count first len following
  unfolding close_of
  close_repeat following h = rw (kept.1.0, kept.1.1, ← kept.0, h) refl

  pub close_new : (following : Move) → b ≡ false
      → after following start' size' ≡ close_of text start size count first len following
  unfolding close_of
  close_new following h = rw (kept.1.0, kept.1.1, ← kept.0, h) refl

  pub end_repeat : (body : Body) (at : ℕ) → b ≡ true
      → ended (Err (record { reason = Repeated; body = body; place = first })) start' size'
      ≡ end_at text body (Bare first len count) at start size
  unfolding end_at
  end_repeat body at h = rw (kept.1.0, kept.1.1, ← kept.0, h) refl

  pub end_new : (body : Body) (at : ℕ) → b ≡ false
      → ended (Ok (count + 1)) start' size' ≡ end_at text body (Bare first len count) at start size
  unfolding end_at
  end_new body at h = rw (kept.1.0, kept.1.1, ← kept.0, h) refl

-- after the byte at place `at` the next stage has room, if there is one
abbrev RoomAfter : (at : ℕ) → Move → Type 0
RoomAfter at (Next stage) = Room stage (at + 1)
RoomAfter at (Stop r place) = 0 ≤ list_limit

-- the choice that a test makes has what both outcomes have
room_cond : (at : ℕ) (b : Bool) (o u : Move) → (b ≡ true → RoomAfter at o) → RoomAfter at u → RoomAfter at (cond b o u)
room_cond at true o u p q = p refl
room_cond at false o u p q = q

room_begin : (at count : ℕ) (stage : Stage) → (count < list_limit → Room stage (at + 1)) → RoomAfter at (begin_of at count stage)
unfolding begin_of
room_begin at count stage h =
    room_cond at (ltb count list_limit) (Next stage) (Stop TooMany at) (λ (e : ltb count list_limit ≡ true). h (ltb-true count list_limit e)) (omega arith)

room_due : (k : Kind) (at count : ℕ) → at ≤ token_room * count → RoomAfter at (due_of k at count)
unfolding due_of
room_due LabelByte at count h = room_begin at count (Bare at 1 count) (λ free. (record { free = free; short = omega arith; early = h }, omega arith))
room_due Quote at count h = room_begin at count (Quoted at 0 count) (λ free. (record { free = free; short = omega arith; early = h }, omega arith))
room_due Open at count h = omega arith
room_due Close at count h = omega arith
room_due Comma at count h = omega arith
room_due Semicolon at count h = omega arith
room_due Blank at count h = omega arith
room_due Other at count h = omega arith

module _ (text : List ℕ) (at first len count : ℕ) (start size : List ℕ) where
  room_close : (n : ℕ) (o : Move) → RoomAfter at o → RoomAfter at (close_of text start size count first n o).outcome
  unfolding close_of
  room_close n o h = room_cond at (repeat_of text start size count first n) (Stop Repeated first) o (λ _. omega arith) h

  room_more : (stage : Stage) → (len < label_limit → Room stage (at + 1)) → RoomAfter at (more_of at len stage)
  unfolding more_of
  room_more stage h =
      room_cond at (ltb len label_limit) (Next stage) (Stop LabelTooLong at) (λ (e : ltb len label_limit ≡ true). h (ltb-true len label_limit e)) (omega arith)

  bad_close : RoomAfter at (close_of text start size count first len (Stop BadByte at)).outcome
  bad_close = room_close len (Stop BadByte at) (omega arith)

  room_bare : Room (Bare first len count) at → (k : Kind) → RoomAfter at (bare_of text k at first len count start size).outcome
  unfolding bare_of
  room_bare h LabelByte =
      room_more (Bare first (len + 1) count)
      (λ l. (record { free = h.0.free; short = omega arith; early = h.0.early }, omega arith))
  room_bare h Comma = room_close len (Next (Due (count + 1))) (omega arith, omega arith)
  room_bare h Quote = bad_close
  room_bare h Open = bad_close
  room_bare h Close = bad_close
  room_bare h Semicolon = bad_close
  room_bare h Blank = bad_close
  room_bare h Other = bad_close

  room_quote : Room (Quoted first len count) at → RoomAfter at (quote_of text at first len count start size).outcome
  unfolding quote_of
  room_quote h = go (eqb len 0)
    where
      go : (c : Bool)
          → RoomAfter at (cond c (after (Stop BadByte at) start size) (close_of text start size count first (len + 2) (Next (Closed (count + 1))))).outcome
      go true = omega arith
      go false = room_close (len + 2) (Next (Closed (count + 1))) (omega arith, omega arith)

  one_more : Room (Quoted first len count) at → len < label_limit → Room (Quoted first (len + 1) count) (at + 1)
  one_more h l = (record { free = h.0.free; short = omega arith; early = h.0.early }, omega arith)

  room_quoted : Room (Quoted first len count) at → (k : Kind) → RoomAfter at (quoted_of text k at first len count start size).outcome
  unfolding quoted_of
  room_quoted h LabelByte = room_more (Quoted first (len + 1) count) (one_more h)
  room_quoted h Blank = room_more (Quoted first (len + 1) count) (one_more h)
  room_quoted h Quote = room_quote h
  room_quoted h Open = omega arith
  room_quoted h Close = omega arith
  room_quoted h Comma = omega arith
  room_quoted h Semicolon = omega arith
  room_quoted h Other = omega arith

room_closed : (k : Kind) (at count : ℕ) → Room (Closed count) at → RoomAfter at (closed_of k at count)
unfolding closed_of
room_closed Comma at count h = h
room_closed LabelByte at count h = omega arith
room_closed Quote at count h = omega arith
room_closed Open at count h = omega arith
room_closed Close at count h = omega arith
room_closed Semicolon at count h = omega arith
room_closed Blank at count h = omega arith
room_closed Other at count h = omega arith

room_step : (text : List ℕ) (k : Kind) (at : ℕ) (stage : Stage) (start size : List ℕ) → Room stage at
    → RoomAfter at (step_of text k at stage start size).outcome
unfolding step_of
room_step text k at Start start size h = room_due k at 0 (omega arith)
room_step text k at (Due count) start size h = room_due k at count h.1
room_step text k at (Bare first len count) start size h = room_bare text at first len count start size h k
room_step text k at (Quoted first len count) start size h = room_quoted text at first len count start size h k
room_step text k at (Closed count) start size h = room_closed k at count h

-- the run by the step at its first byte, and by the end
module _ (text : List ℕ) (body : Body) (stage : Stage) (start size : List ℕ) (at : ℕ) where
  pub room_next : (k : Kind) (stage' : Stage) (start' size' : List ℕ) → Room stage at
      → after (Next stage') start' size' ≡ step_of text k at stage start size → Room stage' (at + 1)
  room_next k stage' start' size' h e =
      rw (← ap (λ (a : After). a.outcome) e) at (room_step text k at stage start size h)

  module _ (b : ℕ) (rest : List ℕ) where
    branch : After → ListRead
    branch a = elim a.outcome [
      | Next stage' ↦ run_from text body stage' a.start a.size (at + 1) rest
      | Stop r place ↦ list_read body (refused r place)
    ]

    pub run_next : (stage' : Stage) (start' size' : List ℕ) → after (Next stage') start' size' ≡ step_of text (kind_of b) at stage start size
        → run_from text body stage start size at (b ∷ rest) ≡ run_from text body stage' start' size' (at + 1) rest
    unfolding run_from branch
    run_next stage' start' size' e = sym (ap branch e)

    -- a refusal, whatever is in the arrays
    halted : Move → ListRead
    halted o = branch (after o (step_of text (kind_of b) at stage start size).start (step_of text (kind_of b) at stage start size).size)

    pub run_halt : (r : Reason) (place : ℕ) → Stop r place ≡ (step_of text (kind_of b) at stage start size).outcome
        → run_from text body stage start size at (b ∷ rest) ≡ list_read body (refused r place)
    unfolding run_from branch halted
    run_halt r place e = sym (ap halted e)

    pub run_stop : (r : Reason) (place : ℕ) (start' size' : List ℕ) → after (Stop r place) start' size' ≡ step_of text (kind_of b) at stage start size
        → run_from text body stage start size at (b ∷ rest) ≡ list_read body (refused r place)
    run_stop r place start' size' e = run_halt r place (ap (λ (a : After). a.outcome) e)

  pub run_end : (a : Result ℕ Refusal) (start' size' : List ℕ) → ended a start' size' ≡ end_at text body stage at start size
      → run_from text body stage start size at [] ≡ answer_of a start' size'
  unfolding run_from
  run_end a start' size' e = rw (← e) refl

pub answer_refused : (body : Body) (r : Reason) (place : ℕ) (start size : List ℕ)
    → answer_of (Err (record { reason = r; body = body; place = place })) start size ≡ list_read body (refused r place)
unfolding answer_of list_read
answer_refused body r place start size = refl
