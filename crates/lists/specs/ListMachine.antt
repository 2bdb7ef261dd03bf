-- Intermediate: nothing public rests on this text. The list reader as its loop goes: stages, places in arrays, a repeat found at a label's
-- end. proofs/ListSimulation.antt relates it to `read_list`.
use Rattle.std.specs.Prelude.{ℕ, ◌+◌, ◌*◌, ◌≤◌, ◌<◌, ◌≡◌, Bool, true, false, cond, List, [], ◌∷◌, eqb, ltb, set, Result, Ok, Err}
use Rattle.trees.specs.declared.Kind.{Kind}
use Rattle.trees.specs.declared.Kind.TheVariants.{Label as LabelByte, Open, Close, Comma, Semicolon, Quote, Blank, Other}
use Rattle.trees.specs.declared.Reason.{Reason}
use Rattle.trees.specs.declared.Reason.TheVariants.{BadByte, EndsTooSoon, LabelTooLong, TooMany, Repeated}
use Rattle.trees.specs.declared.Body.{Body}
use Rattle.trees.specs.declared.Edition.{Edition}
use Rattle.trees.specs.declared.Refusal.{Refusal}
use Rattle.trees.specs.Bytes.{kind_of}
use Rattle.trees.specs.Edition.{in_edition}
use Rattle.trees.specs.Label.{label_limit}
use Rattle.trees.specs.Token.{token_limit}
use Rattle.trees.specs.Stored.{part_of, is_among}
use Rattle.trees.specs.Reading.{refused}
use Rattle.lists.specs.declared.Mode.{Mode}
use Rattle.lists.specs.declared.Mode.TheVariants as In
use Rattle.trees.specs.declared.Halt.{Halt}
use Rattle.lists.specs.declared.Reader.{Reader}
use Rattle.lists.specs.declared.LabelPlaces.{LabelPlaces}
use Rattle.lists.specs.declared.ListRead.{ListRead}
use Rattle.lists.specs.ReadList.{list_limit, list_read, places_of}

-- where the reader stands, with `count` labels complete
pub data Stage : Type 0 where
  Start : Stage
  Due : (count : ℕ) → Stage
  Bare : (first len count : ℕ) → Stage
  Quoted : (first len count : ℕ) → Stage
  Closed : (count : ℕ) → Stage

-- what a byte leads to: the next stage, or a refusal's reason and place
pub data Move : Type 0 where
  Next : Stage → Move
  Stop : Reason → ℕ → Move

-- what a reader has
abbrev pub text_in : Reader → List ℕ
text_in r = in_edition r.edition r.text.now

abbrev pub mode_in : Mode → LabelPlaces → Stage
mode_in In.Start p = Start
mode_in In.Due p = Due p.count
mode_in (In.Bare first len) p = Bare first len p.count
mode_in (In.Quoted first len) p = Quoted first len p.count
mode_in In.Closed p = Closed p.count

abbrev pub move_in : Result Mode Halt → LabelPlaces → Move
move_in (Ok m) p = Next (mode_in m p)
move_in (Err f) p = Stop f.0 f.1

-- a step's outcome with the arrays after it
pub record After : Type 0 where
  pub outcome : Move
  pub start : List ℕ
  pub size : List ℕ

abbrev pub after : Move → List ℕ → List ℕ → After
after o start size = record { outcome = o; start = start; size = size }

-- a reader's step leads where the machine's does; what a refusal leaves in the arrays is free
abbrev pub Leads : Result Mode Halt → LabelPlaces → After → Type 0
Leads (Ok m) p a = after (Next (mode_in m p)) p.start p.size ≡ a
Leads (Err f) p a = Stop f.0 f.1 ≡ a.outcome

-- a step leads from one reader to another, of the same text
pub record Steps (old new : Reader) (result : Result Mode Halt) (a : After) : Type 0 where
  pub leads : Leads result new.places a
  pub edition_kept : new.edition ≡ old.edition
  pub text_kept : new.text ≡ old.text

-- the end's answer with the arrays after it
pub record AtEnd : Type 0 where
  pub answer : Result ℕ Refusal
  pub start : List ℕ
  pub size : List ℕ

abbrev pub ended : Result ℕ Refusal → List ℕ → List ℕ → AtEnd
ended a start size = record { answer = a; start = start; size = size }

-- the most bytes of a token and the comma after it
abbrev pub token_room : ℕ
token_room = token_limit + 1

-- the token of len bytes at first, with `count` before it, can be kept: an entry of the arrays is free, and both numbers fit it, since
-- a byte holds `token_limit` and two bytes hold `token_room * list_limit`
pub record Fits (first len count : ℕ) : Type 0 where
  pub free : count < list_limit
  pub short : len ≤ token_limit
  pub early : first ≤ token_room * count

-- with `at` bytes read, the label of this stage fits, and each later one will
abbrev pub Room : Stage → (at : ℕ) → Type 0
Room Start at = at ≤ 0
Room (Due count) at = (count ≤ list_limit) × (at ≤ token_room * count)
Room (Bare first len count) at = Fits first len count × (at ≤ first + len)
Room (Quoted first len count) at = Fits first (len + 2) count × (at ≤ first + len + 1)
Room (Closed count) at = (count ≤ list_limit) × (at + 1 ≤ token_room * count)

-- what a step in this mode may rely on
abbrev pub Ready : Mode → LabelPlaces → (at : ℕ) → Type 0
Ready In.Start p at = (p.count ≡ 0) × (at ≤ 0)
Ready In.Due p at = Room (Due p.count) at
Ready (In.Bare first len) p at = Room (Bare first len p.count) at
Ready (In.Quoted first len) p at = Room (Quoted first len p.count) at
Ready In.Closed p at = Room (Closed p.count) at

-- nothing is read yet
pub record Fresh (e : Edition) (text : List ℕ) (r : Reader) : Type 0 where
  pub edition_is : r.edition ≡ e
  pub text_is : r.text.now ≡ text
  pub places_are : r.places ≡ places_of []

-- the token of len bytes at first decodes to the same label as one of the `count` before it
unfoldable pub repeat_of : List ℕ → List ℕ → List ℕ → (count first len : ℕ) → Bool
repeat_of text start size count first len = is_among text start size count (part_of first len text)

-- with one label more
abbrev pub grown : LabelPlaces → (first len : ℕ) → LabelPlaces
grown p first len = record { count = p.count + 1; start = set p.start p.count first; size = set p.size p.count len }

-- a label has ended: `repeats` is told, or its place is kept
abbrev pub Kept : (repeats : Bool) → (first len : ℕ) → (old new : LabelPlaces) → Result (Unit {0}) Halt → Type 0
Kept repeats first len old new (Ok _) = (repeats ≡ false) × (new ≡ grown old first len)
Kept repeats first len old new (Err f) = (repeats ≡ true) × (f ≡ record { 0 = Repeated; 1 = first })

pub record Ends (old new : Reader) (first len : ℕ) (result : Result (Unit {0}) Halt) : Type 0 where
  pub kept : Kept (repeat_of (text_in old) old.places.start old.places.size old.places.count first len) first len old.places new.places result
  pub edition_kept : new.edition ≡ old.edition
  pub text_kept : new.text ≡ old.text

-- a label begins here
unfoldable pub begin_of : (at count : ℕ) → Stage → Move
begin_of at count stage = cond (ltb count list_limit) (Next stage) (Stop TooMany at)

unfoldable pub due_of : Kind → (at count : ℕ) → Move
unfolding begin_of
due_of LabelByte at count = begin_of at count (Bare at 1 count)
due_of Quote at count = begin_of at count (Quoted at 0 count)
due_of Open at count = Stop BadByte at
due_of Close at count = Stop BadByte at
due_of Comma at count = Stop BadByte at
due_of Semicolon at count = Stop BadByte at
due_of Blank at count = Stop BadByte at
due_of Other at count = Stop BadByte at

-- the label has ended; if it is new, `following` counts
unfoldable pub close_of : List ℕ → List ℕ → List ℕ → (count first len : ℕ) → Move → After
unfolding repeat_of
close_of text start size count first len following =
    after (cond (repeat_of text start size count first len) (Stop Repeated first) following) (set start count first) (set size count len)

-- one more byte of a label that has len bytes
unfoldable pub more_of : (at len : ℕ) → Stage → Move
more_of at len stage = cond (ltb len label_limit) (Next stage) (Stop LabelTooLong at)

unfoldable pub bare_of : List ℕ → Kind → (at : ℕ) → (first len count : ℕ) → List ℕ → List ℕ → After
unfolding close_of more_of
bare_of text LabelByte at first len count start size = after (more_of at len (Bare first (len + 1) count)) start size
bare_of text Quote at first len count start size = close_of text start size count first len (Stop BadByte at)
bare_of text Open at first len count start size = close_of text start size count first len (Stop BadByte at)
bare_of text Close at first len count start size = close_of text start size count first len (Stop BadByte at)
bare_of text Comma at first len count start size = close_of text start size count first len (Next (Due (count + 1)))
bare_of text Semicolon at first len count start size = close_of text start size count first len (Stop BadByte at)
bare_of text Blank at first len count start size = close_of text start size count first len (Stop BadByte at)
bare_of text Other at first len count start size = close_of text start size count first len (Stop BadByte at)

-- the closing quote of a label that has len bytes between the quotes
unfoldable pub quote_of : List ℕ → (at : ℕ) → (first len count : ℕ) → List ℕ → List ℕ → After
unfolding close_of
quote_of text at first len count start size =
    cond (eqb len 0) (after (Stop BadByte at) start size)
    (close_of text start size count first (len + 2) (Next (Closed (count + 1))))

unfoldable pub quoted_of : List ℕ → Kind → (at : ℕ) → (first len count : ℕ) → List ℕ → List ℕ → After
unfolding quote_of more_of
quoted_of text LabelByte at first len count start size = after (more_of at len (Quoted first (len + 1) count)) start size
quoted_of text Blank at first len count start size = after (more_of at len (Quoted first (len + 1) count)) start size
quoted_of text Quote at first len count start size = quote_of text at first len count start size
quoted_of text Open at first len count start size = after (Stop BadByte at) start size
quoted_of text Close at first len count start size = after (Stop BadByte at) start size
quoted_of text Comma at first len count start size = after (Stop BadByte at) start size
quoted_of text Semicolon at first len count start size = after (Stop BadByte at) start size
quoted_of text Other at first len count start size = after (Stop BadByte at) start size

-- just after a closing quote
unfoldable pub closed_of : Kind → (at count : ℕ) → Move
closed_of Comma at count = Next (Due count)
closed_of LabelByte at count = Stop BadByte at
closed_of Quote at count = Stop BadByte at
closed_of Open at count = Stop BadByte at
closed_of Close at count = Stop BadByte at
closed_of Semicolon at count = Stop BadByte at
closed_of Blank at count = Stop BadByte at
closed_of Other at count = Stop BadByte at

unfoldable pub step_of : List ℕ → Kind → ℕ → Stage → List ℕ → List ℕ → After
unfolding due_of bare_of quoted_of closed_of
step_of text k at Start start size = after (due_of k at 0) start size
step_of text k at (Due count) start size = after (due_of k at count) start size
step_of text k at (Bare first len count) start size = bare_of text k at first len count start size
step_of text k at (Quoted first len count) start size = quoted_of text k at first len count start size
step_of text k at (Closed count) start size = after (closed_of k at count) start size

-- the text ends at place `at`
unfoldable pub end_at : List ℕ → Body → Stage → ℕ → List ℕ → List ℕ → AtEnd
unfolding repeat_of
end_at text body Start at start size = ended (Ok 0) start size
end_at text body (Due count) at start size =
    ended (Err (record { reason = EndsTooSoon; body = body; place = at })) start size
end_at text body (Bare first len count) at start size =
    ended
    (cond (repeat_of text start size count first len) (Err (record { reason = Repeated; body = body; place = first }))
    (Ok (count + 1)))
    (set start count first)
    (set size count len)
end_at text body (Quoted first len count) at start size =
    ended (Err (record { reason = EndsTooSoon; body = body; place = at })) start size
end_at text body (Closed count) at start size = ended (Ok count) start size

-- a reader's answer where the text ends, about the given body, is the machine's
abbrev pub EndsAs : Body → Result ℕ Halt → LabelPlaces → AtEnd → Type 0
EndsAs body (Ok n) p a = (ended (Ok n) p.start p.size ≡ a) × (p.count ≡ n)
EndsAs body (Err f) p a = Err (record { reason = f.0; body = body; place = f.1 }) ≡ a.answer

-- with the places of a list that was read
unfoldable pub told_read : Body → Result ℕ Halt → LabelPlaces → ListRead
unfolding places_of
told_read body (Ok n) p = record { answer = Ok n; places = p }
told_read body (Err f) p = record { answer = Err (record { reason = f.0; body = body; place = f.1 }); places = places_of [] }

-- the answer with the places; a refusal has none
unfoldable pub answer_of : Result ℕ Refusal → List ℕ → List ℕ → ListRead
unfolding places_of
answer_of (Ok count) start size =
    record { answer = Ok count; places = record { count = count; start = start; size = size } }
answer_of (Err r) start size = record { answer = Err r; places = places_of [] }

-- the bytes from place `at` on
unfoldable pub run_from : List ℕ → Body → Stage → List ℕ → List ℕ → ℕ → List ℕ → ListRead
unfolding step_of end_at answer_of list_read
run_from text body stage start size at [] =
    answer_of (end_at text body stage at start size).answer (end_at text body stage at start size).start
    (end_at text body stage at start size).size
run_from text body stage start size at (b ∷ rest) =
    elim (step_of text (kind_of b) at stage start size).outcome [
      | Next stage' ↦
          run_from text body stage' (step_of text (kind_of b) at stage start size).start
          (step_of text (kind_of b) at stage start size).size (at + 1) rest
      | Stop r place ↦ list_read body (refused r place)
    ]
