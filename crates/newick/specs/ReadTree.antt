-- Reading a tree text from left to right: "The class of the byte and what may follow at that point decide each step." 01, "Tree text" and
-- rows 1 to 5 of "Why a job is turned down"; C-12 for quotes. A repeat is reported at its first byte, so the first fault that is met is the
-- one with the smallest place. The tree has tokens for labels.
use Rattle.std.specs.Prelude.{ℕ, ◌+◌, ◌-◌, Bool, cond, List, [], ◌∷◌, ◌++◌, eqb, length, Ok, Err}
use Rattle.trees.specs.declared.Kind.{Kind}
use Rattle.trees.specs.declared.Kind.TheVariants.{Label as LabelByte, Open, Close, Comma, Semicolon, Quote, Blank, Other}
use Rattle.trees.specs.declared.Reason.{Reason}
use Rattle.trees.specs.declared.Reason.TheVariants.{BadByte, EndsTooSoon, LabelTooLong, TooMany, Repeated}
use Rattle.trees.specs.declared.Body.{Body}
use Rattle.trees.specs.declared.Edition.{Edition}
use Rattle.trees.specs.Bytes.{kind_of}
use Rattle.trees.specs.Label.{Label, label_limit}
use Rattle.trees.specs.Token.{Token, spelling, quoted_token}
use Rattle.trees.specs.Tree.{Tree, leaf, node, leaves, leaf_limit}
use Rattle.trees.specs.Edition.{in_edition}
use Rattle.trees.specs.Reading.{Reading, good, refused, as_stands, repeats}
use Rattle.trees.specs.Arrays.{arrays_of, no_arrays}
use Rattle.newick.specs.declared.TreeRead.{TreeRead}

-- an open `(`: its first child is being read, or was read and the second is being read
pub data Opened : Type 0 where
  first : Opened
  second : Tree → Opened

-- where the reader is: a node must begin; inside a bare label, with its bytes so far; after an opening quote, with the bytes since; just
-- after a node; after `;`
pub data Phase : Type 0 where
  node_due : Phase
  in_label : Token → Phase
  in_quotes : List ℕ → Phase
  after_node : Tree → Phase
  ended : Tree → Phase

-- what is known so far: the open `(`, innermost first, how many `(` were read, and the labels that are complete, as decoded
pub record State : Type 0 where
  pub phase : Phase
  pub stack : List Opened
  pub opens : ℕ
  pub seen : List Label

-- one step: the next state, or a refusal's reason at this byte
pub data Step : Type 0 where
  next : State → Step
  stop : Reason → Step

-- a byte just after a whole node
unfoldable pub step_after : Tree → List Opened → ℕ → List Label → Kind → Step
step_after t stack opens seen LabelByte = stop BadByte
step_after t stack opens seen Open = stop BadByte
step_after t [] opens seen Close = stop BadByte
step_after t (first ∷ stack) opens seen Close = stop BadByte
step_after t (second a ∷ stack) opens seen Close =
    next (record { phase = after_node (node a t); stack = stack; opens = opens; seen = seen })
step_after t [] opens seen Comma = stop BadByte
step_after t (first ∷ stack) opens seen Comma =
    next (record { phase = node_due; stack = second t ∷ stack; opens = opens; seen = seen })
step_after t (second a ∷ stack) opens seen Comma = stop BadByte
step_after t [] opens seen Semicolon = next (record { phase = ended t; stack = []; opens = opens; seen = seen })
step_after t (o ∷ stack) opens seen Semicolon = stop BadByte
step_after t stack opens seen Quote = stop BadByte
step_after t stack opens seen Blank = stop BadByte
step_after t stack opens seen Other = stop BadByte

-- a byte where a node must begin; `repeat` is whether the label that begins here was seen before. C-12: "An opening quote begins a label"
unfoldable pub step_due : List Opened → ℕ → List Label → (repeat : Bool) → ℕ → Kind → Step
step_due stack opens seen repeat b LabelByte =
    cond repeat (stop Repeated) (next (record { phase = in_label (b ∷ []); stack = stack; opens = opens; seen = seen }))
step_due stack opens seen repeat b Open =
    cond (eqb opens (leaf_limit - 1)) (stop TooMany)
    (next (record { phase = node_due; stack = first ∷ stack; opens = opens + 1; seen = seen }))
step_due stack opens seen repeat b Close = stop BadByte
step_due stack opens seen repeat b Comma = stop BadByte
step_due stack opens seen repeat b Semicolon = stop BadByte
step_due stack opens seen repeat b Quote =
    cond repeat (stop Repeated) (next (record { phase = in_quotes []; stack = stack; opens = opens; seen = seen }))
step_due stack opens seen repeat b Blank = stop BadByte
step_due stack opens seen repeat b Other = stop BadByte

-- a byte inside or just after the bare label x
unfoldable pub step_label : Token → List Opened → ℕ → List Label → ℕ → Kind → Step
unfolding step_after
step_label x stack opens seen b LabelByte =
    cond (eqb (length x) label_limit) (stop LabelTooLong)
    (next (record { phase = in_label (x ++ (b ∷ [])); stack = stack; opens = opens; seen = seen }))
step_label x stack opens seen b Open = stop BadByte
step_label x stack opens seen b Close = step_after (leaf x) stack opens (seen ++ (spelling x ∷ [])) Close
step_label x stack opens seen b Comma = step_after (leaf x) stack opens (seen ++ (spelling x ∷ [])) Comma
step_label x stack opens seen b Semicolon = step_after (leaf x) stack opens (seen ++ (spelling x ∷ [])) Semicolon
step_label x stack opens seen b Quote = stop BadByte
step_label x stack opens seen b Blank = stop BadByte
step_label x stack opens seen b Other = stop BadByte

-- a label byte or a blank after an opening quote and the bytes x: "The limit counts bytes between the quotes"
unfoldable pub step_inner : List ℕ → List Opened → ℕ → List Label → ℕ → Step
step_inner x stack opens seen b =
    cond (eqb (length x) label_limit) (stop LabelTooLong)
    (next (record { phase = in_quotes (x ++ (b ∷ [])); stack = stack; opens = opens; seen = seen }))

-- a quote after an opening quote and the bytes x: "`''` breaks at the second quote with number 1"
unfoldable pub step_closing : List ℕ → List Opened → ℕ → List Label → Step
step_closing x stack opens seen =
    cond (eqb (length x) 0) (stop BadByte)
    (next (record { phase = after_node (leaf (quoted_token x)); stack = stack; opens = opens; seen = seen ++ (spelling (quoted_token x) ∷ []) }))

-- a byte after an opening quote and the bytes x: "any other byte between them is number 1, also where number 3 would stand"
unfoldable pub step_quotes : List ℕ → List Opened → ℕ → List Label → ℕ → Kind → Step
unfolding step_inner step_closing
step_quotes x stack opens seen b LabelByte = step_inner x stack opens seen b
step_quotes x stack opens seen b Open = stop BadByte
step_quotes x stack opens seen b Close = stop BadByte
step_quotes x stack opens seen b Comma = stop BadByte
step_quotes x stack opens seen b Semicolon = stop BadByte
step_quotes x stack opens seen b Quote = step_closing x stack opens seen
step_quotes x stack opens seen b Blank = step_inner x stack opens seen b
step_quotes x stack opens seen b Other = stop BadByte

unfoldable pub step : Phase → List Opened → ℕ → List Label → (b : ℕ) → (rest : List ℕ) → Step
unfolding step_due step_label step_quotes step_after
step node_due stack opens seen b rest = step_due stack opens seen (repeats seen (b ∷ rest)) b (kind_of b)
step (in_label x) stack opens seen b rest = step_label x stack opens seen b (kind_of b)
step (in_quotes x) stack opens seen b rest = step_quotes x stack opens seen b (kind_of b)
step (after_node t) stack opens seen b rest = step_after t stack opens seen (kind_of b)
step (ended t) stack opens seen b rest = stop BadByte

-- the text ends here
unfoldable pub end_of : Phase → ℕ → Reading Tree
end_of node_due at = refused EndsTooSoon at
end_of (in_label x) at = refused EndsTooSoon at
end_of (in_quotes x) at = refused EndsTooSoon at
end_of (after_node t) at = refused EndsTooSoon at
end_of (ended t) at = good t

-- the bytes from place `at` on
unfoldable pub read_from : State → ℕ → List ℕ → Reading Tree
unfolding step end_of
read_from s at [] = end_of s.phase at
read_from s at (b ∷ rest) =
    elim (step s.phase s.stack s.opens s.seen b rest) [ next s' ↦ read_from s' (at + 1) rest | stop r ↦ refused r at ]

abbrev pub start_state : State
start_state = record { phase = node_due; stack = []; opens = 0; seen = [] }

unfoldable pub read_tree : List ℕ → Reading Tree
unfolding read_from
read_tree text = read_from start_state 0 text

-- under an edition, which decides whether a label repeats
unfoldable pub read_tree_in : Edition → List ℕ → Reading Tree
unfolding read_tree as_stands
read_tree_in e text = as_stands (read_tree (in_edition e text)) (read_tree text)

-- the answer of the tree reader for the given body
unfoldable pub tree_read : Body → Reading Tree → TreeRead
tree_read body (good t) = record { answer = Ok (length (leaves t)); tree = arrays_of t }
tree_read body (refused r at) =
    record { answer = Err (record { reason = r; body = body; place = at }); tree = no_arrays }
