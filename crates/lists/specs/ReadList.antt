-- Reading a list of labels from left to right: "The required list is empty, or labels joined by `,` with nothing else, at most 80, all
-- different." 01, "Tree text" and rows 1 to 5 of "Why a job is turned down"; C-12. The labels that are returned are tokens; they are
-- compared as decoded.
use Rattle.std.specs.Prelude.{ℕ, ◌+◌, ◌≤◌, ◌≡◌, Bool, true, cond, List, [], ◌∷◌, ◌++◌, map, eqb, length, Ok, Err}
use Rattle.trees.specs.declared.Kind.{Kind}
use Rattle.trees.specs.declared.Kind.TheVariants.{Label as LabelByte, Open, Close, Comma, Semicolon, Quote, Blank, Other}
use Rattle.trees.specs.declared.Reason.{Reason}
use Rattle.trees.specs.declared.Reason.TheVariants.{BadByte, EndsTooSoon, LabelTooLong, TooMany, Repeated}
use Rattle.trees.specs.declared.Body.{Body}
use Rattle.trees.specs.declared.Edition.{Edition}
use Rattle.trees.specs.Bytes.{kind_of}
use Rattle.trees.specs.Label.{Label, label_limit, distinct}
use Rattle.trees.specs.Token.{Token, spelling, quoted_token, good_labels}
use Rattle.trees.specs.Arrays.{padded_to}
use Rattle.trees.specs.Edition.{in_edition}
use Rattle.trees.specs.Reading.{Reading, good, refused, as_stands, repeats}
use Rattle.lists.specs.declared.LabelPlaces.{LabelPlaces}
use Rattle.lists.specs.declared.ListRead.{ListRead}

-- "at most 80"
abbrev pub list_limit : ℕ
list_limit = 80

-- where the reader is: at the start; after a comma; inside a bare label, or between quotes, with its bytes so far; just after the closing
-- quote of this label
pub data Phase : Type 0 where
  at_start : Phase
  label_due : Phase
  in_bare : List ℕ → Phase
  in_quotes : List ℕ → Phase
  after_quote : Token → Phase

-- one step: the next phase with the tokens that are complete, or a refusal's reason at this byte
pub data Step : Type 0 where
  next : Phase → List Token → Step
  stop : Reason → Step

-- A label begins. `full`: the list has its 80 labels already. `repeat`: the label was seen before. "At the same place 4 goes before 5"
unfoldable pub begins : (full repeat : Bool) → Phase → List Token → Step
begins full repeat p seen = cond full (stop TooMany) (cond repeat (stop Repeated) (next p seen))

-- A label goes on. `full`: it has its 32 bytes already.
unfoldable pub goes_on : (full : Bool) → Phase → List Token → Step
goes_on full p seen = cond full (stop LabelTooLong) (next p seen)

-- a byte where a label must begin; "An opening quote begins a label" (C-12)
unfoldable pub step_due : List Token → (repeat : Bool) → ℕ → Kind → Step
unfolding begins
step_due seen repeat b LabelByte = begins (eqb (length seen) list_limit) repeat (in_bare (b ∷ [])) seen
step_due seen repeat b Quote = begins (eqb (length seen) list_limit) repeat (in_quotes []) seen
step_due seen repeat b Open = stop BadByte
step_due seen repeat b Close = stop BadByte
step_due seen repeat b Comma = stop BadByte
step_due seen repeat b Semicolon = stop BadByte
step_due seen repeat b Blank = stop BadByte
step_due seen repeat b Other = stop BadByte

-- a byte just after the label x
unfoldable pub step_after : Token → List Token → Kind → Step
step_after x seen Comma = next label_due (seen ++ (x ∷ []))
step_after x seen LabelByte = stop BadByte
step_after x seen Quote = stop BadByte
step_after x seen Open = stop BadByte
step_after x seen Close = stop BadByte
step_after x seen Semicolon = stop BadByte
step_after x seen Blank = stop BadByte
step_after x seen Other = stop BadByte

-- a byte inside or just after the label x, which has no quotes
unfoldable pub step_bare : List ℕ → List Token → ℕ → Kind → Step
unfolding goes_on step_after
step_bare x seen b LabelByte = goes_on (eqb (length x) label_limit) (in_bare (x ++ (b ∷ []))) seen
step_bare x seen b Quote = step_after x seen Quote
step_bare x seen b Open = step_after x seen Open
step_bare x seen b Close = step_after x seen Close
step_bare x seen b Comma = step_after x seen Comma
step_bare x seen b Semicolon = step_after x seen Semicolon
step_bare x seen b Blank = step_after x seen Blank
step_bare x seen b Other = step_after x seen Other

-- a byte after an opening quote and the bytes x: "`''` breaks at the second quote with number 1" (C-12)
unfoldable pub step_quotes : List ℕ → List Token → ℕ → Kind → Step
unfolding goes_on
step_quotes x seen b LabelByte = goes_on (eqb (length x) label_limit) (in_quotes (x ++ (b ∷ []))) seen
step_quotes x seen b Blank = goes_on (eqb (length x) label_limit) (in_quotes (x ++ (b ∷ []))) seen
step_quotes x seen b Quote =
    cond (eqb (length x) 0) (stop BadByte) (next (after_quote (quoted_token x)) seen)
step_quotes x seen b Open = stop BadByte
step_quotes x seen b Close = stop BadByte
step_quotes x seen b Comma = stop BadByte
step_quotes x seen b Semicolon = stop BadByte
step_quotes x seen b Other = stop BadByte

unfoldable pub step : Phase → List Token → (b : ℕ) → (rest : List ℕ) → Step
unfolding step_due step_bare step_quotes step_after
step at_start seen b rest = step_due seen (repeats (map spelling seen) (b ∷ rest)) b (kind_of b)
step label_due seen b rest = step_due seen (repeats (map spelling seen) (b ∷ rest)) b (kind_of b)
step (in_bare x) seen b rest = step_bare x seen b (kind_of b)
step (in_quotes x) seen b rest = step_quotes x seen b (kind_of b)
step (after_quote x) seen b rest = step_after x seen (kind_of b)

-- the text ends here
unfoldable pub end_of : Phase → List Token → ℕ → Reading (List Token)
end_of at_start seen at = good seen
end_of label_due seen at = refused EndsTooSoon at
end_of (in_bare x) seen at = good (seen ++ (x ∷ []))
end_of (in_quotes x) seen at = refused EndsTooSoon at
end_of (after_quote x) seen at = good (seen ++ (x ∷ []))

-- the bytes from place `at` on
unfoldable pub read_from : Phase → List Token → ℕ → List ℕ → Reading (List Token)
unfolding step end_of
read_from p seen at [] = end_of p seen at
read_from p seen at (b ∷ rest) =
    elim (step p seen b rest) [ next p' seen' ↦ read_from p' seen' (at + 1) rest | stop r ↦ refused r at ]

unfoldable pub read_list : List ℕ → Reading (List Token)
unfolding read_from
read_list text = read_from at_start [] 0 text

-- under an edition, which decides whether a label repeats
unfoldable pub read_list_in : Edition → List ℕ → Reading (List Token)
unfolding read_list as_stands
read_list_in e text = as_stands (read_list (in_edition e text)) (read_list text)

-- the labels joined by commas
unfoldable pub joined : List Token → List ℕ
joined [] = []
joined (x ∷ []) = x
joined (x ∷ y ∷ ys) = x ++ (44 ∷ joined (y ∷ ys))

-- the labels as an edition reads them, still tokens
abbrev pub folded_list : Edition → List Token → List Token
folded_list e xs = map (in_edition e) xs

-- what they are compared by
abbrev pub keys_of : Edition → List Token → List Label
keys_of e xs = map spelling (folded_list e xs)

-- the text of labels, "at most 80, all different" as an edition reads them
pub record IsList (e : Edition) (text : List ℕ) (xs : List Token) : Type 0 where
  pub is : text ≡ joined xs
  pub labels : good_labels xs ≡ true
  pub different : distinct (keys_of e xs) ≡ true
  pub few : length xs ≤ list_limit

-- where labels joined by commas start, when the first starts at p
unfoldable pub starts_of : List Token → ℕ → List ℕ
starts_of [] p = []
starts_of (x ∷ xs) p = p ∷ starts_of xs (p + length x + 1)

unfoldable pub sizes_of : List Token → List ℕ
sizes_of [] = []
sizes_of (x ∷ xs) = length x ∷ sizes_of xs

abbrev pub padded : List ℕ → List ℕ
padded = padded_to list_limit

unfoldable pub places_of : List Token → LabelPlaces
unfolding starts_of sizes_of
places_of xs = record { count = length xs; start = padded (starts_of xs 0); size = padded (sizes_of xs) }

-- the answer of the list reader for the given body
unfoldable pub list_read : Body → Reading (List Token) → ListRead
unfolding places_of
list_read body (good xs) = record { answer = Ok (length xs); places = places_of xs }
list_read body (refused r at) =
    record { answer = Err (record { reason = r; body = body; place = at }); places = places_of [] }
