-- The printed lines. 01, "Job and printed result" and "Why a job is turned down". "Labels are printed as the first tree spells them" (C-15),
-- each in its one written form (C-12: "for trees and every printed label").
use Rattle.std.specs.Prelude.{ℕ, zero, suc, ◌+◌, ◌-◌, ◌*◌, List, [], ◌∷◌, ◌++◌, map, length, get_or, take}
use Rattle.trees.specs.declared.Refusal.{Refusal}
use Rattle.trees.specs.Refusals.{number_of, letter_of}
use Rattle.trees.specs.Label.{Label, label_limit}
use Rattle.trees.specs.Stored.{part_of}
use Rattle.trees.specs.Text.{tree_room}
use Rattle.trees.specs.Token.{Token, spelling, token_of, token_limit}
use Rattle.trees.specs.Tree.{leaf_limit}
use Rattle.trees.specs.Words.{bytes_of}
use Rattle.lists.specs.ReadList.{joined}
use Rattle.decimals.specs.Decimal.{digit_room, decimal_of}
use Rattle.contents.specs.Contents.{line}
use Rattle.mast.specs.declared.Named.{Named}

-- ---- lines of tokens

-- "A refusal is one line, `refused`, number, body letter, place"
unfoldable pub refused_words : Refusal → List ℕ
unfolding bytes_of number_of letter_of decimal_of
refused_words q =
    bytes_of "refused " ++ (decimal_of (number_of q.reason) ++ (32 ∷ letter_of q.body ∷ 32 ∷ decimal_of q.place))

unfoldable pub refused_line : Refusal → List ℕ
unfolding refused_words line
refused_line q = line (refused_words q)

-- a refusal that names labels: "adds a space and its three labels joined by commas."
unfoldable pub naming_line : Refusal → List Token → List ℕ
unfolding refused_words joined line
naming_line q X = line (refused_words q ++ (32 ∷ joined X))

-- "They are the count of leaves, the set in label order, and the normal text of the common restriction."
unfoldable pub set_lines : List Token → List ℕ → List ℕ
unfolding bytes_of decimal_of joined line
set_lines X text =
    line (bytes_of "size " ++ decimal_of (length X)) ++ (line (bytes_of "set " ++ joined X) ++ line (bytes_of "tree " ++ text))

-- C-18: "after the tree, a line `always`, in the form of the `set` line"
unfoldable pub always_line : List Token → List ℕ
unfolding bytes_of joined line
always_line A = line (bytes_of "always " ++ joined A)

-- C-16: "The program then prints only `claim ok`, a blank and the size"
unfoldable pub claim_line : ℕ → List ℕ
unfolding bytes_of decimal_of line
claim_line n = line (bytes_of "claim ok " ++ decimal_of n)

-- ---- these lines for labels in their written forms

abbrev pub record_lines : List Label → List ℕ → List ℕ
record_lines X text = set_lines (map token_of X) text

abbrev pub three_line : Refusal → Label → Label → Label → List ℕ
three_line q a b c = naming_line q (map token_of (a ∷ b ∷ c ∷ []))

-- ---- labels by their places in a text

-- the label that the `size` bytes at a place of a text decode to, cut at the limit; nothing if they run past the end
unfoldable pub label_in : List ℕ → ℕ → ℕ → Label
label_in text start size = take label_limit (spelling (part_of start size text))

-- the first labels that places and sizes name
unfoldable pub labels_in : List ℕ → List ℕ → List ℕ → ℕ → List Label
unfolding label_in
labels_in text starts sizes zero = []
labels_in text starts sizes (suc n) =
    labels_in text starts sizes n ++ (label_in text (get_or starts n 0) (get_or sizes n 0) ∷ [])

-- the line of a refusal, number 8 or 14, with the labels that places and sizes in the job name
unfoldable pub named_line : List ℕ → Refusal → Named → List ℕ
unfolding naming_line label_in
named_line job q n =
    three_line q (label_in job n.first.start n.first.size) (label_in job n.second.start n.second.size)
    (label_in job n.third.start n.third.size)

-- ---- how long lines get

-- a label as it is printed, and a comma
abbrev pub item_room : ℕ
item_room = token_limit + 1

-- `refused`, number, letter and place, with three blanks
abbrev pub words_room : ℕ
words_room = 11 + 2 * digit_room

-- `claim ok`, a blank, a size and the line end
abbrev pub claim_room : ℕ
claim_room = 9 + digit_room + 1

-- a refusal's line, with three labels
abbrev pub line_room : ℕ
line_room = words_room + 2 + 3 * item_room

-- the longest lines of a set: `size `, `set ` and `tree `, three line ends, a size of two digits, 80 labels with commas between them, and
-- the longest text of a tree
abbrev pub record_room : ℕ
record_room = 17 + 2 + (leaf_limit * item_room - 1) + tree_room

-- 80 labels with commas between them
abbrev pub labels_room : ℕ
labels_room = leaf_limit * item_room - 1

-- `always `, the labels and the line end
abbrev pub always_room : ℕ
always_room = 8 + labels_room
