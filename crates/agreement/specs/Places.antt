-- Where the labels of an answer are in the texts, and as which tokens. 01, "Why a job is turned down": the places of 6 and 7 are the
-- label's "first byte in K".
use Rattle.std.specs.Prelude.{ℕ, ◌+◌, ◌≡◌, cond, ◌⊎◌, List, [], ◌∷◌, ◌++◌, length, get_or}
use Rattle.std.proofs.Math.Option.{Option, some, none}
use Rattle.trees.specs.Bytes.{open_byte, close_byte, comma_byte, semicolon_byte}
use Rattle.trees.specs.Label.{Label, same_label}
use Rattle.trees.specs.Token.{Token, spelling}
use Rattle.trees.specs.Tree.{Tree, leaf, node, decoded}
use Rattle.trees.specs.Text.{written, text_of}
use Rattle.trees.specs.Edition.{key, folded, rewritten, normal_text_in}
use Rattle.trees.specs.declared.Edition.{Edition}
use Rattle.trees.specs.Stored.{part_of}
use Rattle.trees.specs.Words.{Within}
use Rattle.lists.specs.ReadList.{starts_of}
use Rattle.agreement.specs.Closer.{holds}

-- the first byte of the leaf that decodes to x, in the text of a tree that starts at p
unfoldable pub place_in : Tree → ℕ → Label → ℕ
unfolding holds written
place_in (leaf y) p x = p
place_in (node a b) p x =
    cond (holds (decoded a) x) (place_in a (p + 1) x) (place_in b (p + 1 + length (written a) + 1) x)

-- the token of that leaf
unfoldable pub token_in : Tree → Label → Token
unfolding holds
token_in (leaf y) x = y
token_in (node a b) x = cond (holds (decoded a) x) (token_in a x) (token_in b x)

-- the bytes before a leaf's label, none or up to a `(` or `,`, and those after it, none or from a `,`, `)` or `;`
abbrev pub BeforeLabel : List ℕ → Type 0
BeforeLabel b = (b ≡ []) ⊎ ((rest : List ℕ) × (c : ℕ) × (b ≡ rest ++ (c ∷ [])) × ((c ≡ open_byte) ⊎ (c ≡ comma_byte)))

abbrev pub AfterLabel : List ℕ → Type 0
AfterLabel a = (a ≡ []) ⊎ ((c : ℕ) × (rest : List ℕ) × (a ≡ c ∷ rest) × ((c ≡ comma_byte) ⊎ ((c ≡ close_byte) ⊎ (c ≡ semicolon_byte))))

-- a leaf's token is at place p as a whole, not as a part of a longer one
pub record LeafShown (text : List ℕ) (p : ℕ) (x : Token) : Type 0 where
  pub shown : Within text p x
  pub starts : BeforeLabel shown.before
  pub ends : AfterLabel shown.after

-- the first byte of the label with index n in a list's text
unfoldable pub place_of_number : List Token → ℕ → ℕ
unfolding starts_of
place_of_number xs n = get_or (starts_of xs 0) n 0

-- the first byte of the token that decodes to x, in the text of a list that starts at p
unfoldable pub place_of_label : List Token → ℕ → Label → ℕ
place_of_label [] p x = p
place_of_label (y ∷ ys) p x = cond (same_label x (spelling y)) p (place_of_label ys (p + length y + 1) x)

-- the token of a list that an edition reads as x, as it stands there
unfoldable pub token_of_key : Edition → List Token → Label → Token
token_of_key e [] x = []
token_of_key e (y ∷ ys) x = cond (same_label x (key e y)) y (token_of_key e ys x)

-- a list's token is at place p as a whole: from the list's start or a `,` to a `,` or the list's end
pub record Listed (text : List ℕ) (p : ℕ) (x : Token) : Type 0 where
  pub shown : Within text p x
  pub starts : (shown.before ≡ []) ⊎ ((rest : List ℕ) × (shown.before ≡ rest ++ (comma_byte ∷ [])))
  pub ends : (shown.after ≡ []) ⊎ ((rest : List ℕ) × (shown.after ≡ comma_byte ∷ rest))

-- the text of a restriction of a tree, by an edition's order and as the tree spells its labels: "The empty set of leaves has a text of
-- no bytes"
unfoldable pub kept_text_in : Edition → Option Tree → List ℕ
unfolding normal_text_in
kept_text_in e none = []
kept_text_in e (some t) = normal_text_in e t

-- C-15: the token of the leaf that an edition reads as x, "as the first tree spells" it
unfoldable pub spelled_in : Edition → Tree → Label → Token
unfolding place_in token_in part_of text_of
spelled_in e t x = part_of (place_in (folded e t) 0 x) (length (token_in (folded e t) x)) (text_of t)

-- the label that this token decodes to
abbrev pub name_in : Edition → Tree → Label → Label
name_in e t x = spelling (spelled_in e t x)

-- and its printed form
abbrev pub printed_in : Edition → Tree → Label → Token
printed_in e t x = rewritten (spelled_in e t x)
