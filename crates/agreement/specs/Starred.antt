-- The starred cases of 01's "Trees to try", as a table of texts and answers.
use Prim.Native.String.{String}
use Rattle.std.proofs.Math.Option.{Option, some, none}
use Rattle.std.specs.Prelude.{List, [], ◌∷◌, map}
use Rattle.trees.specs.Label.{Label}
use Rattle.trees.specs.Token.{spelling}
use Rattle.trees.specs.Tree.{decoded}
use Rattle.trees.specs.Words.{bytes_of}
use Rattle.trees.specs.Reading.{good, refused}
use Rattle.newick.specs.ReadTree.{read_tree}
use Rattle.lists.specs.ReadList.{read_list}
use Rattle.agreement.specs.Answer.{Answer, disagree, largest, answer}

pub record Row : Type 0 where
  pub first : String
  pub second : String
  pub required : String
  pub expected : Answer

-- the answer to the texts of a row; none if one of them cannot be read
unfoldable pub answered : Row → Option Answer
unfolding bytes_of
answered row =
    elim (read_tree (bytes_of row.first)) [
      | refused r at ↦ none
      | good s ↦
          elim (read_tree (bytes_of row.second)) [
            | refused r at ↦ none
            | good t ↦
                elim (read_list (bytes_of row.required)) [
                  | refused r at ↦ none
                  | good K ↦ some (answer (decoded s) (decoded t) (map spelling K))
                ]
          ]
    ]

-- "Let P = `((((a,b),c),d),e);` and Q = `((((a,c),b),d),e);` and R = `((((a,b),c),e),d);`."
abbrev pub P : String
P = "((((a,b),c),d),e);"

abbrev pub Q : String
Q = "((((a,c),b),d),e);"

abbrev pub R : String
R = "((((a,b),c),e),d);"

abbrev pub a : Label
a = bytes_of "a"

abbrev pub b : Label
b = bytes_of "b"

abbrev pub c : Label
c = bytes_of "c"

abbrev pub d : Label
d = bytes_of "d"

abbrev pub e : Label
e = bytes_of "e"

abbrev pub row : String → String → String → Answer → Row
row s t K A = record { first = s; second = t; required = K; expected = A }

-- in 01's order
unfoldable pub rows : List Row
rows =
    row P Q "" (largest (a ∷ b ∷ d ∷ e ∷ []))
    ∷ row P Q "c" (largest (a ∷ c ∷ d ∷ e ∷ []))
    ∷ row P Q "b,c" (largest (b ∷ c ∷ d ∷ e ∷ []))
    ∷ row P Q "a,b,c" (disagree a b c)
    ∷ row P Q "a,b,d" (largest (a ∷ b ∷ d ∷ e ∷ []))
    ∷ row P R "" (largest (a ∷ b ∷ c ∷ d ∷ []))
    ∷ row P R "d,e" (largest (d ∷ e ∷ []))
    ∷ row "((a,b),c);" "((a,c),b);" "a" (largest (a ∷ b ∷ []))
    ∷ row "a;" "a;" "" (largest (a ∷ []))
    ∷ row "(a,b);" "(c,d);" "" (largest [])
    ∷ row P P "" (largest (a ∷ b ∷ c ∷ d ∷ e ∷ []))
    ∷ row P R "c,d,e" (disagree c d e)
    ∷ []
