-- An answer of the tree reader in 01's terms: how many leaves, or a row of the table "Why a job is turned down" with its number, body
-- letter and place. Then the table's examples.
use Rattle.std.specs.Prelude.{ℕ, ◌≡◌, List, [], ◌∷◌, ◌++◌, replicate, Result, Ok, Err}
use Rattle.trees.specs.declared.Body.{Body}
use Rattle.trees.specs.declared.Edition.{Edition}
use Rattle.trees.specs.declared.Refusal.{Refusal}
use Rattle.trees.specs.declared.Edition.TheVariants.{One, Two}
use Rattle.trees.specs.declared.Body.TheVariants.{S}
use Rattle.trees.specs.Bytes.{quote_byte}
use Rattle.trees.specs.Words.{bytes_of}
use Rattle.trees.specs.Refusals.{Said, value, row, row_of}
use Rattle.newick.specs.ReadTree.{read_tree_in, tree_read}

unfoldable pub tree_says : Result ℕ Refusal → Said ℕ
unfolding row_of
tree_says (Ok n) = value n
tree_says (Err r) = row_of r

-- the answer under an edition for a text given as a body
unfoldable pub says_of : Edition → Body → List ℕ → Said ℕ
unfolding tree_read read_tree_in tree_says
says_of e body text = tree_says (tree_read body (read_tree_in e text)).answer

-- the table's examples for a first tree; the letter S is the byte 83
pub record TableRows : Type 0 where
  pub blank : says_of One S (bytes_of "(a b);") ≡ row 1 83 2
  pub no_semicolon : says_of One S (bytes_of "(a,b)") ≡ row 2 83 5
  pub no_bytes : says_of One S (bytes_of "") ≡ row 2 83 0
  -- thirty-three `a`: "Number 3 now stands at the 33rd byte" (C-14)
  pub thirty_three : says_of One S (replicate 33 97) ≡ row 3 83 32
  -- seventeen `a` and `;`, which were refused before it
  pub seventeen : says_of One S (replicate 17 97 ++ bytes_of ";") ≡ value 1
  -- eighty `(`
  pub eighty : says_of One S (replicate 80 40) ≡ row 4 83 79
  pub twice : says_of One S (bytes_of "(a,a);") ≡ row 5 83 3

-- C-12's examples for a first tree
pub record QuotedRows : Type 0 where
  pub nothing_quoted : says_of One S (bytes_of "''") ≡ row 1 83 1
  -- "a bare `a_b` and a quoted `'a b'` are one"
  pub one_label : says_of One S (bytes_of "('a b',a_b);") ≡ row 5 83 7
  pub other_label : says_of One S (bytes_of "('a_b',a_b);") ≡ value 2
  -- a quote and thirty-three `a`: "The limit counts bytes between the quotes"
  pub thirty_three : says_of One S (quote_byte ∷ replicate 33 97) ≡ row 3 83 33
  -- a quote, thirty-two `a` and a tab: "also where number 3 would stand"
  pub wrong_byte : says_of One S (quote_byte ∷ (replicate 32 97 ++ (9 ∷ []))) ≡ row 1 83 33
  -- "a label whose quote does not close is not compared with others"
  pub unclosed : says_of One S (bytes_of "(a,'a") ≡ row 2 83 5

-- C-15's examples for a first tree: "so `(A,a);` repeats a label" under edition 2, and only A to Z are read so
pub record EditionRows : Type 0 where
  pub case_matters : says_of One S (bytes_of "(A,a);") ≡ value 2
  pub case_repeats : says_of Two S (bytes_of "(A,a);") ≡ row 5 83 3
  pub last_letter : says_of Two S (bytes_of "(Z,z);") ≡ row 5 83 3
  -- "a quoted underscore is itself", and a bare one a blank, whatever the edition
  pub no_letter : says_of Two S (bytes_of "('A_b',a_B);") ≡ value 2
  pub decoded_first : says_of Two S (bytes_of "('A b',a_B);") ≡ row 5 83 7
