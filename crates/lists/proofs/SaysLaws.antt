-- What the reader says of a list's text, case by case. Assumes nothing.
use Prim.Native.Nat.{ℕ}
use mathlib.Core.Path.{◌≡◌, ap}
use mathlib.Core.List.{List}
use lib.ListN.{length}
use Rattle.trees.specs.declared.Reason.{Reason}
use Rattle.trees.specs.declared.Body.{Body}
use Rattle.trees.specs.declared.Edition.{Edition}
use Rattle.trees.specs.Edition.{in_edition}
use Rattle.trees.specs.Token.{Token}
use Rattle.trees.specs.Reading.{Reading, good, refused}
use Rattle.trees.specs.Refusals.{number_of, letter_of, value, row, row_of}
use Rattle.lists.specs.ReadList.{read_list_in, list_read, IsList}
use Rattle.lists.specs.ListGrammar.{ListFault}
use Rattle.lists.specs.ListSays.{list_says, says_of}
use Rattle.lists.proofs.EditionLists.{list_reads_in, list_fault_refused_in}

-- what is said of a result
says_read : (e : Edition) (body : Body) (text : List ℕ) (r : Reading (List Token)) → read_list_in e text ≡ r
    → says_of e body text ≡ list_says (list_read body r).answer
unfolding says_of
says_read e body text r h = ap (λ (w : Reading (List Token)). list_says (list_read body w).answer) h

pub says_labels : (e : Edition) (body : Body) (text : List ℕ) (xs : List Token) → IsList e text xs
    → says_of e body text ≡ value (length xs)
unfolding list_says list_read
says_labels e body text xs l = says_read e body text (good xs) (list_reads_in e text xs l)

pub says_fault : (e : Edition) (body : Body) (text : List ℕ) (r : Reason) (i : ℕ) → ListFault (in_edition e text) r i
    → says_of e body text ≡ row (number_of r) (letter_of body) i
unfolding list_says list_read row_of
says_fault e body text r i f = says_read e body text (refused r i) (list_fault_refused_in e text r i f)
