-- One step of `read_from`: where it goes on, where it stops, and the step inside a label of either form. Assumes nothing.
use Prim.Native.Nat.{ℕ, ◌+◌}
use mathlib.Core.Path.{◌≡◌, refl, ap}
use mathlib.Core.Bool.{Bool, true, false}
use mathlib.Core.Logic.{◌⊎◌, inl, inr}
use mathlib.Core.List.{List, [], ◌∷◌, ◌++◌, map}
use lib.Dec.{eqb}
use lib.ListN.{length}
use Rattle.trees.specs.declared.Kind.TheVariants.{Label as LabelByte, Blank}
use Rattle.trees.specs.declared.Reason.{Reason}
use Rattle.trees.specs.Bytes.{kind_of}
use Rattle.trees.specs.Label.{label_limit}
use Rattle.trees.specs.Token.{Token, spelling}
use Rattle.trees.specs.Reading.{Reading, refused, repeats}
use Rattle.trees.proofs.TokenForms.{inner_of}
use Rattle.trees.proofs.ReadingLaws.{kind_label, kind_inner}
use Rattle.lists.specs.ReadList.{Phase, in_quotes, Step, next, stop, goes_on, step_due, step_bare, step_quotes, step, read_from}
use Rattle.lists.proofs.AcceptsRaw.{due, within}

read_on : List Token → ℕ → List ℕ → Step → Reading (List Token)
read_on seen at rest s = elim s [ next p' seen' ↦ read_from p' seen' (at + 1) rest | stop r ↦ refused r at ]

pub read_next : (p : Phase) (seen : List Token) (at b : ℕ) (rest : List ℕ) (p' : Phase) (seen' : List Token)
    → step p seen b rest ≡ next p' seen' → read_from p seen at (b ∷ rest) ≡ read_from p' seen' (at + 1) rest
unfolding read_from read_on
read_next p seen at b rest p' seen' e = ap (read_on seen at rest) e

pub read_stop : (p : Phase) (seen : List Token) (at b : ℕ) (rest : List ℕ) (r : Reason)
    → step p seen b rest ≡ stop r → read_from p seen at (b ∷ rest) ≡ refused r at
unfolding read_from read_on
read_stop p seen at b rest r e = ap (read_on seen at rest) e

-- where a label may begin
pub due_step : (c : Bool) (seen : List Token) (b : ℕ) (rest : List ℕ)
    → step (due c) seen b rest ≡ step_due seen (repeats (map spelling seen) (b ∷ rest)) b (kind_of b)
unfolding step
due_step true seen b rest = refl
due_step false seen b rest = refl

-- one more byte of a label
pub letter_step : (q : Bool) (y : List ℕ) (seen : List Token) (b : ℕ) (rest : List ℕ) → inner_of q b ≡ true
    → step (within q y) seen b rest ≡ goes_on (eqb (length y) label_limit) (within q (y ++ (b ∷ []))) seen
unfolding step step_bare step_quotes
letter_step true y seen b rest h = go (kind_inner b h)
  where
    go : (kind_of b ≡ LabelByte) ⊎ (kind_of b ≡ Blank)
        → step (in_quotes y) seen b rest ≡ goes_on (eqb (length y) label_limit) (in_quotes (y ++ (b ∷ []))) seen
    go (inl k) = ap (step_quotes y seen b) k
    go (inr k) = ap (step_quotes y seen b) k
letter_step false y seen b rest h = ap (step_bare y seen b) (kind_label b h)
