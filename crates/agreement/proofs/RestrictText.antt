-- The restrictions of two trees to a set on which they agree have one text. Assumes nothing.
use Prim.Native.Nat.{ℕ}
use mathlib.Core.Path.{◌≡◌, refl, ap}
use mathlib.Core.Bool.{Bool, true}
use mathlib.Core.List.{List, []}
use mathlib.Core.Option.{Option, some, none}
use Rattle.trees.specs.Label.{Label, distinct}
use Rattle.trees.specs.Token.{token_of}
use Rattle.trees.specs.Tree.{Tree, leaves, relabel}
use Rattle.trees.specs.Text.{text_of, normal_text}
use Rattle.trees.proofs.NormalLaws.{normal_of_same}
use Rattle.agreement.specs.Closer.{Agree, Common}
use Rattle.agreement.specs.Restrict.{restrict}
use Rattle.agreement.specs.SameKept.{SameKept, both_none, both_some}
use Rattle.agreement.proofs.RestrictLaws.{restrict_distinct}
use Rattle.agreement.proofs.AgreeRestrict.{agree_restrict}

-- the text of a restriction of a tree of decoded labels
unfoldable pub kept_text : Option Tree → List ℕ
unfolding normal_text
kept_text none = []
kept_text (some t) = normal_text t

-- "the normal text of the common restriction": either tree gives it
pub one_text : (s t : Tree) (X : Label → Bool) → distinct (leaves s) ≡ true → distinct (leaves t) ≡ true → Common s t X → Agree s t X
    → kept_text (restrict X s) ≡ kept_text (restrict X t)
unfolding kept_text normal_text
one_text s t X ds dt m g = go (agree_restrict s t X ds dt m g) refl
  where
    go : {o u : Option Tree} → SameKept o u → restrict X s ≡ o → kept_text o ≡ kept_text u
    go both_none e = refl
    go (both_some {p} n) e = ap (λ (u : Tree). text_of (relabel token_of u)) (normal_of_same n (restrict_distinct X s p e ds))
