-- Two trees: S, T, and 12 for a leaf that stands in only one of them. 01, "Why a job is turned down"; C-11. Trees are of tokens; that they
-- share their leaves is about keys, which are the decoded labels (C-12) as the edition reads them (C-15).
use Rattle.std.specs.Prelude.{ℕ, cond, List}
use Rattle.trees.specs.declared.Reason.TheVariants.{NotShared}
use Rattle.trees.specs.declared.Body.{Body}
use Rattle.trees.specs.declared.Body.TheVariants.{S, T}
use Rattle.trees.specs.declared.Edition.{Edition}
use Rattle.trees.specs.Edition.{folded, keyed}
use Rattle.trees.specs.Tree.{Tree}
use Rattle.trees.specs.Reading.{Reading, good, refused as unread}
use Rattle.newick.specs.ReadTree.{read_tree_in}
use Rattle.agreement.specs.Places.{place_in}
use Rattle.agreement.specs.Strict.{Stray, in_first, in_second, nowhere, stray_of}
use Rattle.pairs.specs.declared.Options.{Options}
use Rattle.pairs.specs.Outcome.{Outcome, refused, found, and_then}

-- a body: "A body that fails to read ends the job there."
unfoldable pub body_of : {A : Type 0} → Body → Reading A → Outcome A
body_of body (good x) = found x
body_of body (unread r i) = refused (record { reason = r; body = body; place = i })

pub record Trees : Type 0 where
  pub first : Tree
  pub second : Tree

-- C-11: "a leaf that stands in only one tree stops the job", if the job is strict
unfoldable pub stray_for : Options → Tree → Tree → Stray
unfolding stray_of
stray_for o s t = cond o.strict (stray_of (keyed o.edition s) (keyed o.edition t)) nowhere

-- it gets number 12, "with the letter and place of the first such leaf in S or, if S has none, in T"
unfoldable pub shared_by : Edition → Tree → Tree → Stray → Outcome Trees
unfolding place_in
shared_by e s t (in_first x) = refused (record { reason = NotShared; body = S; place = place_in (folded e s) 0 x })
shared_by e s t (in_second x) = refused (record { reason = NotShared; body = T; place = place_in (folded e t) 0 x })
shared_by e s t nowhere = found (record { first = s; second = t })

-- "Order: .. S, T", and 12 "after both trees are read and before K"
unfoldable pub trees_of : Options → (first second : List ℕ) → Outcome Trees
unfolding and_then body_of shared_by stray_for read_tree_in
trees_of o first second =
    and_then (body_of S (read_tree_in o.edition first))
    (λ s. and_then (body_of T (read_tree_in o.edition second)) (λ t. shared_by o.edition s t (stray_for o s t)))
