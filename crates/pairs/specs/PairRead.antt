-- What comes back for two texts: why they are refused, or both trees by their arrays and their common leaves by rank.
use Rattle.std.specs.Prelude.{ℕ, ◌≤◌, ◌≡◌, List, Result, Ok, Err}
use Rattle.trees.specs.declared.Body.{Body}
use Rattle.trees.specs.declared.Reason.TheVariants.{EndsTooSoon}
use Rattle.trees.specs.declared.Refusal.{Refusal}
use Rattle.trees.specs.declared.Edition.{Edition}
use Rattle.trees.specs.declared.TreeArrays.{TreeArrays}
use Rattle.trees.specs.Edition.{folded, keyed, ValidIn}
use Rattle.trees.specs.Tree.{Tree, Valid}
use Rattle.trees.specs.Text.{text_of}
use Rattle.trees.specs.Arrays.{arrays_of}
use Rattle.pairs.specs.declared.CommonOrder.{CommonOrder}
use Rattle.pairs.specs.declared.Options.{Options}
use Rattle.pairs.specs.declared.Pair.{Pair}
use Rattle.pairs.specs.Outcome.{refused, found}
use Rattle.pairs.specs.TwoTrees.{Trees, trees_of}
use Rattle.pairs.specs.OwnLeaves.{OwnTree, Ordered}

-- two trees as the edition reads them, with their common labels in label order; `first` is the first tree's text
pub record OwnTrees (e : Edition) (first : List ℕ) (tree1 tree2 : TreeArrays) (order : CommonOrder) : Type 0 where
  pub s : Tree
  pub t : Tree
  pub valid1 : ValidIn e s
  pub first_text : first ≡ text_of s
  pub one : OwnTree (folded e s) e first tree1
  pub valid2 : Valid (folded e t)
  pub first_arrays : tree1 ≡ arrays_of (folded e s)
  pub second_arrays : tree2 ≡ arrays_of (folded e t)
  pub few : order.count ≤ 80
  pub ordered : Ordered (keyed e s) (keyed e t) order.first order.second order.count

abbrev pub trees_in : {e : Edition} {first : List ℕ} {tree1 tree2 : TreeArrays} {order : CommonOrder}
    → OwnTrees e first tree1 tree2 order → Trees
trees_in b = record { first = b.s; second = b.t }

-- the pair is that of these texts, or the refusal is theirs
abbrev pub PairIs : Options → (first second : List ℕ) → Result Pair Refusal → Type 0
PairIs o first second (Ok p) = (b : OwnTrees o.edition first p.tree1 p.tree2 p.order) × (trees_of o first second ≡ found (trees_in b))
PairIs o first second (Err q) = trees_of o first second ≡ refused q

-- the refusal of a tree's text; that of a text that was read does not occur
unfoldable pub unread_tree : Result ℕ Refusal → Body → Refusal
unread_tree (Ok n) body = record { reason = EndsTooSoon; body = body; place = 0 }
unread_tree (Err q) body = q
