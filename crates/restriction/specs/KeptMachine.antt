-- Intermediate: nothing public rests on this text. One pass over the nodes of tree arrays that moves the nodes of the
-- restriction to the front of the same arrays and notes each old node's new number.
use Rattle.std.specs.Prelude.{ℕ, zero, suc, ◌+◌, ◌-◌, Bool, false, cond, List, eqb, ltb, get_or, set, replicate, Option, Some, None}
use Rattle.trees.specs.declared.TreeArrays.{TreeArrays}
use Rattle.trees.specs.Arrays.{node_limit}
use Rattle.restriction.specs.declared.NodeFate.{NodeFate}
use Rattle.restriction.specs.declared.NodeFate.TheVariants.{Known, Fresh}

-- a node's new number, none if no leaf is kept below it
abbrev pub NewNumber : Type 0
NewNumber = Option ℕ

-- how far the pass is: the new nodes so far, and the new number of each node passed
pub record Pass : Type 0 where
  pub count : ℕ
  pub moved : List NewNumber
  pub left : List ℕ
  pub right : List ℕ
  pub start : List ℕ
  pub size : List ℕ

abbrev pub pass_at : ℕ → List NewNumber → List ℕ → List ℕ → List ℕ → List ℕ → Pass
pass_at n p l r b z = record { count = n; moved = p; left = l; right = r; start = b; size = z }

-- the new nodes so far are the nodes of the arrays
abbrev pub pass_in : TreeArrays → List NewNumber → Pass
pass_in a moved = pass_at a.nodes moved a.left a.right a.start a.size

-- before the first node
abbrev pub start_of : TreeArrays → Pass
start_of a = pass_at 0 (replicate node_limit None) a.left a.right a.start a.size

-- the first n nodes of the pass
abbrev pub arrays_at : ℕ → Pass → TreeArrays
arrays_at n s = record { nodes = n; left = s.left; right = s.right; start = s.start; size = s.size }

-- a child's new number; a child that does not come before its parent has none
unfoldable pub moved_to : List NewNumber → ℕ → ℕ → NewNumber
moved_to moved child u = cond (ltb child u) (get_or moved child None) None

-- what becomes of an inner node whose children have these new numbers
unfoldable pub joined : NewNumber → NewNumber → NodeFate
joined None None = Known None
joined None (Some r) = Known (Some r)
joined (Some l) None = Known (Some l)
joined (Some l) (Some r) = Fresh l r

-- what becomes of node u if `count` is the next new number
unfoldable pub fate_of : List ℕ → List ℕ → List NewNumber → List Bool → ℕ → ℕ → NodeFate
unfolding moved_to joined
fate_of left right moved kept u count =
    cond (eqb (get_or left u 0) u) (cond (get_or kept u false) (Fresh count count) (Known None))
    (joined (moved_to moved (get_or left u 0) u) (moved_to moved (get_or right u 0) u))

-- the pass once that is settled: a new node takes the label of node u
unfoldable pub settled : NodeFate → ℕ → Pass → Pass
settled (Known p) u s =
    record { count = s.count; moved = set s.moved u p; left = s.left; right = s.right; start = s.start; size = s.size }
settled (Fresh l r) u s =
    record {
      count = s.count + 1;
      moved = set s.moved u (Some s.count);
      left = set s.left s.count l;
      right = set s.right s.count r;
      start = set s.start s.count (get_or s.start u 0);
      size = set s.size s.count (get_or s.size u 0);
    }

unfoldable pub step_of : List Bool → ℕ → Pass → Pass
unfolding fate_of settled
step_of kept u s = settled (fate_of s.left s.right s.moved kept u s.count) u s

-- the pass over the first n nodes
unfoldable pub pass_of : Pass → List Bool → ℕ → Pass
unfolding step_of
pass_of s kept zero = s
pass_of s kept (suc n) = step_of kept n (pass_of s kept n)

-- the nodes up to the new number of the root, which is the last of n nodes
abbrev pub up_to : NewNumber → ℕ
up_to None = 0
up_to (Some p) = p + 1

unfoldable pub nodes_kept : List NewNumber → ℕ → ℕ
nodes_kept moved n = cond (eqb n 0) 0 (up_to (get_or moved (n - 1) None))
