-- The passes over tree arrays as the code makes them; intermediate: nothing public rests on this text.
use Rattle.std.specs.Prelude.{ℕ, zero, suc, ◌+◌, ◌*◌, ◌-◌, ◌<◌, ◌≤◌, min, ◌≡◌, Bool, true, false, cond, not, List, [], ◌∷◌, ◌++◌, eqb, length, get_or, set, replicate, Option, Some, None}
use Rattle.trees.specs.declared.Edition.{Edition}
use Rattle.trees.specs.declared.TreeArrays.{TreeArrays}
use Rattle.trees.specs.Label.{Label, label_less}
use Rattle.trees.specs.Token.{Token, token_limit}
use Rattle.trees.specs.Tree.{Tree, leaves, relabel, smallest, leaf_limit}
use Rattle.trees.specs.Text.{written}
use Rattle.trees.specs.Arrays.{tree_at, is_leaf, good_nodes}
use Rattle.trees.specs.Edition.{in_edition, keyed, normal_in, rewritten}
use Rattle.writer.specs.declared.Thing.{Thing}
use Rattle.writer.specs.declared.Thing.TheVariants.{Node, Comma, Close}
use Rattle.trees.specs.Stored.{stored_bytes, stored_of, shown_bytes, shown_of, leaf_spelling}

-- entries 0 to n - 1 stored in this order, each from the entries stored before it
unfoldable pub pass : (List ℕ → ℕ → ℕ) → List ℕ → ℕ → List ℕ
pass f t zero = t
pass f t (suc n) = set (pass f t n) n (f (pass f t n) n)

-- what leaf u writes: that label's written form, as the text spells it
unfoldable pub leaf_token : (text s z : List ℕ) → ℕ → Token
leaf_token text s z u = shown_bytes (shown_of (stored_bytes (stored_of (leaf_spelling text s z u))))

-- how many bytes node u writes if it is a leaf
unfoldable pub weight_at : (text l s z : List ℕ) → ℕ → ℕ
unfolding leaf_token
weight_at text l s z u = cond (eqb (get_or l u 0) u) (length (leaf_token text s z u)) 0

-- one more than 80 leaves can weigh, if each weighs three bytes more than it writes
abbrev pub weight_cap : ℕ
weight_cap = leaf_limit * (token_limit + 3) + 1

-- the sum at node u of what its leaves weigh, at most cap
unfoldable pub sum_at : List ℕ → List ℕ → List ℕ → ℕ → ℕ → List ℕ → ℕ → ℕ
sum_at l r w plus cap t u =
    cond (eqb (get_or l u 0) u) (min cap (get_or w u 0 + plus)) (min cap (get_or t (get_or l u 0) 0 + get_or t (get_or r u 0) 0))

-- the last of the sums at n nodes
unfoldable pub root_sum : List ℕ → List ℕ → List ℕ → ℕ → ℕ → ℕ → ℕ
unfolding pass sum_at
root_sum l r w plus cap n = get_or (pass (sum_at l r w plus cap) (replicate 159 0) n) (n - 1) 0

-- t names for a node the leaf with the smallest label below it; the label of i is less than that of j. The text is the one that an edition
-- reads.
unfoldable pub goes_first : List ℕ → List ℕ → List ℕ → List ℕ → ℕ → ℕ → Bool
goes_first text s z t i j = label_less (leaf_spelling text s z (get_or t i 0)) (leaf_spelling text s z (get_or t j 0))

-- the leaf with the smallest label below node u
unfoldable pub least_at : List ℕ → List ℕ → List ℕ → List ℕ → List ℕ → List ℕ → ℕ → ℕ
unfolding goes_first
least_at text l r s z t u =
    cond (eqb (get_or l u 0) u) u
    (cond (goes_first text s z t (get_or l u 0) (get_or r u 0)) (get_or t (get_or l u 0) 0) (get_or t (get_or r u 0) 0))

-- the child of node u that is written first; u itself if it is a leaf
unfoldable pub first_at : List ℕ → List ℕ → List ℕ → List ℕ → List ℕ → List ℕ → ℕ → ℕ
unfolding goes_first
first_at text l r s z t u =
    cond (eqb (get_or l u 0) u) u (cond (goes_first text s z t (get_or l u 0) (get_or r u 0)) (get_or l u 0) (get_or r u 0))

-- the tree below node u, with tokens for labels
unfoldable pub below : TreeArrays → List ℕ → ℕ → Tree
below a text u = tree_at (suc u) a text u

-- how a tree of tokens is written, each in its label's one form, children in their order
abbrev pub shown_text : Tree → List ℕ
shown_text t = written (relabel rewritten t)

-- how node u is written
unfoldable pub node_text : Edition → TreeArrays → List ℕ → ℕ → List ℕ
unfolding below normal_in
node_text e a text u = shown_text (normal_in e (below a text u))

-- arrays with a node, each of which is good over the text
pub record Good (a : TreeArrays) (text : List ℕ) : Type 0 where
  pub some : 0 < a.nodes
  pub few : a.nodes ≤ 159
  pub each : good_nodes a text a.nodes ≡ true

-- the tree below the last node, and how it is written
abbrev pub root_tree : TreeArrays → List ℕ → Tree
root_tree a text = below a text (a.nodes - 1)

abbrev pub root_text : Edition → TreeArrays → List ℕ → List ℕ
root_text e a text = node_text e a text (a.nodes - 1)

-- t names the leaf with the smallest label, as the edition reads it, below each of the first n nodes
abbrev pub Leasts : Edition → TreeArrays → List ℕ → List ℕ → ℕ → Type 0
Leasts e a text t n =
    (u : ℕ) → u < n → leaf_spelling (in_edition e text) a.start a.size (get_or t u 0) ≡ smallest (keyed e (below a text u))

-- node u is a leaf, or has child f written first and child s after it
pub data Child (e : Edition) (a : TreeArrays) (text : List ℕ) (u f s : ℕ) : Type 0 where
  own : f ≡ u → is_leaf a u ≡ true → node_text e a text u ≡ leaf_token text a.start a.size u → Child e a text u f s
  pair : f < u → s < u
      → node_text e a text u ≡ 40 ∷ (node_text e a text f ++ (44 ∷ (node_text e a text s ++ (41 ∷ []))))
      → length (leaves (below a text u)) ≡ length (leaves (below a text f)) + length (leaves (below a text s))
      → Child e a text u f s

-- the child that is not f
abbrev pub other_of : List ℕ → List ℕ → ℕ → ℕ → ℕ
other_of l r f u = cond (eqb f (get_or l u 0)) (get_or r u 0) (get_or l u 0)

abbrev pub ChildNodes : Edition → TreeArrays → List ℕ → List ℕ → ℕ → Type 0
ChildNodes e a text first n =
    (u : ℕ) → u < n → Child e a text u (get_or first u 0) (other_of a.left a.right (get_or first u 0) u)

-- what a thing writes in all
unfoldable pub thing_text : Edition → TreeArrays → List ℕ → Thing → List ℕ
unfolding node_text
thing_text e a text (Node k) = node_text e a text k
thing_text e a text Comma = 44 ∷ []
thing_text e a text Close = 41 ∷ []

-- and itself
unfoldable pub own_text : List ℕ → List ℕ → List ℕ → List ℕ → Thing → List ℕ
unfolding leaf_token
own_text text s z first (Node k) = cond (eqb (get_or first k 0) k) (leaf_token text s z k) (40 ∷ [])
own_text text s z first Comma = 44 ∷ []
own_text text s z first Close = 41 ∷ []

-- a thing after which others come
unfoldable pub goes_on : List ℕ → Thing → Bool
goes_on first (Node k) = not (eqb (get_or first k 0) k)
goes_on first Comma = false
goes_on first Close = false

unfoldable pub depth_after : List ℕ → Thing → ℕ → ℕ
unfolding goes_on
depth_after first x d = cond (goes_on first x) (d + 4) d

unfoldable pub stack_after : List ℕ → List ℕ → List ℕ → Thing → List Thing → ℕ → List Thing
unfolding goes_on
stack_after l r first (Node k) stack d =
    cond (goes_on first (Node k))
    (set (set (set (set stack d Close) (d + 1) (Node (other_of l r (get_or first k 0) k))) (d + 2) Comma) (d + 3) (Node (get_or first k 0)))
    stack
stack_after l r first Comma stack d = stack
stack_after l r first Close stack d = stack

-- a stack of d things after the last of them was taken off, if there is one
abbrev pub Popped : List Thing → ℕ → List Thing → ℕ → Option Thing → Type 0
Popped old d now m None = d ≡ 0
Popped old d now m (Some x) = (d ≡ m + 1) × ((x ≡ get_or old m (Node 0)) × (now ≡ old))

-- what the stack's first d things write, the last of them first, and in how many steps
unfoldable pub stack_text : Edition → TreeArrays → List ℕ → List Thing → ℕ → List ℕ
unfolding thing_text
stack_text e a text stack zero = []
stack_text e a text stack (suc d) = thing_text e a text (get_or stack d (Node 0)) ++ stack_text e a text stack d

unfoldable pub thing_steps : TreeArrays → List ℕ → Thing → ℕ
unfolding below
thing_steps a text (Node k) = 4 * length (leaves (below a text k)) - 3
thing_steps a text Comma = 1
thing_steps a text Close = 1

unfoldable pub stack_steps : TreeArrays → List ℕ → List Thing → ℕ → ℕ
unfolding thing_steps
stack_steps a text stack zero = 0
stack_steps a text stack (suc d) = thing_steps a text (get_or stack d (Node 0)) + stack_steps a text stack d
