-- The normal text of what a normal text stands for is that text again. Assumes nothing.
use mathlib.Core.Path.{◌≡◌, refl, sym, ◌∙◌, ap, ap₂}
use mathlib.Core.Bool.{Bool, true, false, cond}
use mathlib.Core.Logic.{◌⊎◌, inl, inr}
use mathlib.Core.List.{[]}
use Rattle.trees.specs.declared.Edition.{Edition}
use Rattle.trees.specs.Label.{label_less, distinct}
use Rattle.trees.specs.Token.{token_of, good_labels}
use Rattle.trees.specs.Tree.{Tree, leaf, node, leaves, relabel, smallest, normal}
use Rattle.trees.specs.Text.{text_of}
use Rattle.trees.specs.Edition.{keyed, ValidIn, normal_in, rewritten, normal_text_in}
use Rattle.trees.proofs.Bools.{bool_cases}
use Rattle.trees.proofs.EditionLaws.{keyed_node, normal_tree, normal_tree_keyed, normal_tree_valid}
use Rattle.trees.proofs.ListLaws.{good_head, good_split, distinct_left, distinct_right}
use Rattle.trees.proofs.NormalLaws.{normal_straight, normal_crossed, normal_same, same_smallest, smallest_differ, normal_twice}
use Rattle.trees.proofs.TokenLaws.{token_back}

abbrev first_child : Tree → Tree
first_child (leaf x) = leaf x
first_child (node a b) = a

abbrev second_child : Tree → Tree
second_child (leaf x) = leaf x
second_child (node a b) = b

module _ (e : Edition) where
  -- a tree whose keys are in normal order stays as it is
  module _ (a b : Tree) (different : distinct (leaves (node (keyed e a) (keyed e b))) ≡ true)
      (ordered : normal (node (keyed e a) (keyed e b)) ≡ node (keyed e a) (keyed e b))
      (left : normal (keyed e a) ≡ keyed e a → normal_in e a ≡ a) (right : normal (keyed e b) ≡ keyed e b → normal_in e b ≡ b) where
    stays_node : normal_in e (node a b) ≡ node a b
    unfolding normal_in
    stays_node = go (bool_cases (label_less (smallest (keyed e a)) (smallest (keyed e b))))
      where
        go : (label_less (smallest (keyed e a)) (smallest (keyed e b)) ≡ true) ⊎ (label_less (smallest (keyed e a)) (smallest (keyed e b)) ≡ false)
            → cond (label_less (smallest (keyed e a)) (smallest (keyed e b))) (node (normal_in e a) (normal_in e b)) (node (normal_in e b) (normal_in e a))
            ≡ node a b
        go (inl h) =
            let k = sym (normal_straight (keyed e a) (keyed e b) h) ∙ ordered in
            rw h (ap₂ node (left (ap first_child k)) (right (ap second_child k)))
        go (inr h) =
            let k = sym (normal_crossed (keyed e a) (keyed e b) h) ∙ ordered in
            absurd (smallest_differ (keyed e a) (keyed e b) different
            (ap smallest (sym (ap first_child k)) ∙ same_smallest (normal_same (keyed e b))))

  stays : (t : Tree) → distinct (leaves (keyed e t)) ≡ true → normal (keyed e t) ≡ keyed e t → normal_in e t ≡ t
  unfolding normal_in leaves
  stays (leaf x) d h = refl
  stays (node a b) d h =
      let n = keyed_node e a b in
      let m = ap (λ (t : Tree). distinct (leaves t)) (sym n) ∙ d in
      stays_node a b m (ap normal (sym n) ∙ h ∙ n) (stays a (distinct_left (leaves (keyed e a)) (leaves (keyed e b)) m))
      (stays b (distinct_right (leaves (keyed e a)) (leaves (keyed e b)) m))

  -- labels that are written are written again as they are
  abbrev Twice : Tree → Type 0
  Twice t = relabel rewritten (relabel rewritten t) ≡ relabel rewritten t

  written_twice : (t : Tree) → good_labels (leaves t) ≡ true → Twice (normal_in e t)
  unfolding normal_in relabel leaves
  written_twice (leaf x) h = ap (λ y. leaf (token_of y)) (token_back x (good_head x [] h).0)
  written_twice (node a b) h =
      let k = good_split (leaves a) (leaves b) h in
      go (written_twice a k.0) (written_twice b k.1) (label_less (smallest (keyed e a)) (smallest (keyed e b)))
    where
      go : Twice (normal_in e a) → Twice (normal_in e b) → (less : Bool)
          → Twice (cond less (node (normal_in e a) (normal_in e b)) (node (normal_in e b) (normal_in e a)))
      go p q true = ap₂ node p q
      go p q false = ap₂ node q p

  pub normal_text_twice : (t : Tree) → ValidIn e t → normal_text_in e (normal_tree e t) ≡ normal_text_in e t
  unfolding normal_text_in
  normal_text_twice t v =
      ap text_of
      (ap (relabel rewritten) (stays (normal_tree e t) (normal_tree_valid e t v).different
      (ap normal (normal_tree_keyed e t v) ∙ normal_twice (keyed e t) v.different ∙ sym (normal_tree_keyed e t v)))
      ∙ written_twice t v.labels)
