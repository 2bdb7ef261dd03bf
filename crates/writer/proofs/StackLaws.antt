-- The stack of things to write: one step of it, what it writes and how many steps are left. Assumes nothing.
use Prim.Native.Nat.{ℕ, zero, suc, ◌+◌, ◌≤◌, ◌<◌}
use mathlib.Core.Path.{◌≡◌, refl, sym, ◌∙◌, ap, ap₂, subst}
use mathlib.Core.Bool.{Bool, true, false, cond}
use mathlib.Core.Logic.{◌⊎◌, inl, inr}
use mathlib.Core.List.{List, [], ◌∷◌, ◌++◌, append_assoc, append-nil}
use native.Mathlib.Omega.{arith}
use lib.Dec.{eqb}
use lib.ListN.{length, get_or, set, replicate, length-append, length-set, length-replicate}
use lib.Seq.{sets, get_or-set_same, get_or-set_other}
use borrow.Author.Tests.{eq-eqb, ne_eqb, eqb-true, eqb-false}
use Rattle.trees.specs.declared.Edition.{Edition}
use Rattle.trees.specs.declared.TreeArrays.{TreeArrays}
use Rattle.trees.specs.Tree.{Tree, leaf, leaves}
use Rattle.trees.specs.Arrays.{good_nodes, is_leaf, label_at}
use Rattle.trees.specs.Edition.{in_edition}
use Rattle.trees.proofs.TreeLaws.{leaves_node, leaves_some}
use Rattle.trees.proofs.Bools.{bool_cases}
use Rattle.writer.specs.Passes.{leaf_token, goes_first, first_at, below, node_text, Leasts, Child, own, pair, other_of, ChildNodes}
use Rattle.writer.specs.declared.Thing.{Thing}
use Rattle.writer.specs.declared.Thing.TheVariants.{Node, Comma, Close}
use Rattle.writer.specs.Passes.{thing_text, own_text, goes_on, depth_after, stack_after, stack_text, thing_steps, stack_steps}
use Rattle.writer.proofs.NodeLaws.{below_leaf, below_node}
use Rattle.writer.proofs.PassLaws.{pair_of, leaf_written, label_token}
use Rattle.writer.proofs.WriteLaws.{sets_append}

-- the child that goes first; v is what the code answers
module _ (text l r s z t : List ℕ) (u : ℕ) where
  pub first_leaf : get_or l u 0 ≡ u → u ≡ first_at text l r s z t u
  unfolding first_at
  first_leaf e = rw (eq-eqb (get_or l u 0) u e) refl

  pub first_node : (i j : ℕ) → i ≡ get_or l u 0 → j ≡ get_or r u 0 → (i ≡ u → ⊥) → (b : Bool) → b ≡ goes_first text s z t i j
      → (v : ℕ) → v ≡ cond b i j → v ≡ first_at text l r s z t u
  unfolding first_at
  first_node i j ei ej ne b eb v ev =
      rw (ne_eqb (get_or l u 0) u (λ (k : get_or l u 0 ≡ u). ne (ei ∙ k)))
      (ev ∙ ap (λ (q : Bool). cond q i j) eb ∙ ap₂ (λ (x y : ℕ). cond (goes_first text s z t x y) x y) ei ej)

-- the child that is not the first is the second
other_second : (b : Bool) (l r f : ℕ) → f ≡ cond b l r → cond (eqb f l) r l ≡ cond b r l
other_second true l r f e = rw (eq-eqb f l e) refl
other_second false l r f e = go (bool_cases (eqb f l))
  where
    go : (eqb f l ≡ true) ⊎ (eqb f l ≡ false) → cond (eqb f l) r l ≡ l
    go (inl h) = rw h (sym e ∙ eqb-true f l h)
    go (inr h) = rw h refl

leaves_add : (b : Bool) (x y : ℕ) (f : ℕ → ℕ) → f x + f y ≡ f (cond b x y) + f (cond b y x)
leaves_add true x y f = refl
leaves_add false x y f = omega arith

module _ (e : Edition) (a : TreeArrays) (text : List ℕ) (n : ℕ) (g : good_nodes a text n ≡ true) where
  -- by what the passes found, each node is a leaf or has two children in the order of writing
  pub children_found : (t first : List ℕ) → Leasts e a text t n
      → ((u : ℕ) → u < n → get_or first u 0 ≡ first_at (in_edition e text) a.left a.right a.start a.size t u)
      → ChildNodes e a text first n
  unfolding first_at is_leaf
  children_found t first least found u h = go (bool_cases (is_leaf a u))
    where
      l : ℕ
      l = get_or a.left u 0

      r : ℕ
      r = get_or a.right u 0

      go : (is_leaf a u ≡ true) ⊎ (is_leaf a u ≡ false) → Child e a text u (get_or first u 0) (other_of a.left a.right (get_or first u 0) u)
      go (inl q) = own (found u h ∙ rw q refl) q (leaf_written e a text u q ∙ sym (label_token a text n g u h q))
      go (inr q) =
          let b = goes_first (in_edition e text) a.start a.size t l r in
          let ef : get_or first u 0 ≡ cond b l r = found u h ∙ rw q refl in
          let es = other_second b l r (get_or first u 0) ef in
          let p = pair_of e a text n g t least u h l r refl refl (eqb-false l u q) b refl (get_or first u 0)
          (other_of a.left a.right (get_or first u 0) u) ef es in
          pair p.first p.second p.made
          (ap (λ (z : Tree). length (leaves z)) (below_node a text n g u h q)
          ∙ leaves_node (below a text l) (below a text r)
          ∙ leaves_add b l r (λ k. length (leaves (below a text k)))
          ∙ ap₂ (λ (x y : ℕ). length (leaves (below a text x)) + length (leaves (below a text y))) (sym ef) (sym es))

-- every tree has a leaf
leaf_one : (x : List ℕ) → length (leaves (leaf x)) ≡ 1
unfolding leaves
leaf_one x = refl

-- the first d entries of a stack
module _ (a : TreeArrays) (text : List ℕ) where
  text_kept : (e : Edition) (stack : List Thing) (k : ℕ) (x : Thing) (d : ℕ) → d ≤ k
      → stack_text e a text (set stack k x) d ≡ stack_text e a text stack d
  unfolding stack_text
  text_kept e stack k x zero h = refl
  text_kept e stack k x (suc d) h =
      ap₂ (λ (z : Thing) (l : List ℕ). thing_text e a text z ++ l) (get_or-set_other stack k d x (Node 0) (λ (q : d ≡ k). omega arith))
      (text_kept e stack k x d (omega arith))

  steps_kept : (stack : List Thing) (k : ℕ) (x : Thing) (d : ℕ) → d ≤ k → stack_steps a text (set stack k x) d ≡ stack_steps a text stack d
  unfolding stack_steps
  steps_kept stack k x zero h = refl
  steps_kept stack k x (suc d) h =
      ap₂ (λ (z : Thing) (n : ℕ). thing_steps a text z + n) (get_or-set_other stack k d x (Node 0) (λ (e : d ≡ k). omega arith))
      (steps_kept stack k x d (omega arith))

  steps_one : (x : Thing) → 1 ≤ thing_steps a text x
  unfolding thing_steps
  steps_one (Node k) = omega (arith, leaves_some (below a text k))
  steps_one Comma = omega arith
  steps_one Close = omega arith

  -- no more things than steps
  pub depth_steps : (stack : List Thing) (d : ℕ) → d ≤ stack_steps a text stack d
  unfolding stack_steps
  depth_steps stack zero = omega arith
  depth_steps stack (suc d) = omega (arith, depth_steps stack d, steps_one (get_or stack d (Node 0)))

-- four things put onto a stack
four : List Thing → ℕ → ℕ → ℕ → List Thing
four stack d s f = set (set (set (set stack d Close) (d + 1) (Node s)) (d + 2) Comma) (d + 3) (Node f)

four_long : (stack : List Thing) (d s f : ℕ) → length (four stack d s f) ≡ length stack
unfolding four
four_long stack d s f = simp length-set

pair_append : (x y r : List ℕ) → (40 ∷ (x ++ (44 ∷ (y ++ (41 ∷ []))))) ++ r ≡ 40 ∷ (x ++ (44 ∷ (y ++ (41 ∷ r))))
pair_append x y r = simp append_assoc

module _ (stack : List Thing) (d s f : ℕ) (room : d + 4 ≤ length stack) where
  abbrev one : List Thing
  one = set stack d Close

  abbrev two : List Thing
  two = set one (d + 1) (Node s)

  abbrev three : List Thing
  three = set two (d + 2) Comma

  four_close : get_or (four stack d s f) d (Node 0) ≡ Close
  unfolding four
  four_close =
      get_or-set_other three (d + 3) d (Node f) (Node 0) (λ (e : d ≡ d + 3). omega arith)
      ∙ get_or-set_other two (d + 2) d Comma (Node 0) (λ (e : d ≡ d + 2). omega arith)
      ∙ get_or-set_other one (d + 1) d (Node s) (Node 0) (λ (e : d ≡ d + 1). omega arith)
      ∙ get_or-set_same stack d Close (Node 0) (omega arith)

  four_second : get_or (four stack d s f) (suc d) (Node 0) ≡ Node s
  unfolding four
  four_second =
      let i : suc d ≡ d + 1 = omega arith in
      ap (λ (k : ℕ). get_or (four stack d s f) k (Node 0)) i
      ∙ get_or-set_other three (d + 3) (d + 1) (Node f) (Node 0) (λ (e : d + 1 ≡ d + 3). omega arith)
      ∙ get_or-set_other two (d + 2) (d + 1) Comma (Node 0) (λ (e : d + 1 ≡ d + 2). omega arith)
      ∙ get_or-set_same one (d + 1) (Node s) (Node 0) (omega (arith, length-set stack d Close))

  four_comma : get_or (four stack d s f) (suc (suc d)) (Node 0) ≡ Comma
  unfolding four
  four_comma =
      let i : suc (suc d) ≡ d + 2 = omega arith in
      ap (λ (k : ℕ). get_or (four stack d s f) k (Node 0)) i
      ∙ get_or-set_other three (d + 3) (d + 2) (Node f) (Node 0) (λ (e : d + 2 ≡ d + 3). omega arith)
      ∙ get_or-set_same two (d + 2) Comma (Node 0) (omega (arith, length-set stack d Close, length-set one (d + 1) (Node s)))

  four_first : get_or (four stack d s f) (suc (suc (suc d))) (Node 0) ≡ Node f
  unfolding four
  four_first =
      let i : suc (suc (suc d)) ≡ d + 3 = omega arith in
      ap (λ (k : ℕ). get_or (four stack d s f) k (Node 0)) i
      ∙ get_or-set_same three (d + 3) (Node f) (Node 0)
      (omega (arith, length-set stack d Close, length-set one (d + 1) (Node s), length-set two (d + 2) Comma))

  four_kept : (e : Edition) (a : TreeArrays) (text : List ℕ) → stack_text e a text (four stack d s f) d ≡ stack_text e a text stack d
  unfolding four
  four_kept e a text =
      text_kept a text e three (d + 3) (Node f) d (omega arith)
      ∙ text_kept a text e two (d + 2) Comma d (omega arith)
      ∙ text_kept a text e one (d + 1) (Node s) d (omega arith)
      ∙ text_kept a text e stack d Close d (omega arith)

  four_left : (a : TreeArrays) (text : List ℕ) → stack_steps a text (four stack d s f) d ≡ stack_steps a text stack d
  unfolding four
  four_left a text =
      steps_kept a text three (d + 3) (Node f) d (omega arith)
      ∙ steps_kept a text two (d + 2) Comma d (omega arith)
      ∙ steps_kept a text one (d + 1) (Node s) d (omega arith)
      ∙ steps_kept a text stack d Close d (omega arith)

  four_text : (e : Edition) (a : TreeArrays) (text : List ℕ)
      → stack_text e a text (four stack d s f) (d + 4)
      ≡ node_text e a text f ++ (44 ∷ (node_text e a text s ++ (41 ∷ stack_text e a text stack d)))
  unfolding stack_text thing_text
  four_text e a text =
      let i : d + 4 ≡ suc (suc (suc (suc d))) = omega arith in
      ap (stack_text e a text (four stack d s f)) i ∙ rw (four_first, four_comma, four_second, four_close, four_kept e a text) refl

  four_steps : (a : TreeArrays) (text : List ℕ)
      → stack_steps a text (four stack d s f) (d + 4)
      ≡ thing_steps a text (Node f) + (1 + (thing_steps a text (Node s) + (1 + stack_steps a text stack d)))
  unfolding stack_steps thing_steps
  four_steps a text =
      let e : d + 4 ≡ suc (suc (suc (suc d))) = omega arith in
      ap (stack_steps a text (four stack d s f)) e ∙ rw (four_first, four_comma, four_second, four_close, four_left a text) refl

-- a mark or a node below n
abbrev pub Within : ℕ → Thing → Type 0
Within n (Node k) = k < n
Within n Comma = Unit {0}
Within n Close = Unit {0}

-- so are the first m things
abbrev pub Things : ℕ → List Thing → ℕ → Type 0
Things n stack m = (i : ℕ) → i < m → Within n (get_or stack i (Node 0))

things_more : (n : ℕ) (stack : List Thing) (d m : ℕ) (x : Thing) → m ≡ d + 1 → d < length stack → Within n x → Things n stack d
    → Things n (set stack d x) m
things_more n stack d m x em h p all i l = go (bool_cases (eqb i d))
  where
    go : (eqb i d ≡ true) ⊎ (eqb i d ≡ false) → Within n (get_or (set stack d x) i (Node 0))
    go (inl e) = subst (Within n) (sym (ap (λ (k : ℕ). get_or (set stack d x) k (Node 0)) (eqb-true i d e) ∙ get_or-set_same stack d x (Node 0) h)) p
    go (inr e) = subst (Within n) (sym (get_or-set_other stack d i x (Node 0) (eqb-false i d e))) (all i (omega (arith, eqb-false i d e)))

four_things : (n : ℕ) (stack : List Thing) (d s f : ℕ) → d + 4 ≤ length stack → f < n → s < n → Things n stack d
    → Things n (four stack d s f) (d + 4)
unfolding four
four_things n stack d s f room hf hs all =
    let a = things_more n stack d (d + 1) Close refl (omega arith) tt all in
    let b = things_more n (set stack d Close) (d + 1) (d + 2) (Node s) (omega arith) (omega (arith, length-set stack d Close)) hs a in
    let e = length-set (set stack d Close) (d + 1) (Node s) in
    let c = things_more n (set (set stack d Close) (d + 1) (Node s)) (d + 2) (d + 3) Comma (omega arith)
    (omega (arith, e, length-set stack d Close)) tt b in
    things_more n (set (set (set stack d Close) (d + 1) (Node s)) (d + 2) Comma) (d + 3) (d + 4) (Node f) (omega arith)
    (omega (arith, e, length-set stack d Close, length-set (set (set stack d Close) (d + 1) (Node s)) (d + 2) Comma)) hf c

-- one step: thing x, the last of the stack's d + 1, is taken off; what it writes itself and the stack afterwards
pub record Step (e : Edition) (a : TreeArrays) (text first : List ℕ) (n : ℕ) (stack : List Thing) (d : ℕ) (x : Thing) : Type 0 where
  pub writes : thing_text e a text x ++ stack_text e a text stack d
      ≡ own_text text a.start a.size first x
      ++ stack_text e a text (stack_after a.left a.right first x stack d) (depth_after first x d)
  pub counts : thing_steps a text x + stack_steps a text stack d
      ≡ suc (stack_steps a text (stack_after a.left a.right first x stack d) (depth_after first x d))
  pub things : Things n (stack_after a.left a.right first x stack d) (depth_after first x d)
  pub long : length (stack_after a.left a.right first x stack d) ≡ length stack

module _ (e : Edition) (a : TreeArrays) (text first : List ℕ) (n : ℕ) (children : ChildNodes e a text first n) (stack : List Thing) (d : ℕ)
    (room : d + 4 ≤ length stack) (all : Things n stack d) where
  step_leaf : (k : ℕ) → get_or first k 0 ≡ k → is_leaf a k ≡ true → node_text e a text k ≡ leaf_token text a.start a.size k
      → Step e a text first n stack d (Node k)
  unfolding own_text stack_after depth_after goes_on thing_text thing_steps
  step_leaf k f l made =
      let own_leaf = eq-eqb (get_or first k 0) k f in
      let one : length (leaves (below a text k)) ≡ 1 = ap (λ (t : Tree). length (leaves t)) (below_leaf a text k l) ∙ leaf_one (label_at a text k) in
      record {
        writes = rw own_leaf (ap (λ (x : List ℕ). x ++ stack_text e a text stack d) made);
        counts = rw own_leaf (omega (arith, one));
        things = rw own_leaf all;
        long = rw own_leaf refl;
      }

  step_pair : (k : ℕ) → (get_or first k 0 ≡ k → ⊥) → get_or first k 0 < n
      → other_of a.left a.right (get_or first k 0) k < n
      → node_text e a text k
      ≡ 40 ∷ (node_text e a text (get_or first k 0)
      ++ (44 ∷ (node_text e a text (other_of a.left a.right (get_or first k 0) k) ++ (41 ∷ []))))
      → length (leaves (below a text k))
      ≡ length (leaves (below a text (get_or first k 0)))
      + length (leaves (below a text (other_of a.left a.right (get_or first k 0) k)))
      → Step e a text first n stack d (Node k)
  unfolding own_text stack_after depth_after goes_on thing_text thing_steps four
  step_pair k ne hf hs made count =
      let f = get_or first k 0 in
      let s = other_of a.left a.right (get_or first k 0) k in
      let apart = ne_eqb (get_or first k 0) k ne in
      record {
        writes = rw apart
            (ap (λ (x : List ℕ). x ++ stack_text e a text stack d) made
            ∙ pair_append (node_text e a text f) (node_text e a text s) (stack_text e a text stack d)
            ∙ sym (ap (λ (x : List ℕ). 40 ∷ x) (four_text stack d s f room e a text)));
        counts = rw apart
            (omega (
              arith,
              count,
              leaves_some (below a text f),
              leaves_some (below a text s),
              four_steps stack d s f room a text,
            ));
        things = rw apart (four_things n stack d s f room hf hs all);
        long = rw apart (four_long stack d s f);
      }

  pub step : (x : Thing) → Within n x → Step e a text first n stack d x
  unfolding own_text stack_after depth_after goes_on thing_text thing_steps
  step Comma h = record { writes = refl; counts = omega arith; things = all; long = refl }
  step Close h = record { writes = refl; counts = omega arith; things = all; long = refl }
  step (Node k) h = node_step (children k h)
    where
      node_step : Child e a text k (get_or first k 0) (other_of a.left a.right (get_or first k 0) k) → Step e a text first n stack d (Node k)
      node_step (own f l made) = step_leaf k f l made
      node_step (pair f s made count) =
          step_pair k (λ (z : get_or first k 0 ≡ k). omega arith) (omega arith) (omega arith) made count

-- the tree is being written: what is stored and what the stack will store is the whole text
pub record Writing (e : Edition) (a : TreeArrays) (text : List ℕ) (n : ℕ) (whole before out : List ℕ) (stack : List Thing) (depth at : ℕ) : Type 0 where
  pub long : length stack ≡ 320
  pub things : Things n stack depth
  pub few : stack_steps a text stack depth ≤ 317
  pub rest : at + length (stack_text e a text stack depth) ≡ length whole
  pub stores : sets out at (stack_text e a text stack depth) ≡ sets before 0 whole
  pub kept : length out ≡ length before

pub depth_few : {e : Edition} {a : TreeArrays} {text : List ℕ} {n : ℕ} {whole before out : List ℕ} {stack : List Thing} {depth at : ℕ}
    → Writing e a text n whole before out stack depth at → depth ≤ 317
depth_few {e} {a} {text} {n} {whole} {before} {out} {stack} {depth} w = omega (arith, w.few, depth_steps a text stack depth)

module _ (e : Edition) (a : TreeArrays) (text : List ℕ) (n : ℕ) (before : List ℕ) where
  one_thing : (u : ℕ) → (stack : List Thing) → get_or stack 0 (Node 0) ≡ Node u → length (leaves (below a text u)) ≤ 80
      → (stack_text e a text stack 1 ≡ node_text e a text u) × (stack_steps a text stack 1 ≤ 317)
  unfolding stack_text stack_steps thing_text thing_steps
  one_thing u stack q few = (rw q (append-nil (node_text e a text u)), rw q (omega arith))

  first_thing : (u : ℕ) → u < n → length (leaves (below a text u)) ≤ 80 → (v : ℕ) → v ≡ u
      → Writing e a text n (node_text e a text u) before before (set (replicate 320 Comma) 0 (Node v)) 1 0
  first_thing u h few v ev =
      let z : length {A = Thing} (replicate 320 Comma) ≡ 320 = length-replicate {A = Thing} 320 Comma in
      let q = get_or-set_same (replicate 320 Comma) 0 (Node v) (Node 0) (omega (arith, z)) ∙ ap Node ev in
      let t = one_thing u (set (replicate 320 Comma) 0 (Node v)) q few in
      record {
        long = length-set (replicate 320 Comma) 0 (Node v) ∙ z;
        things = things_more n (replicate 320 Comma) 0 1 (Node v) (omega arith) (omega (arith, z)) (omega (arith, ev, h)) (λ i l. absurd (omega arith));
        few = t.1;
        rest = rw t.0 (omega arith);
        stores = rw t.0 refl;
        kept = refl;
      }

  -- v is node u as the code stores it, and st and d are the stack with it
  pub writing_start : (u : ℕ) → u < n → length (leaves (below a text u)) ≤ 80 → (v : ℕ) → v ≡ u
      → (st : List Thing) (d : ℕ) → st ≡ set (replicate 320 Comma) 0 (Node v) → d ≡ 1
      → Writing e a text n (node_text e a text u) before before st d 0
  writing_start u h few v ev st d es ed = rw (es, ed) (first_thing u h few v ev)

  module _ (first : List ℕ) (children : ChildNodes e a text first n) (whole out : List ℕ) (stack : List Thing) (depth at d : ℕ) (ed : depth ≡ suc d)
      (w : Writing e a text n whole before out stack depth at) where
    room : d + 4 ≤ length stack
    room = omega (arith, w.long, w.few, depth_steps a text stack depth)

    last_step : Step e a text first n stack d (get_or stack d (Node 0))
    last_step =
        step e a text first n children stack d room (λ i l. w.things i (omega arith)) (get_or stack d (Node 0)) (w.things d (omega arith))

    top : stack_text e a text stack depth
        ≡ own_text text a.start a.size first (get_or stack d (Node 0))
        ++ stack_text e a text (stack_after a.left a.right first (get_or stack d (Node 0)) stack d) (depth_after first (get_or stack d (Node 0)) d)
    unfolding stack_text
    top = ap (stack_text e a text stack) ed ∙ last_step.writes

    falls : stack_steps a text stack depth
        ≡ suc (stack_steps a text (stack_after a.left a.right first (get_or stack d (Node 0)) stack d) (depth_after first (get_or stack d (Node 0)) d))
    unfolding stack_steps
    falls = ap (stack_steps a text stack) ed ∙ last_step.counts

    pub has_room : d + 4 ≤ 320
    has_room = omega (arith, room, w.long)

    top_fits : length whole ≤ length before
        → at + length (own_text text a.start a.size first (get_or stack d (Node 0))) ≤ length out
    top_fits h =
        omega (
          arith,
          w.rest,
          w.kept,
          ap length top,
          length-append (own_text text a.start a.size first (get_or stack d (Node 0)))
              (stack_text e a text (stack_after a.left a.right first (get_or stack d (Node 0)) stack d) (depth_after first (get_or stack d (Node 0)) d)),
        )

    next : (o : List ℕ) (i : ℕ) → i ≡ at + length (own_text text a.start a.size first (get_or stack d (Node 0)))
        → o ≡ sets out at (own_text text a.start a.size first (get_or stack d (Node 0))) → length o ≡ length out
        → Writing e a text n whole before o (stack_after a.left a.right first (get_or stack d (Node 0)) stack d)
        (depth_after first (get_or stack d (Node 0)) d) i
    next o i ei eo el =
        let own_part = own_text text a.start a.size first (get_or stack d (Node 0)) in
        let left = stack_text e a text (stack_after a.left a.right first (get_or stack d (Node 0)) stack d) (depth_after first (get_or stack d (Node 0)) d) in
        record {
          long = last_step.long ∙ w.long;
          things = last_step.things;
          few = omega (arith, w.few, falls);
          rest = omega (arith, ei, w.rest, ap length top, length-append own_part left);
          stores = ap₂ (λ (l : List ℕ) (j : ℕ). sets l j left) eo ei
              ∙ sym (sets_append own_part left out at)
              ∙ ap (sets out at) (sym top)
              ∙ w.stores;
          kept = el ∙ w.kept;
        }

    -- as the code has it: the thing, then the output, the stack and the two numbers afterwards
    module _ (x : Thing) (ek : x ≡ get_or stack d (Node 0)) where
      own_is : own_text text a.start a.size first x ≡ own_text text a.start a.size first (get_or stack d (Node 0))
      own_is = ap (own_text text a.start a.size first) ek

      pub own_fits : length whole ≤ length before → at + length (own_text text a.start a.size first x) ≤ length out
      own_fits h = omega (arith, ap length own_is, top_fits h)

      module _ (now : List Thing) (en : now ≡ stack) (o : List ℕ) (st : List Thing) (dd i : ℕ)
          (est : st ≡ stack_after a.left a.right first x now d) (edd : dd ≡ depth_after first x d) where
        stack_is : st ≡ stack_after a.left a.right first (get_or stack d (Node 0)) stack d
        stack_is = est ∙ ap₂ (λ (q : Thing) (s : List Thing). stack_after a.left a.right first q s d) ek en

        depth_is : dd ≡ depth_after first (get_or stack d (Node 0)) d
        depth_is = edd ∙ ap (λ (q : Thing). depth_after first q d) ek

        pub writing_next : i ≡ at + length (own_text text a.start a.size first x)
            → o ≡ sets out at (own_text text a.start a.size first x) → length o ≡ length out → Writing e a text n whole before o st dd i
        writing_next ei eo el =
            subst (λ (q : List Thing). Writing e a text n whole before o q dd i) (sym stack_is)
            (subst
            (λ (q : ℕ). Writing e a text n whole before o (stack_after a.left a.right first (get_or stack d (Node 0)) stack d) q i)
            (sym depth_is)
            (next o i (ei ∙ ap (λ (b : List ℕ). at + length b) own_is) (eo ∙ ap (sets out at) own_is) el))

        pub fewer_steps : stack_steps a text st dd < stack_steps a text stack depth
        fewer_steps = rw (stack_is, depth_is) (omega (arith, falls))

  pub writing_end : (whole out : List ℕ) (stack : List Thing) (depth at : ℕ) → depth ≡ 0 → Writing e a text n whole before out stack depth at
      → (at ≡ 0 + length whole) × (out ≡ sets before 0 whole)
  unfolding stack_text
  writing_end whole out stack depth at z w =
      let q : stack_text e a text stack depth ≡ [] = ap (stack_text e a text stack) z in
      (omega (arith, w.rest, ap length q), ap (sets out at) (sym q) ∙ w.stores)
