-- The reading machine where its mode is known. Assumes nothing.
use Prim.Native.Nat.{ℕ, ◌+◌, ◌*◌, ◌≤◌, ◌<◌}
use mathlib.Core.Path.{◌≡◌, refl, ap, ◌∙◌, subst}
use mathlib.Core.Bool.{Bool, true, false, cond}
use mathlib.Core.List.{List}
use native.Mathlib.Omega.{arith}
use Rattle.trees.specs.declared.Kind.{Kind}
use Rattle.trees.specs.Tree.{leaf_limit}
use Rattle.trees.specs.declared.Body.{Body}
use Rattle.trees.specs.declared.Reason.TheVariants.{BadByte, Repeated}
use Rattle.newick.specs.declared.Mode.{Mode}
use Rattle.newick.specs.declared.Mode.TheVariants.{Due, Inside, Quoted, After, Done}
use Rattle.newick.specs.Machine.{Scan}
use Rattle.trees.specs.declared.Halt.{Halt}
use Rattle.newick.specs.declared.Reader.{Reader}
use Rattle.std.specs.Prelude.{Ok}
use Rattle.newick.specs.Machine.{Arrays, Progress, on, halt, progress_of, repeat_of, due_of, after_of, leaf_scan, leaf_arrays, leaf_of, after_leaf}
use Rattle.newick.specs.Machine.{label_end, inside_of, quoted_of, move_of, answer_of, scan_in, arrays_in, Ready}

-- a step where the mode is known
pub move_due : (m : Mode) (text : List ℕ) (st : Scan) (a : Arrays) (i : ℕ) (k : Kind) → m ≡ Due
    → move_of m text st a i k ≡ due_of st a i k
unfolding move_of
move_due m text st a i k e = ap (λ (x : Mode). move_of x text st a i k) e

pub move_inside : (m : Mode) (text : List ℕ) (st : Scan) (a : Arrays) (i : ℕ) (k : Kind) (first len : ℕ) → m ≡ Inside first len
    → move_of m text st a i k ≡ inside_of text st a first len i k
unfolding move_of
move_inside m text st a i k first len e = ap (λ (x : Mode). move_of x text st a i k) e

pub move_quoted : (m : Mode) (text : List ℕ) (st : Scan) (a : Arrays) (i : ℕ) (k : Kind) (first len : ℕ) → m ≡ Quoted first len
    → move_of m text st a i k ≡ quoted_of text st a first len i k
unfolding move_of
move_quoted m text st a i k first len e = ap (λ (x : Mode). move_of x text st a i k) e

pub move_after : (m : Mode) (text : List ℕ) (st : Scan) (a : Arrays) (i : ℕ) (k : Kind) (u : ℕ) → m ≡ After u
    → move_of m text st a i k ≡ after_of st a u i k
unfolding move_of
move_after m text st a i k u e = ap (λ (x : Mode). move_of x text st a i k) e

pub move_done : (m : Mode) (text : List ℕ) (st : Scan) (a : Arrays) (i : ℕ) (k : Kind) → m ≡ Done
    → move_of m text st a i k ≡ halt BadByte i
unfolding move_of
move_done m text st a i k e = ap (λ (x : Mode). move_of x text st a i k) e

-- what a step may rely on where the mode is known
pub ready_as : {m n : Mode} (st : Scan) → m ≡ n → Ready m st → Ready n st
ready_as st e h = subst (λ (x : Mode). Ready x st) e h

-- the answer where the mode is known
pub answer_as : {m n : Mode} (text : List ℕ) (body : Body) (st : Scan) (start size : List ℕ) → m ≡ n
    → answer_of m text body st start size ≡ answer_of n text body st start size
answer_as text body st start size e = ap (λ (x : Mode). answer_of x text body st start size) e

-- a label that is complete, where the test for a repeat is known
module _ (text : List ℕ) (st : Scan) (a : Arrays) (first len : ℕ) (q : Bool)
    (e : repeat_of text a.start a.size st.nodes first len ≡ q) where
  pub leaf_known : leaf_of text st a first len ≡ cond q (halt Repeated first) (on (leaf_scan st) (leaf_arrays st a first len))
  unfolding leaf_of
  leaf_known = rw e refl

  pub end_known : (i : ℕ) (k : Kind)
      → label_end text st a first len i k
      ≡ cond q (halt Repeated first) (after_of (leaf_scan st) (leaf_arrays st a first len) st.nodes i k)
  unfolding label_end
  end_known i k = ap (λ (o : Progress). after_leaf o st.nodes i k) leaf_known ∙ go q
    where
      go : (t : Bool)
          → after_leaf (cond t (halt Repeated first) (on (leaf_scan st) (leaf_arrays st a first len))) st.nodes i k
          ≡ cond t (halt Repeated first) (after_of (leaf_scan st) (leaf_arrays st a first len) st.nodes i k)
      go true = refl
      go false = refl

-- a label that became a leaf, and the byte after it
module _ (m : Mode) (new : Reader) (text : List ℕ) (st : Scan) (a : Arrays) (first len : ℕ)
    (h : progress_of (Ok m) new ≡ leaf_of text st a first len) where
  leaf_scanned : scan_in m new ≡ leaf_scan st
  unfolding leaf_of
  leaf_scanned = go (repeat_of text a.start a.size st.nodes first len) h
    where
      go : (q : Bool) → progress_of (Ok m) new ≡ cond q (halt Repeated first) (on (leaf_scan st) (leaf_arrays st a first len))
          → scan_in m new ≡ leaf_scan st
      go true x = let z : ◌≡◌ {A = ℕ} 0 1 = cc in absurd (omega arith)
      go false x = cc

  pub end_goes_on : (i : ℕ) (k : Kind)
      → after_of (scan_in (After st.nodes) new) (arrays_in new) st.nodes i k ≡ label_end text st a first len i k
  unfolding label_end
  end_goes_on i k =
      subst (λ (x : Mode). after_of (scan_in x new) (arrays_in new) st.nodes i k ≡ label_end text st a first len i k)
      (ap (λ (w : Scan). w.mode) leaf_scanned) (ap (λ (o : Progress). after_leaf o st.nodes i k) h)

  pub leaf_ready : st.opens < leaf_limit → st.nodes + st.depth ≤ 2 * st.opens → Ready (After st.nodes) (scan_in (After st.nodes) new)
  leaf_ready few l =
      let w = leaf_scanned in (
        omega (arith, ap (λ (w : Scan). w.depth) w, ap (λ (w : Scan). w.opens) w, ap (λ (w : Scan). w.nodes) w, l),
        omega (arith, few, l),
      )

-- where the label repeats, that decides
pub end_stops : (f : Halt) (text : List ℕ) (st : Scan) (a : Arrays) (first len i : ℕ) (k : Kind)
    → halt f.0 f.1 ≡ leaf_of text st a first len → halt f.0 f.1 ≡ label_end text st a first len i k
unfolding label_end
end_stops f text st a first len i k h = ap (λ (o : Progress). after_leaf o st.nodes i k) h
