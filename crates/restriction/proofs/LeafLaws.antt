-- In the new arrays a leaf is its own right child too, whatever arrays the pass began with. Assumes nothing.
use Prim.Native.Nat.{ℕ, zero, suc, ◌+◌, ◌-◌, ◌<◌, ◌≤◌}
use mathlib.Core.Path.{◌≡◌, refl, sym, ◌∙◌, subst}
use mathlib.Core.Bool.{Bool, true, false, cond}
use mathlib.Core.Logic.{◌⊎◌, inl, inr}
use mathlib.Core.List.{List}
use native.Mathlib.Omega.{arith}
use lib.Dec.{eqb, ltb}
use lib.ListN.{length, get_or, set, length-set}
use lib.Seq.{get_or-set_same, get_or-set_other}
use borrow.Author.Tests.{eqb-true, eqb-false, ne_eqb, ltb-true}
use Rattle.trees.proofs.Bools.{bool_cases}
use Rattle.restriction.specs.declared.NodeFate.{NodeFate}
use Rattle.restriction.specs.declared.NodeFate.TheVariants.{Known, Fresh}
use Rattle.std.specs.Prelude.{Some, None}
use Rattle.restriction.specs.KeptMachine.{NewNumber, Pass, up_to, moved_to, joined, fate_of, settled, step_of, pass_of, nodes_kept}
use Rattle.restriction.proofs.PassLaws.{Sized}

-- a new number: none, or one of the first n
abbrev Placed : ℕ → NewNumber → Type 0
Placed n None = Prim.Unit {0}
Placed n (Some p) = p < n

-- what may become of a node when n is the next new number
data Allowed (n : ℕ) : NodeFate → Type 0 where
  known : {p : NewNumber} → Placed n p → Allowed n (Known p)
  leaf : {l r : ℕ} → r ≡ n → Allowed n (Fresh l r)
  inner : {l r : ℕ} → l < n → Allowed n (Fresh l r)

pub record Owned (u : ℕ) (s : Pass) : Type 0 where
  pub few : s.count ≤ u
  pub sized : Sized s
  pub placed : (w : ℕ) → w < u → Placed s.count (get_or s.moved w None)
  pub own : (v : ℕ) → v < s.count → get_or s.left v 0 ≡ v → get_or s.right v 0 ≡ v

moved_placed : (moved : List NewNumber) (n u c : ℕ) → ((w : ℕ) → w < u → Placed n (get_or moved w None)) → Placed n (moved_to moved c u)
unfolding moved_to
moved_placed moved n u c f = go (bool_cases (ltb c u))
  where
    go : (ltb c u ≡ true) ⊎ (ltb c u ≡ false) → Placed n (cond (ltb c u) (get_or moved c None) None)
    go (inl e) = rw e (f c (ltb-true c u e))
    go (inr e) = rw e tt

joined_allowed : (n : ℕ) (p q : NewNumber) → Placed n p → Placed n q → Allowed n (joined p q)
unfolding joined
joined_allowed n None None hp hq = known {p = None} tt
joined_allowed n None (Some r) hp hq = known {p = Some r} hq
joined_allowed n (Some l) None hp hq = known {p = Some l} hp
joined_allowed n (Some l) (Some r) hp hq = inner hp

fate_allowed : (left right : List ℕ) (moved : List NewNumber) (kept : List Bool) (u n : ℕ) → ((w : ℕ) → w < u → Placed n (get_or moved w None))
    → Allowed n (fate_of left right moved kept u n)
unfolding fate_of
fate_allowed left right moved kept u n f = go (bool_cases (eqb (get_or left u 0) u)) (bool_cases (get_or kept u false))
  where
    go : (eqb (get_or left u 0) u ≡ true) ⊎ (eqb (get_or left u 0) u ≡ false)
        → (get_or kept u false ≡ true) ⊎ (get_or kept u false ≡ false)
        → Allowed n (cond (eqb (get_or left u 0) u) (cond (get_or kept u false) (Fresh n n) (Known None))
        (joined (moved_to moved (get_or left u 0) u) (moved_to moved (get_or right u 0) u)))
    go (inl e) (inl k) = rw (e, k) (leaf refl)
    go (inl e) (inr k) = rw (e, k) (known {p = None} tt)
    go (inr e) k =
        rw e
        (joined_allowed n (moved_to moved (get_or left u 0) u) (moved_to moved (get_or right u 0) u)
        (moved_placed moved n u (get_or left u 0) f) (moved_placed moved n u (get_or right u 0) f))

later : {n m : ℕ} (p : NewNumber) → n ≤ m → Placed n p → Placed m p
later None h l = tt
later (Some p) h l = omega arith

placed_more : (moved : List NewNumber) (n u : ℕ) (x : NewNumber) → u < length moved → ((w : ℕ) → w < u → Placed n (get_or moved w None)) → Placed n x
    → (w : ℕ) → w < suc u → Placed n (get_or (set moved u x) w None)
placed_more moved n u x h f p w l = go (bool_cases (eqb w u))
  where
    go : (eqb w u ≡ true) ⊎ (eqb w u ≡ false) → Placed n (get_or (set moved u x) w None)
    go (inl e) = rw (eqb-true w u e, get_or-set_same moved u x None h) p
    go (inr e) = rw (get_or-set_other moved u w x None (eqb-false w u e)) (f w (omega (arith, eqb-false w u e)))

own_more : (left right : List ℕ) (n l r : ℕ) → n < length left → n < length right
    → ((v : ℕ) → v < n → get_or left v 0 ≡ v → get_or right v 0 ≡ v) → (l ≡ n → r ≡ n)
    → (v : ℕ) → v < n + 1 → get_or (set left n l) v 0 ≡ v → get_or (set right n r) v 0 ≡ v
own_more left right n l r hl hr f p v less = go (bool_cases (eqb v n))
  where
    go : (eqb v n ≡ true) ⊎ (eqb v n ≡ false) → get_or (set left n l) v 0 ≡ v → get_or (set right n r) v 0 ≡ v
    go (inl e) = rw (eqb-true v n e, get_or-set_same left n l 0 hl, get_or-set_same right n r 0 hr) p
    go (inr e) =
        rw (get_or-set_other left n v l 0 (eqb-false v n e), get_or-set_other right n v r 0 (eqb-false v n e))
        (f v (omega (arith, eqb-false v n e)))

settle : (f : NodeFate) (u : ℕ) (s : Pass) → u < 159 → Allowed s.count f → Owned u s → Owned (suc u) (settled f u s)
unfolding settled
settle (Known p) u s h (known k) o =
    record {
      few = omega (arith, o.few);
      sized = record {
        moved = length-set s.moved u p ∙ o.sized.moved;
        left = o.sized.left;
        right = o.sized.right;
        start = o.sized.start;
        size = o.sized.size;
      };
      placed = placed_more s.moved s.count u p (omega (arith, o.sized.moved)) o.placed k;
      own = o.own;
    }
settle (Fresh l r) u s h k o =
    record {
      few = omega (arith, o.few);
      sized = record {
        moved = length-set s.moved u (Some s.count) ∙ o.sized.moved;
        left = length-set s.left s.count l ∙ o.sized.left;
        right = length-set s.right s.count r ∙ o.sized.right;
        start = length-set s.start s.count (get_or s.start u 0) ∙ o.sized.start;
        size = length-set s.size s.count (get_or s.size u 0) ∙ o.sized.size;
      };
      placed = placed_more s.moved (s.count + 1) u (Some s.count) (omega (arith, o.sized.moved))
          (λ w m. later (get_or s.moved w None) (omega arith) (o.placed w m)) (omega arith);
      own = own_more s.left s.right s.count l r (omega (arith, o.few, o.sized.left)) (omega (arith, o.few, o.sized.right))
          o.own (right_own k);
    }
  where
    right_own : Allowed s.count (Fresh l r) → l ≡ s.count → r ≡ s.count
    right_own (leaf e) z = e
    right_own (inner b) z = absurd (omega arith)

pub owned : (s : Pass) (kept : List Bool) → Owned 0 s → (n : ℕ) → n ≤ 159 → Owned n (pass_of s kept n)
unfolding pass_of step_of
owned s kept o zero h = o
owned s kept o (suc n) h =
    let i = owned s kept o n (omega arith) in
    let q = pass_of s kept n in
    settle (fate_of q.left q.right q.moved kept n q.count) n q (omega arith)
    (fate_allowed q.left q.right q.moved kept n q.count i.placed) i

-- the result's nodes are new ones
pub kept_owned : (u : ℕ) (s : Pass) → Owned u s → nodes_kept s.moved u ≤ s.count
unfolding nodes_kept
kept_owned zero s o = omega arith
kept_owned (suc n) s o =
    let e : suc n - 1 ≡ n = omega arith in
    rw (e, ne_eqb (suc n) 0 (λ (z : suc n ≡ 0). omega arith)) (go (get_or s.moved n None) (o.placed n (omega arith)))
  where
    go : (p : NewNumber) → Placed s.count p → up_to p ≤ s.count
    go None h = omega arith
    go (Some p) h = omega arith

-- so a leaf of the result is its own right child
pub result_own : (s : Pass) (kept : List Bool) → Owned 0 s → (n m : ℕ) → n ≤ 159 → (q : Pass) → q ≡ pass_of s kept n
    → m ≡ nodes_kept q.moved n → (u : ℕ) → u < m → get_or q.left u 0 ≡ u → get_or q.right u 0 ≡ u
result_own s kept o n m h q e d u l =
    let i = subst (Owned n) (sym e) (owned s kept o n h) in
    i.own u (omega (arith, d, kept_owned n q i))

-- and there are no more nodes than before
pub result_fits : (s : Pass) (kept : List Bool) → Owned 0 s → (n m : ℕ) → n ≤ 159 → (q : Pass) → q ≡ pass_of s kept n
    → m ≡ nodes_kept q.moved n → m ≤ 159
result_fits s kept o n m h q e d =
    let i = subst (Owned n) (sym e) (owned s kept o n h) in
    omega (arith, d, kept_owned n q i, i.few)

pub owned_start : (s : Pass) → s.count ≡ 0 → Sized s → Owned 0 s
owned_start s e z =
    record { few = omega arith; sized = z; placed = λ w h. absurd (omega arith); own = λ v h. absurd (omega arith) }
