-- Three leaves in two trees: if each leaf has one place in both, a leaf with a place of its own can be exchanged for the head of its place,
-- or its closer pairs are known. 003, Theorems 4 and 9. Assumes nothing.
use mathlib.Core.Path.{◌≡◌, refl, sym, ◌∙◌, ap}
use mathlib.Core.Bool.{Bool, true, false}
use mathlib.Core.Logic.{◌⊎◌, inl, inr, Ne-symm}
use mathlib.Core.List.{List}
use Rattle.trees.specs.Label.{Label, same_label, is_in, distinct}
use Rattle.trees.specs.Tree.{Tree, leaves}
use Rattle.trees.proofs.Bools.{bool_cases, clash}
use Rattle.trees.proofs.LabelLaws.{same_cases, same_ne}
use Rattle.agreement.specs.Closer.{holds, closer, Agree, Common}
use Rattle.agreement.specs.Sets.{set_of}
use Rattle.agreement.proofs.AnswerLaws.{Alike}
use Rattle.agreement.proofs.CloserLaws.{closer_swap}
use Rattle.agreement.proofs.CladeLaws.{own_first, own_second, clade}
use Rattle.pieces.specs.Pieces.{head_of}
use Rattle.pieces.proofs.TrioLaws.{LeafTrio, turn, pair_only, pair_last, Exchanged, exchange}
use Rattle.pieces.proofs.NearLaws.{Sits, required_ne, head_required, head_held, in_inside, inside_in, inside_within, within_inside}
use Rattle.pieces.proofs.NearLaws.{under, under_required, together_pair, head_exchanged}

-- three labels in another order
pub alike_turn : (s t : Tree) (a b c : Label) → Alike s t a b c → Alike s t a c b
alike_turn s t a b c h = (h.1, h.0, closer_swap s c b a ∙ h.2 ∙ closer_swap t b c a)

pub alike_swap : (s t : Tree) (a b c : Label) → Alike s t a b c → Alike s t b a c
alike_swap s t a b c h = (closer_swap s b a c ∙ h.0 ∙ closer_swap t a b c, h.2, h.1)

-- the same pair in both trees
alike_pair : {s t : Tree} {a b c : Label} → LeafTrio s a b c → LeafTrio t a b c → closer s a b c ≡ true → closer t a b c ≡ true → Alike s t a b c
alike_pair i j e f = (e ∙ sym f, (pair_only i e).0 ∙ sym (pair_only j f).0, (pair_only i e).1 ∙ sym (pair_only j f).1)

-- x exchanged for y in both trees
alike_exchanged : (s t : Tree) (x y b c : Label) → Exchanged s x y b c → Exchanged t x y b c → Alike s t y b c → Alike s t x b c
alike_exchanged s t x y b c i j h = (i.0 ∙ h.0 ∙ sym j.0, i.1 ∙ h.1 ∙ sym j.1, i.2 ∙ h.2 ∙ sym j.2)

same_when : (a b : Bool) → (a ≡ false → b ≡ false) → (b ≡ false → a ≡ false) → a ≡ b
same_when true true f g = refl
same_when true false f g = g refl
same_when false b f g = sym (f refl)

pub agree_alike : (s t : Tree) (X : Label → Bool) → Agree s t X → (a b c : Label) → X a ≡ true → X b ≡ true → X c ≡ true
    → (a ≡ b → ⊥) → (a ≡ c → ⊥) → (b ≡ c → ⊥) → Alike s t a b c
agree_alike s t X g a b c xa xb xc ab ac bc =
    (g a b c xa xb xc ab ac bc, g a c b xa xc xb ac ab (Ne-symm bc), g b c a xb xc xa bc (Ne-symm ab) (Ne-symm ac))

-- one place in both trees
pub record Both (s t : Tree) (K : List Label) (a : Label) (p : List Label) : Type 0 where
  pub first : Sits s K a p
  pub second : Sits t K a p

-- the label b is required, or has another place than p
pub data OtherPlace (s t : Tree) (K : List Label) (p : List Label) (b : Label) : Type 0 where
  required : is_in b K ≡ true → OtherPlace s t K p b
  elsewhere : {q : List Label} → is_in b K ≡ false → Both s t K b q → (p ≡ q → ⊥) → OtherPlace s t K p b

module _ {s t : Tree} {K : List Label} (held : Common s t (set_of K)) where
  -- both trees have b inside the place of a, or neither has
  inside_same : {a b : Label} {p : List Label} → Both s t K a p → is_in a K ≡ false → (a ≡ b → ⊥) → OtherPlace s t K p b
      → closer s a (head_of p) b ≡ closer t a (head_of p) b
  inside_same {a} {b} {p} h n ab (required k) =
      same_when (closer s a (head_of p) b) (closer t a (head_of p) b) (λ e. in_inside h.second b (inside_in h.first b k e))
      (λ e. in_inside h.first b (inside_in h.second b k e))
  inside_same {a} {b} {p} h n ab (elsewhere nb k pq) =
      same_when (closer s a (head_of p) b) (closer t a (head_of p) b)
      (λ e. within_inside h.second k.second n nb ab pq (inside_within h.first k.first e))
      (λ e. within_inside h.first k.first n nb ab pq (inside_within h.second k.second e))

  other_held : {b : Label} {p : List Label} → OtherPlace s t K p b → (holds s b ≡ true) × (holds t b ≡ true)
  other_held {b} (required k) = held b k
  other_held (elsewhere nb k pq) = (k.first.here, k.second.here)

  under_first : {a b : Label} {p : List Label} → Both s t K a p → is_in a K ≡ false → (a ≡ b → ⊥) → OtherPlace s t K p b
      → closer s a (head_of p) b ≡ false → (c : Label) → closer s a (head_of p) c ≡ false → closer s a b c ≡ false
  under_first {a} {b} h n ab (required k) e = under_required h.first b k (held b k).0
  under_first h n ab (elsewhere nb k pq) e = under h.first k.first n nb ab pq e

  under_second : {a b : Label} {p : List Label} → Both s t K a p → is_in a K ≡ false → (a ≡ b → ⊥) → OtherPlace s t K p b
      → closer t a (head_of p) b ≡ false → (c : Label) → closer t a (head_of p) c ≡ false → closer t a b c ≡ false
  under_second {a} {b} h n ab (required k) e = under_required h.second b k (held b k).1
  under_second h n ab (elsewhere nb k pq) e = under h.second k.second n nb ab pq e

  module _ (ds : distinct (leaves s) ≡ true) (dt : distinct (leaves t) ≡ true) where
    -- a leaf with another place than two others: it can be exchanged for the head of its place, or the closer pair is known
    pub move_one : {a b c : Label} {p : List Label} → Both s t K a p → is_in a K ≡ false → (a ≡ b → ⊥) → (a ≡ c → ⊥) → (b ≡ c → ⊥)
        → OtherPlace s t K p b → OtherPlace s t K p c
        → ((head_of p ≡ b → ⊥) → (head_of p ≡ c → ⊥) → Alike s t (head_of p) b c) → Alike s t a b c
    move_one {a} {b} {c} {p} h n ab ac bc kb kc rest = go (bool_cases (closer s a (head_of p) b)) (bool_cases (closer s a (head_of p) c))
      where
        trio_s : LeafTrio s a b c
        trio_s = record {
          different = ds;
          ab = ab;
          ac = ac;
          bc = bc;
          held_a = h.first.here;
          held_b = (other_held kb).0;
          held_c = (other_held kc).0;
        }

        trio_t : LeafTrio t a b c
        trio_t = record {
          different = dt;
          ab = ab;
          ac = ac;
          bc = bc;
          held_a = h.second.here;
          held_b = (other_held kb).1;
          held_c = (other_held kc).1;
        }

        -- the same tests in the second tree
        same_b : closer s a (head_of p) b ≡ closer t a (head_of p) b
        same_b = inside_same h n ab kb

        same_c : closer s a (head_of p) c ≡ closer t a (head_of p) c
        same_c = inside_same h n ac kc

        self_s : closer s a (head_of p) a ≡ false
        self_s = own_first s a (head_of p) ds h.first.here (head_held h.first)

        self_t : closer t a (head_of p) a ≡ false
        self_t = own_first t a (head_of p) dt h.second.here (head_held h.second)

        head_s : closer s a (head_of p) (head_of p) ≡ false
        head_s = own_second s a (head_of p) ds h.first.here (head_held h.first)

        head_t : closer t a (head_of p) (head_of p) ≡ false
        head_t = own_second t a (head_of p) dt h.second.here (head_held h.second)

        other : (x : Label) → closer s a (head_of p) x ≡ true → head_of p ≡ x → ⊥
        other x o e = clash (ap (closer s a (head_of p)) e ∙ o) head_s

        go : (closer s a (head_of p) b ≡ true) ⊎ (closer s a (head_of p) b ≡ false)
            → (closer s a (head_of p) c ≡ true) ⊎ (closer s a (head_of p) c ≡ false) → Alike s t a b c
        go (inl i) (inl j) =
            let rb : head_of p ≡ b → ⊥ = other b i in
            let rc : head_of p ≡ c → ⊥ = other c j in
            alike_exchanged s t a (head_of p) b c
            (exchange a (head_of p) self_s head_s trio_s
            (record {
              different = ds;
              ab = rb;
              ac = rc;
              bc = bc;
              held_a = head_held h.first;
              held_b = (other_held kb).0;
              held_c = (other_held kc).0;
            }) i j)
            (exchange a (head_of p) self_t head_t trio_t
            (record {
              different = dt;
              ab = rb;
              ac = rc;
              bc = bc;
              held_a = head_held h.second;
              held_b = (other_held kb).1;
              held_c = (other_held kc).1;
            }) (sym same_b ∙ i) (sym same_c ∙ j))
            (rest rb rc)
        go (inr i) (inl j) =
            alike_pair trio_s trio_t (clade s a (head_of p) a b c ds self_s i j)
            (clade t a (head_of p) a b c dt self_t (sym same_b ∙ i) (sym same_c ∙ j))
        go (inl i) (inr j) =
            alike_turn s t a c b
            (alike_pair (turn trio_s) (turn trio_t) (clade s a (head_of p) a c b ds self_s j i)
            (clade t a (head_of p) a c b dt self_t (sym same_c ∙ j) (sym same_b ∙ i)))
        go (inr i) (inr j) =
            let bs : closer s a b c ≡ false = under_first h n ab kb i c j in
            let cs : closer s a c b ≡ false = under_first h n ac kc j b i in
            let bt : closer t a b c ≡ false = under_second h n ab kb (sym same_b ∙ i) c (sym same_c ∙ j) in
            let ct : closer t a c b ≡ false = under_second h n ac kc (sym same_c ∙ j) b (sym same_b ∙ i) in
            (bs ∙ sym bt, cs ∙ sym ct, pair_last trio_s bs cs ∙ sym (pair_last trio_t bt ct))

    module _ (required_agree : Agree s t (set_of K)) where
      -- one leaf that is not required
      pub one_out : {a : Label} {p : List Label} → Both s t K a p → is_in a K ≡ false → (b c : Label) → is_in b K ≡ true → is_in c K ≡ true
          → (a ≡ b → ⊥) → (a ≡ c → ⊥) → (b ≡ c → ⊥) → Alike s t a b c
      one_out {a} {p} h n b c kb kc ab ac bc =
          move_one h n ab ac bc (required kb) (required kc)
          (λ rb rc. agree_alike s t (set_of K) required_agree (head_of p) b c (head_required h.first) kb kc rb rc bc)

      -- two with different places
      pub two_apart : {a b : Label} {p q : List Label} → Both s t K a p → Both s t K b q → is_in a K ≡ false → is_in b K ≡ false → (p ≡ q → ⊥)
          → (c : Label) → is_in c K ≡ true → (a ≡ b → ⊥) → (a ≡ c → ⊥) → (b ≡ c → ⊥) → Alike s t a b c
      two_apart {a} {b} {p} {q} h k na nb pq c kc ab ac bc =
          move_one h na ab ac bc (elsewhere nb k pq) (required kc)
          (λ rb rc. alike_swap s t b (head_of p) c
          (one_out k nb (head_of p) c (head_required h.first) kc (Ne-symm rb) bc rc))

      -- two with one place: Y is a set with them and the place's head, on which the trees agree
      pub two_together : {a b : Label} {p : List Label} → Both s t K a p → Both s t K b p → is_in a K ≡ false → is_in b K ≡ false
          → (Y : Label → Bool) → Agree s t Y → Y a ≡ true → Y b ≡ true → Y (head_of p) ≡ true
          → (c : Label) → is_in c K ≡ true → (a ≡ b → ⊥) → (a ≡ c → ⊥) → (b ≡ c → ⊥) → Alike s t a b c
      two_together {a} {b} {p} h k na nb Y g ya yb yr c kc ab ac bc = go (bool_cases (is_in c p)) (same_cases c (head_of p))
        where
          trio_s : LeafTrio s a b c
          trio_s = record {
            different = ds;
            ab = ab;
            ac = ac;
            bc = bc;
            held_a = h.first.here;
            held_b = k.first.here;
            held_c = (held c kc).0;
          }

          trio_t : LeafTrio t a b c
          trio_t = record {
            different = dt;
            ab = ab;
            ac = ac;
            bc = bc;
            held_a = h.second.here;
            held_b = k.second.here;
            held_c = (held c kc).1;
          }

          with_head : Alike s t (head_of p) a b
          with_head =
              agree_alike s t Y g (head_of p) a b yr ya yb (λ e. required_ne K a (head_of p) na (head_required h.first) (sym e))
              (λ e. required_ne K b (head_of p) nb (head_required k.first) (sym e)) ab

          front : Alike s t c a b → Alike s t a b c
          front m = alike_turn s t a c b (alike_swap s t c a b m)

          go : (is_in c p ≡ true) ⊎ (is_in c p ≡ false) → (c ≡ head_of p) ⊎ (same_label c (head_of p) ≡ false) → Alike s t a b c
          go (inr n) e =
              alike_pair trio_s trio_t (together_pair h.first k.first na nb ab c kc n)
              (together_pair h.second k.second na nb ab c kc n)
          go (inl m) (inl e) = front (rw e with_head)
          go (inl m) (inr e) =
              let cr : c ≡ head_of p → ⊥ = same_ne c (head_of p) e in
              front (alike_exchanged s t c (head_of p) a b (head_exchanged h.first k.first na nb ab c m cr)
              (head_exchanged h.second k.second na nb ab c m cr) with_head)
