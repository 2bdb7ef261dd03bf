-- Reading a text byte by byte, without limits: if each text of a grammar is read to its end, then no text of the grammar goes on where
-- the reading stopped. Assumes nothing.
use Prim.Native.Nat.{ℕ, ◌≤◌}
use mathlib.Core.Path.{◌≡◌, refl, sym, ◌∙◌, ap}
use mathlib.Core.Bool.{Bool, true}
use mathlib.Core.List.{List, [], ◌∷◌, ◌++◌, append_assoc, append-nil}
use native.Mathlib.Omega.{arith}
use lib.ListN.{length}
use Rattle.trees.specs.Bytes.{is_label_byte, is_inner_byte, quote_byte}
use Rattle.trees.specs.Token.{all_of, quoted_token}
use Rattle.trees.specs.Faults.{Continues}
use Rattle.trees.proofs.Bools.{and_left, and_right}

-- where the reading stands, or that it stopped
pub data Raw (S : Type 0) : Type 0 where
  on : S → Raw S
  halt : Raw S

pub on_same : {S : Type 0} {s t : S} → on s ≡ on t → s ≡ t
on_same e = cc

module _ {S : Type 0} (step : S → ℕ → Raw S) where
  unfoldable pub raw_run : S → List ℕ → Raw S
  raw_run s [] = on s
  raw_run s (b ∷ rest) = elim (step s b) [ on s' ↦ raw_run s' rest | halt ↦ halt ]

  go_on : Raw S → List ℕ → Raw S
  go_on (on s) q = raw_run s q
  go_on halt q = halt

  raw_append : (s : S) (p q : List ℕ) → raw_run s (p ++ q) ≡ go_on (raw_run s p) q
  unfolding raw_run go_on
  raw_append s [] q = refl
  raw_append s (b ∷ p) q = go (step s b) (λ s'. raw_append s' p q)
    where
      go : (r : Raw S) → ((s' : S) → raw_run s' (p ++ q) ≡ go_on (raw_run s' p) q)
          → elim r [ on s' ↦ raw_run s' (p ++ q) | halt ↦ halt ] ≡ go_on (elim r [ on s' ↦ raw_run s' p | halt ↦ halt ]) q
      go (on s') ih = ih s'
      go halt ih = refl

  pub raw_nil : (s : S) → raw_run s [] ≡ on s
  unfolding raw_run
  raw_nil s = refl

  -- the first byte
  pub raw_cons : (s s' : S) (b : ℕ) (rest : List ℕ) → step s b ≡ on s' → raw_run s (b ∷ rest) ≡ raw_run s' rest
  unfolding raw_run
  raw_cons s s' b rest e = ap (λ (r : Raw S). elim r [ on z ↦ raw_run z rest | halt ↦ halt ]) e

  -- two states in which the first byte does the same
  pub raw_same : (s s' : S) (b : ℕ) (rest : List ℕ) → step s b ≡ step s' b → raw_run s (b ∷ rest) ≡ raw_run s' (b ∷ rest)
  unfolding raw_run
  raw_same s s' b rest e = ap (λ (r : Raw S). elim r [ on z ↦ raw_run z rest | halt ↦ halt ]) e

  -- one byte more
  pub raw_snoc : (start s : S) (p : List ℕ) (b : ℕ) → raw_run start p ≡ on s → raw_run start (p ++ (b ∷ [])) ≡ step s b
  unfolding go_on raw_run
  raw_snoc start s p b e = raw_append start p (b ∷ []) ∙ ap (λ (r : Raw S). go_on r (b ∷ [])) e ∙ go (step s b)
    where
      go : (r : Raw S) → elim r [ on s' ↦ on s' | halt ↦ halt ] ≡ r
      go (on s') = refl
      go halt = refl

  pub stopped : (Whole : List ℕ → Type 0) (start : S) → ((p : List ℕ) → Whole p → (s : S) × (raw_run start p ≡ on s))
      → (p : List ℕ) → raw_run start p ≡ halt → Continues Whole p → ⊥
  unfolding go_on
  stopped Whole start ends p e (q, w) = never
    where
      stays : raw_run start (p ++ q) ≡ halt
      stays = raw_append start p q ∙ ap (λ (r : Raw S). go_on r q) e

      never : ⊥
      never = let g = ends (p ++ q) w in let z : ◌≡◌ {A = ℕ} 0 1 = cc (stays, g.1) in omega arith

  -- states inside a run of bytes of one sort, with its bytes so far
  raw_letters : (is : ℕ → Bool) (inside : List ℕ → S) → ((y : List ℕ) (b : ℕ) → is b ≡ true → step (inside y) b ≡ on (inside (y ++ (b ∷ []))))
      → (y x rest : List ℕ) → all_of is x ≡ true → raw_run (inside y) (x ++ rest) ≡ raw_run (inside (y ++ x)) rest
  unfolding all_of
  raw_letters is inside grows y [] rest h = ap (λ (z : List ℕ). raw_run (inside z) rest) (sym (append-nil y))
  raw_letters is inside grows y (b ∷ x) rest h =
      raw_cons (inside y) (inside (y ++ (b ∷ []))) b (x ++ rest) (grows y b (and_left (is b) (all_of is x) h))
      ∙ raw_letters is inside grows (y ++ (b ∷ [])) x rest (and_right (is b) (all_of is x) h)
      ∙ ap (λ (z : List ℕ). raw_run (inside z) rest) (append_assoc y (b ∷ []) x)

  -- a bare label, from a state in which one may begin
  pub raw_bare_lem : (inside : List ℕ → S) → ((y : List ℕ) (b : ℕ) → is_label_byte b ≡ true → step (inside y) b ≡ on (inside (y ++ (b ∷ []))))
      → (s : S) → ((b : ℕ) → is_label_byte b ≡ true → step s b ≡ on (inside (b ∷ [])))
      → (x rest : List ℕ) → 1 ≤ length x → all_of is_label_byte x ≡ true → raw_run s (x ++ rest) ≡ raw_run (inside x) rest
  unfolding all_of
  raw_bare_lem inside grows s begins [] rest l h = absurd (omega arith)
  raw_bare_lem inside grows s begins (b ∷ x) rest l h =
      raw_cons s (inside (b ∷ [])) b (x ++ rest) (begins b (and_left (is_label_byte b) (all_of is_label_byte x) h))
      ∙ raw_letters is_label_byte inside grows (b ∷ []) x rest (and_right (is_label_byte b) (all_of is_label_byte x) h)

  -- a quoted one
  pub raw_quoted : (inside : List ℕ → S) → ((y : List ℕ) (b : ℕ) → is_inner_byte b ≡ true → step (inside y) b ≡ on (inside (y ++ (b ∷ []))))
      → (s t : S) (x rest : List ℕ) → step s quote_byte ≡ on (inside []) → step (inside x) quote_byte ≡ on t
      → all_of is_inner_byte x ≡ true → raw_run s (quoted_token x ++ rest) ≡ raw_run t rest
  raw_quoted inside grows s t x rest opens closes h =
      raw_cons s (inside []) quote_byte ((x ++ (quote_byte ∷ [])) ++ rest) opens
      ∙ ap (raw_run (inside [])) (append_assoc x (quote_byte ∷ []) rest)
      ∙ raw_letters is_inner_byte inside grows [] x (quote_byte ∷ rest) h
      ∙ raw_cons (inside x) t quote_byte rest closes
