-- The rule of the class table at each byte, from the table as a whole. Assumes nothing.
use Prim.Native.Nat.{ℕ, zero, suc, ◌+◌, ◌<◌}
use mathlib.Core.Path.{◌≡◌, refl, ap, ◌∙◌, sym}
use mathlib.Core.List.{List}
use native.Mathlib.Nat.{le_of_suc-le-suc, not-suc-le-zero, add-zero, zero-add, add-suc, suc-add}
use lib.ListN.{get_or}
use Rattle.trees.specs.declared.Kind.{Kind}
use Rattle.trees.specs.declared.Kind.TheVariants.{Label, Open, Close, Comma, Semicolon, Quote, Blank, Other}
use Rattle.trees.specs.Bytes.{kind_of, kind_of_code, code_of, codes_from, class_table}

kind_code : (k : Kind) → kind_of_code (code_of k) ≡ k
unfolding kind_of_code code_of
kind_code Label = refl
kind_code Open = refl
kind_code Close = refl
kind_code Comma = refl
kind_code Semicolon = refl
kind_code Quote = refl
kind_code Blank = refl
kind_code Other = refl

code_at : (n b k : ℕ) → k < n → get_or (codes_from n b) k 0 ≡ code_of (kind_of (b + k))
unfolding codes_from
code_at zero b k h = absurd (not-suc-le-zero h)
code_at (suc n) b zero h = ap (λ (m : ℕ). code_of (kind_of m)) (sym (add-zero b))
code_at (suc n) b (suc k) h =
    code_at n (suc b) k (le_of_suc-le-suc h) ∙ ap (λ (m : ℕ). code_of (kind_of m)) (suc-add b k ∙ sym (add-suc b k))

-- "Each of the 256 byte values has one class"
pub class_rule : (b : ℕ) → b < 256 → kind_of_code (get_or class_table b 0) ≡ kind_of b
unfolding class_table
class_rule b h =
    ap kind_of_code (code_at 256 0 b h ∙ ap (λ (m : ℕ). code_of (kind_of m)) (zero-add b)) ∙ kind_code (kind_of b)

-- the class table tells the kind of each byte
pub kind_told : (table : List ℕ) (b : ℕ) (k : Kind) → table ≡ class_table → b < 256 → k ≡ kind_of_code (get_or table b 0) → k ≡ kind_of b
kind_told table b k e h q = q ∙ ap (λ (t : List ℕ). kind_of_code (get_or t b 0)) e ∙ class_rule b h
