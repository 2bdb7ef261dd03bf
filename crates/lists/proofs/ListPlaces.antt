-- Where the labels of a list stand when each is followed by a comma. Assumes nothing.
use Prim.Native.Nat.{ℕ, suc, ◌+◌, ◌<◌}
use native.Mathlib.Nat.{add-zero}
use native.Mathlib.Omega.{arith}
use mathlib.Core.Path.{◌≡◌, refl, ap, ap₂, sym, ◌∙◌}
use mathlib.Core.Bool.{◌||◌}
use mathlib.Core.List.{List, [], ◌∷◌, ◌++◌, map, append_assoc}
use lib.ListN.{length, set, length-append}
use Rattle.trees.specs.Bytes.{comma_byte}
use Rattle.trees.specs.Label.{is_in}
use Rattle.trees.specs.Token.{Token, spelling}
use Rattle.trees.proofs.PaddedLaws.{padded_store}
use Rattle.trees.proofs.AmongLaws.{among_parts, part_same}
use Rattle.lists.specs.ReadList.{list_limit, padded, sizes_of, starts_of}

-- the text of complete labels, a comma after each
unfoldable pub consumed : List Token → List ℕ
consumed [] = []
consumed (x ∷ xs) = x ++ (comma_byte ∷ consumed xs)

pub consumed_snoc : (xs : List Token) (x : Token) → consumed (xs ++ (x ∷ [])) ≡ consumed xs ++ (x ++ (comma_byte ∷ []))
unfolding consumed
consumed_snoc [] x = refl
consumed_snoc (y ∷ ys) x = rw (consumed_snoc ys x) (sym (append_assoc y (comma_byte ∷ consumed ys) (x ++ (comma_byte ∷ []))))

pub starts_snoc : (xs : List Token) (x : Token) (p : ℕ) → starts_of (xs ++ (x ∷ [])) p ≡ starts_of xs p ++ ((p + length (consumed xs)) ∷ [])
unfolding starts_of consumed
starts_snoc [] x p = ap (λ (n : ℕ). n ∷ []) (sym (add-zero p))
starts_snoc (y ∷ ys) x p =
    let far : p + length y + 1 + length (consumed ys) ≡ p + length (y ++ (comma_byte ∷ consumed ys)) = simp length-append (omega arith) in
    rw (starts_snoc ys x (p + length y + 1), far) refl

pub sizes_snoc : (xs : List Token) (x : Token) → sizes_of (xs ++ (x ∷ [])) ≡ sizes_of xs ++ (length x ∷ [])
unfolding sizes_of
sizes_snoc [] x = refl
sizes_snoc (y ∷ ys) x = ap (λ (l : List ℕ). length y ∷ l) (sizes_snoc ys x)

pub length_starts : (xs : List Token) (p : ℕ) → length (starts_of xs p) ≡ length xs
unfolding starts_of
length_starts [] p = refl
length_starts (x ∷ xs) p = ap suc (length_starts xs (p + length x + 1))

pub length_sizes : (xs : List Token) → length (sizes_of xs) ≡ length xs
unfolding sizes_of
length_sizes [] = refl
length_sizes (x ∷ xs) = ap suc (length_sizes xs)

-- a store just past the entries lengthens them
pub store : (l : List ℕ) (v n : ℕ) → length l ≡ n → n < list_limit → set (padded l) n v ≡ padded (l ++ (v ∷ []))
store l v n e h = rw (← e) (padded_store list_limit l (omega arith) v)

-- a label looked for among the places of complete labels stands for one of them
pub among_seen : (text : List ℕ) (x : Token) (ys : List Token) (before rest : List ℕ) (p : ℕ)
    → text ≡ before ++ (consumed ys ++ rest) → p ≡ length before → among_parts text x (starts_of ys p) (sizes_of ys) ≡ is_in (spelling x) (map spelling ys)
unfolding among_parts consumed starts_of sizes_of is_in
among_seen text x [] before rest p t e = refl
among_seen text x (y ∷ ys) before rest p t e =
    let here : text ≡ before ++ (y ++ (comma_byte ∷ (consumed ys ++ rest))) =
    t ∙ ap (λ (l : List ℕ). before ++ l) (append_assoc y (comma_byte ∷ consumed ys) rest) in
    let past : p + length y + 1 ≡ length (before ++ (y ++ (comma_byte ∷ []))) = simp length-append (omega arith) in
    ap₂ ◌||◌ (part_same text x y before (comma_byte ∷ (consumed ys ++ rest)) p e here)
    (among_seen text x ys (before ++ (y ++ (comma_byte ∷ []))) rest (p + length y + 1) (here ∙ simp append_assoc) past)
