-- What is shown of a label by its place: the label, whole, in the first tree's text and in its list. Assumes nothing.
use Prim.Native.Nat.{ℕ, zero, suc, ◌-◌, ◌<◌}
use mathlib.Core.Path.{◌≡◌, refl, sym, ◌∙◌, subst}
use mathlib.Core.Bool.{true}
use mathlib.Core.List.{List, [], ◌∷◌, map}
use native.Mathlib.Omega.{arith}
use lib.ListN.{length, get_or, replicate, length-map, get_or-append}
use Rattle.trees.specs.declared.Edition.{Edition}
use Rattle.trees.specs.Edition.{folded, keyed, ValidIn}
use Rattle.trees.specs.Label.{Label, is_in}
use Rattle.trees.specs.Token.{Token}
use Rattle.trees.specs.Tree.{Tree}
use Rattle.trees.specs.Text.{text_of}
use Rattle.trees.proofs.ListLaws.{at_in}
use Rattle.lists.specs.declared.LabelPlaces.{LabelPlaces}
use Rattle.lists.specs.ReadList.{padded, list_limit, joined, folded_list, keys_of}
use Rattle.agreement.specs.Closer.{holds}
use Rattle.agreement.specs.Places.{place_in, token_in, place_of_label, token_of_key, spelled_in}
use Rattle.agreement.proofs.PlaceLaws.{list_listed, listed_key}
use Rattle.agreement.proofs.EditionText.{spelled_shown, spelled_good, spelled_key}
use Rattle.pairs.specs.Outcome.{Outcome, Trio, found}
use Rattle.mast.specs.NamedLabels.{named_label, named_of, result_of}
use Rattle.mast.specs.Largest.{Solution, solution, set_places, found_set, largest_of, set_of_answer}
use Rattle.mast.specs.Shown.{HeldAndListed, ShownInTree, ShownInList, NameShown, NamesShown}

-- ---- one label

module _ (e : Edition) (x : Label) where
  pub leaf_is_shown : (s : Tree) → ValidIn e s → holds (keyed e s) x ≡ true
      → ShownInTree e (text_of s) (place_in (folded e s) 0 x) (length (token_in (folded e s) x)) x
  unfolding spelled_in
  leaf_is_shown s v h = record { whole = spelled_shown e s x; good = spelled_good e s x v; is = spelled_key e s x h }

  pub label_is_shown : (xs : List Token) → is_in x (keys_of e xs) ≡ true → ShownInList e (joined xs) (place_of_label (folded_list e xs) 0 x) x
  label_is_shown xs h = record { token = token_of_key e xs x; whole = list_listed e xs x h; is = listed_key e xs x h }

-- ---- labels that are named

module _ (n : Trio) (v : ValidIn n.edition n.first) where
  name_is_shown : (x : Label) → HeldAndListed n x → NameShown n.edition (text_of n.first) (joined n.list) (named_label n x) x
  unfolding named_label
  name_is_shown x h =
      record { listed = label_is_shown n.edition x n.list h.listed; leaf = leaf_is_shown n.edition x n.first v h.held }

  pub names_are_shown : HeldAndListed n n.labels.one → HeldAndListed n n.labels.two → HeldAndListed n n.labels.three
      → NamesShown n.edition (text_of n.first) (joined n.list) (named_of n) n.labels
  unfolding named_of
  names_are_shown a b c =
      record {
        first_name = name_is_shown n.labels.one a;
        second_name = name_is_shown n.labels.two b;
        third_name = name_is_shown n.labels.three c;
      }

-- ---- the labels of a set

map_at : (f : Label → ℕ) (X : List Label) (r : ℕ) → r < length X → get_or (map f X) r 0 ≡ f (get_or X r [])
map_at f [] r h = absurd (omega arith)
map_at f (x ∷ X) zero h = refl
map_at f (x ∷ X) (suc r) h = map_at f X r (omega arith)

padded_at : (f : Label → ℕ) (X : List Label) (r : ℕ) → r < length X → get_or (padded (map f X)) r 0 ≡ f (get_or X r [])
padded_at f X r h =
    get_or-append (map f X) (replicate (list_limit - length (map f X)) 0) 0 r (omega (arith, length-map X f)) ∙ map_at f X r h

module _ (e : Edition) (s : Tree) (X : List Label) (v : ValidIn e s) (held : (x : Label) → is_in x X ≡ true → holds (keyed e s) x ≡ true)
    (r : ℕ) where
  abbrev SetShown : List ℕ → LabelPlaces → Type 0
  SetShown text places = r < places.count → ShownInTree e text (get_or places.start r 0) (get_or places.size r 0) (get_or X r [])

  places_shown : SetShown (text_of s) (set_places (folded e s) X)
  unfolding set_places
  places_shown h =
      rw (padded_at (place_in (folded e s) 0) X r h, padded_at (λ (x : Label). length (token_in (folded e s) x)) X r h)
      (leaf_is_shown e (get_or X r []) s v (held (get_or X r []) (at_in X r h)))

  pub set_is_shown : (t : Tree) (xs : List Token) (text : List ℕ) → text ≡ text_of s → (x : Outcome Solution) → x ≡ found (solution e s t xs X)
      → SetShown text (set_of_answer (largest_of x))
  unfolding result_of found_set set_of_answer
  set_is_shown t xs text d x k =
      subst (λ (y : Outcome Solution). SetShown text (set_of_answer (largest_of y))) (sym k)
      (subst (λ (w : List ℕ). SetShown w (set_places (folded e s) X)) (sym d) places_shown)
