-- The set that the definition gives for two trees restricted to some labels is the answer among the sets of these labels. C-17. Assumes
-- nothing.
use Prim.Native.Nat.{◌≤◌}
use mathlib.Core.Path.{◌≡◌, refl, sym, ◌∙◌, ap}
use mathlib.Core.Bool.{true, ◌&&◌}
use mathlib.Core.Logic.{◌⊎◌}
use mathlib.Core.List.{List}
use mathlib.Core.Option.{Option, some, none}
use lib.ListN.{length}
use Rattle.trees.specs.Label.{Label, is_in, distinct}
use Rattle.trees.specs.Tree.{Tree, leaves}
use Rattle.trees.proofs.Bools.{clash, and_left, and_right, and_intro}
use Rattle.agreement.specs.Closer.{holds}
use Rattle.agreement.specs.Restrict.{restrict}
use Rattle.agreement.specs.Sets.{set_of, First}
use Rattle.agreement.specs.Demand.{Allowed, IsAnswer}
use Rattle.agreement.proofs.KeepLaws.{is_in_keep}
use Rattle.agreement.proofs.SetLaws.{Within}
use Rattle.agreement.proofs.RestrictLaws.{kept_leaves, restrict_leaves, restrict_distinct, restrict_empty, restrict_closer}
use Rattle.agreement.proofs.DemandLaws.{largest_answer}
use Rattle.pieces.specs.Pieces.{set_over}

-- F is the first of the largest sets allowed with R among those of labels of L
pub record AnswerWithin (s t : Tree) (R L F : List Label) : Type 0 where
  pub allowed_set : Allowed s t R F
  pub within : Within F L
  pub largest_size : (Y : List Label) → Allowed s t R Y → Within Y L → length Y ≤ length F
  pub first_of_size : (Y : List Label) → Allowed s t R Y → Within Y L → length Y ≡ length F → (F ≡ Y) ⊎ First (set_of F) (set_of Y)

holds_kept : (L : List Label) (t r : Tree) → restrict (set_of L) t ≡ some r → (x : Label) → holds r x ≡ (is_in x L && holds t x)
unfolding holds kept_leaves
holds_kept L t r e x =
    ap (λ (o : Option Tree). is_in x (kept_leaves o)) (sym e) ∙ ap (is_in x) (restrict_leaves (set_of L) t) ∙ is_in_keep (set_of L) x (leaves t)

module _ (s t a b : Tree) (R L : List Label) (es : restrict (set_of L) s ≡ some a) (et : restrict (set_of L) t ≡ some b) where
  allowed_up : (Y : List Label) → Allowed a b R Y → Allowed s t R Y × Within Y L
  allowed_up Y h = (
    record {
      ordered = h.ordered;
      required = h.required;
      common_leaves = λ x m. (in_s x m, in_t x m);
      agreed = λ x y z mx my mz xy xz yz.
          sym (restrict_closer (set_of L) s a es x y z (in_l x mx) (in_l y my) (in_l z mz) (in_s x mx) (in_s y my))
          ∙ h.agreed x y z mx my mz xy xz yz
          ∙ restrict_closer (set_of L) t b et x y z (in_l x mx) (in_l y my) (in_l z mz) (in_t x mx) (in_t y my);
    },
    in_l,
  )
    where
      in_l : (x : Label) → is_in x Y ≡ true → is_in x L ≡ true
      in_l x m = and_left (is_in x L) (holds s x) (sym (holds_kept L s a es x) ∙ (h.common_leaves x m).0)

      in_s : (x : Label) → is_in x Y ≡ true → holds s x ≡ true
      in_s x m = and_right (is_in x L) (holds s x) (sym (holds_kept L s a es x) ∙ (h.common_leaves x m).0)

      in_t : (x : Label) → is_in x Y ≡ true → holds t x ≡ true
      in_t x m = and_right (is_in x L) (holds t x) (sym (holds_kept L t b et x) ∙ (h.common_leaves x m).1)

  allowed_down : (Y : List Label) → Allowed s t R Y → Within Y L → Allowed a b R Y
  allowed_down Y h f = record {
    ordered = h.ordered;
    required = h.required;
    common_leaves = λ x m. (
      holds_kept L s a es x ∙ and_intro (is_in x L) (holds s x) (f x m) (h.common_leaves x m).0,
      holds_kept L t b et x ∙ and_intro (is_in x L) (holds t x) (f x m) (h.common_leaves x m).1,
    );
    agreed = λ x y z mx my mz xy xz yz.
        restrict_closer (set_of L) s a es x y z (f x mx) (f y my) (f z mz) (h.common_leaves x mx).0 (h.common_leaves y my).0
        ∙ h.agreed x y z mx my mz xy xz yz
        ∙ sym (restrict_closer (set_of L) t b et x y z (f x mx) (f y my) (f z mz) (h.common_leaves x mx).1 (h.common_leaves y my).1);
  }

  within_answer : (F : List Label) → IsAnswer a b R F → AnswerWithin s t R L F
  within_answer F h = record {
    allowed_set = (allowed_up F h.allowed_set).0;
    within = (allowed_up F h.allowed_set).1;
    largest_size = λ Y i f. h.largest_size Y (allowed_down Y i f);
    first_of_size = λ Y i f. h.first_of_size Y (allowed_down Y i f);
  }

-- some set of these labels is allowed, and one of them is common
pub set_within : (s t : Tree) (R L Z : List Label) (y : Label) → distinct (leaves s) ≡ true → Allowed s t R Z → Within Z L
    → is_in y L ≡ true → holds s y ≡ true → holds t y ≡ true
    → AnswerWithin s t R L (set_over (restrict (set_of L) s) (restrict (set_of L) t) R)
set_within s t R L Z y d h f l hs ht = go (restrict (set_of L) s) (restrict (set_of L) t) refl refl
  where
    go : (o u : Option Tree) → restrict (set_of L) s ≡ o → restrict (set_of L) t ≡ u → AnswerWithin s t R L (set_over o u R)
    go none u es et = clash hs (restrict_empty (set_of L) s es y l)
    go (some a) none es et = clash ht (restrict_empty (set_of L) t et y l)
    go (some a) (some b) es et =
        unfold set_over in
        within_answer s t a b R L es et _
        (largest_answer a b R Z (restrict_distinct (set_of L) s a es d) (allowed_down s t a b R L es et Z h f))
