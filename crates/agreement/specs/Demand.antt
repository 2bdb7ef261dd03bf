-- Demand 3, sentence by sentence, over every set. 01, "Agreement" and "Conditions of acceptance".
use Rattle.std.specs.Prelude.{ℕ, ◌≤◌, ◌<◌, ◌≡◌, ◌⊎◌, true, false, List, [], length, get_or}
use Rattle.trees.specs.Label.{Label, label_less, is_in}
use Rattle.trees.specs.Tree.{Tree}
use Rattle.agreement.specs.Closer.{holds, Agree, Common}
use Rattle.agreement.specs.Sets.{increasing, set_of, First}
use Rattle.agreement.specs.Answer.{clashing}

-- a set that may be the answer
pub record Allowed (s t : Tree) (K X : List Label) : Type 0 where
  -- in label order, each once
  pub ordered : increasing X ≡ true
  -- contains every required label
  pub required : (x : Label) → is_in x K ≡ true → is_in x X ≡ true
  -- only common leaves
  pub common_leaves : Common s t (set_of X)
  -- both trees agree on it
  pub agreed : Agree s t (set_of X)

-- the set that is the answer
pub record IsAnswer (s t : Tree) (K X : List Label) : Type 0 where
  pub allowed_set : Allowed s t K X
  -- no larger such set exists
  pub largest_size : (Y : List Label) → Allowed s t K Y → length Y ≤ length X
  -- among equals it is the first in label order
  pub first_of_size : (Y : List Label) → Allowed s t K Y → length Y ≡ length X → (X ≡ Y) ⊎ First (set_of X) (set_of Y)

-- three labels, sorted, come before three others: compared label by label
pub data Before3 (a b c : Label) : Label → Label → Label → Type 0 where
  by_first : {x y z : Label} → label_less a x ≡ true → Before3 a b c x y z
  by_second : {y z : Label} → label_less b y ≡ true → Before3 a b c a y z
  by_third : {z : Label} → label_less c z ≡ true → Before3 a b c a b z
  as_well : Before3 a b c a b c

-- three required labels, sorted, that have different closer pairs
pub record Clash (s t : Tree) (K : List Label) (a b c : Label) : Type 0 where
  pub in_one : is_in a K ≡ true
  pub in_two : is_in b K ≡ true
  pub in_three : is_in c K ≡ true
  pub one_two : label_less a b ≡ true
  pub two_three : label_less b c ≡ true
  pub differs : clashing s t a b c ≡ true

-- number 8: it "names the first such three, sorted, compared label by label"
pub record IsDisagreement (s t : Tree) (K : List Label) (a b c : Label) : Type 0 where
  pub clash : Clash s t K a b c
  pub first_three : (x y z : Label) → Clash s t K x y z → Before3 a b c x y z

-- numbers 6 and 7: the label with index n is the first in list order that either tree lacks
pub record FirstLacking (s t : Tree) (K : List Label) (n : ℕ) : Type 0 where
  pub in_list : n < length K
  pub earlier : (m : ℕ) → m < n → (holds s (get_or K m []) ≡ true) × (holds t (get_or K m []) ≡ true)

-- 6: the first tree lacks it
pub record IsFirstLacks (s t : Tree) (K : List Label) (n : ℕ) : Type 0 where
  pub found : FirstLacking s t K n
  pub lacked : holds s (get_or K n []) ≡ false

-- 7: only the second lacks it
pub record IsSecondLacks (s t : Tree) (K : List Label) (n : ℕ) : Type 0 where
  pub found : FirstLacking s t K n
  pub held : holds s (get_or K n []) ≡ true
  pub lacked : holds t (get_or K n []) ≡ false
