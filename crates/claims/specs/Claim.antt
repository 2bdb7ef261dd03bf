-- A claimed set, over sets of labels. C-16: "It is accepted exactly if it holds every required label, the trees agree on
-- it and no larger such set exists; any of the tied largest ones passes, whoever made it."
use Rattle.std.specs.Prelude.{ℕ, ◌≤◌, ◌<◌, ◌≡◌, true, List, length}
use Rattle.trees.specs.Label.{Label, is_in, distinct}
use Rattle.trees.specs.Tree.{Tree}
use Rattle.agreement.specs.Closer.{Agree, Common}
use Rattle.agreement.specs.Sets.{set_of}
use Rattle.agreement.specs.Demand.{Allowed, Clash, IsFirstLacks, IsSecondLacks, IsDisagreement}
use Rattle.mast.specs.Compare.{IsMissing}

-- "it holds every required label"
abbrev pub HoldsRequired : List Label → List Label → Type 0
HoldsRequired K Y = (x : Label) → is_in x K ≡ true → is_in x Y ≡ true

-- the claim Y passes
pub record IsClaim (s t : Tree) (K Y : List Label) : Type 0 where
  -- its labels are different, in any order
  pub different : distinct Y ≡ true
  pub required : HoldsRequired K Y
  -- only common leaves
  pub common_leaves : Common s t (set_of Y)
  pub agreed : Agree s t (set_of Y)
  -- no larger such set exists
  pub largest_size : (X : List Label) → Allowed s t K X → length X ≤ length Y

-- the verdict on a claim, if neither number 8 nor a number before it is given
pub data Verdict : Type 0 where
  -- 6, 7: the first tree lacks, or only the second lacks, the claim's label with this index in list order, counted from 0
  claim_first_lacks : ℕ → Verdict
  claim_second_lacks : ℕ → Verdict
  -- 13: the claim lacks the required label with this index
  claim_lacks : ℕ → Verdict
  -- 14: three claimed leaves disagree
  claim_disagrees : Label → Label → Label → Verdict
  -- 15: the claim is smaller than the largest size
  claim_small : Verdict
  -- it passes; its size
  claim_passes : ℕ → Verdict

-- "after number 8": both trees have the required labels, and no three of them have different closer pairs
pub record Clear (s t : Tree) (K : List Label) : Type 0 where
  pub common_leaves : Common s t (set_of K)
  pub free : (a b c : Label) → Clash s t K a b c → ⊥

-- 15, "a claim smaller than the largest size": there is a larger allowed set
pub record IsClaimSmall (s t : Tree) (K Y : List Label) : Type 0 where
  pub larger : List Label
  pub allowed : Allowed s t K larger
  pub more : length Y < length larger

-- "A label of C absent from a tree takes 6 or 7 ..; then come, in order, 13 for the first required label missing from the claim, .., 14 for
-- three claimed leaves that disagree, named as 8 names them, and 15". Each case is stated for the claims to which none before it applies.
abbrev pub VerdictIs : Tree → Tree → List Label → List Label → Verdict → Type 0
VerdictIs s t K Y (claim_first_lacks n) = IsFirstLacks s t Y n
VerdictIs s t K Y (claim_second_lacks n) = IsSecondLacks s t Y n
VerdictIs s t K Y (claim_lacks n) = Common s t (set_of Y) × IsMissing K Y n
VerdictIs s t K Y (claim_disagrees a b c) = Common s t (set_of Y) × HoldsRequired K Y × IsDisagreement s t Y a b c
VerdictIs s t K Y claim_small = Common s t (set_of Y) × HoldsRequired K Y × Agree s t (set_of Y) × IsClaimSmall s t K Y
VerdictIs s t K Y (claim_passes n) = IsClaim s t K Y × (n ≡ length Y)
