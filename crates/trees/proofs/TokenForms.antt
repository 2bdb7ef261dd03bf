-- The two forms of a token, bare and quoted, said at once: `quoted` tells which, and the bytes that count are its inner ones. Both
-- readers go by these laws. Assumes nothing.
use Prim.Native.Nat.{ℕ, ◌≤◌}
use mathlib.Core.Path.{◌≡◌, refl, ap}
use mathlib.Core.Bool.{Bool, true, false}
use mathlib.Core.List.{List, ◌∷◌, map}
use native.Mathlib.Omega.{arith}
use lib.ListN.{length, length-map}
use Rattle.trees.specs.Bytes.{is_label_byte, is_inner_byte, quote_byte, blank_byte}
use Rattle.trees.specs.Label.{Label, label_limit}
use Rattle.trees.specs.Token.{Token, bare_byte, spelling, all_of, loose_label, good_label, quoted_token}
use Rattle.trees.proofs.ListLaws.{TokenView, bare, quoted, label_inner, loose_bare, loose_quoted, loose_view}
use Rattle.trees.proofs.ListLaws.{spelling_bare, spelling_quoted, good_parts, good_intro}

pub quote_not_label : is_label_byte quote_byte ≡ false
unfolding is_label_byte
quote_not_label = refl

pub quote_not_inner : is_inner_byte quote_byte ≡ false
unfolding is_inner_byte
quote_not_inner = refl

pub blank_not_label : is_label_byte blank_byte ≡ false
unfolding is_label_byte
blank_not_label = refl

pub blank_inner : is_inner_byte blank_byte ≡ true
unfolding is_inner_byte
blank_inner = refl

-- the bytes that may stand in the form
abbrev pub inner_of : (quoted : Bool) → ℕ → Bool
inner_of true = is_inner_byte
inner_of false = is_label_byte

-- how many bytes open it
abbrev pub opening_of : (quoted : Bool) → ℕ
opening_of true = 1
opening_of false = 0

-- the bytes of a token that is not complete
abbrev pub so_far : (quoted : Bool) → List ℕ → List ℕ
so_far true x = quote_byte ∷ x
so_far false x = x

abbrev pub token_by : (quoted : Bool) → List ℕ → Token
token_by true x = quoted_token x
token_by false x = x

-- what it stands for
abbrev pub label_by : (quoted : Bool) → List ℕ → Label
label_by true x = x
label_by false x = map bare_byte x

pub inner_any : (q : Bool) (b : ℕ) → inner_of q b ≡ true → is_inner_byte b ≡ true
inner_any true b h = h
inner_any false b h = label_inner b h

pub label_length : (q : Bool) (x : List ℕ) → length (label_by q x) ≡ length x
label_length true x = refl
label_length false x = length-map x bare_byte

pub form_spelling : (q : Bool) (x : List ℕ) → all_of (inner_of q) x ≡ true → spelling (token_by q x) ≡ label_by q x
form_spelling true x h = spelling_quoted x
form_spelling false x h = spelling_bare x h

pub form_loose : (q : Bool) (x : List ℕ) → 1 ≤ length x → all_of (inner_of q) x ≡ true → loose_label (token_by q x) ≡ true
form_loose true x l h = loose_quoted x l h
form_loose false x l h = loose_bare x l h

pub form_good : (q : Bool) (x : List ℕ) → 1 ≤ length x → length x ≤ label_limit → all_of (inner_of q) x ≡ true → good_label (token_by q x) ≡ true
form_good q x l m h =
    good_intro (token_by q x) (form_loose q x l h) (omega (arith, ap length (form_spelling q x h), label_length q x))

-- each loose token has a form
pub record Formed (tok : Token) : Type 0 where
  pub quoted : Bool
  pub inner : List ℕ
  pub some : 1 ≤ length inner
  pub letters : all_of (inner_of quoted) inner ≡ true
  pub is : tok ≡ token_by quoted inner

pub loose_formed : (tok : Token) → loose_label tok ≡ true → Formed tok
loose_formed tok h = go (loose_view tok h)
  where
    go : {z : Token} → TokenView z → Formed z
    go (bare x l k) = record { quoted = false; inner = x; some = l; letters = k; is = refl }
    go (quoted y l k) = record { quoted = true; inner = y; some = l; letters = k; is = refl }

-- and that of a good one is not too long
pub form_short : (tok : Token) → good_label tok ≡ true → (f : Formed tok) → length f.inner ≤ label_limit
form_short tok h f =
    omega (
      arith,
      (good_parts tok h).1,
      ap (λ (w : Token). length (spelling w)) f.is,
      ap length (form_spelling f.quoted f.inner f.letters),
      label_length f.quoted f.inner,
    )
