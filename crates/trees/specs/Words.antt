-- The papers' words as bytes, so that a definition shows the words themselves, and where bytes are in a text.
use Rattle.std.specs.Prelude.{ℕ, ◌≡◌, List, [], ◌∷◌, ◌++◌, length}
use Prim.Native.Char.{code}
use Prim.Native.String.{String, [] as no_text, ◌∷◌ as ◌then◌}

-- the bytes of a text of plain characters
unfoldable pub bytes_of : String → List ℕ
bytes_of no_text = []
bytes_of (c then rest) = code c ∷ bytes_of rest

-- these bytes are in the text at place p
pub record Within (text : List ℕ) (p : ℕ) (part : List ℕ) : Type 0 where
  pub before : List ℕ
  pub after : List ℕ
  pub is : text ≡ before ++ (part ++ after)
  pub place : p ≡ length before
