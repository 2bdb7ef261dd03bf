-- No comma and no line end stands in a good token. This file alone knows which bytes a token has. Assumes nothing.
use mathlib.Core.Path.{◌≡◌, refl}
use mathlib.Core.Bool.{true}
use Rattle.trees.specs.Bytes.{is_label_byte, is_inner_byte}
use Rattle.trees.specs.Faults.{occurrences}
use Rattle.trees.specs.Token.{Token, good_label}
use Rattle.trees.proofs.ListLaws.{good_parts}
use Rattle.trees.proofs.ReadingLaws.{Plain, comma_plain, occurs_token}

pub token_comma : (x : Token) → good_label x ≡ true → occurrences 44 x ≡ 0
token_comma x h = occurs_token 44 x comma_plain (good_parts x h).0

line_plain : Plain 10
unfolding is_label_byte is_inner_byte
line_plain = record { inner = refl; begins = refl }

pub token_line : (x : Token) → good_label x ≡ true → occurrences 10 x ≡ 0
token_line x h = occurs_token 10 x line_plain (good_parts x h).0
