-- The classes of bytes. 01, "Tree text": "Each of the 256 byte values has one class". C-12 adds the quote and the blank.
use Rattle.std.specs.Prelude.{ℕ, zero, suc, Bool, cond, ◌&&◌, ◌||◌, List, [], ◌∷◌, eqb, leb}
use Rattle.trees.specs.declared.Kind.{Kind}
use Rattle.trees.specs.declared.Kind.TheVariants.{Label, Open, Close, Comma, Semicolon, Quote, Blank, Other}

-- from lo to hi, both included
abbrev pub between : ℕ → ℕ → ℕ → Bool
between lo hi b = leb lo b && leb b hi

-- "A to Z, a to z, 0 to 9, `_`, `.` and `-`"
unfoldable pub is_label_byte : ℕ → Bool
is_label_byte b = between 65 90 b || between 97 122 b || between 48 57 b || eqb b 95 || eqb b 46 || eqb b 45

abbrev pub open_byte : ℕ
open_byte = 40

abbrev pub close_byte : ℕ
close_byte = 41

abbrev pub comma_byte : ℕ
comma_byte = 44

abbrev pub semicolon_byte : ℕ
semicolon_byte = 59

abbrev pub quote_byte : ℕ
quote_byte = 39

abbrev pub blank_byte : ℕ
blank_byte = 32

abbrev pub underscore_byte : ℕ
underscore_byte = 95

-- C-12: "label bytes or blanks between the quotes"
unfoldable pub is_inner_byte : ℕ → Bool
unfolding is_label_byte
is_inner_byte b = is_label_byte b || eqb b blank_byte

-- "label byte, `(`, `)`, `,`, `;` or other"; C-12: a quote, a blank
unfoldable pub kind_of : ℕ → Kind
unfolding is_label_byte
kind_of b =
    cond (is_label_byte b) Label
    (cond (eqb b open_byte) Open
    (cond (eqb b close_byte) Close
    (cond (eqb b comma_byte) Comma
    (cond (eqb b semicolon_byte) Semicolon (cond (eqb b quote_byte) Quote (cond (eqb b blank_byte) Blank Other))))))

-- the number of a kind in the class table
unfoldable pub code_of : Kind → ℕ
code_of Other = 0
code_of Label = 1
code_of Open = 2
code_of Close = 3
code_of Comma = 4
code_of Semicolon = 5
code_of Quote = 6
code_of Blank = 7

-- the kind of a number in the class table
unfoldable pub kind_of_code : ℕ → Kind
kind_of_code c =
    cond (eqb c 1) Label
    (cond (eqb c 2) Open
    (cond (eqb c 3) Close
    (cond (eqb c 4) Comma (cond (eqb c 5) Semicolon (cond (eqb c 6) Quote (cond (eqb c 7) Blank Other))))))

-- the codes of n bytes from b on
unfoldable pub codes_from : ℕ → ℕ → List ℕ
unfolding code_of kind_of
codes_from zero b = []
codes_from (suc n) b = code_of (kind_of b) ∷ codes_from n (suc b)

-- the class table
unfoldable pub class_table : List ℕ
unfolding codes_from
class_table = codes_from 256 0
