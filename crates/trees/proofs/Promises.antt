-- What this crate promises about bytes, labels and trees, in 01's order. Each proof cites one name. Assumes nothing.
use Prim.Native.Nat.{ℕ, ◌<◌, ◌≤◌}
use mathlib.Core.Path.{◌≡◌}
use mathlib.Core.Bool.{true, false, ◌&&◌}
use mathlib.Core.Logic.{◌⊎◌}
use mathlib.Core.List.{List}
use lib.ListN.{length, get_or, replicate}
use Rattle.trees.specs.declared.Edition.{Edition}
use Rattle.trees.specs.declared.Edition.TheVariants.{One}
use Rattle.trees.specs.Bytes.{kind_of, kind_of_code, class_table}
use Rattle.trees.specs.Label.{Label, label_limit, label_less, is_in}
use Rattle.trees.specs.Token.{Token, spelling, good_label, token_of}
use Rattle.trees.specs.Tree.{Tree, leaves, relabel, decoded, Same, Valid, Proper, smallest, normal}
use Rattle.trees.specs.Text.{text_of, tree_room, normal_text}
use Rattle.trees.specs.Stored.{stored_bytes, stored_of, shown_of, shown_bytes, is_among}
use Rattle.trees.specs.Slots.{slot_of, is_marked, SlotMarks, first_marks}
use Rattle.trees.specs.Plain.{PlainLabel, PlainTree}
use Rattle.trees.specs.Writable.{Writable}
use Rattle.trees.specs.Arrays.{arrays_of, tree_of, one_tree}
use Rattle.trees.specs.Edition.{fold_byte, in_edition, key, folded, keyed, ValidIn, normal_in, rewritten, normal_text_in}
use Rattle.trees.proofs.ByteLaws.{class_rule}
use Rattle.trees.proofs.LabelLaws.{less_irrefl, less_trans, less_total}
use Rattle.trees.proofs.StoredLaws.{stored_back, shown_back}
use Rattle.trees.proofs.TokenLaws.{valid_decoded, token_good, token_back, token_one}
use Rattle.trees.proofs.SlotLaws.{marked_start, met_is_among}
use Rattle.trees.proofs.FoldLaws.{fold_kind, key_decoded, one_itself}
use Rattle.trees.proofs.EditionLaws.{valid_folded, folded_valid, valid_spelled, text_folded, one_valid, one_text_in, text_decides_in, normal_tree_valid, one_normal}
use Rattle.trees.proofs.ArrayLaws.{stands, text_short}
use Rattle.trees.proofs.NormalLaws.{smallest_in, smallest_least, one_normal_text}
use Rattle.trees.proofs.PlainLaws.{plain_spelling, plain_token, plain_decoded, plain_written}
use Rattle.trees.proofs.WritableLaws.{decoded_writable, writable_valid, writable_back, normal_writable, normal_text_decides}

-- "Each of the 256 byte values has one class: label byte, `(`, `)`, `,`, `;` or other." C-12 adds the quote and the blank.
pub byte_has_one_class : (b : ℕ) → b < 256 → kind_of_code (get_or class_table b 0) ≡ kind_of b
byte_has_one_class = class_rule

-- "Label order is by byte value, a shorter label before any longer one that begins with it." It is a strict total order.
pub order_irreflexive : (x : Label) → label_less x x ≡ false
order_irreflexive = less_irrefl

pub order_transitive : (x y z : Label) → label_less x y ≡ true → label_less y z ≡ true → label_less x z ≡ true
order_transitive = less_trans

pub order_total : (x y : Label) → (label_less x y ≡ true) ⊎ ((x ≡ y) ⊎ (label_less y x ≡ true))
order_total = less_total

-- C-14: "The label's capacity becomes 32 bytes wherever a label is stored". A stored label has exactly the bytes of the label.
pub label_stored : (x : Label) → length x ≤ label_limit → stored_bytes (stored_of x) ≡ x
label_stored = stored_back

-- C-12: "The writer .. quotes only a label that holds an underscore, and keeps its blanks; elsewhere a blank becomes an underscore." The
-- written form of a label is a good token that decodes to the label. Different labels have different forms.
pub written_is_good : (x : Token) → good_label x ≡ true → good_label (token_of (spelling x)) ≡ true
written_is_good = token_good

pub written_stands_for_it : (x : Token) → good_label x ≡ true → spelling (token_of (spelling x)) ≡ spelling x
written_stands_for_it = token_back

pub one_form_one_label : (x y : Token) → good_label x ≡ true → good_label y ≡ true → token_of (spelling x) ≡ token_of (spelling y)
    → spelling x ≡ spelling y
one_form_one_label = token_one

-- A bare label without underscores is read and written as itself, and so is a tree of such labels.
pub plain_label_read : (x : Token) → PlainLabel x → spelling x ≡ x
plain_label_read = plain_spelling

pub plain_label_written : (x : Token) → PlainLabel x → token_of x ≡ x
plain_label_written = plain_token

pub plain_tree_read : (t : Tree) → PlainTree t → decoded t ≡ t
plain_tree_read t = plain_decoded

pub plain_tree_written : (t : Tree) → PlainTree t → relabel token_of t ≡ t
plain_tree_written t = plain_written

-- The marks lose no repeat: if every part has the mark of its label, the mark and the search together give what the search alone gives.
pub marked_search : (m : ℕ) (text start size seen : List ℕ) → SlotMarks m text start size seen → (x : Token) (n k : ℕ) → k ≡ slot_of (spelling x)
    → (is_marked seen k && is_among text start size n x) ≡ is_among text start size n x
marked_search = met_is_among

-- The marks of a reader that has met no label are such marks.
pub first_marked : (text : List ℕ) (m : ℕ) → SlotMarks m text (replicate m 0) (replicate m 0) first_marks
first_marked = marked_start

-- A shown label has exactly the bytes of the written form.
pub label_shown : (x : Label) → length x ≤ label_limit → shown_bytes (shown_of x) ≡ token_of x
label_shown = shown_back

-- A valid tree decodes to one that can be written. That one is proper, which is what agreement asks: its labels are different.
pub valid_is_writable : (t : Tree) → Valid t → Writable (decoded t)
valid_is_writable = decoded_writable

pub valid_is_proper : (t : Tree) → Valid t → Proper (decoded t)
valid_is_proper = valid_decoded

-- "Left and right children mean nothing.": equal trees have one normal text.
pub equal_trees_one_text : (s t : Tree) → Proper s → Same s t → normal_text s ≡ normal_text t
equal_trees_one_text = one_normal_text

-- "the child that holds the smaller smallest label": `smallest` is the label of a leaf, and no leaf has a smaller one.
pub smallest_is_held : (t : Tree) → is_in (smallest t) (leaves t) ≡ true
smallest_is_held = smallest_in

pub smallest_is_least : (t : Tree) (x : Label) → is_in x (leaves t) ≡ true → label_less x (smallest t) ≡ false
smallest_is_least = smallest_least

-- "In the normal text of a tree, each node writes first the child that holds the smaller smallest label." Trees with one normal text are
-- equal.
pub one_text_equal_trees : (s t : Tree) → Writable s → Writable t → normal_text s ≡ normal_text t → Same s t
one_text_equal_trees = normal_text_decides

-- The normal text is the text of a valid tree, which decodes to the normal form.
pub normal_text_is_valid : (t : Tree) → Writable t → Valid (relabel token_of (normal t))
normal_text_is_valid t w = writable_valid (normal t) (normal_writable t w)

pub normal_text_stands_for_it : (t : Tree) → Writable t → decoded (relabel token_of (normal t)) ≡ normal t
normal_text_stands_for_it t w = writable_back (normal t) (normal_writable t w)

-- The arrays of a valid tree represent that tree over its text.
pub arrays_stand : (t : Tree) → Valid t → tree_of (arrays_of t) (text_of t) ≡ one_tree t
arrays_stand = stands

-- The longest text has 80 labels of 32 bytes in quotes, 79 times `(`, `,` and `)`, and `;`.
pub longest_text : (t : Tree) → Valid t → length (text_of t) ≤ tree_room
longest_text = text_short

-- C-15: edition 2 "treats capital and small letters of A to Z as equal". Each byte keeps its class, so the grammar stays. It makes no
-- difference whether a token is folded before or after it is decoded.
pub fold_keeps_class : (e : Edition) (b : ℕ) → kind_of (fold_byte e b) ≡ kind_of b
fold_keeps_class = fold_kind

pub fold_is_of_decoded : (e : Edition) (x : Token) → key e x ≡ in_edition e (spelling x)
fold_is_of_decoded = key_decoded

pub fold_keeps_text : (e : Edition) (t : Tree) → text_of (folded e t) ≡ in_edition e (text_of t)
fold_keeps_text = text_folded

-- A tree is valid under an edition exactly if the folded tree is valid. It is then valid under edition 1, which distinguishes more labels.
pub valid_as_read : (e : Edition) (t : Tree) → ValidIn e t → Valid (folded e t)
valid_as_read = valid_folded

pub read_as_valid : (e : Edition) (t : Tree) → Valid (folded e t) → ValidIn e t
read_as_valid = folded_valid

pub valid_by_the_first : (e : Edition) (t : Tree) → ValidIn e t → Valid t
valid_by_the_first = valid_spelled

-- "Equal trees have equal normal texts under edition 2 up to spelling", and only equal trees do.
pub equal_trees_one_text_in : (e : Edition) (s t : Tree) → ValidIn e s → Same (keyed e s) (keyed e t)
    → in_edition e (normal_text_in e s) ≡ in_edition e (normal_text_in e t)
equal_trees_one_text_in = one_text_in

pub one_text_equal_trees_in : (e : Edition) (s t : Tree) → ValidIn e s → ValidIn e t
    → in_edition e (normal_text_in e s) ≡ in_edition e (normal_text_in e t) → Same (keyed e s) (keyed e t)
one_text_equal_trees_in = text_decides_in

pub normal_text_is_valid_in : (e : Edition) (t : Tree) → ValidIn e t → ValidIn e (relabel rewritten (normal_in e t))
normal_text_is_valid_in = normal_tree_valid

-- "Old records must still be judged by the first edition". Edition 1 leaves every byte as it is; its valid trees and normal texts are the
-- former ones.
pub first_edition_key : (x : Token) → in_edition One x ≡ x
first_edition_key = one_itself

pub first_edition_valid : (t : Tree) → Valid t → ValidIn One t
first_edition_valid = one_valid

pub first_edition_text : (t : Tree) → normal_text_in One t ≡ normal_text (decoded t)
first_edition_text = one_normal
