-- Labels taken from a text by their places: those of a set. Assumes nothing.
use Prim.Native.Nat.{ℕ, zero, suc, ◌+◌, ◌-◌, ◌≤◌, ◌<◌}
use mathlib.Core.Path.{◌≡◌, refl, sym, ◌∙◌, ap, ap₂}
use mathlib.Core.Bool.{Bool, true, false, cond}
use mathlib.Core.Logic.{◌⊎◌, inl, inr, ⊎_elim}
use mathlib.Core.List.{List, [], ◌∷◌, ◌++◌, map}
use mathlib.Core.Option.{Option, some, none}
use native.Mathlib.Omega.{arith}
use lib.Dec.{eqb}
use lib.ListN.{length, get_or, take, drop, replicate, length-append, length-map, get_or-append}
use lib.Seq.{take-append_seam, take_all, drop_at, take-suc}
use borrow.Author.Tests.{le-leb, eq-eqb}
use Rattle.trees.specs.Faults.{occurrences}
use Rattle.trees.specs.Label.{Label, label_limit, is_in}
use Rattle.trees.specs.Stored.{part_of}
use Rattle.trees.specs.Token.{Token, spelling, token_of, good_label}
use Rattle.trees.specs.Tree.{Tree}
use Rattle.trees.specs.declared.Edition.{Edition}
use Rattle.trees.specs.Edition.{rewritten}
use Rattle.trees.specs.declared.Refusal.{Refusal}
use Rattle.trees.specs.Words.{Within}
use Rattle.trees.specs.Writable.{writable_label, writable_labels}
use Rattle.trees.proofs.Bools.{bool_cases, clash}
use Rattle.trees.proofs.ListLaws.{in_one_eq, at_in}
use Rattle.trees.proofs.RelabelLaws.{map_at}
use Rattle.trees.proofs.TokenLaws.{good_spelling}
use Rattle.trees.proofs.WritableLaws.{writable_head, writable_cons, spelled_writable}
use Rattle.lists.specs.ReadList.{padded, list_limit}
use Rattle.agreement.specs.Sets.{set_of}
use Rattle.agreement.specs.Restrict.{restrict_in}
use Rattle.agreement.specs.Places.{kept_text_in, spelled_in, name_in}
use Rattle.agreement.proofs.SetLaws.{in_head, in_tail, in_cases}
use Rattle.pairs.specs.Outcome.{Trio, refused, naming}
use Rattle.mast.specs.Largest.{Solution, solution_text}
use Rattle.division.specs.PiecesAt.{pieces_for}
use Rattle.pieces.specs.Pieces.{Piece}
use Rattle.lines.specs.Lines.{refused_line, set_lines, record_lines, three_line, claim_line, label_in, labels_in}
use Rattle.lines.specs.PieceLines.{pieces_lines}
use Rattle.job.specs.Printed.{in_order, shown_of, tree_by, piece_by, pieces_by, lines_by, solved, set_reply, claim_reply, reply_lines, printed_of}

-- a good token that stands for the label x stands in the text at place p
pub record Stands (text : List ℕ) (p : ℕ) (token : Token) (x : Label) : Type 0 where
  pub at : Within text p token
  pub good : good_label token ≡ true
  pub spelled : spelling token ≡ x

part_is : (text : List ℕ) (p : ℕ) (x : List ℕ) → Within text p x → part_of p (length x) text ≡ x
unfolding part_of
part_is text p x s =
    let room : p + length x ≤ length text =
    omega (arith, ap (length {A = ℕ}) s.is, s.place, length-append s.before (x ++ s.after), length-append x s.after) in
    rw (le-leb (p + length x) (length text) room)
    (ap (λ (l : List ℕ). take (length x) (drop p l)) s.is
    ∙ ap (take (length x)) (drop_at s.before (x ++ s.after) p (sym s.place))
    ∙ take-append_seam x s.after)

pub shown_label : (text : List ℕ) (p : ℕ) (token : Token) (x : Label) → Stands text p token x → label_in text p (length token) ≡ x
unfolding label_in
shown_label text p token x s =
    ap (λ (l : Token). take label_limit (spelling l)) (part_is text p token s.at)
    ∙ take_all label_limit (spelling token) (good_spelling token s.good).1
    ∙ s.spelled

-- a byte that does not stand in a text is not its first, and does not stand in the rest
pub cons_count : (b c : ℕ) (x : List ℕ) → occurrences b (c ∷ x) ≡ 0 → (b ≡ c → ⊥) × (occurrences b x ≡ 0)
unfolding occurrences
cons_count b c x h = go (bool_cases (eqb b c))
  where
    go : (eqb b c ≡ true) ⊎ (eqb b c ≡ false) → (b ≡ c → ⊥) × (occurrences b x ≡ 0)
    go (inl e) = let k = rw e at h in absurd (omega arith)
    go (inr e) = (λ (k : b ≡ c). clash (eq-eqb b c k) e, rw e at h)

-- ---- labels that can be written

pub writable_in : (xs : List Label) (x : Label) → writable_labels xs ≡ true → is_in x xs ≡ true → writable_label x ≡ true
unfolding is_in
writable_in [] x g h = clash h refl
writable_in (y ∷ ys) x g h =
    let w = writable_head y ys g in
    ⊎_elim (λ (e : x ≡ y). rw e w.0) (writable_in ys x w.1) (in_cases x y ys h)

-- a list within a list of labels that can be written
pub writable_within : (xs L : List Label) → writable_labels L ≡ true → ((x : Label) → is_in x xs ≡ true → is_in x L ≡ true)
    → writable_labels xs ≡ true
unfolding writable_labels
writable_within [] L g h = refl
writable_within (x ∷ xs) L g h =
    writable_cons x xs (writable_in L x g (h x (in_head x xs)))
    (writable_within xs L g (λ (y : Label) (k : is_in y xs ≡ true). h y (in_tail y x xs k)))

-- three labels of a list
pub three_listed : (a b c : Label) (L : List Label) → (is_in a L ≡ true) × (is_in b L ≡ true) × (is_in c L ≡ true) → (x : Label)
    → is_in x (a ∷ b ∷ c ∷ []) ≡ true → is_in x L ≡ true
three_listed a b c L l x h =
    ⊎_elim (λ (e : x ≡ a). rw e l.0)
    (λ (k : is_in x (b ∷ c ∷ []) ≡ true).
    ⊎_elim (λ (e : x ≡ b). rw e l.1) (λ (m : is_in x (c ∷ []) ≡ true). rw (in_one_eq x c m) l.2) (in_cases x b (c ∷ []) k))
    (in_cases x a (b ∷ c ∷ []) h)

-- ---- the labels of a set, from their places

padded_at : (f : Label → ℕ) (X : List Label) (n : ℕ) → n < length X → get_or (padded (map f X)) n 0 ≡ f (get_or X n [])
padded_at f X n h =
    get_or-append (map f X) (replicate (list_limit - length (map f X)) 0) 0 n (omega (arith, length-map X f)) ∙ map_at f X n [] 0 h

-- each label x has its place and size, where a token stands for its name
module _ (text : List ℕ) (place size : Label → ℕ) (token : Label → Token) (name : Label → Label) (X : List Label)
    (all : (x : Label) → is_in x X ≡ true → Stands text (place x) (token x) (name x))
    (sized : (x : Label) → is_in x X ≡ true → size x ≡ length (token x)) where
  labels_to : (n : ℕ) → n ≤ length X → labels_in text (padded (map place X)) (padded (map size X)) n ≡ take n (map name X)
  unfolding labels_in
  labels_to zero h = refl
  labels_to (suc n) h =
      let x : Label = get_or X n [] in
      let k = at_in X n h in
      ap₂ (λ (l : List Label) (y : Label). l ++ (y ∷ [])) (labels_to n (omega arith))
      (ap₂ (λ (i j : ℕ). label_in text i j) (padded_at place X n h) (padded_at size X n h ∙ sized x k)
      ∙ shown_label text (place x) (token x) (name x) (all x k)
      ∙ sym (map_at name X n [] [] h))
      ∙ sym (take-suc (map name X) n [] (omega (arith, length-map X name)))

  pub labels_are : labels_in text (padded (map place X)) (padded (map size X)) (length X) ≡ map name X
  labels_are = labels_to (length X) (omega arith) ∙ take_all (length X) (map name X) (omega (arith, length-map X name))

-- labels that good tokens stand for can be written
pub writable_names : (token : Label → Token) (X : List Label) → ((x : Label) → is_in x X ≡ true → good_label (token x) ≡ true)
    → writable_labels (map (λ (x : Label). spelling (token x)) X) ≡ true
unfolding writable_labels
writable_names token [] h = refl
writable_names token (x ∷ X) h =
    writable_cons (spelling (token x)) (map (λ (y : Label). spelling (token y)) X) (spelled_writable (token x) (h x (in_head x X)))
    (writable_names token X (λ (y : Label) (k : is_in y X ≡ true). h y (in_tail y x X k)))

-- ---- the lines of a set, by its labels and its text

forms_are : (e : Edition) (s : Tree) (X : List Label) → map token_of (map (name_in e s) X) ≡ map rewritten (map (spelled_in e s) X)
forms_are e s [] = refl
forms_are e s (x ∷ X) = ap (λ (l : List Token). token_of (name_in e s x) ∷ l) (forms_are e s X)

-- the text that the writer gives a restriction is its tree, children in order, with each label in its written form
pub kept_by : (e : Edition) (o : Option Tree) → kept_text_in e o ≡ tree_by rewritten (in_order e o)
unfolding kept_text_in tree_by in_order
kept_by e none = refl
kept_by e (some t) = refl

-- the pieces, named as the first tree spells them, in their written forms
piece_forms : (e : Edition) (s : Tree) (ps : List Piece)
    → map (piece_by token_of) (map (piece_by (name_in e s)) ps) ≡ map (piece_by rewritten) (map (piece_by (spelled_in e s)) ps)
piece_forms e s [] = refl
piece_forms e s (p ∷ ps) =
    ap₂ {C = List Piece} ◌∷◌
    (ap₂ (λ (k l : List Token). record { required = k; others = l }) (forms_are e s p.required) (forms_are e s p.others)) (piece_forms e s ps)

abbrev pub pieces_named : Solution → List Piece
pieces_named r = map (piece_by (name_in r.edition r.first)) (pieces_for r.edition r.first r.second r.required)

-- the lines before those of the set
abbrev pub pieces_part : Bool → Solution → List ℕ
pieces_part pieces r = cond pieces (pieces_lines (map (piece_by token_of) (pieces_named r))) []

pieces_by_lem : (pieces : Bool) (r : Solution) → pieces_part pieces r ≡ pieces_by rewritten (shown_of pieces r).pieces
unfolding pieces_by shown_of
pieces_by_lem true r = ap pieces_lines (piece_forms r.edition r.first (pieces_for r.edition r.first r.second r.required))
pieces_by_lem false r = refl

pub reply_lines_lem : (pieces : Bool) (r : Solution) (L : List ℕ) (N : List Label) (text : List ℕ) → L ≡ pieces_part pieces r
    → N ≡ map (name_in r.edition r.first) r.set → text ≡ solution_text r → L ++ record_lines N text ≡ reply_lines (solved pieces r)
unfolding reply_lines lines_by shown_of solution_text
reply_lines_lem pieces r L N text d e f =
    ap₂ (λ (k l : List ℕ). k ++ l) (d ∙ pieces_by_lem pieces r)
    (ap₂ set_lines (ap (map token_of) e ∙ forms_are r.edition r.first r.set)
    (f ∙ kept_by r.edition (restrict_in r.edition (set_of r.set) r.first)))

-- ---- what is printed, by labels

pub set_printed : (pieces : Bool) (r : Solution)
    → printed_of (set_reply pieces r) ≡ pieces_part pieces r ++ record_lines (map (name_in r.edition r.first) r.set) (solution_text r)
unfolding printed_of
set_printed pieces r = sym (reply_lines_lem pieces r _ _ _ refl refl refl)

pub claim_printed : (n : ℕ) → printed_of (claim_reply n) ≡ claim_line n
unfolding printed_of
claim_printed n = refl

pub naming_printed : (q : Refusal) (n : Trio)
    → printed_of (naming q n)
    ≡ three_line q (name_in n.edition n.first n.labels.one) (name_in n.edition n.first n.labels.two)
    (name_in n.edition n.first n.labels.three)
unfolding printed_of
naming_printed q n = refl

pub refused_printed : (q : Refusal) → printed_of (refused q) ≡ refused_line q
unfolding printed_of
refused_printed q = refl
