-- What the pieces of a job say of its set, how many places and labels there are, and how long their lines get. C-17. Assumes nothing.
use Prim.Native.Nat.{ℕ, ◌+◌, ◌*◌, ◌≤◌}
use mathlib.Core.Path.{◌≡◌, refl, ◌∙◌, ap}
use mathlib.Core.Bool.{Bool, true, false}
use mathlib.Core.List.{List, [], ◌∷◌, ◌++◌, map}
use mathlib.Core.Option.{Option, some, none}
use native.Mathlib.Omega.{arith}
use lib.ListN.{length, length-append, length-map}
use Rattle.trees.specs.Label.{Label, is_in}
use Rattle.trees.specs.declared.Edition.{Edition}
use Rattle.trees.specs.Edition.{folded, keyed, ValidIn, rewritten}
use Rattle.trees.specs.Token.{Token, token_of, good_labels}
use Rattle.trees.specs.Text.{tree_room}
use Rattle.trees.specs.Tree.{Tree, normal, Proper}
use Rattle.trees.proofs.TokenLaws.{valid_decoded}
use Rattle.trees.proofs.EditionLaws.{valid_folded}
use Rattle.trees.proofs.WritableLaws.{tokens_good}
use Rattle.lists.specs.ReadList.{keys_of}
use Rattle.agreement.specs.Closer.{Agree, Common}
use Rattle.agreement.specs.Restrict.{restrict}
use Rattle.agreement.specs.Sets.{keep, common, set_of}
use Rattle.agreement.specs.Places.{spelled_in, name_in}
use Rattle.agreement.proofs.DemandLaws.{allowed_held, answer_unique, largest_answer}
use Rattle.agreement.proofs.EditionText.{spelled_good}
use Rattle.agreement.proofs.Tells.{common_few}
use Rattle.contents.specs.Contents.{Bodies, first_text, second_text, list_text, claim_text, part}
use Rattle.division.specs.PiecesAt.{pieces_for}
use Rattle.pieces.specs.Pieces.{place_of, clades_of, Piece, listed, pieces, total, hung, joined_sets}
use Rattle.pieces.proofs.ItemLaws.{AllFull, pieces_full}
use Rattle.pieces.proofs.TotalLaws.{total_few}
use Rattle.pieces.proofs.Promises as pieces-crate
use Rattle.lines.specs.Lines.{record_lines}
use Rattle.lines.specs.PieceLines.{pieces_lines, lines_room}
use Rattle.lines.proofs.ShortLaws.{AllShort, pieces_short, record_short}
use Rattle.pairs.specs.Outcome.{Outcome, refused, naming, found, and_then}
use Rattle.claims.specs.Judge.{judge}
use Rattle.mast.specs.Largest.{Solution, solution, solve}
use Rattle.job.specs.Printed.{shown_of, pieces_by, lines_by, set_reply, claim_reply, task_of, solve_task, solve_bodies, reply_lines, printed_of, printed, piece_by}
use Rattle.job.specs.JobOutcome.{SetAnswered, without_pieces_line, plainly}
use Rattle.job.proofs.DemandLaws.{answered_lines, set_few, set_writable, set_short}
use Rattle.job.proofs.ShownLaws.{writable_names, pieces_part}

-- ---- pieces with their labels through a name

pub total_by : (name : Label → Token) (ps : List Piece) → total (map (piece_by name) ps) ≡ total ps
unfolding total
total_by name [] = refl
total_by name (p ∷ ps) = omega (arith, length-map p.required name, length-map p.others name, total_by name ps)

hung_by : (name : Label → Token) (ps : List Piece) → hung (map (piece_by name) ps) ≡ hung ps
unfolding hung
hung_by name [] = refl
hung_by name (p ∷ ps) = omega (arith, length-map p.others name, hung_by name ps)

module _ (name : Label → Label) where
  abbrev shown : List Piece → List Piece
  shown ps = map (piece_by token_of) (map (piece_by name) ps)

  named_length : (xs : List Label) → length (map token_of (map name xs)) ≡ length xs
  named_length xs = length-map (map name xs) token_of ∙ length-map xs name

  count_shown : (ps : List Piece) → length (shown ps) ≡ length ps
  count_shown ps = length-map (map (piece_by name) ps) (piece_by token_of) ∙ length-map ps (piece_by name)

  full_short : ((X : List Label) → good_labels (map token_of (map name X)) ≡ true) → (ps : List Piece) → AllFull ps → AllShort (shown ps)
  full_short g [] a = tt
  full_short g (p ∷ ps) a = (
    omega (arith, named_length p.required, a.0),
    omega (arith, named_length p.others, a.1),
    g p.required,
    g p.others,
    full_short g ps a.2,
  )

names_good : (e : Edition) (s : Tree) → ValidIn e s → (X : List Label) → good_labels (map token_of (map (name_in e s) X)) ≡ true
names_good e s v X =
    tokens_good (map (name_in e s) X) (writable_names (spelled_in e s) X (λ (x : Label) (h : is_in x X ≡ true). spelled_good e s x v))

-- ---- a job that is answered with a set

module _ {job : List ℕ} {shows : Bool} {N : List Label} {text : List ℕ} (a : SetAnswered job shows N text) where
  abbrev pub S : Tree
  S = keyed a.e a.s

  abbrev pub T : Tree
  T = keyed a.e a.t

  abbrev pub K : List Label
  K = keys_of a.e a.xs

  first_proper : Proper S
  first_proper = valid_decoded (folded a.e a.s) (valid_folded a.e a.s a.asked.first.valid)

  second_proper : Proper T
  second_proper = valid_decoded (folded a.e a.t) (valid_folded a.e a.t a.asked.second.valid)

  held : Common S T (set_of K)
  held = allowed_held S T K a.X a.is_answer.allowed_set

  agree : Agree S T (set_of K)
  agree x y z p q r =
      let w = a.is_answer.allowed_set in
      w.agreed x y z (w.required x p) (w.required y q) (w.required z r)

  -- "the required leaves joined with the sets it gives for the pieces"
  pub set_joined : a.X ≡ keep (set_of (K ++ joined_sets S T (pieces S T K))) (common S T)
  set_joined =
      answer_unique S T K _ _ a.is_answer (largest_answer S T K a.X first_proper.different a.is_answer.allowed_set)
      ∙ pieces-crate.joined_promise S T K first_proper.different second_proper.different a.asked.required.different held agree

  -- "one whose places differ is in no answer"
  pub set_placed : (x : Label) → is_in x a.X ≡ true → is_in x K ≡ false → place_of K S x ≡ place_of K T x
  set_placed =
      let w = a.is_answer.allowed_set in
      pieces-crate.place_promise S T K (set_of a.X) first_proper.different second_proper.different w.common_leaves w.agreed w.required

  -- "2k - 1 places"
  pub places_of : (y : Label) → is_in y K ≡ true → (r : Tree) × (restrict (set_of K) S ≡ some r) × (length (clades_of (normal r)) + 1 ≡ 2 * length K)
  places_of y k =
      let w = pieces-crate.required_tree_promise K S y k (held y k).0 in
      (w.0, w.1, pieces-crate.required_place_count S T K w.0 first_proper.different second_proper.different a.asked.required.different held agree w.1)

  pub total_most : (y : Label) → is_in y K ≡ true → total (pieces S T K) + 1 ≤ length (common S T) + length K
  total_most y k = pieces-crate.total_promise S T K y k first_proper.different a.asked.required.different held

  pub piece_none : K ≡ [] → pieces S T K ≡ listed [] (common S T) []
  piece_none e = ap (pieces S T) e ∙ pieces-crate.no_required_pieces S T

  pub total_none : K ≡ [] → total (pieces S T K) ≡ length (common S T)
  total_none e = ap (λ (L : List Label). total (pieces S T L)) e ∙ pieces-crate.no_required_total S T

  -- the lines are short
  pub pieces_room : length (pieces_lines (map (piece_by token_of) (map (piece_by (name_in a.e a.s)) (pieces_for a.e a.s a.t a.xs)))) ≤ 11 + 3869
  unfolding pieces_for
  pieces_room =
      let name = name_in a.e a.s in
      let ps : List Piece = pieces S T K in
      let different = a.asked.required.different in
      let few = common_few S T first_proper in
      omega (
        arith,
        pieces_short (map (piece_by token_of) (map (piece_by name) ps)) (full_short name (names_good a.e a.s a.asked.first.valid) ps (pieces_full S T K))
            (omega (arith, total_by token_of (map (piece_by name) ps), total_by name ps, total_few S T K first_proper.different different held few)),
        count_shown name ps,
        hung_by token_of (map (piece_by name) ps),
        hung_by name ps,
        pieces-crate.lines_room_lem S T K first_proper.different different held few,
      )

-- with the line `pieces` or without it
pub set_room : {job : List ℕ} (shows : Bool) {N : List Label} {text : List ℕ} → SetAnswered job shows N text → length (printed job) ≤ lines_room
set_room {job} true {N} {text} a =
    rw (answered_lines job true N text a)
    (omega (arith, length-append (pieces_part true (solution a.e a.s a.t a.xs a.X)) (record_lines N text), pieces_room a, record_short N text (set_few a) (set_writable a) (set_short a)))
set_room {job} false {N} {text} a =
    rw (answered_lines job false N text a) (omega (arith, record_short N text (set_few a) (set_writable a) (set_short a)))

-- ---- the same job without the line `pieces`

-- a result without its pieces
plain_set : (pieces : Bool) (x : Outcome Solution) → plainly (and_then x (set_reply pieces)) ≡ and_then x (set_reply false)
unfolding and_then
plain_set pieces (found r) = refl
plain_set pieces (naming q n) = refl
plain_set pieces (refused q) = refl

plain_claim : (x : Outcome ℕ) → plainly (and_then x claim_reply) ≡ and_then x claim_reply
unfolding and_then
plain_claim (found n) = refl
plain_claim (naming q n) = refl
plain_claim (refused q) = refl

pub line_plain : (b : Bodies) → plainly (solve_bodies (some b)) ≡ solve_bodies (some (without_pieces_line b))
unfolding solve_bodies solve_task first_text second_text list_text claim_text part
line_plain b = go (claim_text b)
  where
    go : (c : Option (List ℕ)) → plainly (solve_task b.head.pieces (task_of b) c) ≡ solve_task false (task_of b) c
    go none = plain_set b.head.pieces (solve (task_of b) tree_room)
    go (some claim) = plain_claim (judge (task_of b) claim)

pub record_follows : (r : Solution) → printed_of (set_reply true r) ≡ pieces_by rewritten (shown_of true r).pieces ++ printed_of (set_reply false r)
unfolding printed_of reply_lines lines_by pieces_by shown_of
record_follows r = refl
