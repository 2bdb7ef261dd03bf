-- Jobs with equal trees print the same: the answers are the same, and the first tree spells each label alike. Assumes nothing.
use Prim.Native.Nat.{ℕ}
use mathlib.Core.Path.{◌≡◌, refl, sym, ◌∙◌, ap, ap₂}
use mathlib.Core.Bool.{Bool, true, false, cond}
use mathlib.Core.List.{List, [], ◌∷◌, ◌++◌, map}
use mathlib.Core.Option.{Option, some, none}
use lib.Dec.{leb}
use lib.ListN.{length}
use Rattle.trees.specs.declared.Body.TheVariants.{K, C}
use Rattle.trees.specs.declared.Refusal.{Refusal}
use Rattle.trees.specs.declared.Edition.{Edition}
use Rattle.trees.specs.Edition.{folded, keyed, ValidIn}
use Rattle.trees.specs.Label.{Label, is_in, distinct}
use Rattle.trees.specs.Text.{tree_room}
use Rattle.trees.specs.Token.{Token, spelling, token_of}
use Rattle.trees.specs.Tree.{Tree, Same}
use Rattle.trees.specs.Reading.{Reading, good, refused as unread}
use Rattle.trees.proofs.TokenLaws.{valid_decoded}
use Rattle.trees.proofs.EditionLaws.{valid_folded}
use Rattle.newick.specs.ReadTree.{read_tree_in}
use Rattle.newick.proofs.Promises.{valid_read}
use Rattle.lists.specs.ReadList.{read_list_in, keys_of}
use Rattle.lists.proofs.Promises.{accepted_list}
use Rattle.agreement.specs.Closer.{holds}
use Rattle.agreement.specs.Sets.{set_of}
use Rattle.agreement.specs.Restrict.{restrict_in}
use Rattle.agreement.specs.Places.{kept_text_in, name_in}
use Rattle.agreement.specs.Answer.{Answer, first_lacks, second_lacks, disagree, largest, answer}
use Rattle.agreement.specs.RightAnswer.{RightAnswer}
use Rattle.agreement.specs.Strict.{SameLeaves}
use Rattle.agreement.proofs.SameLaws.{same_holds}
use Rattle.trees.proofs.ListLaws.{in_left, in_right}
use Rattle.agreement.proofs.SetLaws.{in_head, in_tail}
use Rattle.agreement.proofs.SidesText.{same_keyed, valid_same}
use Rattle.agreement.proofs.Promises as agreement
use Rattle.trees.specs.Refusals.{letter_of}
use Rattle.contents.specs.Contents.{Bodies, entries, lookup, part, first_text, second_text, list_text, claim_text}
use Rattle.pairs.specs.Outcome.{Outcome, refused, naming, found, and_then, trio}
use Rattle.pairs.specs.TwoTrees.{body_of, trees_of}
use Rattle.queries.specs.Query.{Task, with_clash, with_set, list_of, answer_to, held_by, disagreement, required_of}
use Rattle.mast.specs.Largest.{Solution, solution, solution_text, too_short, fitted, solution_of, solve_list, solve}
use Rattle.pieces.specs.Pieces.{Piece}
use Rattle.pieces.proofs.ItemLaws.{AllHeld, pieces_held}
use Rattle.pieces.proofs.SidesLaws.{pieces_same}
use Rattle.division.specs.PiecesAt.{pieces_for}
use Rattle.mast.specs.Compare.{Comparison, missing, clash_of, comparison, compare_other, compare_answers, compare_lists, compare}
use Rattle.pairs.proofs.StrayLaws.{shared_nowhere}
use Rattle.pairs.proofs.StepLaws.{then_found, trees_both}
use Rattle.claims.specs.Judge.{claim_disagreement, judged_by_size, judged_by_three, judged_by_list, verdict_on, judge}
use Rattle.job.specs.Printed.{set_reply, claim_reply, task_of, solve_task, printed_of, printed, piece_by}
use Rattle.lines.specs.Lines.{record_lines}
use Rattle.lines.specs.PieceLines.{pieces_lines}
use Rattle.job.specs.JobOutcome.{edition_in, TreeBody, Shared}
use Rattle.job.specs.Sides.{with_trees, SidesExchanged}
use Rattle.job.proofs.OutcomeLaws.{job_solve, body_tree}
use Rattle.job.proofs.ShownLaws.{pieces_part, set_printed, naming_printed}

module _ (e : Edition) (s s' t t' : Tree) (p : Same s s') (q : Same t t') (v : ValidIn e s) (w : ValidIn e t) where
  alike : (M : List Label) → distinct M ≡ true → answer (keyed e s) (keyed e t) M ≡ answer (keyed e s') (keyed e t') M
  alike M d =
      agreement.sides_mean_nothing (keyed e s) (keyed e s') (keyed e t) (keyed e t') M (same_keyed e p) (same_keyed e q) v.different
      w.different d

  outcome : (M : List Label) → distinct M ≡ true → RightAnswer (keyed e s) (keyed e t) M (answer (keyed e s) (keyed e t) M)
  outcome M d =
      (agreement.answer_promise (keyed e s) (keyed e t) M (valid_decoded (folded e s) (valid_folded e s v)) d (answer (keyed e s) (keyed e t) M)).0 refl

  -- the first tree spells a label alike
  name : (x : Label) → holds (keyed e s) x ≡ true → name_in e s x ≡ name_in e s' x
  name x h = ap spelling (agreement.sides_spell_alike e s s' p v x h)

  names : (X : List Label) → ((x : Label) → is_in x X ≡ true → holds (keyed e s) x ≡ true) → map (name_in e s) X ≡ map (name_in e s') X
  names [] h = refl
  names (x ∷ X) h = ap₂ {C = List Label} ◌∷◌ (name x (h x (in_head x X))) (names X (λ y m. h y (in_tail y x X m)))

  -- and so the labels of pieces
  pieces_alike : (ps : List Piece) → AllHeld (keyed e s) ps → map (piece_by (name_in e s)) ps ≡ map (piece_by (name_in e s')) ps
  pieces_alike [] h = refl
  pieces_alike (x ∷ ps) h =
      ap₂ {C = List Piece} ◌∷◌
      (ap₂ (λ (k l : List Label). record { required = k; others = l })
      (names x.required (λ y m. h.0 y (in_left y x.required x.others m)))
      (names x.others (λ y m. h.0 y (in_right y x.required x.others m)))) (pieces_alike ps h.1)

  divided_alike : (pieces : Bool) (xs : List Token) (X : List Label) → pieces_part pieces (solution e s t xs X) ≡ pieces_part pieces (solution e s' t' xs X)
  unfolding pieces_for
  divided_alike false xs X = refl
  divided_alike true xs X =
      ap (λ (ps : List Piece). pieces_lines (map (piece_by token_of) ps))
      (pieces_alike (pieces_for e s t xs) (pieces_held (keyed e s) (keyed e t) (keys_of e xs))
      ∙ ap (map (piece_by (name_in e s')))
      (pieces_same (keyed e s) (keyed e s') (keyed e t) (keyed e t') (keys_of e xs) (same_keyed e p) (same_keyed e q) v.different w.different))

  -- number 8 or 14
  three_alike : (q : Refusal) (zs : List Token) (a b c : Label) → RightAnswer (keyed e s) (keyed e t) (keys_of e zs) (disagree a b c)
      → printed_of (naming q (trio e s zs a b c)) ≡ printed_of (naming q (trio e s' zs a b c))
  three_alike q zs a b c o =
      let k = o.1.clash in
      naming_printed q (trio e s zs a b c)
      ∙ (rw (name a (o.0 a k.in_one).0, name b (o.0 b k.in_two).0, name c (o.0 c k.in_three).0) refl)
      ∙ sym (naming_printed q (trio e s' zs a b c))

  -- ---- without a claim

  set_alike : (pieces : Bool) (xs : List Token) (X : List Label) → ((x : Label) → is_in x X ≡ true → holds (keyed e s) x ≡ true)
      → printed_of (set_reply pieces (solution e s t xs X)) ≡ printed_of (set_reply pieces (solution e s' t' xs X))
  unfolding solution_text
  set_alike pieces xs X h =
      set_printed pieces (solution e s t xs X)
      ∙ ap₂ (λ (k l : List ℕ). k ++ l) (divided_alike pieces xs X) (ap₂ record_lines (names X h) (agreement.sides_one_text e s s' p v (set_of X)))
      ∙ sym (set_printed pieces (solution e s' t' xs X))

  list_alike : (pieces : Bool) (xs : List Token) (room : ℕ) (A : Answer) → RightAnswer (keyed e s) (keyed e t) (keys_of e xs) A
      → printed_of (and_then (solution_of e s t xs room A) (set_reply pieces)) ≡ printed_of (and_then (solution_of e s' t' xs room A) (set_reply pieces))
  unfolding solution_of required_of held_by fitted solution_text
  list_alike pieces xs room (first_lacks n) o = refl
  list_alike pieces xs room (second_lacks n) o = refl
  list_alike pieces xs room (disagree a b c) o = three_alike disagreement xs a b c o
  list_alike pieces xs room (largest X) o =
      ap (λ (l : List ℕ). printed_of (and_then (cond (leb (length l) room) (found (solution e s t xs X)) (refused too_short)) (set_reply pieces)))
      (agreement.sides_one_text e s s' p v (set_of X))
      ∙ go (leb (length (kept_text_in e (restrict_in e (set_of X) s'))) room)
    where
      go : (b : Bool) → printed_of (and_then (cond b (found (solution e s t xs X)) (refused too_short)) (set_reply pieces))
          ≡ printed_of (and_then (cond b (found (solution e s' t' xs X)) (refused too_short)) (set_reply pieces))
      go true = set_alike pieces xs X (λ x m. (o.allowed_set.common_leaves x m).0)
      go false = refl

  solved_alike : (pieces : Bool) (text : List ℕ) (room : ℕ) (z : Reading (List Token)) → read_list_in e text ≡ z
      → printed_of (and_then (and_then (body_of K z) (solve_list e room (record { first = s; second = t }))) (set_reply pieces))
      ≡ printed_of (and_then (and_then (body_of K z) (solve_list e room (record { first = s'; second = t' }))) (set_reply pieces))
  unfolding body_of and_then solve_list answer_to
  solved_alike pieces text room (unread r i) h = refl
  solved_alike pieces text room (good xs) h =
      let d = (accepted_list e text xs h).different in
      list_alike pieces xs room (answer (keyed e s) (keyed e t) (keys_of e xs)) (outcome (keys_of e xs) d)
      ∙ ap (λ (A : Answer). printed_of (and_then (solution_of e s' t' xs room A) (set_reply pieces))) (alike (keys_of e xs) d)

  -- ---- with one

  abbrev claimed : Outcome Comparison → List ℕ
  claimed x = printed_of (and_then (and_then x verdict_on) claim_reply)

  verdict_alike : (xs ys : List Token) (size : ℕ) (B : Answer) → RightAnswer (keyed e s) (keyed e t) (keys_of e ys) B
      → claimed (compare_other e s xs ys size B) ≡ claimed (compare_other e s' xs ys size B)
  unfolding compare_other held_by comparison clash_of verdict_on judged_by_list judged_by_three judged_by_size
  verdict_alike xs ys size (first_lacks n) o = refl
  verdict_alike xs ys size (second_lacks n) o = refl
  verdict_alike xs ys size (disagree a b c) o = go (missing (keys_of e xs) (keys_of e ys) 0)
    where
      go : (m : Option ℕ)
          → printed_of (and_then (judged_by_list (comparison e s xs ys size (with_clash (record { one = a; two = b; three = c }))) m) claim_reply)
          ≡ printed_of (and_then (judged_by_list (comparison e s' xs ys size (with_clash (record { one = a; two = b; three = c }))) m) claim_reply)
      go none = three_alike claim_disagreement ys a b c o
      go (some n) = refl
  verdict_alike xs ys size (largest Y) o = go (missing (keys_of e xs) (keys_of e ys) 0)
    where
      go : (m : Option ℕ)
          → printed_of (and_then (judged_by_list (comparison e s xs ys size (with_set Y)) m) claim_reply)
          ≡ printed_of (and_then (judged_by_list (comparison e s' xs ys size (with_set Y)) m) claim_reply)
      go none = refl
      go (some n) = refl

  claim_alike : (xs ys : List Token) (A B : Answer) → RightAnswer (keyed e s) (keyed e t) (keys_of e xs) A
      → RightAnswer (keyed e s) (keyed e t) (keys_of e ys) B → claimed (compare_answers e s xs ys A B) ≡ claimed (compare_answers e s' xs ys A B)
  unfolding compare_answers required_of held_by
  claim_alike xs ys (first_lacks n) B o r = refl
  claim_alike xs ys (second_lacks n) B o r = refl
  claim_alike xs ys (disagree a b c) B o r = three_alike disagreement xs a b c o
  claim_alike xs ys (largest X) B o r = verdict_alike xs ys (length X) B r

  judged_alike : (list claim : List ℕ) (z y : Reading (List Token)) → read_list_in e list ≡ z → read_list_in e claim ≡ y
      → claimed (and_then (body_of K z) (λ xs. and_then (body_of C y) (compare_lists e (record { first = s; second = t }) xs)))
      ≡ claimed (and_then (body_of K z) (λ xs. and_then (body_of C y) (compare_lists e (record { first = s'; second = t' }) xs)))
  unfolding body_of and_then compare_lists answer_to
  judged_alike list claim (unread r i) y h k = refl
  judged_alike list claim (good xs) (unread r i) h k = refl
  judged_alike list claim (good xs) (good ys) h k =
      let d = (accepted_list e list xs h).different in
      let f = (accepted_list e claim ys k).different in
      claim_alike xs ys (answer (keyed e s) (keyed e t) (keys_of e xs)) (answer (keyed e s) (keyed e t) (keys_of e ys)) (outcome (keys_of e xs) d)
      (outcome (keys_of e ys) f)
      ∙ ap₂ (λ (A B : Answer). claimed (compare_answers e s' xs ys A B)) (alike (keys_of e xs) d) (alike (keys_of e ys) f)

-- what a task comes to, once both trees are read and no leaf is stray
module _ (pieces : Bool) (q : Task) (s t : Tree) (one : read_tree_in q.options.edition q.first ≡ good s)
    (two : read_tree_in q.options.edition q.second ≡ good t)
    (shared : q.options.strict ≡ true → SameLeaves (keyed q.options.edition s) (keyed q.options.edition t)) where
  abbrev D : Edition
  D = q.options.edition

  both : trees_of q.options q.first q.second ≡ found (record { first = s; second = t })
  both = trees_both q.options q.first q.second s one t two (shared_nowhere q.options s t shared)

  plain_task : solve_task pieces q none
      ≡ and_then (and_then (body_of K (read_list_in D q.required)) (solve_list D tree_room (record { first = s; second = t }))) (set_reply pieces)
  unfolding solve_task solve list_of
  plain_task =
      ap (λ (x : Outcome Solution). and_then x (set_reply pieces))
      (then_found (trees_of q.options q.first q.second) (λ p. and_then (list_of D K q.required) (solve_list D tree_room p)) _ both)

  claim_task : (text : List ℕ) → solve_task pieces q (some text)
      ≡ and_then (and_then (and_then (body_of K (read_list_in D q.required))
      (λ xs. and_then (body_of C (read_list_in D text)) (compare_lists D (record { first = s; second = t }) xs))) verdict_on) claim_reply
  unfolding solve_task judge compare list_of
  claim_task text =
      ap (λ (x : Outcome Comparison). and_then (and_then x verdict_on) claim_reply)
      (then_found (trees_of q.options q.first q.second)
      (λ p. and_then (list_of D K q.required) (λ xs. and_then (list_of D C text) (compare_lists D p xs))) _ both)

-- the same lines and lists with equal trees
module _ (b : Bodies) (s s' t t' : Tree) (p : Same s s') (q : Same t t') (first : TreeBody (edition_in b) (first_text b) s)
    (second : TreeBody (edition_in b) (second_text b) t) (shared : Shared b s t) where
  abbrev E : Edition
  E = edition_in b

  abbrev other : Bodies
  other = with_trees s' t' b

  shared_other : Shared other s' t'
  shared_other k x = sym (same_holds (same_keyed E p) x) ∙ shared k x ∙ same_holds (same_keyed E q) x

  bodies_alike : (c : Option (List ℕ)) → printed_of (solve_task b.head.pieces (task_of b) c) ≡ printed_of (solve_task b.head.pieces (task_of other) c)
  unfolding first_text second_text list_text claim_text part lookup entries letter_of
  bodies_alike none =
      ap printed_of (plain_task b.head.pieces (task_of b) s t (body_tree E (first_text b) s first) (body_tree E (second_text b) t second) shared)
      ∙ solved_alike E s s' t t' p q first.valid second.valid b.head.pieces (list_text b) tree_room (read_list_in E (list_text b)) refl
      ∙ sym
      (ap printed_of
      (plain_task b.head.pieces (task_of other) s' t' (valid_read E s' (valid_same E p first.valid)) (valid_read E t' (valid_same E q second.valid))
      shared_other))
  bodies_alike (some text) =
      ap printed_of (claim_task b.head.pieces (task_of b) s t (body_tree E (first_text b) s first) (body_tree E (second_text b) t second) shared text)
      ∙ judged_alike E s s' t t' p q first.valid second.valid (list_text b) text (read_list_in E (list_text b)) (read_list_in E text) refl refl
      ∙ sym
      (ap printed_of
      (claim_task b.head.pieces (task_of other) s' t' (valid_read E s' (valid_same E p first.valid)) (valid_read E t' (valid_same E q second.valid))
      shared_other text))

pub printed_alike : (job other : List ℕ) → SidesExchanged job other → printed job ≡ printed other
unfolding printed claim_text part lookup entries letter_of
printed_alike job other x =
    ap printed_of (job_solve job x.bodies x.held)
    ∙ bodies_alike x.bodies x.s x.s' x.t x.t' x.same_first x.same_second x.first x.second x.shared (claim_text x.bodies)
    ∙ sym (ap printed_of (job_solve other (with_trees x.s' x.t' x.bodies) x.other_held))
