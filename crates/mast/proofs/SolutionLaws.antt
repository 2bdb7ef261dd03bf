-- What the writer says of the restriction to a set is what the set comes to. Assumes nothing.
use Prim.Native.Nat.{ℕ}
use mathlib.Core.Path.{◌≡◌, refl, sym, ◌∙◌, ap, subst}
use mathlib.Core.Bool.{Bool, true, false}
use mathlib.Core.Logic.{◌⊎◌, inl, inr}
use mathlib.Core.List.{List}
use mathlib.Core.Option.{Option, some, none}
use native.Mathlib.Omega.{arith}
use lib.Dec.{leb}
use Rattle.std.specs.Prelude.{Result, Ok, Err, IsErr}
use lib.ListN.{length}
use Rattle.trees.specs.declared.TreeArrays.{TreeArrays}
use Rattle.trees.specs.declared.Refusal.{Refusal}
use Rattle.trees.specs.Label.{Label}
use Rattle.trees.specs.Token.{Token}
use Rattle.trees.specs.declared.Edition.{Edition}
use Rattle.trees.specs.Edition.{folded, keyed}
use Rattle.trees.specs.Tree.{Tree, Proper}
use Rattle.trees.specs.Arrays.{tree_of, Standing, one_tree}
use Rattle.trees.proofs.Bools.{bool_cases}
use Rattle.trees.proofs.ArrayLaws.{stands}
use Rattle.trees.proofs.EditionLaws.{valid_spelled, valid_folded, arrays_folded}
use Rattle.trees.proofs.TokenLaws.{valid_decoded}
use Rattle.lists.specs.declared.LabelPlaces.{LabelPlaces}
use Rattle.writer.specs.declared.WriteError.{WriteError}
use Rattle.writer.specs.declared.WriteError.TheVariants.{Refused}
use Rattle.writer.specs.Write.{standing_text, output_too_short, text_answer, text_output, write_answer, output_after}
use Rattle.agreement.specs.Sets.{set_of, common}
use Rattle.agreement.specs.Restrict.{restrict_in}
use Rattle.agreement.specs.Places.{kept_text_in}
use Rattle.restriction.specs.Kept.{standing_of, kept_standing}
use Rattle.restriction.proofs.RestrictionLaws.{own_kept}
use Rattle.mast.specs.declared.Denied.{Denied}
use Rattle.mast.specs.declared.Denied.TheVariants as denied
use Rattle.mast.specs.declared.Divided.{Divided}
use Rattle.mast.specs.declared.Found.{Found}
use Rattle.pairs.specs.Outcome.{Outcome, refused, found, and_then}
use Rattle.mast.specs.NamedLabels.{result_of}
use Rattle.mast.specs.PiecesWith.{PiecesWith}
use Rattle.mast.specs.Settled.{DeniedIs}
use Rattle.mast.proofs.DeniedLaws.{denied_result}
use Rattle.pairs.specs.TwoTrees.{Trees}
use Rattle.queries.specs.Query.{required_set}
use Rattle.mast.specs.Largest.{Solution, solution, solution_text, too_short, fitted, solution_of, solve_list, set_places, found_set, largest_of, output_of}
use Rattle.pairs.specs.declared.CommonOrder.{CommonOrder}
use Rattle.pairs.specs.PairRead.{OwnTrees}
use Rattle.mast.specs.SetByRank.{InRange, Flagged, ByRank}
use Rattle.pairs.proofs.RankLaws.{proper_nodes}
use Rattle.pairs.proofs.StepLaws.{then_found}

kept_standing_text : (e : Edition) (o : Option Tree) → standing_text e (standing_of o) ≡ some (kept_text_in e o)
unfolding standing_text standing_of kept_text_in
kept_standing_text e none = refl
kept_standing_text e (some t) = refl

module _ {e : Edition} {s : Tree} {C : List Label} {tree : TreeArrays} {text order : List ℕ} {m : ℕ}
    (k : ByRank e s C tree text order m) where
  pub ranked_proper : Proper (keyed e s)
  ranked_proper = valid_decoded (folded e s) (valid_folded e s k.valid)

  -- the restricted arrays over the first tree's text have the text of the restriction
  pub restricted_text : (t : Tree) (xs : List Token) (X : List Label) (kept : List Bool) → Flagged (keyed e s) X kept → (r : TreeArrays)
      → ((text : List ℕ) (u : Tree) → tree_of tree text ≡ one_tree u → tree_of r text ≡ kept_standing tree text kept)
      → standing_text e (tree_of r text) ≡ some (solution_text (solution e s t xs X))
  unfolding solution_text
  restricted_text t xs X kept f r cut =
      ap (standing_text e) (cut text s (rw (k.arrays_is, k.text_is) (stands s (valid_spelled e s k.valid)))
      ∙ (rw (k.arrays_is, k.text_is) (own_kept e s k.valid kept (set_of X) f)))
      ∙ kept_standing_text e (restrict_in e (set_of X) s)

-- the writer's answer is the text's length, or number 9
module _ (r : Solution) where
  written_solved : (room n : ℕ) → text_answer (some (solution_text r)) room ≡ Ok n
      → Ok (record { size = length r.set; length = n; set = set_places (folded r.edition r.first) r.set }) ≡ largest_of (fitted room r)
  unfolding text_answer fitted result_of found_set
  written_solved room n d = go (bool_cases (leb (length (solution_text r)) room))
    where
      go : (leb (length (solution_text r)) room ≡ true) ⊎ (leb (length (solution_text r)) room ≡ false)
          → Ok (record { size = length r.set; length = n; set = set_places (folded r.edition r.first) r.set }) ≡ largest_of (fitted room r)
      go (inl h) =
          let w : Ok (length (solution_text r)) ≡ Ok n = rw h at d in
          let k : length (solution_text r) ≡ n = cc in
          rw (h, k) refl
      go (inr h) =
          let w : Err (Refused output_too_short) ≡ Ok n = rw h at d in
          let z : ◌≡◌ {A = ℕ} 0 1 = cc in
          absurd (omega arith)

  other_short : (room : ℕ) (w : WriteError) → text_answer (some (solution_text r)) room ≡ Err w
      → Err (denied.Refused too_short) ≡ largest_of (fitted room r)
  unfolding text_answer fitted result_of
  other_short room w d = go (bool_cases (leb (length (solution_text r)) room))
    where
      go : (leb (length (solution_text r)) room ≡ true) ⊎ (leb (length (solution_text r)) room ≡ false)
          → Err (denied.Refused too_short) ≡ largest_of (fitted room r)
      go (inl h) =
          let v : Ok (length (solution_text r)) ≡ Err w = rw h at d in
          let z : ◌≡◌ {A = ℕ} 0 1 = cc in
          absurd (omega arith)
      go (inr h) = rw h refl

  fitted_output : (out : List ℕ) → text_output (some (solution_text r)) out ≡ output_of (fitted (length out) r) out
  unfolding text_output fitted output_of
  fitted_output out = go (bool_cases (leb (length (solution_text r)) (length out)))
    where
      go : (leb (length (solution_text r)) (length out) ≡ true) ⊎ (leb (length (solution_text r)) (length out) ≡ false)
          → text_output (some (solution_text r)) out ≡ output_of (fitted (length out) r) out
      go (inl h) = rw h refl
      go (inr h) = rw h refl

module _ (r : Solution) (a : Standing) (out : List ℕ) (d : standing_text r.edition a ≡ some (solution_text r)) where
  pub set_written : (n : ℕ) → write_answer r.edition a (length out) ≡ Ok n
      → Ok (record { size = length r.set; length = n; set = set_places (folded r.edition r.first) r.set }) ≡ largest_of (fitted (length out) r)
  unfolding write_answer
  set_written n h = written_solved r (length out) n (rw d at h)

  pub set_refused : (w : WriteError) → write_answer r.edition a (length out) ≡ Err w
      → Err (denied.Refused too_short) ≡ largest_of (fitted (length out) r)
  unfolding write_answer
  set_refused w h = other_short r (length out) w (rw d at h)

  pub set_output : output_after r.edition a out ≡ output_of (fitted (length out) r) out
  unfolding output_after
  set_output = ap (λ o. text_output o out) d ∙ fitted_output r out

pub placed_result : (p : LabelPlaces) (s : Tree) (X : List Label) (n : ℕ) → p ≡ set_places s X
    → ◌≡◌ {A = Result Found Denied} (Ok (record { size = p.count; length = n; set = p }))
    (Ok (record { size = length X; length = n; set = set_places s X }))
unfolding set_places
placed_result p s X n e = ap (λ (q : LabelPlaces). Ok (record { size = q.count; length = n; set = q })) e

-- the first tree as it stands, with its leaves by rank

module _ {e : Edition} {first : List ℕ} {tree1 tree2 : TreeArrays} {order : CommonOrder} (b : OwnTrees e first tree1 tree2 order) where
  pub set_by_rank : ByRank e b.s (common (keyed e b.s) (keyed e b.t)) tree1 first order.first order.count
  set_by_rank =
      record {
        valid = b.valid1;
        arrays_is = b.first_arrays ∙ arrays_folded e b.s;
        text_is = b.first_text;
        count = b.ordered.count;
        numbered = b.ordered.first;
      }

  pub rank_range : InRange order.first order.count
  rank_range r l =
      omega (
        arith,
        (b.ordered.first r (omega (arith, b.ordered.count))).below,
        proper_nodes (keyed e b.s) (valid_decoded (folded e b.s) b.one.valid),
      )

-- the answer, where the required list is settled

module _ (e : Edition) (p : Trees) (xs : List Token) (out : List ℕ) where
  abbrev Answered : Outcome Solution
  Answered = solve_list e (length out) p xs

  pub answered_set : (X : List Label) → required_set e p xs ≡ found X → Answered ≡ fitted (length out) (solution e p.first p.second xs X)
  unfolding solve_list solution_of required_set
  answered_set X h = then_found (required_set e p xs) _ X h

  -- what comes after the list
  abbrev On : List Label → Outcome Solution
  On X = fitted (length out) (solution e p.first p.second xs X)

  answered_then : Answered ≡ and_then (required_set e p xs) On
  unfolding solve_list solution_of required_set
  answered_then = refl

  pub answered_denied : (d : Denied) → DeniedIs (required_set e p xs) d → Err d ≡ largest_of Answered
  answered_denied d h = denied_result found_set _ On d h ∙ ap largest_of (sym answered_then)

  pub denied_output : (d : Denied) → DeniedIs (required_set e p xs) d → out ≡ output_of Answered out
  unfolding output_of and_then
  denied_output (denied.Naming q n) h = ap (λ (y : Outcome (List Label)). output_of (and_then y On) out) (sym h.is) ∙ ap (λ (y : Outcome Solution). output_of y out) (sym answered_then)
  denied_output (denied.Refused q) h = ap (λ (y : Outcome (List Label)). output_of (and_then y On) out) (sym h) ∙ ap (λ (y : Outcome Solution). output_of y out) (sym answered_then)

  pub denied_pieces : (d : Denied) → DeniedIs (required_set e p xs) d → (r : Result Divided Denied) → IsErr r → PiecesWith Answered r
  unfolding and_then
  denied_pieces (denied.Naming q n) h r k = subst (λ (y : Outcome Solution). PiecesWith y r) (ap (λ (y : Outcome (List Label)). and_then y On) (sym h.is) ∙ sym answered_then) k
  denied_pieces (denied.Refused q) h r k = subst (λ (y : Outcome Solution). PiecesWith y r) (ap (λ (y : Outcome (List Label)). and_then y On) (sym h) ∙ sym answered_then) k

pub refused_output : (x : Outcome Solution) (out : List ℕ) (q : Refusal) → x ≡ refused q → out ≡ output_of x out
unfolding output_of
refused_output x out q h = ap (λ (y : Outcome Solution). output_of y out) (sym h)
