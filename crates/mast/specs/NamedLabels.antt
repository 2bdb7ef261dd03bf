-- The labels that a refusal names, as a caller receives them. 01, "Why a job is turned down": "three required leaves have different closer
-- pairs".
use Rattle.std.specs.Prelude.{length, Result, Ok, Err}
use Rattle.trees.specs.Edition.{folded}
use Rattle.trees.specs.Label.{Label}
use Rattle.lists.specs.ReadList.{folded_list}
use Rattle.agreement.specs.Places.{place_in, token_in, place_of_label}
use Rattle.pairs.specs.Outcome.{Outcome, Trio, refused, naming, found}
use Rattle.mast.specs.declared.Denied.{Denied}
use Rattle.mast.specs.declared.Denied.TheVariants.{Naming, Refused}
use Rattle.mast.specs.declared.Named.{Named}
use Rattle.mast.specs.declared.NamedLabel.{NamedLabel}

-- its place in the list, and its place and size in the first tree's text: "the part of the text shown for
-- it has both quotes"
unfoldable pub named_label : Trio → Label → NamedLabel
unfolding place_of_label place_in token_in
named_label n x =
    record {
      place = place_of_label (folded_list n.edition n.list) 0 x;
      start = place_in (folded n.edition n.first) 0 x;
      size = length (token_in (folded n.edition n.first) x);
    }

unfoldable pub named_of : Trio → Named
unfolding named_label
named_of n =
    record {
      first = named_label n n.labels.one;
      second = named_label n n.labels.two;
      third = named_label n n.labels.three;
    }

-- What is returned of an outcome: what f makes of it; the three labels that a refusal names; or the refusal. "On refusal no set and no count
-- is returned."
unfoldable pub result_of : {A B : Type 0} → (A → B) → Outcome A → Result B Denied
unfolding named_of
result_of f (found x) = Ok (f x)
result_of f (naming q n) = Err (Naming q (named_of n))
result_of f (refused q) = Err (Refused q)
