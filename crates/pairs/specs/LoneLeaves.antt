-- Leaves in only one tree, by their numbers and places. Intermediate: nothing public rests on this text.
use Rattle.std.specs.Prelude.{ℕ, ◌≡◌, Bool, eqb, ◌&&◌, List, Option, Some, None, is_none, Result, Ok, Err}
use Rattle.std.proofs.Math.Option.{some, none}
use Rattle.trees.specs.declared.Reason.TheVariants.{NotShared}
use Rattle.trees.specs.declared.Body.{Body}
use Rattle.trees.specs.declared.Body.TheVariants.{S, T}
use Rattle.trees.specs.declared.Refusal.{Refusal}
use Rattle.trees.specs.Label.{Label}
use Rattle.trees.specs.Edition.{folded, keyed}
use Rattle.trees.specs.Tree.{Tree, leaves}
use Rattle.agreement.specs.Closer.{holds}
use Rattle.agreement.specs.Places.{place_in}
use Rattle.agreement.specs.Strict.{Stray, in_first, in_second, nowhere, first_outside}
use Rattle.leaves.specs.Numbered.{LeafIs}
use Rattle.pairs.specs.declared.Options.{Options}
use Rattle.pairs.specs.TwoTrees.{stray_for}
use Rattle.pairs.specs.CommonRanks.{Partners}

-- node u, with this left child and partner, is a leaf with no partner
abbrev pub lone : ℕ → ℕ → Option ℕ → Bool
lone child u v = eqb child u && is_none v

-- the first leaf of s that t lacks, if there is one
abbrev pub Lone : (s t : Tree) → Option ℕ → Type 0
Lone s t (Some r) = (x : Label) × LeafIs s r x × (first_outside (holds t) (leaves s) ≡ some x)
Lone s t None = first_outside (holds t) (leaves s) ≡ none

-- number 12
abbrev pub stray_at : Body → ℕ → Refusal
stray_at body place = record { reason = NotShared; body = body; place = place }

-- whether both trees hold the same leaves, as far as that is asked; if not, number 12
unfoldable pub shared_of : Tree → Tree → Stray → Result (Unit {0}) Refusal
shared_of s t (in_first x) = Err (stray_at S (place_in s 0 x))
shared_of s t (in_second x) = Err (stray_at T (place_in t 0 x))
shared_of s t nowhere = Ok tt

-- the partner of each leaf of s, or number 12 if the options are strict
abbrev pub Paired : Options → (s t : Tree) → (nodes : ℕ) → Result (List (Option ℕ)) Refusal → Type 0
Paired o s t nodes (Ok partner) =
    Partners nodes (keyed o.edition s) (keyed o.edition t) partner
    × (Ok tt ≡ shared_of (folded o.edition s) (folded o.edition t) (stray_for o s t))
Paired o s t nodes (Err q) = Err q ≡ shared_of (folded o.edition s) (folded o.edition t) (stray_for o s t)
