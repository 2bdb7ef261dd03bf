-- `ranks::partners` meets its contract. Assumes nothing.
use Prim.Native.Nat.{ℕ}
use mathlib.Core.Path.{◌≡◌, ◌∙◌, ap, subst, sym}
use lib.ListN.{length-set}
use Rattle.std.proofs.Common.{Option}
use native.Mathlib.Omega.{arith}
use Rattle.trees.specs.Edition.{in_edition}
use Rattle.trees.proofs.FoldLaws.{fold_part}
use Rattle.trees.specs.Label.{Label}
use Rattle.trees.specs.Token.{spelling}
use Rattle.trees.specs.Tree.{decoded}
use Rattle.pairs.specs.CommonRanks.{Partners, PartnerIs}
use Rattle.pairs.proofs.RankLaws.{partners_next, own_part, own_leaf_at}
use Rattle.pairs.proofs.ranks.partners.Goals as goal

pub loop-u-preserved : goal.loop-u-preserved
loop-u-preserved c =
    let i = c.loop-u.invariant in let g = c.args in (
      length-set {A = Option ℕ} c.loop-u.partner _ _ ∙ i.0,
      λ s t o q.
          partners_next c.loop-u.u (decoded s) (decoded t)
          c.loop-u.partner _ (omega arith) i.0
          (λ x e.
          subst (λ (y : Label). PartnerIs (decoded t) y c.look_up.result) (ap spelling (ap (in_edition g.edition)
          c.leaf_label-token.ensures ∙ sym (fold_part g.edition _ _ g.first.now)) ∙ own_part o
          c.loop-u.u x (own_leaf_at o
          c.loop-u.u x
          (omega arith) e))
          (c.look_up.ensures t q))
          (i.1 s t o q),
    )

pub returns : goal.returns
returns c =
    λ s t o q.
    let e : c.loop-u.u ≡ c.args.tree1.now.nodes = omega arith in
    subst (λ (n : ℕ). Partners n (decoded s) (decoded t) c.loop-u.partner) e (c.loop-u.invariant.1 s t o q)
