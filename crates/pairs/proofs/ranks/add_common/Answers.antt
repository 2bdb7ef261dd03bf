-- `ranks::add_common` meets its contract. Assumes nothing.
use Prim.Native.Nat.{◌+◌}
use Rattle.pairs.specs.CommonRanks.{common_from}
use Rattle.trees.specs.Tree.{decoded}
use Rattle.trees.proofs.TokenLaws.{valid_decoded}
use Rattle.pairs.proofs.RankLaws.{own_proper, own_nodes, own_part, tested_none, tested_some, collected_full, collected_none, collected_add, from_inc}
use Rattle.pairs.proofs.ranks.add_common.Goals as goal

pub returns-then-m-most-clause-collected : goal.returns-then-m-most-clause-collected
returns-then-m-most-clause-collected c = λ s t o vt b h p k.
    collected_full (own_proper o) (valid_decoded t vt) (rw (← own_nodes o) h) p k _ b c.if-m-most.true

pub returns-then-is_none-clause-collected : goal.returns-then-is_none-clause-collected
returns-then-is_none-clause-collected c = λ s t o vt b h p k.
    collected_none (own_proper o) (valid_decoded t vt) (rw (← own_nodes o) h) p k (tested_none _ _ c.is_none.ensures c.if-is_none.true)

pub returns-clause-collected : goal.returns-clause-collected
returns-clause-collected c = λ s t o vt b h p k.
    collected_add (own_proper o) (valid_decoded t vt) (rw (← own_nodes o) h) p k (tested_some _ _ c.is_none.ensures c.if-is_none.false) _ (own_part o _) _
    (c.insert_leaf.ensures s (common_from (decoded s) (decoded t) (c.args.u + 1)) o
    (from_inc (decoded s) (decoded t) _ (own_proper o).different) k.count k.first k.size1)
