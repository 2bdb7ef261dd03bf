-- Two trees and a list that were read, as the engine takes them: by arrays and ranks. Assumes nothing.
use Prim.Native.Nat.{ℕ}
use mathlib.Core.Path.{sym, ◌∙◌, ap}
use mathlib.Core.List.{List, map}
use lib.ListN.{length-map}
use Rattle.trees.specs.declared.TreeArrays.{TreeArrays}
use Rattle.trees.specs.Token.{Token, spelling}
use Rattle.trees.specs.Tree.{Tree, decoded}
use Rattle.trees.specs.Arrays.{arrays_of}
use Rattle.trees.proofs.DecodedLaws.{decoded_nodes, decoded_left, decoded_right}
use Rattle.trees.proofs.TokenLaws.{valid_decoded}
use Rattle.agreement.specs.Sets.{common}
use Rattle.table.specs.Choice.{Ranked, Posed}
use Rattle.pairs.specs.declared.CommonOrder.{CommonOrder}
use Rattle.queries.specs.RankedList.{Asked}

pub posed : {s t : Tree} {xs : List Token} {tree1 tree2 : TreeArrays} {order : CommonOrder} {rank1 rank2 number : List ℕ}
    {count : ℕ} → Asked s t xs tree1 tree2 order number count → Ranked (decoded s) (common (decoded s) (decoded t)) rank1
    → Ranked (decoded t) (common (decoded s) (decoded t)) rank2
    → Posed (decoded s) (decoded t) (map spelling xs) tree1 tree2 rank1 rank2 order.count number count
unfolding arrays_of
posed {s = s} {t = t} {xs = xs} a one two = record {
  one = record {
    proper = valid_decoded s a.one.valid;
    nodes_are = ap (λ q. q.nodes) a.one.arrays_is ∙ sym (decoded_nodes s);
    left_are = ap (λ q. q.left) a.one.arrays_is ∙ sym (decoded_left s);
    right_are = ap (λ q. q.right) a.one.arrays_is ∙ sym (decoded_right s);
    ranked = one;
  };
  two = record {
    proper = valid_decoded t a.two.valid;
    nodes_are = ap (λ q. q.nodes) a.two.arrays_is ∙ sym (decoded_nodes t);
    left_are = ap (λ q. q.left) a.two.arrays_is ∙ sym (decoded_left t);
    right_are = ap (λ q. q.right) a.two.arrays_is ∙ sym (decoded_right t);
    ranked = two;
  };
  all = a.one.count;
  different = a.different;
  required = a.held;
  marked = a.marked;
  count_is = a.count_is ∙ sym (length-map xs spelling);
}
