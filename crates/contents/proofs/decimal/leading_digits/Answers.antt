-- `contents::decimal::leading_digits` meets its contract. Assumes nothing.
use Rattle.std.proofs.Common.{take, ap, ◌∙◌, rules, tests}
use Rattle.std.proofs.lemmas.Iterator.{YieldsList-from_slice}
use Rattle.std.proofs.lemmas.Iterator.Consumers.{count_from_yields_List}
use Rattle.std.proofs.lemmas.Iterator.Search.{YieldsList-from_take_while}
use Rattle.std.proofs.lemmas.List.Folds.{length-prefix_len}
use Rattle.std.specs.Char.{is_ascii_digit}
use Rattle.contents.proofs.RunLaws.{leading_run}
use Rattle.contents.proofs.decimal.leading_digits.Goals as goal

pub returns : goal.returns
returns c =
    ap (λ n. take n c.args.text.now) (count_from_yields_List c.take_while.result _ c.count-count.ensures.ran (YieldsList-from_take_while _ is_ascii_digit (YieldsList-from_slice c.args.text.now (cc)) c.take_while.ensures.closure c.take_while.ensures.done (λ x b q k. search (rules, tests))) ∙ length-prefix_len is_ascii_digit c.args.text.now)
    ∙ leading_run c.args.text.now
