-- Each answer by the papers' sentences, in one definition. 01, "Agreement" and rows 6 to 8 of "Why a job is turned down".
use Rattle.std.specs.Prelude.{List}
use Rattle.trees.specs.Label.{Label}
use Rattle.trees.specs.Tree.{Tree}
use Rattle.agreement.specs.Closer.{Common}
use Rattle.agreement.specs.Sets.{set_of}
use Rattle.agreement.specs.Answer.{Answer, first_lacks, second_lacks, disagree, largest}
use Rattle.agreement.specs.Demand.{IsFirstLacks, IsSecondLacks, IsDisagreement, IsAnswer}

-- number 8 is "about jobs that nothing before 8 in this order .. turns away": both trees have every required label
abbrev pub RightAnswer : Tree → Tree → List Label → Answer → Type 0
RightAnswer s t K (first_lacks n) = IsFirstLacks s t K n
RightAnswer s t K (second_lacks n) = IsSecondLacks s t K n
RightAnswer s t K (disagree a b c) = Common s t (set_of K) × IsDisagreement s t K a b c
RightAnswer s t K (largest X) = IsAnswer s t K X
