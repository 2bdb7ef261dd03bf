-- The definitions have the papers' numbers, letters, limits and printed lines: a table, a theorem. Assumes nothing.
use mathlib.Core.Path.{◌≡◌, refl}
use mathlib.Core.List.{[], ◌∷◌, map}
use Rattle.trees.specs.Bytes.{kind_of, is_inner_byte}
use Rattle.trees.specs.Label.{label_limit, same_label, label_less, is_in}
use Rattle.trees.specs.Token.{spelling, token_of}
use Rattle.trees.specs.Tree.{leaf_limit, relabel, decoded}
use Rattle.trees.specs.Edition.{fold_byte}
use Rattle.trees.specs.Reading.{repeats}
use Rattle.newick.specs.ReadTree.{read_tree, read_tree_in}
use Rattle.agreement.specs.Restrict.{restrict}
use Rattle.agreement.specs.Answer.{answer}
use Rattle.agreement.specs.Places.{spelled_in, place_of_number}
use Rattle.trees.specs.Refusals.{number_of, letter_of}
use Rattle.trees.specs.Words.{bytes_of}
use Rattle.lists.specs.ReadList.{list_limit, read_list, read_list_in}
use Rattle.contents.specs.Contents.{digit_limit, edition_of, entries, lookup, part, first_text, second_text, list_text, claim_text}
use Rattle.job.specs.Printed.{job_limit, printed}
use Rattle.job.specs.PaperTable.{NumberRow, number_rows, LetterRow, letter_rows, Limits, paper_limits, LineRow, lines_of, bytes_of_job, line_rows}

pub numbers_hold : map (λ (r : NumberRow). number_of r.reason) number_rows ≡ map (λ (r : NumberRow). r.number) number_rows
unfolding number_rows number_of
numbers_hold = refl

pub letters_hold : map (λ (r : LetterRow). letter_of r.body ∷ []) letter_rows ≡ map (λ (r : LetterRow). bytes_of r.letter) letter_rows
unfolding letter_rows letter_of bytes_of
letters_hold = refl

pub limits_hold : ◌≡◌ {A = Limits} (record { label = label_limit; leaves = leaf_limit; labels = list_limit; job = job_limit; digits = digit_limit }) paper_limits
unfolding paper_limits
limits_hold = refl

pub lines_hold : map (λ (r : LineRow). printed (bytes_of_job r)) line_rows ≡ map (λ (r : LineRow). lines_of r.lines) line_rows
unfolding line_rows bytes_of_job lines_of printed edition_of first_text second_text list_text claim_text part lookup entries read_tree_in read_tree read_list_in read_list kind_of is_inner_byte fold_byte repeats is_in same_label label_less answer decoded relabel spelling token_of restrict spelled_in place_of_number
lines_hold = refl
