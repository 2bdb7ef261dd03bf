-- Cases of our own, in addition to the starred ones: numbers 6 and 7, trees with different leaves, trees and lists out of label order,
-- labels in quotes. 01, "Agreement" and rows 6 to 8 of "Why a job is turned down".
use Rattle.std.specs.Prelude.{List, [], ◌∷◌}
use Rattle.trees.specs.Words.{bytes_of}
use Rattle.agreement.specs.Answer.{first_lacks, second_lacks, disagree, largest}
use Rattle.agreement.specs.Starred.{Row, row, P, Q, a, b, c, d, e}

unfoldable pub own_rows : List Row
own_rows =
    -- the examples of rows 6 and 7
    row "a;" "b;" "b" (first_lacks 0)
    ∷ row "a;" "b;" "a" (second_lacks 0)
    -- "the first label in list order that either tree lacks"; one that both lack is 6
    ∷ row "((a,b),c);" "((a,c),d);" "c,d,b" (first_lacks 1)
    ∷ row "((a,b),c);" "((a,c),d);" "a,b,d" (second_lacks 1)
    ∷ row "(a,b);" "(a,b);" "b,a,c" (first_lacks 2)
    -- 6 and 7 go before 8
    ∷ row P Q "a,b,c,x" (first_lacks 3)
    -- leaf sets that differ: a,b,c are common
    ∷ row P "((x,c),(y,(a,b)));" "" (largest (a ∷ b ∷ c ∷ []))
    ∷ row "((x,c),(y,(a,b)));" Q "" (largest (a ∷ b ∷ []))
    ∷ row "((x,c),(y,(a,b)));" Q "c" (largest (a ∷ c ∷ []))
    -- trees and list out of label order
    ∷ row "(e,(d,(c,(b,a))));" Q "" (largest (a ∷ b ∷ d ∷ e ∷ []))
    ∷ row "(e,(d,(c,(b,a))));" "((d,(b,(c,a))),e);" "e,c,b" (largest (b ∷ c ∷ d ∷ e ∷ []))
    ∷ row "(e,(d,(c,(b,a))));" Q "c,a,b" (disagree a b c)
    -- a shorter label before any longer one that begins with it
    ∷ row "(ab,(b,a));" "((b,ab),a);" "" (largest (a ∷ bytes_of "ab" ∷ []))
    -- C-12: "a bare `a_b` and a quoted `'a b'` are one"; a quoted underscore is itself
    ∷ row "(a_b,c);" "(c,'a b');" "'a b'" (largest (bytes_of "a b" ∷ c ∷ []))
    ∷ row "(a_b,c);" "(c,'a_b');" "" (largest (c ∷ []))
    ∷ row "(a_b,c);" "(c,'a b');" "'a_b'" (first_lacks 0)
    -- "so a blank comes before `-`": the tie falls to `a b`
    ∷ row "((a_b,a-),c);" "((a_b,c),a-);" "c" (largest (bytes_of "a b" ∷ c ∷ []))
    ∷ []
