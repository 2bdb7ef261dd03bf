-- The papers' own numbers, letters, limits and printed lines, written out. 01, "Job and printed result" and "Why a job is turned
-- down", with the rows that the requests add. `papers_table` in Promises says that the definitions have them; nothing here is taken from
-- a definition.
use Rattle.std.specs.Prelude.{ℕ, List, [], ◌∷◌, ◌++◌}
use Prim.Native.String.{String}
use Rattle.trees.specs.declared.Reason.{Reason}
use Rattle.trees.specs.declared.Reason.TheVariants.{BadByte, EndsTooSoon, LabelTooLong, TooMany, Repeated, FirstLacks, SecondLacks}
use Rattle.trees.specs.declared.Reason.TheVariants.{Disagree, TooShort, Contents, JobTooLong, NotShared, ClaimLacks, ClaimDisagrees, ClaimSmall}
use Rattle.trees.specs.declared.Body.{Body}
use Rattle.trees.specs.declared.Body.TheVariants.{S, T, K, C, J, O}
use Rattle.trees.specs.Words.{bytes_of}

-- ---- numbers and letters

pub record NumberRow : Type 0 where
  pub reason : Reason
  pub number : ℕ

abbrev pub numbered : Reason → ℕ → NumberRow
numbered r n = record { reason = r; number = n }

unfoldable pub number_rows : List NumberRow
number_rows =
    numbered BadByte 1 ∷ numbered EndsTooSoon 2 ∷ numbered LabelTooLong 3 ∷ numbered TooMany 4 ∷ numbered Repeated 5
    ∷ numbered FirstLacks 6 ∷ numbered SecondLacks 7 ∷ numbered Disagree 8 ∷ numbered TooShort 9 ∷ numbered Contents 10
    ∷ numbered JobTooLong 11
    -- C-11
    ∷ numbered NotShared 12
    -- C-16
    ∷ numbered ClaimLacks 13 ∷ numbered ClaimDisagrees 14 ∷ numbered ClaimSmall 15
    ∷ []

pub record LetterRow : Type 0 where
  pub body : Body
  pub letter : String

abbrev pub lettered : Body → String → LetterRow
lettered b x = record { body = b; letter = x }

unfoldable pub letter_rows : List LetterRow
letter_rows = lettered S "S" ∷ lettered T "T" ∷ lettered K "K" ∷ lettered C "C" ∷ lettered J "J" ∷ lettered O "O" ∷ []

-- ---- limits

pub record Limits : Type 0 where
  pub label : ℕ
  pub leaves : ℕ
  pub labels : ℕ
  pub job : ℕ
  pub digits : ℕ

-- "1 to 80 leaves", "at most 80"; C-14: 32 bytes a label, 16,384 a job, five digits a length
unfoldable pub paper_limits : Limits
paper_limits = record { label = 32; leaves = 80; labels = 80; job = 16384; digits = 5 }

-- ---- jobs and what is printed for them

-- a job by its contents' lines and the bodies, "joined directly"
pub record LineRow : Type 0 where
  pub contents : List String
  pub bodies : String
  pub lines : List String

abbrev pub prints : List String → String → List String → LineRow
prints c b l = record { contents = c; bodies = b; lines = l }

-- "each ended by byte 10"
unfoldable pub lines_of : List String → List ℕ
unfolding bytes_of
lines_of [] = []
lines_of (x ∷ xs) = bytes_of x ++ (10 ∷ lines_of xs)

unfoldable pub bytes_of_job : LineRow → List ℕ
unfolding lines_of bytes_of
bytes_of_job r = lines_of r.contents ++ bytes_of r.bodies

unfoldable pub line_rows : List LineRow
line_rows =
    -- the scope paper's example
    prints ("S 14" ∷ "T 14" ∷ "K 1" ∷ "" ∷ []) "((a,b),(c,d));((a,c),(b,d));a" ("size 2" ∷ "set a,b" ∷ "tree (a,b);" ∷ [])
    -- "An empty set leaves nothing after `set ` and `tree `."
    ∷ prints ("S 6" ∷ "T 6" ∷ "K 0" ∷ "" ∷ []) "(a,b);(c,d);" ("size 0" ∷ "set " ∷ "tree " ∷ [])
    -- "for example `refused 2 S 5`"
    ∷ prints ("S 5" ∷ "T 2" ∷ "K 0" ∷ "" ∷ []) "(a,b)a;" ("refused 2 S 5" ∷ [])
    -- the examples of 6, 7, 8 and 10
    ∷ prints ("S 2" ∷ "T 2" ∷ "K 1" ∷ "" ∷ []) "a;b;b" ("refused 6 K 0" ∷ [])
    ∷ prints ("S 2" ∷ "T 2" ∷ "K 1" ∷ "" ∷ []) "a;b;a" ("refused 7 K 0" ∷ [])
    ∷ prints ("S 10" ∷ "T 10" ∷ "K 5" ∷ "" ∷ []) "((a,b),c);((a,c),b);a,b,c" ("refused 8 K 0 a,b,c" ∷ [])
    ∷ prints [] "S 2" ("refused 10 J 0" ∷ [])
    -- C-11
    ∷ prints ("strict" ∷ "S 6" ∷ "T 2" ∷ "K 0" ∷ "" ∷ []) "(a,b);a;" ("refused 12 S 3" ∷ [])
    -- C-12
    ∷ prints ("S 10" ∷ "T 10" ∷ "K 0" ∷ "" ∷ []) "('a b',c);('a b',c);" ("size 2" ∷ "set a_b,c" ∷ "tree (a_b,c);" ∷ [])
    -- C-15
    ∷ prints ("E 2" ∷ "S 6" ∷ "T 6" ∷ "K 1" ∷ "" ∷ []) "(B,a);(A,b);b" ("size 2" ∷ "set a,B" ∷ "tree (a,B);" ∷ [])
    -- C-16: a claim that passes, 6 and 7 "with letter C", 13, 14, 15
    ∷ prints ("S 6" ∷ "T 6" ∷ "K 0" ∷ "C 3" ∷ "" ∷ []) "(a,b);(a,b);a,b" ("claim ok 2" ∷ [])
    ∷ prints ("S 2" ∷ "T 2" ∷ "K 0" ∷ "C 1" ∷ "" ∷ []) "a;b;b" ("refused 6 C 0" ∷ [])
    ∷ prints ("S 2" ∷ "T 2" ∷ "K 0" ∷ "C 1" ∷ "" ∷ []) "a;b;a" ("refused 7 C 0" ∷ [])
    ∷ prints ("S 6" ∷ "T 6" ∷ "K 1" ∷ "C 1" ∷ "" ∷ []) "(a,b);(a,b);ab" ("refused 13 K 0" ∷ [])
    ∷ prints ("S 10" ∷ "T 10" ∷ "K 0" ∷ "C 5" ∷ "" ∷ []) "((a,b),c);((a,c),b);a,b,c" ("refused 14 C 0 a,b,c" ∷ [])
    ∷ prints ("S 6" ∷ "T 6" ∷ "K 0" ∷ "C 1" ∷ "" ∷ []) "(a,b);(a,b);a" ("refused 15 C 0" ∷ [])
    -- C-17: no required label, with common leaves and without; a leaf at one place; a leaf whose places differ; the line with C
    ∷ prints ("pieces" ∷ "S 6" ∷ "T 6" ∷ "K 0" ∷ "" ∷ []) "(a,b);(b,a);" ("pieces 2" ∷ "at  a,b" ∷ "size 2" ∷ "set a,b" ∷ "tree (a,b);" ∷ [])
    ∷ prints ("pieces" ∷ "S 2" ∷ "T 2" ∷ "K 0" ∷ "" ∷ []) "a;b;" ("pieces 0" ∷ "size 0" ∷ "set " ∷ "tree " ∷ [])
    ∷ prints ("pieces" ∷ "S 10" ∷ "T 10" ∷ "K 3" ∷ "" ∷ []) "((a,b),c);((b,a),c);c,a" ("pieces 2" ∷ "at a b" ∷ "size 3" ∷ "set a,b,c" ∷ "tree ((a,b),c);" ∷ [])
    ∷ prints ("pieces" ∷ "S 10" ∷ "T 10" ∷ "K 3" ∷ "" ∷ []) "((a,b),c);((b,c),a);c,a" ("pieces 0" ∷ "size 2" ∷ "set a,c" ∷ "tree (a,c);" ∷ [])
    ∷ prints ("pieces" ∷ "S 2" ∷ "T 2" ∷ "K 0" ∷ "C 0" ∷ "" ∷ []) "a;a;" ("refused 10 J 0" ∷ [])
    ∷ []
