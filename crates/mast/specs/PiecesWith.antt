-- An answer with the pieces of its job. C-17.
use Rattle.std.specs.Prelude.{Result, Ok, Err, IsOkAnd, IsErr}
use Rattle.pairs.specs.Outcome.{Outcome, refused, naming, found}
use Rattle.division.specs.PiecesAt.{PiecesAt}
use Rattle.mast.specs.declared.Denied.{Denied}
use Rattle.mast.specs.declared.Divided.{Divided}
use Rattle.mast.specs.declared.Found.{Found}
use Rattle.mast.specs.Largest.{Solution}

-- what comes with an answer: the pieces with a set, and none with a refusal, for which only its line is printed
abbrev pub PiecesWith : Outcome Solution → Result Divided Denied → Type 0
PiecesWith (found r) res = IsOkAnd res (λ d. PiecesAt r.edition r.first r.second r.required d.pieces)
PiecesWith (naming q n) res = IsErr res
PiecesWith (refused q) res = IsErr res

-- the answer without its pieces
abbrev pub without_pieces : Result Divided Denied → Result Found Denied
without_pieces (Ok r) = Ok (record { size = r.size; length = r.length; set = r.set })
without_pieces (Err d) = Err d
