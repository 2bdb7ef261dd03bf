-- The lines before those of the bodies, each of which a job may leave out. Assumes nothing.
use Prim.Native.Nat.{ℕ, ◌+◌, ◌≤◌}
use mathlib.Core.Path.{◌≡◌, refl, sym, ◌∙◌, ap, ap₂, subst}
use mathlib.Core.Bool.{Bool, true, false, cond}
use mathlib.Core.Logic.{◌⊎◌, inl, inr, ⊎_elim}
use mathlib.Core.List.{List, [], ◌∷◌, ◌++◌}
use native.Mathlib.Omega.{arith}
use lib.ListN.{length, drop}
use lib.Seq.{drop-drop}
use Rattle.trees.specs.declared.Edition.TheVariants as edition
use Rattle.std.specs.Prelude.{Some, None}
use Rattle.trees.specs.Words.{bytes_of}
use Rattle.trees.proofs.Bools.{bool_cases, clash}
use Rattle.contents.specs.declared.Head.{Head}
use Rattle.contents.specs.declared.StatedAt.{StatedAt}
use Rattle.contents.specs.Contents.{Stated, Flag}
use Rattle.contents.specs.Contents.{line, line_if, strict_text, edition_text, pieces_text, headed, begins, flag_at, stated_at, head_at}
use Rattle.contents.proofs.BeginsLaws.{begins_own, begins_split, begins_inside, among, Opens, opens_more, opens_own, opens_other}
use Rattle.contents.proofs.PlaceLaws.{rest_past, inside_past}
use Rattle.contents.proofs.StepLaws.{flag_if, stated_one, stated_other}

-- the line of the edition is not the next one
pub record NoEdition (rest : List ℕ) : Type 0 where
  pub one : begins (line (bytes_of "E 1")) rest ≡ false
  pub two : begins (line (bytes_of "E 2")) rest ≡ false

-- after these lines none stands that could still be taken
pub record Past (h : Head) (rest : List ℕ) : Type 0 where
  pub strict : h.strict ≡ false → begins (line (bytes_of "strict")) (edition_text h.stated ++ (pieces_text h.pieces ++ rest)) ≡ false
  pub edition : h.stated ≡ None → NoEdition (pieces_text h.pieces ++ rest)
  pub pieces : h.pieces ≡ false → begins (line (bytes_of "pieces")) rest ≡ false

opens_edition : (stated : Stated) (bs rest : List ℕ) → Opens bs rest → Opens (69 ∷ bs) (edition_text stated ++ rest)
unfolding edition_text line bytes_of
opens_edition None bs rest o = opens_more 69 bs rest o
opens_edition (Some edition.One) bs rest o = opens_own 69 bs []
opens_edition (Some edition.Two) bs rest o = opens_own 69 bs []

opens_pieces : (on : Bool) (bs rest : List ℕ) → Opens bs rest → Opens (112 ∷ bs) (pieces_text on ++ rest)
unfolding pieces_text line bytes_of
opens_pieces false bs rest o = opens_more 112 bs rest o
opens_pieces true bs rest o = opens_own 112 bs []

-- so it is before the line of S, by its first byte
pub opens_past : (h : Head) (rest : List ℕ) → Opens (83 ∷ []) rest → Past h rest
unfolding among line bytes_of
opens_past h rest o =
    let last : List ℕ = pieces_text h.pieces ++ rest in
    let p = opens_pieces h.pieces (83 ∷ []) rest o in
    record {
      strict = λ e. opens_other 115 _ (edition_text h.stated ++ last) (69 ∷ 112 ∷ 83 ∷ []) (opens_edition h.stated (112 ∷ 83 ∷ []) last p) refl;
      edition = λ e. record { one = opens_other 69 _ last (112 ∷ 83 ∷ []) p refl; two = opens_other 69 _ last (112 ∷ 83 ∷ []) p refl };
      pieces = λ e. opens_other 112 _ rest (83 ∷ []) o refl;
    }

edition_not_strict : (stated : Stated) (rest : List ℕ) → (stated ≡ None → ⊥)
    → begins (line (bytes_of "strict")) (edition_text stated ++ rest) ≡ false
unfolding begins line bytes_of edition_text
edition_not_strict None rest said = absurd (said refl)
edition_not_strict (Some edition.One) rest said = refl
edition_not_strict (Some edition.Two) rest said = refl

-- and after a line of the edition
pub stated_past : (h : Head) (rest : List ℕ) → (h.stated ≡ None → ⊥) → begins (line (bytes_of "pieces")) rest ≡ false → Past h rest
stated_past h rest said other =
    record {
      strict = λ e. edition_not_strict h.stated (pieces_text h.pieces ++ rest) said;
      edition = λ e. absurd (said e);
      pieces = λ e. other;
    }

pieces_not_strict : (stated : Stated) (rest : List ℕ)
    → begins (line (bytes_of "strict")) (edition_text stated ++ (line (bytes_of "pieces") ++ rest)) ≡ false
unfolding begins line bytes_of edition_text
pieces_not_strict None rest = refl
pieces_not_strict (Some edition.One) rest = refl
pieces_not_strict (Some edition.Two) rest = refl

pieces_not_edition : (rest : List ℕ) → NoEdition (line (bytes_of "pieces") ++ rest)
unfolding begins line bytes_of
pieces_not_edition rest = record { one = refl; two = refl }

-- and after the line `pieces`, which is the last of these
pub pieces_past : (h : Head) (rest : List ℕ) → h.pieces ≡ true → Past h rest
unfolding pieces_text
pieces_past h rest on =
    record {
      strict = λ e.
          subst (λ (p : Bool). begins (line (bytes_of "strict")) (edition_text h.stated ++ (pieces_text p ++ rest)) ≡ false) (sym on)
          (pieces_not_strict h.stated rest);
      edition = λ e. subst (λ (p : Bool). NoEdition (pieces_text p ++ rest)) (sym on) (pieces_not_edition rest);
      pieces = λ e. clash on e;
    }

two_not_one : (rest : List ℕ) → begins (line (bytes_of "E 1")) (line (bytes_of "E 2") ++ rest) ≡ false
unfolding begins line bytes_of
two_not_one rest = refl

module _ (job : List ℕ) where
  -- this text is left at a place of the job
  pub record LeftAt (at : ℕ) (text : List ℕ) : Type 0 where
    pub rest : drop at job ≡ text
    pub inside : at ≤ length job

  left_past : (at : ℕ) (word rest : List ℕ) → LeftAt at (word ++ rest) → LeftAt (at + length word) rest
  left_past at word rest h =
      record { rest = rest_past job at word rest h.rest; inside = inside_past job at word rest h.rest h.inside }

  -- ---- what is written is read

  record FlagIs (at : ℕ) (word : List ℕ) (on : Bool) (rest : List ℕ) : Type 0 where
    on_is : (flag_at job at word).on ≡ on
    next : LeftAt (flag_at job at word).next rest

  flag_is : (at : ℕ) (word : List ℕ) (b : Bool) (rest : List ℕ) → begins word (drop at job) ≡ b → LeftAt (cond b (at + length word) at) rest
      → FlagIs at word b rest
  flag_is at word b rest e h =
      record {
        on_is = ap (λ (f : Flag). f.on) (sym (flag_if job at word b e));
        next = subst (λ (f : Flag). LeftAt f.next rest) (flag_if job at word b e) h;
      }

  flag_written : (at : ℕ) (b : Bool) (words rest : List ℕ) → (b ≡ false → begins (line words) rest ≡ false) → LeftAt at (line_if b words ++ rest)
      → FlagIs at (line words) b rest
  flag_written at true words rest e h =
      flag_is at (line words) true rest (ap (begins (line words)) h.rest ∙ begins_own (line words) rest) (left_past at (line words) rest h)
  flag_written at false words rest e h = flag_is at (line words) false rest (ap (begins (line words)) h.rest ∙ e refl) h

  record StatedIs (at : ℕ) (stated : Stated) (rest : List ℕ) : Type 0 where
    stated_is : (stated_at job at).stated ≡ stated
    next : LeftAt (stated_at job at).next rest

  stated_as : (at : ℕ) (rest : List ℕ) (s : StatedAt) → s ≡ stated_at job at → LeftAt s.next rest → StatedIs at s.stated rest
  stated_as at rest s e h =
      record { stated_is = ap (λ (x : StatedAt). x.stated) (sym e); next = subst (λ (x : StatedAt). LeftAt x.next rest) e h }

  -- what is stated, by what stands there
  module _ (at : ℕ) where
    abbrev first : List ℕ
    first = line (bytes_of "E 1")

    abbrev second : List ℕ
    second = line (bytes_of "E 2")

    one_read : begins first (drop at job) ≡ true → ◌≡◌ {A = StatedAt} (record { stated = Some edition.One; next = at + length first }) (stated_at job at)
    one_read e = stated_one job at (record { on = true; next = at + length first }) (flag_if job at first true e) refl

    other_read : (b : Bool) → begins first (drop at job) ≡ false → begins second (drop at job) ≡ b
        → cond b (record { stated = Some edition.Two; next = cond b (at + length second) at }) (record { stated = None; next = cond b (at + length second) at })
        ≡ stated_at job at
    other_read b e f =
        stated_other job at (record { on = false; next = at }) (flag_if job at first false e) (record { on = b; next = cond b (at + length second) at })
        (flag_if job at second b f) refl b refl

  stated_written : (at : ℕ) (stated : Stated) (rest : List ℕ) → (stated ≡ None → NoEdition rest) → LeftAt at (edition_text stated ++ rest)
      → StatedIs at stated rest
  unfolding edition_text
  stated_written at (Some edition.One) rest past h =
      stated_as at rest _ (one_read at (ap (begins (first at)) h.rest ∙ begins_own (first at) rest)) (left_past at (first at) rest h)
  stated_written at (Some edition.Two) rest past h =
      stated_as at rest _ (other_read at true (ap (begins (first at)) h.rest ∙ two_not_one rest) (ap (begins (second at)) h.rest ∙ begins_own (second at) rest))
      (left_past at (second at) rest h)
  stated_written at None rest past h =
      stated_as at rest _ (other_read at false (ap (begins (first at)) h.rest ∙ (past refl).one) (ap (begins (second at)) h.rest ∙ (past refl).two)) h

  pub record HeadIs (h : Head) (rest : List ℕ) : Type 0 where
    pub head_is : (head_at job).head ≡ h
    pub next : LeftAt (head_at job).next rest

  pub head_written : (h : Head) (rest : List ℕ) → Past h rest → job ≡ headed h rest → HeadIs h rest
  unfolding head_at strict_text pieces_text
  head_written h rest past e =
      let last : List ℕ = pieces_text h.pieces ++ rest in
      let begin : LeftAt 0 (headed h rest) = record { rest = e; inside = omega arith } in
      let f = flag_written 0 h.strict (bytes_of "strict") (edition_text h.stated ++ last) past.strict begin in
      let strict : Flag = flag_at job 0 (line (bytes_of "strict")) in
      let s = stated_written strict.next h.stated last past.edition f.next in
      let edition : StatedAt = stated_at job strict.next in
      let p = flag_written edition.next h.pieces (bytes_of "pieces") rest past.pieces s.next in
      let pieces : Flag = flag_at job edition.next (line (bytes_of "pieces")) in
      record {
        head_is =
            ap₂ (λ (b : Bool) (d : Stated). record { strict = b; stated = d; pieces = pieces.on }) f.on_is s.stated_is
            ∙ ap (λ (b : Bool). record { strict = h.strict; stated = h.stated; pieces = b }) p.on_is;
        next = p.next;
      }

  -- ---- what is read is written

  -- a text at a place, and what is left after it
  record Split (at : ℕ) (text : List ℕ) (end : ℕ) : Type 0 where
    rest : drop at job ≡ text ++ drop end job
    inside : end ≤ length job

  split_none : (at : ℕ) → at ≤ length job → Split at [] at
  split_none at i = record { rest = refl; inside = i }

  split_word : (at : ℕ) (word : List ℕ) → at ≤ length job → begins word (drop at job) ≡ true → Split at word (at + length word)
  split_word at word i e =
      record {
        rest = begins_split word (drop at job) e ∙ ap (λ (l : List ℕ). word ++ l) (drop-drop (length word) at job);
        inside =
            ⊎_elim (λ (z : length word ≡ 0). omega arith) (λ (z : at + length word ≤ length job). z) (begins_inside word job at e);
      }

  flag_took : (at : ℕ) (words : List ℕ) → at ≤ length job
      → Split at (line_if (flag_at job at (line words)).on words) (flag_at job at (line words)).next
  flag_took at words i = go (bool_cases (begins (line words) (drop at job)))
    where
      go : (begins (line words) (drop at job) ≡ true) ⊎ (begins (line words) (drop at job) ≡ false)
          → Split at (line_if (flag_at job at (line words)).on words) (flag_at job at (line words)).next
      go (inl e) =
          subst (λ (f : Flag). Split at (line_if f.on words) f.next) (flag_if job at (line words) true e) (split_word at (line words) i e)
      go (inr e) = subst (λ (f : Flag). Split at (line_if f.on words) f.next) (flag_if job at (line words) false e) (split_none at i)

  stated_took : (at : ℕ) → at ≤ length job → Split at (edition_text (stated_at job at).stated) (stated_at job at).next
  unfolding edition_text
  stated_took at i = go (bool_cases (begins (first at) (drop at job))) (bool_cases (begins (second at) (drop at job)))
    where
      go : (begins (first at) (drop at job) ≡ true) ⊎ (begins (first at) (drop at job) ≡ false)
          → (begins (second at) (drop at job) ≡ true) ⊎ (begins (second at) (drop at job) ≡ false)
          → Split at (edition_text (stated_at job at).stated) (stated_at job at).next
      go (inl e) f = subst (λ (s : StatedAt). Split at (edition_text s.stated) s.next) (one_read at e) (split_word at (first at) i e)
      go (inr e) (inl f) =
          subst (λ (s : StatedAt). Split at (edition_text s.stated) s.next) (other_read at true e f) (split_word at (second at) i f)
      go (inr e) (inr f) = subst (λ (s : StatedAt). Split at (edition_text s.stated) s.next) (other_read at false e f) (split_none at i)

  pub head_text_lem : job ≡ headed (head_at job).head (drop (head_at job).next job)
  unfolding head_at strict_text pieces_text
  head_text_lem =
      let f = flag_took 0 (bytes_of "strict") (omega arith) in
      let strict : Flag = flag_at job 0 (line (bytes_of "strict")) in
      let s = stated_took strict.next f.inside in
      let edition : StatedAt = stated_at job strict.next in
      let p = flag_took edition.next (bytes_of "pieces") s.inside in
      f.rest
      ∙ ap (λ (l : List ℕ). line_if strict.on (bytes_of "strict") ++ l) (s.rest ∙ ap (λ (l : List ℕ). edition_text edition.stated ++ l) p.rest)
