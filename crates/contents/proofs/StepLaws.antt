-- The steps of reading the contents, by what is tested. Assumes nothing.
use Prim.Native.Nat.{ℕ, ◌+◌, ◌≤◌}
use mathlib.Core.Path.{◌≡◌, refl, sym, ◌∙◌, ap, ap₂}
use mathlib.Core.Bool.{Bool, true, false, cond}
use mathlib.Core.Logic.{⊎_elim}
use mathlib.Core.List.{List, [], ◌∷◌}
use native.Mathlib.Omega.{arith}
use lib.Dec.{eqb}
use lib.ListN.{length, drop}
use borrow.Author.Tests.{le-leb}
use Rattle.trees.specs.declared.Edition.TheVariants as edition
use Rattle.std.specs.Prelude.{Some, None, is_some}
use Rattle.std.specs.Option.{unwrap_or}
use Rattle.trees.specs.Refusals.{letter_of}
use Rattle.trees.specs.Words.{bytes_of}
use Rattle.contents.specs.declared.HeadAt.{HeadAt}
use Rattle.contents.specs.declared.StatedAt.{StatedAt}
use Rattle.contents.specs.declared.Table.{Table}
use Rattle.contents.specs.Contents.{BodyLength, Next, Digits, Flag, Listing, Placing}
use Rattle.contents.specs.Contents.{stated_of, stated_at, broken_line, Entry, begins, line, flag_at, head_at, word_after, number_at, counted, line_after}
use Rattle.contents.specs.Contents.{place_after, laid_out}
use Rattle.contents.proofs.BeginsLaws.{begins_inside}

-- a place after bytes that are there is a number of the machine
pub begins_room : (word text : List ℕ) (k most : ℕ) → begins word (drop k text) ≡ true → k ≤ most → length text ≤ most → k + length word ≤ most
begins_room word text k most e h l =
    ⊎_elim (λ (z : length word ≡ 0). omega arith) (λ (z : k + length word ≤ length text). omega arith) (begins_inside word text k e)

-- a line that a job may leave out, by the place after it
pub flag_told : (job : List ℕ) (at : ℕ) (word : List ℕ) (o : Next) → o ≡ word_after job (Some at) word
    → flag_at job at word ≡ record { on = is_some o; next = unwrap_or o at }
unfolding flag_at word_after
flag_told job at word o e = rw e (go (begins word (drop at job)))
  where
    go : (b : Bool) → ◌≡◌ {A = Flag} (record { on = b; next = cond b (at + length word) at })
        (record { on = is_some (cond b (Some (at + length word)) None); next = unwrap_or (cond b (Some (at + length word)) None) at })
    go true = refl
    go false = refl

pub flag_if : (job : List ℕ) (at : ℕ) (word : List ℕ) (b : Bool) → begins word (drop at job) ≡ b
    → ◌≡◌ {A = Flag} (record { on = b; next = cond b (at + length word) at }) (flag_at job at word)
unfolding flag_at
flag_if job at word b e = rw e refl

module _ (job word : List ℕ) (from : Next) where
  pub word_if : (at : ℕ) → from ≡ Some at → (b : Bool) → begins word (drop at job) ≡ b
      → cond b (Some (at + length word)) None ≡ word_after job from word
  unfolding word_after
  word_if at f b e = rw (f, e) refl

-- a line, by what is at the place
module _ (job : List ℕ) (from : Next) (e : Entry) where
  pub line_broken : from ≡ None → broken_line ≡ line_after job from e
  unfolding line_after
  line_broken f = rw f refl

  module _ (at : ℕ) (f : from ≡ Some at) (letter : ℕ) (l : letter ≡ letter_of e.body) where
    line_if_lem : (b : Bool) → begins (letter ∷ 32 ∷ []) (drop at job) ≡ b
        → cond b (counted job (number_at job (at + 2))) (record { listed = None; next = cond e.needed None (Some at) })
        ≡ line_after job from e
    unfolding line_after
    line_if_lem b h =
        let g : begins (letter_of e.body ∷ 32 ∷ []) (drop at job) ≡ b = ap (λ (k : ℕ). begins (k ∷ 32 ∷ []) (drop at job)) (sym l) ∙ h in
        rw (f, g) refl

    pub line_other : begins (letter ∷ 32 ∷ []) (drop at job) ≡ false → (b : Bool) → e.needed ≡ b
        → ◌≡◌ {A = Listing} (record { listed = None; next = cond b None (Some at) }) (line_after job from e)
    line_other h b n =
        ap (λ (x : Bool). record { listed = None; next = cond x None (Some at) }) (sym n) ∙ line_if_lem false h

    pub line_own : begins (letter ∷ 32 ∷ []) (drop at job) ≡ true → (d : Digits) → d ≡ number_at job (at + 2) → counted job d ≡ line_after job from e
    line_own h d n = ap (counted job) n ∙ line_if_lem true h

module _ (job : List ℕ) (d : Digits) where
  pub counted_value : (n at : ℕ) → d ≡ Some (record { value = n; next = at }) → (end : Next) → end ≡ word_after job (Some at) (line [])
      → ◌≡◌ {A = Listing} (record { listed = Some n; next = end }) (counted job d)
  unfolding counted
  counted_value n at e end h = rw (e, h) refl

module _ (job : List ℕ) (from : Next) (v : BodyLength) where
  module _ (at : ℕ) (f : from ≡ Some at) where
    pub place_none : v ≡ None → ◌≡◌ {A = Placing} (record { span = None; next = Some at }) (place_after job from v)
    unfolding place_after
    place_none e = rw (f, e) refl

    module _ (n : ℕ) (e : v ≡ Some n) where
      pub place_in : at + n ≤ length job → ◌≡◌ {A = Placing} (record { span = Some (record { at = at; len = n }); next = Some (at + n) }) (place_after job from v)
      unfolding place_after
      place_in h = rw (f, e, le-leb (at + n) (length job) h) refl

module _ (job : List ℕ) (t : Table) (from : Next) where
  pub laid_if : (at : ℕ) → from ≡ Some at → (b : Bool) → eqb at (length job) ≡ b
      → cond b (Some t) None ≡ laid_out job t from
  unfolding laid_out
  laid_if at f b e = rw (f, e) refl

stated_if : (one two : Flag) (a b : Bool) → one.on ≡ a → two.on ≡ b
    → cond a (record { stated = Some edition.One; next = one.next })
    (cond b (record { stated = Some edition.Two; next = two.next }) (record { stated = None; next = two.next }))
    ≡ stated_of one two
unfolding stated_of
stated_if one two a b e h = rw (e, h) refl

module _ (job : List ℕ) (at : ℕ) (one : Flag) (f : one ≡ flag_at job at (line (bytes_of "E 1"))) where
  pub stated_one : one.on ≡ true → ◌≡◌ {A = StatedAt} (record { stated = Some edition.One; next = one.next }) (stated_at job at)
  unfolding stated_at
  stated_one e =
      let two : Flag = flag_at job at (line (bytes_of "E 2")) in
      stated_if one two true two.on e refl ∙ ap (λ (x : Flag). stated_of x two) f

  pub stated_other : (two : Flag) → two ≡ flag_at job at (line (bytes_of "E 2")) → one.on ≡ false → (b : Bool) → two.on ≡ b
      → cond b (record { stated = Some edition.Two; next = two.next }) (record { stated = None; next = two.next }) ≡ stated_at job at
  unfolding stated_at
  stated_other two g e b h = stated_if one two false b e h ∙ ap₂ stated_of f g

-- the lines before those of the bodies
pub head_steps : (job : List ℕ) (a p : Next) (s : StatedAt) → a ≡ word_after job (Some 0) (line (bytes_of "strict"))
    → s ≡ stated_at job (unwrap_or a 0) → p ≡ word_after job (Some s.next) (line (bytes_of "pieces"))
    → ◌≡◌ {A = HeadAt} (record { head = record { strict = is_some a; stated = s.stated; pieces = is_some p }; next = unwrap_or p s.next }) (head_at job)
unfolding head_at
head_steps job a p s ea es ep =
    let pieces : ℕ → Flag = λ (at : ℕ). flag_at job at (line (bytes_of "pieces")) in
    let with_edition : Flag → StatedAt → HeadAt =
    λ (f : Flag) (d : StatedAt). record { head = record { strict = f.on; stated = d.stated; pieces = (pieces d.next).on }; next = (pieces d.next).next } in
    let strict : Flag = record { on = is_some a; next = unwrap_or a 0 } in
    sym (ap (λ (f : Flag). record { head = record { strict = is_some a; stated = s.stated; pieces = f.on }; next = f.next })
    (flag_told job s.next (line (bytes_of "pieces")) p ep))
    ∙ ap (with_edition strict) es
    ∙ sym (ap (λ (f : Flag). with_edition f (stated_at job f.next)) (flag_told job 0 (line (bytes_of "strict")) a ea))
