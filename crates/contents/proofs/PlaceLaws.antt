-- Places of a job: what stands there is read, and what is read stands there. Assumes nothing.
use Prim.Native.Nat.{ℕ, ◌+◌, ◌^◌, ◌≤◌, ◌<◌}
use mathlib.Core.Path.{◌≡◌, refl, sym, ◌∙◌, ap, ap₂, subst}
use mathlib.Core.Bool.{Bool, true, false, cond}
use mathlib.Core.Logic.{◌⊎◌, inl, inr, ⊎_elim}
use mathlib.Core.List.{List, [], ◌∷◌, ◌++◌, append_assoc}
use native.Mathlib.Omega.{arith}
use lib.ListN.{length, drop, length-append, length-drop}
use lib.Seq.{drop-append_seam, drop-drop}
use Rattle.std.specs.Prelude.{Some, None}
use Rattle.trees.specs.Refusals.{letter_of}
use Rattle.trees.proofs.Bools.{bool_cases}
use Rattle.decimals.specs.Decimal.{decimal_of}
use Rattle.contents.specs.Contents.{BodyLength, Next, Digits, Listing}
use Rattle.contents.specs.Contents.{digit_limit, Entry, line, entry_line, listed_text, lined, FitsLine, FitsEntries, begins, number_at}
use Rattle.contents.specs.Contents.{word_after, counted, line_after, sizes_after, lines_after}
use Rattle.contents.proofs.BeginsLaws.{begins_own, begins_split, begins_inside, among, Opens, opens_more, opens_own, opens_other}
use Rattle.contents.proofs.NumberLaws.{number_written, number_took}
use Rattle.contents.proofs.StepLaws.{word_if, line_broken, line_other, line_own, counted_value}

pub not_broken : {at : ℕ} → None ≡ Some at → ⊥
not_broken e = let z : ◌≡◌ {A = ℕ} 0 1 = cc in omega arith

module _ (job : List ℕ) where
  -- reading has come to a place of the job, and this text is what is left
  pub record Here (from : Next) (text : List ℕ) : Type 0 where
    pub at : ℕ
    pub is : from ≡ Some at
    pub rest : drop at job ≡ text
    pub inside : at ≤ length job

  -- reading that came to a place has come from one with this text
  pub record Took (from : Next) (text : List ℕ) (end : ℕ) : Type 0 where
    pub at : ℕ
    pub is : from ≡ Some at
    pub rest : drop at job ≡ text
    pub inside : at ≤ length job → end ≤ length job

  -- ---- what is written is read

  module _ (at : ℕ) (word rest : List ℕ) (e : drop at job ≡ word ++ rest) where
    pub rest_past : drop (at + length word) job ≡ rest
    rest_past = sym (drop-drop (length word) at job) ∙ ap (drop (length word)) e ∙ drop-append_seam word rest

    pub inside_past : at ≤ length job → at + length word ≤ length job
    inside_past h = omega (arith, ap (length {A = ℕ}) e, length-append word rest, length-drop at job)

  pub word_written : (word rest : List ℕ) (from : Next) → Here from (word ++ rest) → Here (word_after job from word) rest
  word_written word rest from h =
      subst (λ (n : Next). Here n rest)
      (word_if job word from h.at h.is true (ap (begins word) h.rest ∙ begins_own word rest))
      (record {
        at = h.at + length word;
        is = refl;
        rest = rest_past h.at word rest h.rest;
        inside = inside_past h.at word rest h.rest h.inside;
      })

  -- the line of a body, and what follows it
  pub record LineIs (from : Next) (e : Entry) (v : BodyLength) (rest : List ℕ) : Type 0 where
    pub listed : (line_after job from e).listed ≡ v
    pub next : Here (line_after job from e).next rest

  line_is : (from : Next) (e : Entry) (v : BodyLength) (rest : List ℕ) (l : Listing) → l ≡ line_after job from e → l.listed ≡ v → Here l.next rest
      → LineIs from e v rest
  line_is from e v rest l i a h = record { listed = ap (λ (x : Listing). x.listed) (sym i) ∙ a; next = subst (λ (x : Listing). Here x.next rest) i h }

  pub entry_written : (from : Next) (e : Entry) (n : ℕ) (rest : List ℕ) → n < 10 ^ digit_limit → Here from (entry_line e.body n ++ rest)
      → LineIs from e (Some n) rest
  unfolding entry_line line
  entry_written from e n rest small h =
      let opening : List ℕ = letter_of e.body ∷ 32 ∷ [] in
      let after : List ℕ = decimal_of n ++ (10 ∷ rest) in
      let text : drop h.at job ≡ opening ++ after =
      h.rest ∙ ap (λ (l : List ℕ). opening ++ l) (append_assoc (decimal_of n) (10 ∷ []) rest) in
      let two : drop (h.at + 2) job ≡ after = rest_past h.at opening after text in
      let number = number_written job (h.at + 2) n rest small two in
      let last : ℕ = h.at + 2 + length (decimal_of n) in
      line_is from e (Some n) rest
      (record { listed = Some n; next = word_after job (Some last) (10 ∷ []) })
      (counted_value job (number_at job (h.at + 2)) n last number (word_after job (Some last) (10 ∷ [])) refl
      ∙ line_own job from e h.at h.is (letter_of e.body) refl (ap (begins opening) text ∙ begins_own opening after)
      (number_at job (h.at + 2)) refl)
      refl
      (word_written (10 ∷ []) rest (Some last)
      (record {
        at = last;
        is = refl;
        rest = rest_past (h.at + 2) (decimal_of n) (10 ∷ rest) two;
        inside = inside_past (h.at + 2) (decimal_of n) (10 ∷ rest) two (inside_past h.at opening after text h.inside);
      }))

  lack_written : (from : Next) (e : Entry) (rest : List ℕ) → e.needed ≡ false → begins (letter_of e.body ∷ 32 ∷ []) rest ≡ false → Here from rest
      → LineIs from e None rest
  lack_written from e rest needed other h =
      line_is from e None rest (record { listed = None; next = Some h.at })
      (line_other job from e h.at h.is (letter_of e.body) refl (ap (begins (letter_of e.body ∷ 32 ∷ [])) h.rest ∙ other) false needed)
      refl (record { at = h.at; is = refl; rest = h.rest; inside = h.inside })

-- the letters of the lines, and that each is another than those that may follow
abbrev pub letters : List Entry → List ℕ → List ℕ
letters [] bs = bs
letters (e ∷ es) bs = letter_of e.body ∷ letters es bs

abbrev pub Apart : List Entry → List ℕ → Type 0
Apart [] bs = Prim.Unit {0}
Apart (e ∷ es) bs = (among (letter_of e.body) (letters es bs) ≡ false) × Apart es bs

pub opens_lined : (es : List Entry) (vs : List BodyLength) (rest bs : List ℕ) → FitsEntries es vs → Opens bs rest → Opens (letters es bs) (lined es vs rest)
unfolding listed_text entry_line line
opens_lined [] [] rest bs f o = o
opens_lined [] (v ∷ vs) rest bs f o = absurd f
opens_lined (e ∷ es) [] rest bs f o = absurd f
opens_lined (e ∷ es) (None ∷ vs) rest bs f o =
    opens_more (letter_of e.body) (letters es bs) (lined es vs rest) (opens_lined es vs rest bs f.1 o)
opens_lined (e ∷ es) (Some n ∷ vs) rest bs f o = opens_own (letter_of e.body) (letters es bs) []

module _ (job : List ℕ) where
  -- the lines of the bodies, and what follows them
  pub record LinesAre (from : Next) (es : List Entry) (vs : List BodyLength) (rest : List ℕ) : Type 0 where
    pub listed : sizes_after job from es ≡ vs
    pub next : Here job (lines_after job from es) rest

  more_lines : (from : Next) (e : Entry) (es : List Entry) (v : BodyLength) (vs : List BodyLength) (mid rest : List ℕ) → LineIs job from e v mid
      → LinesAre (line_after job from e).next es vs rest → LinesAre from (e ∷ es) (v ∷ vs) rest
  unfolding sizes_after lines_after
  more_lines from e es v vs mid rest l w =
      record { listed = ap₂ (λ (x : BodyLength) (xs : List BodyLength). x ∷ xs) l.listed w.listed; next = w.next }

  pub lines_written : (es : List Entry) (vs : List BodyLength) (rest bs : List ℕ) (from : Next) → FitsEntries es vs → Apart es bs → Opens bs rest
      → Here job from (lined es vs rest) → LinesAre from es vs rest
  unfolding sizes_after lines_after listed_text
  lines_written [] [] rest bs from f a o h = record { listed = refl; next = h }
  lines_written [] (v ∷ vs) rest bs from f a o h = absurd f
  lines_written (e ∷ es) [] rest bs from f a o h = absurd f
  lines_written (e ∷ es) (None ∷ vs) rest bs from f a o h =
      let l = lack_written job from e (lined es vs rest) f.0
      (opens_other (letter_of e.body) (32 ∷ []) (lined es vs rest) (letters es bs) (opens_lined es vs rest bs f.1 o) a.0) h in
      more_lines from e es None vs (lined es vs rest) rest l
      (lines_written es vs rest bs (line_after job from e).next f.1 a.1 o l.next)
  lines_written (e ∷ es) (Some n ∷ vs) rest bs from f a o h =
      let l = entry_written job from e n (lined es vs rest) f.0 h in
      more_lines from e es (Some n) vs (lined es vs rest) rest l
      (lines_written es vs rest bs (line_after job from e).next f.1 a.1 o l.next)

  -- ---- what is read is written

  pub word_took : (word : List ℕ) (from : Next) (end : ℕ) → word_after job from word ≡ Some end → Took job from (word ++ drop end job) end
  unfolding word_after
  word_took word None end h = absurd (not_broken h)
  word_took word (Some at) end h = go (bool_cases (begins word (drop at job)))
    where
      go : (begins word (drop at job) ≡ true) ⊎ (begins word (drop at job) ≡ false) → Took job (Some at) (word ++ drop end job) end
      go (inr e) = absurd (not_broken (rw e at h))
      go (inl e) =
          let g : Some (at + length word) ≡ Some end = rw e at h in
          let p : at + length word ≡ end = cc in
          record {
            at = at;
            is = refl;
            rest =
                begins_split word (drop at job) e
                ∙ ap (λ (l : List ℕ). word ++ l) (drop-drop (length word) at job ∙ ap (λ (n : ℕ). drop n job) p);
            inside = λ (i : at ≤ length job).
                ⊎_elim (λ (z : length word ≡ 0). omega (arith, p, i, z)) (λ (z : at + length word ≤ length job). omega (arith, p, z)) (begins_inside word job at e);
          }

  -- a line that was read
  pub record LineTook (from : Next) (e : Entry) (v : BodyLength) (end : ℕ) : Type 0 where
    pub text : Took job from (listed_text e.body v ++ drop end job) end
    pub fits : FitsLine e v

  module _ (e : Entry) (at end : ℕ) where
    abbrev LineTold : Listing → Type 0
    LineTold l = l.next ≡ Some end → LineTook (Some at) e l.listed end

    lacking_took : (b : Bool) → e.needed ≡ b → LineTold (record { listed = None; next = cond b None (Some at) })
    unfolding listed_text
    lacking_took true n h = absurd (not_broken h)
    lacking_took false n h =
        let p : at ≡ end = cc in
        record { text = record { at = at; is = refl; rest = ap (λ (k : ℕ). drop k job) p; inside = λ i. omega (arith, p, i) }; fits = n }

    counted_took : begins (letter_of e.body ∷ 32 ∷ []) (drop at job) ≡ true → (d : Digits) → number_at job (at + 2) ≡ d → LineTold (counted job d)
    unfolding counted listed_text entry_line line
    counted_took b None n h = absurd (not_broken h)
    counted_took b (Some d) n h =
        let m : ℕ = d.value in
        let after : ℕ = d.next in
        let opening : List ℕ = letter_of e.body ∷ 32 ∷ [] in
        let w = word_took (10 ∷ []) (Some after) end h in
        let same : after ≡ w.at = let g = w.is in cc in
        let t = number_took job (at + 2) m after n in
        let text : drop at job ≡ opening ++ (decimal_of m ++ (10 ∷ drop end job)) =
        begins_split opening (drop at job) b
        ∙ ap (λ (l : List ℕ). opening ++ l)
        (drop-drop 2 at job ∙ t.text ∙ ap (λ (l : List ℕ). decimal_of m ++ l) (ap (λ (k : ℕ). drop k job) same ∙ w.rest)) in
        record {
          text =
              record {
                at = at;
                is = refl;
                rest = text ∙ ap (λ (l : List ℕ). opening ++ l) (sym (append_assoc (decimal_of m) (10 ∷ []) (drop end job)));
                inside = λ i. w.inside (omega (arith, ap (length {A = ℕ}) w.rest, length-drop w.at job));
              };
          fits = t.small;
        }

  pub line_took : (e : Entry) (from : Next) (end : ℕ) → (line_after job from e).next ≡ Some end → LineTook from e (line_after job from e).listed end
  line_took e None end h =
      absurd (not_broken (ap (λ (l : Listing). l.next) (line_broken job None e refl) ∙ h))
  line_took e (Some at) end h = go (bool_cases (begins (letter_of e.body ∷ 32 ∷ []) (drop at job))) h
    where
      go : (begins (letter_of e.body ∷ 32 ∷ []) (drop at job) ≡ true) ⊎ (begins (letter_of e.body ∷ 32 ∷ []) (drop at job) ≡ false)
          → LineTold e at end (line_after job (Some at) e)
      go (inl b) =
          subst (LineTold e at end) (line_own job (Some at) e at refl (letter_of e.body) refl b (number_at job (at + 2)) refl)
          (counted_took e at end b (number_at job (at + 2)) refl)
      go (inr b) =
          subst (LineTold e at end) (line_other job (Some at) e at refl (letter_of e.body) refl b e.needed refl)
          (lacking_took e at end e.needed refl)

  -- the lines that were read
  pub record LinesTook (from : Next) (es : List Entry) (end : ℕ) : Type 0 where
    pub text : Took job from (lined es (sizes_after job from es) (drop end job)) end
    pub fits : FitsEntries es (sizes_after job from es)

  pub lines_took : (es : List Entry) (from : Next) (end : ℕ) → lines_after job from es ≡ Some end → LinesTook from es end
  unfolding sizes_after lines_after
  lines_took [] from end h = record { text = record { at = end; is = h; rest = refl; inside = λ i. i }; fits = tt }
  lines_took (e ∷ es) from end h =
      let more = lines_took es (line_after job from e).next end h in
      let l = line_took e from more.text.at more.text.is in
      record {
        text =
            record {
              at = l.text.at;
              is = l.text.is;
              rest = l.text.rest ∙ ap (λ (x : List ℕ). listed_text e.body (line_after job from e).listed ++ x) more.text.rest;
              inside = λ i. more.text.inside (l.text.inside i);
            };
        fits = (l.fits, more.fits);
      }
