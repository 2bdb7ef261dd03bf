-- Bodies one after another in a job, by their lengths. Assumes nothing.
use Prim.Native.Nat.{ℕ, ◌+◌, ◌≤◌}
use mathlib.Core.Path.{◌≡◌, refl, sym, ◌∙◌, ap, ap₂, subst}
use mathlib.Core.Bool.{Bool, true, false, cond}
use mathlib.Core.Logic.{◌⊎◌, inl, inr}
use mathlib.Core.List.{List, [], ◌∷◌, ◌++◌, map}
use mathlib.Core.Option.{Option, some, none}
use native.Mathlib.Omega.{arith}
use lib.Dec.{eqb, leb}
use lib.ListN.{length, take, drop, length-append, length-drop, length-take, take-append-drop}
use lib.Seq.{take-append_seam, drop-drop}
use borrow.Author.Tests.{le-leb, leb-true}
use Rattle.std.specs.Prelude.{Some, None}
use Rattle.trees.specs.declared.Body.{Body}
use Rattle.trees.specs.Refusals.{letter_of}
use Rattle.trees.specs.Stored.{part_of}
use Rattle.trees.specs.Words.{Within}
use Rattle.trees.proofs.Bools.{bool_cases}
use Rattle.contents.specs.Contents.{BodyLength, BodySpan, Next, Placing}
use Rattle.contents.specs.Contents.{Entry, lookup, bytes, listed_of, joined_parts, place_after, spans_after, bodies_after, span_in, place_of, spans_from}
use Rattle.contents.proofs.PlaceLaws.{Here, Took, rest_past, inside_past, not_broken}
use Rattle.contents.proofs.StepLaws.{place_none, place_in}

module _ (job : List ℕ) where
  part_in : (at n : ℕ) → at + n ≤ length job → part_of at n job ≡ take n (drop at job)
  unfolding part_of
  part_in at n h = rw (le-leb (at + n) (length job) h) refl

  -- ---- what is written is read

  pub record SpansAre (from : Next) (ps : List (Option (List ℕ))) (at : ℕ) : Type 0 where
    pub parts : map (span_in job) (spans_after job from (map listed_of ps)) ≡ ps
    pub spans : spans_after job from (map listed_of ps) ≡ spans_from at (map listed_of ps)
    pub next : Here job (bodies_after job from (map listed_of ps)) []

  -- one body, then the others
  more_spans : (from : Next) (p : Option (List ℕ)) (ps : List (Option (List ℕ))) (l : Placing) → l ≡ place_after job from (listed_of p) → span_in job l.span ≡ p
      → (at after : ℕ) → l.span ∷ spans_from after (map listed_of ps) ≡ spans_from at (map listed_of (p ∷ ps)) → SpansAre l.next ps after
      → SpansAre from (p ∷ ps) at
  unfolding spans_after bodies_after
  more_spans from p ps l e is at after s w =
      record {
        parts =
            ap (λ (x : Placing). span_in job x.span ∷ map (span_in job) (spans_after job x.next (map listed_of ps))) (sym e)
            ∙ ap₂ (λ (x : Option (List ℕ)) (xs : List (Option (List ℕ))). x ∷ xs) is w.parts;
        spans =
            ap (λ (x : Placing). x.span ∷ spans_after job x.next (map listed_of ps)) (sym e)
            ∙ ap (λ (xs : List BodySpan). l.span ∷ xs) w.spans
            ∙ s;
        next = subst (λ (x : Placing). Here job (bodies_after job x.next (map listed_of ps)) []) e w.next;
      }

  pub spans_written : (ps : List (Option (List ℕ))) (from : Next) (h : Here job from (joined_parts ps)) → SpansAre from ps h.at
  unfolding joined_parts spans_after bodies_after spans_from span_in
  spans_written [] from h = record { parts = refl; spans = refl; next = h }
  spans_written (none ∷ ps) from h =
      more_spans from none ps (record { span = None; next = Some h.at }) (place_none job from None h.at h.is refl) refl
      h.at h.at refl
      (spans_written ps (Some h.at) (record { at = h.at; is = refl; rest = h.rest; inside = h.inside }))
  spans_written (some x ∷ ps) from h =
      let fits : h.at + length x ≤ length job = inside_past job h.at x (joined_parts ps) h.rest h.inside in
      more_spans from (some x) ps (record { span = Some (record { at = h.at; len = (length x) }); next = Some (h.at + length x) })
      (place_in job from (Some (length x)) h.at h.is (length x) refl fits)
      (ap (λ (l : List ℕ). some l) (part_in h.at (length x) fits ∙ ap (take (length x)) h.rest ∙ take-append_seam x (joined_parts ps)))
      h.at (h.at + length x) refl
      (spans_written ps (Some (h.at + length x))
      (record { at = h.at + length x; is = refl; rest = rest_past job h.at x (joined_parts ps) h.rest; inside = fits }))

  -- ---- what is read is written

  -- a body in the job
  abbrev pub Inside : BodySpan → Type 0
  Inside None = Prim.Unit {0}
  Inside (Some s) = s.at + s.len ≤ length job

  abbrev pub AllInside : List BodySpan → Type 0
  AllInside [] = Prim.Unit {0}
  AllInside (s ∷ ss) = Inside s × AllInside ss

  -- one body that was read
  record PlaceTook (from : Next) (v : BodyLength) (s : BodySpan) (end : ℕ) : Type 0 where
    text : Took job from (bytes (span_in job s) ++ drop end job) end
    size : listed_of (span_in job s) ≡ v
    inside : Inside s

  place_took : (from : Next) (v : BodyLength) (end : ℕ) → (place_after job from v).next ≡ Some end
      → PlaceTook from v (place_after job from v).span end
  unfolding place_after span_in
  place_took None v end h = absurd (not_broken h)
  place_took (Some at) None end h =
      let p : at ≡ end = cc in
      record {
        text = record { at = at; is = refl; rest = ap (λ (k : ℕ). drop k job) p; inside = λ i. omega (arith, p, i) };
        size = refl;
        inside = tt;
      }
  place_took (Some at) (Some n) end h = go (bool_cases (leb (at + n) (length job)))
    where
      go : (leb (at + n) (length job) ≡ true) ⊎ (leb (at + n) (length job) ≡ false)
          → PlaceTook (Some at) (Some n) (place_after job (Some at) (Some n)).span end
      go (inr e) = absurd (not_broken (rw e at h))
      go (inl e) =
          let fits = leb-true (at + n) (length job) e in
          let g : Some (at + n) ≡ Some end = rw e at h in
          let p : at + n ≡ end = cc in
          let part = part_in at n fits in
          let size : length (take n (drop at job)) ≡ n = omega (arith, fits, length-take n (drop at job), length-drop at job) in
          rw e (record {
            text =
                record {
                  at = at;
                  is = refl;
                  rest =
                      sym (take-append-drop n (drop at job))
                      ∙ ap₂ (λ (x y : List ℕ). x ++ y) (sym part) (drop-drop n at job ∙ ap (λ (k : ℕ). drop k job) p);
                  inside = λ i. omega (arith, p, fits);
                };
            size = ap (λ (l : List ℕ). Some (length l)) part ∙ ap (λ (k : ℕ). Some k) size;
            inside = fits;
          })

  pub record SpansTook (from : Next) (vs : List BodyLength) (end : ℕ) : Type 0 where
    pub text : Took job from (joined_parts (map (span_in job) (spans_after job from vs))) end
    pub sizes : map listed_of (map (span_in job) (spans_after job from vs)) ≡ vs
    pub inside : AllInside (spans_after job from vs)

  pub spans_took : (vs : List BodyLength) (from : Next) (end : ℕ) → bodies_after job from vs ≡ Some end → drop end job ≡ [] → SpansTook from vs end
  unfolding joined_parts spans_after bodies_after
  spans_took [] from end h e = record { text = record { at = end; is = h; rest = e; inside = λ i. i }; sizes = refl; inside = tt }
  spans_took (v ∷ vs) from end h e =
      let more = spans_took vs (place_after job from v).next end h e in
      let p = place_took from v more.text.at more.text.is in
      record {
        text =
            record {
              at = p.text.at;
              is = p.text.is;
              rest = p.text.rest ∙ ap (λ (x : List ℕ). bytes (span_in job (place_after job from v).span) ++ x) more.text.rest;
              inside = λ i. more.text.inside (p.text.inside i);
            };
        sizes = ap₂ (λ (x : BodyLength) (xs : List BodyLength). x ∷ xs) p.size more.sizes;
        inside = (p.inside, more.inside);
      }

  -- ---- by body

  pub lookup_part : (body : Body) (es : List Entry) (ss : List BodySpan)
      → lookup none body es (map (span_in job) ss) ≡ span_in job (lookup None body es ss)
  unfolding lookup span_in
  lookup_part body [] ss = refl
  lookup_part body (e ∷ es) [] = refl
  lookup_part body (e ∷ es) (s ∷ ss) = go (eqb (letter_of e.body) (letter_of body)) (lookup_part body es ss)
    where
      go : (b : Bool) → lookup none body es (map (span_in job) ss) ≡ span_in job (lookup None body es ss)
          → cond b (span_in job s) (lookup none body es (map (span_in job) ss)) ≡ span_in job (cond b s (lookup None body es ss))
      go true w = refl
      go false w = w

  pub lookup_inside : (body : Body) (es : List Entry) (ss : List BodySpan) → AllInside ss → Inside (lookup None body es ss)
  unfolding lookup
  lookup_inside body [] ss w = tt
  lookup_inside body (e ∷ es) [] w = tt
  lookup_inside body (e ∷ es) (s ∷ ss) w = go (eqb (letter_of e.body) (letter_of body)) (lookup_inside body es ss w.1)
    where
      go : (b : Bool) → Inside (lookup None body es ss) → Inside (cond b s (lookup None body es ss))
      go true i = w.0
      go false i = i

  -- its bytes are there
  pub span_within : (s : BodySpan) → Inside s → Within job (place_of s) (bytes (span_in job s))
  unfolding span_in place_of
  span_within None i = record { before = []; after = job; is = refl; place = refl }
  span_within (Some s) i =
      let at : ℕ = s.at in
      let n : ℕ = s.len in
      subst (Within job at) (sym (part_in at n i))
      (record {
        before = take at job;
        after = drop n (drop at job);
        is = sym (take-append-drop at job) ∙ ap (λ (l : List ℕ). take at job ++ l) (sym (take-append-drop n (drop at job)));
        place = omega (arith, i, length-take at job);
      })

  pub span_ends : (s : BodySpan) → Inside s → place_of s + length (bytes (span_in job s)) ≤ length job
  span_ends s i =
      let w = span_within s i in
      omega (
        arith,
        w.place,
        ap (length {A = ℕ}) w.is,
        length-append w.before (bytes (span_in job s) ++ w.after),
        length-append (bytes (span_in job s)) w.after,
      )
