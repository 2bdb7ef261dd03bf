-- The layout of a job, step by step: each step is the next one's place, or the end. Assumes nothing.
use Prim.Native.Nat.{ℕ}
use mathlib.Core.Path.{◌≡◌, refl, sym, ap}
use mathlib.Core.Bool.{Bool, true, false, cond}
use mathlib.Core.List.{List, [], ◌∷◌}
use lib.Dec.{eqb}
use lib.ListN.{length}
use Rattle.std.specs.Prelude as std
use Rattle.std.specs.Prelude.{Some, None, option_map, option_and_then}
use Rattle.trees.specs.declared.Body.TheVariants.{S, T, K, C}
use Rattle.trees.specs.Refusals.{letter_of}
use Rattle.contents.specs.declared.Head.{Head}
use Rattle.contents.specs.declared.Line.{Line}
use Rattle.contents.specs.declared.Placed.{Placed}
use Rattle.contents.specs.Contents.{BodyLength, BodySpan, Next, Layout, Listing, Placing, always, perhaps, entries, lookup, line, claim_allowed, compatible}
use Rattle.contents.specs.Contents.{head_at, word_after, line_after, line_of, sizes_after, lines_after, place_after, placed_of, spans_after, bodies_after}
use Rattle.contents.specs.Contents.{table_of, laid_out, layout_of}

infixl 10 ◌>>=◌
abbrev pub ◌>>=◌ : {A B : Type 0} → std.Option A → (A → std.Option B) → std.Option B
o >>= f = option_and_then f o

-- the steps of `bodies_at`
unfoldable pub bodies_of_lengths : List ℕ → Head → (first second list claim : BodyLength) → ℕ → Layout
bodies_of_lengths job head first second list claim at = do
  s ← placed_of (place_after job (Some at) first)
  t ← placed_of (place_after job (Some s.next) second)
  k ← placed_of (place_after job (Some t.next) list)
  c ← placed_of (place_after job (Some k.next) claim)
  cond (eqb c.next (length job)) (Some (record { head = head; first = s.span; second = t.span; list = k.span; claim = c.span })) None

-- the layout by bodies of these lengths
abbrev pub laid : List ℕ → Head → List BodyLength → Next → Layout
laid job h vs from = laid_out job (table_of h (spans_after job from vs)) (bodies_after job from vs)

-- the steps of `contents`
unfoldable pub contents_of : List ℕ → Layout
contents_of job = do
  first ← line_of (line_after job (Some (head_at job).next) (always S))
  second ← line_of (line_after job (Some first.next) (always T))
  list ← line_of (line_after job (Some second.next) (always K))
  claim ← line_of (line_after job (Some list.next) (perhaps C))
  cond (claim_allowed (head_at job).head claim.listed) (do
    begin ← word_after job (Some claim.next) (line [])
    laid job (head_at job).head (first.listed ∷ second.listed ∷ list.listed ∷ claim.listed ∷ []) (Some begin)) None

-- a step that fails ends all
line_step : (l : Listing) (f : Line → Layout) (r : Listing → Layout) → ((v : BodyLength) → r (record { listed = v; next = None }) ≡ None)
    → ((x : Line) → f x ≡ r (record { listed = x.listed; next = Some x.next })) → (line_of l >>= f) ≡ r l
unfolding line_of
line_step l f r fails goes = go l.next
  where
    go : (n : Next) → (option_map (λ (k : ℕ). record { listed = l.listed; next = k }) n >>= f) ≡ r (record { listed = l.listed; next = n })
    go None = sym (fails l.listed)
    go (Some k) = goes (record { listed = l.listed; next = k })

place_step : (p : Placing) (f : Placed → Layout) (r : Placing → Layout) → ((s : BodySpan) → r (record { span = s; next = None }) ≡ None)
    → ((x : Placed) → f x ≡ r (record { span = x.span; next = Some x.next })) → (placed_of p >>= f) ≡ r p
unfolding placed_of
place_step p f r fails goes = go p.next
  where
    go : (n : Next) → (option_map (λ (k : ℕ). record { span = p.span; next = k }) n >>= f) ≡ r (record { span = p.span; next = n })
    go None = sym (fails p.span)
    go (Some k) = goes (record { span = p.span; next = k })

word_step : (o : Next) (f : ℕ → Layout) (r : Next → Layout) → r None ≡ None → ((n : ℕ) → f n ≡ r (Some n)) → (o >>= f) ≡ r o
word_step None f r fails goes = sym fails
word_step (Some n) f r fails goes = goes n

pub either_way : (b : Bool) → ◌≡◌ {A = Layout} (cond b None None) None
either_way true = refl
either_way false = refl

-- from each body on, as the steps go (`c`) and as the layout does (`r`)
module _ (job : List ℕ) (h : Head) (f g k c : BodyLength) where
  abbrev lift : Placed → Placing
  lift x = record { span = x.span; next = Some x.next }

  abbrev c4 : (s t q r : Placed) → Layout
  c4 s t q r = cond (eqb r.next (length job)) (Some (record { head = h; first = s.span; second = t.span; list = q.span; claim = r.span })) None

  abbrev c3 : (s t q : Placed) → Layout
  c3 s t q = placed_of (place_after job (Some q.next) c) >>= c4 s t q

  abbrev c2 : (s t : Placed) → Layout
  c2 s t = placed_of (place_after job (Some t.next) k) >>= c3 s t

  abbrev c1 : Placed → Layout
  c1 s = placed_of (place_after job (Some s.next) g) >>= c2 s

  abbrev r4 : (s t q r : Placing) → Layout
  r4 s t q r = laid_out job (record { head = h; first = s.span; second = t.span; list = q.span; claim = r.span }) r.next

  abbrev r3 : (s t q : Placing) → Layout
  r3 s t q = r4 s t q (place_after job q.next c)

  abbrev r2 : (s t : Placing) → Layout
  r2 s t = r3 s t (place_after job t.next k)

  abbrev r1 : Placing → Layout
  r1 s = r2 s (place_after job s.next g)

  s3 : (s t q : Placed) → c3 s t q ≡ r3 (lift s) (lift t) (lift q)
  unfolding laid_out
  s3 s t q = place_step (place_after job (Some q.next) c) (c4 s t q) (r4 (lift s) (lift t) (lift q)) (λ v. refl) (λ r. refl)

  s2 : (s t : Placed) → c2 s t ≡ r2 (lift s) (lift t)
  unfolding place_after laid_out
  s2 s t = place_step (place_after job (Some t.next) k) (c3 s t) (r3 (lift s) (lift t)) (λ v. refl) (s3 s t)

  s1 : (s : Placed) → c1 s ≡ r1 (lift s)
  unfolding place_after laid_out
  s1 s = place_step (place_after job (Some s.next) g) (c2 s) (r2 (lift s)) (λ v. refl) (s2 s)

  pub bodies_steps : (at : ℕ) → laid job h (f ∷ g ∷ k ∷ c ∷ []) (Some at) ≡ bodies_of_lengths job h f g k c at
  unfolding bodies_of_lengths spans_after bodies_after place_after laid_out
  bodies_steps at = sym (place_step (place_after job (Some at) f) c1 r1 (λ v. refl) s1)

-- and from each line on
module _ (job : List ℕ) (h : Head) where
  abbrev lift_line : Line → Listing
  lift_line x = record { listed = x.listed; next = Some x.next }

  abbrev from_place : (f g k c : BodyLength) → Next → Layout
  from_place f g k c b = laid job h (f ∷ g ∷ k ∷ c ∷ []) b

  abbrev d4 : (f g k c : Line) → Layout
  d4 f g k c =
      cond (claim_allowed h c.listed) (word_after job (Some c.next) (line []) >>= (λ (n : ℕ). from_place f.listed g.listed k.listed c.listed (Some n))) None

  abbrev d3 : (f g k : Line) → Layout
  d3 f g k = line_of (line_after job (Some k.next) (perhaps C)) >>= d4 f g k

  abbrev d2 : (f g : Line) → Layout
  d2 f g = line_of (line_after job (Some g.next) (always K)) >>= d3 f g

  abbrev d1 : Line → Layout
  d1 f = line_of (line_after job (Some f.next) (always T)) >>= d2 f

  abbrev q4 : (f g k c : Listing) → Layout
  q4 f g k c = cond (claim_allowed h c.listed) (from_place f.listed g.listed k.listed c.listed (word_after job c.next (line []))) None

  abbrev q3 : (f g k : Listing) → Layout
  q3 f g k = q4 f g k (line_after job k.next (perhaps C))

  abbrev q2 : (f g : Listing) → Layout
  q2 f g = q3 f g (line_after job g.next (always K))

  abbrev pub q1 : Listing → Layout
  q1 f = q2 f (line_after job f.next (always T))

  t4 : (f g k c : Line) → d4 f g k c ≡ q4 (lift_line f) (lift_line g) (lift_line k) (lift_line c)
  unfolding spans_after bodies_after place_after laid_out
  t4 f g k c =
      ap (λ (w : Layout). cond (claim_allowed h c.listed) w None)
      (word_step (word_after job (Some c.next) (line [])) _ (from_place f.listed g.listed k.listed c.listed) refl (λ n. refl))

  t3 : (f g k : Line) → d3 f g k ≡ q3 (lift_line f) (lift_line g) (lift_line k)
  unfolding word_after spans_after bodies_after place_after laid_out
  t3 f g k =
      line_step (line_after job (Some k.next) (perhaps C)) (d4 f g k) (q4 (lift_line f) (lift_line g) (lift_line k)) (λ v. either_way (claim_allowed h v)) (t4 f g k)

  t2 : (f g : Line) → d2 f g ≡ q2 (lift_line f) (lift_line g)
  unfolding line_after word_after spans_after bodies_after place_after laid_out
  t2 f g =
      line_step (line_after job (Some g.next) (always K)) (d3 f g) (q3 (lift_line f) (lift_line g)) (λ v. either_way (claim_allowed h None)) (t3 f g)

  t1 : (f : Line) → d1 f ≡ q1 (lift_line f)
  unfolding line_after word_after spans_after bodies_after place_after laid_out
  t1 f =
      line_step (line_after job (Some f.next) (always T)) (d2 f) (q2 (lift_line f)) (λ v. either_way (claim_allowed h None)) (t2 f)

  pub lines_steps : (at : ℕ) → (line_of (line_after job (Some at) (always S)) >>= d1) ≡ q1 (line_after job (Some at) (always S))
  unfolding line_after word_after spans_after bodies_after place_after laid_out
  lines_steps at = line_step (line_after job (Some at) (always S)) d1 q1 (λ v. either_way (claim_allowed h None)) t1

pub contents_steps : (job : List ℕ) → layout_of job ≡ contents_of job
unfolding contents_of layout_of entries sizes_after lines_after compatible lookup letter_of
contents_steps job = sym (lines_steps job (head_at job).head (head_at job).next)
