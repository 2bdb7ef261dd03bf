-- The list reader's loop: what holds at its head, and that a step, a refusal and the text's end lead from it to the definition's
-- answer. Assumes nothing.
use Prim.Native.Nat.{ℕ, ◌+◌, ◌≤◌, ◌<◌}
use native.Mathlib.Numerals.{add-one}
use native.Mathlib.Omega.{arith}
use mathlib.Core.Path.{◌≡◌, refl, ap, sym, ◌∙◌}
use mathlib.Core.List.{List, [], ◌∷◌}
use lib.ListN.{length, get_or, drop, drop_of_length-le}
use lib.Seq.{drop-cons}
use Rattle.std.specs.Prelude.{Result, Ok, Err}
use Rattle.trees.specs.declared.Kind.{Kind}
use Rattle.trees.specs.declared.Body.{Body}
use Rattle.trees.specs.declared.Body.TheVariants.{K}
use Rattle.trees.specs.declared.Refusal.{Refusal}
use Rattle.trees.specs.Bytes.{kind_of}
use Rattle.trees.proofs.FoldLaws.{fold_size, kind_folded}
use Rattle.trees.specs.declared.Halt.{Halt}
use Rattle.lists.specs.declared.LabelPlaces.{LabelPlaces}
use Rattle.lists.specs.declared.Mode.{Mode}
use Rattle.lists.specs.declared.Mode.TheVariants as In
use Rattle.lists.specs.declared.Reader.{Reader}
use Rattle.lists.specs.ReadList.{list_read, places_of, read_list, read_list_in}
use Rattle.lists.specs.ListMachine.{Room, Ready, Leads, Steps, EndsAs, text_in, mode_in, told_read, answer_of, end_at, run_from, step_of}
use Rattle.lists.proofs.EditionLists.{list_answer_in}
use Rattle.lists.proofs.MachineLaws.{room_next, run_end, run_next, run_halt}
use Rattle.lists.proofs.ListSimulation.{simulated}

-- from here the machine goes on to the definition's answer
pub record Running (text : List ℕ) (body : Body) (mode : Mode) (p : LabelPlaces) (i : ℕ) : Type 0 where
  pub inside : i ≤ length text
  pub ready : Ready mode p i
  pub run : run_from text body (mode_in mode p) p.start p.size i (drop i text) ≡ list_read body (read_list text)

pub running_start : (text : List ℕ) (body : Body) → Running text body In.Start (places_of []) 0
unfolding places_of
running_start text body = record { inside = omega arith; ready = (refl, omega arith); run = simulated text body }

-- after a byte no reader is at the start again
ready_next : (m : Mode) (p : LabelPlaces) (at : ℕ) → Room (mode_in m p) (at + 1) → Ready m p (at + 1)
ready_next In.Start p at h = absurd (omega (arith, h))
ready_next In.Due p at h = h
ready_next (In.Bare first len) p at h = h
ready_next (In.Quoted first len) p at h = h
ready_next In.Closed p at h = h

room_of : (m : Mode) (p : LabelPlaces) (at : ℕ) → Ready m p at → Room (mode_in m p) at
room_of In.Start p at h = h.1
room_of In.Due p at h = h
room_of (In.Bare first len) p at h = h
room_of (In.Quoted first len) p at h = h
room_of In.Closed p at h = h

module _ (text : List ℕ) (body : Body) (mode : Mode) (p : LabelPlaces) (i : ℕ) (r : Running text body mode p i) where
  module _ (k : Kind) (p' : LabelPlaces) (more : i < length text) (kind : k ≡ kind_of (get_or text i 0)) where
    -- the step at this byte, as the definition takes it
    from_here : run_from text body (mode_in mode p) p.start p.size i (get_or text i 0 ∷ drop (i + 1) text) ≡ list_read body (read_list text)
    from_here = ap (run_from text body (mode_in mode p) p.start p.size i) (rw (add-one i) (sym (drop-cons text i 0 more))) ∙ r.run

    pub running_next : (m : Mode) → Leads (Ok m) p' (step_of text k i (mode_in mode p) p.start p.size) → Running text body m p' (i + 1)
    running_next m same =
        record {
          inside = omega arith;
          ready = ready_next m p' i (room_next text body (mode_in mode p) p.start p.size i k (mode_in m p') p'.start p'.size (room_of mode p i r.ready) same);
          run =
              sym (run_next text body (mode_in mode p) p.start p.size i (get_or text i 0) (drop (i + 1) text) (mode_in m p') p'.start p'.size (rw kind at same))
              ∙ from_here;
        }

    pub running_stop : (f : Halt) → Leads (Err f) p' (step_of text k i (mode_in mode p) p.start p.size)
        → (p'' : LabelPlaces) → told_read body (Err f) p'' ≡ list_read body (read_list text)
    unfolding told_read list_read
    running_stop f stopped p'' =
        sym (run_halt text body (mode_in mode p) p.start p.size i (get_or text i 0) (drop (i + 1) text) f.0 f.1 (rw kind at stopped)) ∙ from_here

  -- the end of the text, as the definition takes it
  end_here : length text ≤ i → run_from text body (mode_in mode p) p.start p.size i [] ≡ list_read body (read_list text)
  end_here h = ap (run_from text body (mode_in mode p) p.start p.size i) (sym (drop_of_length-le text h)) ∙ r.run

  pub ready_end : length text ≤ i → Ready mode p (length text)
  ready_end h =
      let last : i ≡ length text = omega (arith, h, r.inside) in
      rw last at r.ready

  pub running_end : (a : Result ℕ Halt) (p' : LabelPlaces) → length text ≤ i
      → EndsAs body a p' (end_at text body (mode_in mode p) (length text) p.start p.size)
      → told_read body a p' ≡ list_read body (read_list text)
  unfolding told_read answer_of run_from
  running_end (Ok n) p' h e =
      let last : length text ≡ i = omega (arith, h, r.inside) in
      let told = run_end text body (mode_in mode p) p.start p.size i (Ok n) p'.start p'.size (rw last at e.0) in
      ap (λ (m : ℕ). told_read body (Ok n) (record { count = m; start = p'.start; size = p'.size })) e.1 ∙ sym told ∙ end_here h
  running_end (Err f) p' h e =
      let last : length text ≡ i = omega (arith, h, r.inside) in
      ap (λ (b : Result ℕ Refusal). answer_of b (end_at text body (mode_in mode p) i p.start p.size).start (end_at text body (mode_in mode p) i p.start p.size).size) (rw last at e)
      ∙ end_here h

-- a reader that has read `at` bytes of the text that it began with
pub record Going (first self : Reader) (mode : Mode) (at : ℕ) : Type 0 where
  pub runs : (body : Body) → Running (text_in first) body mode self.places at
  pub edition_kept : self.edition ≡ first.edition
  pub text_kept : self.text ≡ first.text

pub going_start : (r : Reader) → r.places ≡ places_of [] → Going r r In.Start 0
going_start r e =
    record { runs = λ body. rw e (running_start (text_in r) body); edition_kept = refl; text_kept = refl }

module _ (first self : Reader) (mode : Mode) (at : ℕ) (g : Going first self mode at) where
  pub going_ready : Ready mode self.places at
  going_ready = (g.runs K).ready

  same_text : text_in self ≡ text_in first
  same_text = rw (g.edition_kept, g.text_kept) refl

  module _
      (k : Kind) (new : Reader) (o : Result Mode Halt) (more : at < length first.text.now) (kind : k ≡ kind_of (get_or first.text.now at 0))
      (stepped : Steps self new o (step_of (text_in self) k at (mode_in mode self.places) self.places.start self.places.size))
    where
      inside : at < length (text_in first)
      inside = rw (fold_size first.edition first.text.now) more

      leads : Leads o new.places (step_of (text_in first) k at (mode_in mode self.places) self.places.start self.places.size)
      leads = rw same_text at stepped.leads

      folded : k ≡ kind_of (get_or (text_in first) at 0)
      folded = kind ∙ kind_folded first.edition first.text.now at more

      pub going_next : (m : Mode) → o ≡ Ok m → Going first new m (at + 1)
      going_next m e =
          record {
            runs = λ body. running_next (text_in first) body mode self.places at (g.runs body) k new.places inside folded m (rw e at leads);
            edition_kept = stepped.edition_kept ∙ g.edition_kept;
            text_kept = stepped.text_kept ∙ g.text_kept;
          }

      pub going_stop : (f : Halt) → o ≡ Err f → (body : Body) (p : LabelPlaces)
          → told_read body (Err f) p ≡ list_read body (read_list_in first.edition first.text.now)
      going_stop f e body p =
          running_stop (text_in first) body mode self.places at (g.runs body) k new.places inside folded f (rw e at leads) p
          ∙ list_answer_in first.edition body first.text.now

  past : length first.text.now ≤ at → length (text_in first) ≤ at
  past h = rw (fold_size first.edition first.text.now) h

  pub going_ends : length first.text.now ≤ at → Ready mode self.places (length self.text.now)
  going_ends h =
      rw (g.text_kept, ← fold_size first.edition first.text.now)
      (ready_end (text_in first) K mode self.places at (g.runs K) (past h))

  pub going_end : (body : Body) (o : Result ℕ Halt) (p : LabelPlaces) → length first.text.now ≤ at
      → EndsAs body o p (end_at (text_in self) body (mode_in mode self.places) (length self.text.now) self.places.start self.places.size)
      → told_read body o p ≡ list_read body (read_list_in first.edition first.text.now)
  going_end body o p h e =
      running_end (text_in first) body mode self.places at (g.runs body) o p (past h)
      (rw (same_text, g.text_kept, ← fold_size first.edition first.text.now) at e)
      ∙ list_answer_in first.edition body first.text.now
