-- Labels named by places in a job. Intermediate: nothing public rests on this text.
use Rattle.std.specs.Prelude.{ℕ, ◌+◌, ◌≤◌, List, length}
use Rattle.mast.specs.declared.Denied.{Denied}
use Rattle.mast.specs.declared.Denied.TheVariants.{Naming, Refused}
use Rattle.mast.specs.declared.Named.{Named}
use Rattle.job.specs.declared.Begin.{Begin}
use Rattle.job.specs.Answered.{base_of}

-- these places, moved, are places of a job
pub record Near (limit origin base : ℕ) (n : Named) : Type 0 where
  pub one : base + n.first.place ≤ limit
  pub two : base + n.second.place ≤ limit
  pub three : base + n.third.place ≤ limit
  pub first : origin + n.first.start ≤ limit
  pub second : origin + n.second.start ≤ limit
  pub third : origin + n.third.start ≤ limit

-- those of a refusal, if it has any
abbrev pub NearBy : ℕ → Begin → Denied → Type 0
NearBy limit at (Naming q n) = Near limit at.tree (base_of at q.body) n
NearBy limit at (Refused q) = Prim.Unit {0}

-- a first tree, a list and a claim that begin there end inside a job
pub record Inside (limit : ℕ) (at : Begin) (first list claim : List ℕ) : Type 0 where
  pub first_ends : at.tree + length first ≤ limit
  pub list_ends : at.list + length list ≤ limit
  pub claim_ends : at.claim + length claim ≤ limit
