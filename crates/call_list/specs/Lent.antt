-- The promise of a call on the first n of the words: "from here on the calls are lent the first N words". Assumes nothing.
use Rattle.std.specs.Prelude.{ℕ, ◌≡◌, Bool, true, List, Result, Ok, Err, length, take, drop, leb, if◌then◌else◌}
use Rattle.rules.specs.Choice.{Answer}
use Rattle.rules.specs.Arguments.{Call}
use Rattle.rules.specs.Opening.{Opening}
use Rattle.event.specs.Answers.{refused_by}
use Rattle.event.specs.declared.answer.Refusal.{Refusal}
use Rattle.layout.specs.Accepted.{Accepted}
use Rattle.simulator.specs.Outcome.{Outcome}
use Rattle.simulator.specs.Openings.{Opens}
use Rattle.simulator.specs.Packs.{Packs}

-- n words are lent, or all there are
abbrev pub at_most : ℕ → ℕ → ℕ
at_most n all = if leb n all then n else all

-- the call c on the first n of the words w: the promise of every call on these, and the words after them as they were
pub record OnLent (n : ℕ) (w : List ℕ) (c : Call) (a : Answer) (left : List ℕ) : Type 0 where
  pub outcome : Outcome (take n w) c a (take n left)
  pub rest : drop n left ≡ drop n w

-- opening the first n of the words w
pub record OpensLent (n : ℕ) (w : List ℕ) (o : Opening) (a : Answer) (left : List ℕ) : Type 0 where
  pub opening : Opens (take n w) o a (take n left)
  pub rest : drop n left ≡ drop n w

-- packing the first n of the words w into the first m of the second block's words v, of which the rest stays
pub record PacksLent (n : ℕ) (w : List ℕ) (m : ℕ) (v : List ℕ) (a : Answer) (left : List ℕ) : Type 0 where
  pub packing : Packs (take n w) (take m v) a (take m left)
  pub rest : drop m left ≡ drop m v

-- "copies all 8,192 words of the second block over the first": the words left of w are those of v, where both are as many, and else those of w
pub record Takes (w v left : List ℕ) : Type 0 where
  pub words : length v ≡ length w → left ≡ v
  pub other : (length v ≡ length w → ⊥) → left ≡ w

-- what the program keeps of the first n of the words w: where it knows so, they are an accepted state
pub record Known (known : Bool) (n : ℕ) (w : List ℕ) : Type 0 where
  pub accepted : known ≡ true → Accepted (take n w)

-- what the test before a call leaves: a refusal is the answer of any call; else the words are an accepted state
abbrev pub Tested : ℕ → List ℕ → Result Unit Refusal → Type 0
Tested n w (Ok u) = Accepted (take n w)
Tested n w (Err r) = (c : Call) → OnLent n w c (refused_by r) w
