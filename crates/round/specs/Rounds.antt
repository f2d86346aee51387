-- What a round and the rounds of a choice ask and promise. Assumes nothing.
use Rattle.std.specs.Prelude.{ℕ, ◌<◌, ◌≤◌, ◌≡◌, true, List, Option, Result, length, take, drop}
use Rattle.rules.specs.State.{rounds_left, total}
use Rattle.rules.specs.ChoiceRound.{candidate, candidate_sums, fits, round}
use Rattle.rules.specs.Choice.{choose, rounds}
use Rattle.event.specs.Answers.{choice_of}
use Rattle.event.specs.declared.answer.Chosen.{Chosen}
use Rattle.event.specs.declared.answer.Refusal.{Refusal}
use Rattle.layout.specs.Accepted.{Accepted}
use Rattle.layout.specs.Layout.{state_of}
use Rattle.candidate.specs.Candidates.{candidate_of, Stands, Reckoned}
use Rattle.candidate.specs.declared.Candidate.{Candidate}
use Rattle.round.specs.Changes.{SpareKept}
use Rattle.round.specs.Cases.{Passed}

-- a round may be made: of an accepted state, k rounds of the choice being finished
pub record MayRound (w : List ℕ) (k : ℕ) : Type 0 where
  pub accepted : Accepted w
  pub finished : k ≤ total (state_of w)

-- and what it takes up is known, its sums being within the limit
pub record MayAct (w : List ℕ) (now k : ℕ) (c : Candidate) : Type 0 where
  pub round : MayRound w k
  pub is : candidate_of (take 256 w) c ≡ candidate (state_of w) now
  pub stands : Stands (take 256 w) (drop 256 w) c
  pub reckoned : Reckoned (take 256 w) (drop 256 w) now c
  pub sums : fits (candidate_sums (state_of w) now (candidate_of (take 256 w) c)) ≡ true

-- the rules' round, and accepted words
pub record Rounded (w left : List ℕ) (now k : ℕ) (r : Result (Option Chosen) Refusal) : Type 0 where
  pub came : Passed w left k (round (state_of w) now) r
  pub accepted : Accepted left

-- at each turn, w₀ being the words as the choice began: whatever the bound, the rounds still to come give the choice's answer and state
pub record Choosing (w₀ w : List ℕ) (now k : ℕ) : Type 0 where
  pub may : MayRound w k
  pub rest : (f : ℕ) → rounds_left (state_of w) < f → rounds f now k (state_of w) ≡ choose (state_of w₀) now
  pub size : length w ≡ length w₀
  pub spare : SpareKept w₀ w

-- the rules' choice: its answer, and the words that it leaves
pub record Chose (w left : List ℕ) (now : ℕ) (r : Result Chosen Refusal) : Type 0 where
  pub answer : choice_of r ≡ (choose (state_of w) now).answer
  pub state : state_of left ≡ (choose (state_of w) now).state
  pub accepted : Accepted left
  pub size : length left ≡ length w
  pub spare : SpareKept w left
