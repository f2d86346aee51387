-- The promise of a call on lent words, one for every call but opening: the rules' call on the state that the words hold. Assumes nothing.
use Rattle.std.specs.Prelude.{ℕ, ◌<◌, ◌≡◌, List, length, get_or, take, drop}
use Rattle.std.proofs.Math.Option.{some}
use Rattle.rules.specs.State.{State}
use Rattle.rules.specs.Choice.{Answer, refused}
use Rattle.rules.specs.Arguments.{Call, EventIn, sim_network_stack}
use Rattle.rules.specs.Calls.{call}
use Rattle.rules.specs.Refusals.{refusal}
use Rattle.queue_event.specs.Chain.{Chain}
use Rattle.layout.specs.Records.{head_of, count_of}
use Rattle.layout.specs.Accepted.{SizeOk, Accepted}
use Rattle.layout.specs.Spare.{Spare}
use Rattle.layout.specs.Layout.{state_of}

-- "What free records hold, and their order, we accept as open: of them the promise says that they form one chain, each in it once, with chain
-- number 0."
pub record FreeRecords (w : List ℕ) : Type 0 where
  -- from the header's head as many records as the header's count, each from 1 to R and of chain number 0, and then the end
  pub chain : Chain (drop 256 w) 0 (count_of (take 256 w) 0) (head_of (take 256 w) 0)
  -- no record stands in it twice
  pub once :
      (i j : ℕ) → i < length (state_of w).free → j < length (state_of w).free → get_or (state_of w).free i 0 ≡ get_or (state_of w).free j 0 → i ≡ j

-- the words left hold the state s; words without a meaning are those of w
pub record Left (w : List ℕ) (s : State) (left : List ℕ) : Type 0 where
  pub accepted : Accepted left
  pub state : state_of left ≡ s
  pub spare : (i : ℕ) → Spare i → get_or left i 0 ≡ get_or w i 0
  pub size : length left ≡ length w
  pub free : FreeRecords left

-- the call c on the words w: its answer, and the words left
pub record Outcome (w : List ℕ) (c : Call) (a : Answer) (left : List ℕ) : Type 0 where
  -- 1: "length isn't 256 + 4R"; 2: "state not accepted"
  pub bad_length : (SizeOk (length w) → ⊥) → (a ≡ refused 1 0) × (left ≡ w)
  pub bad : SizeOk (length w) → (Accepted w → ⊥) → (a ≡ refused 2 0) × (left ≡ w)
  -- else what the rules say of the state: answer, rounds and state left, refusals 3 to 10 included
  pub answer : Accepted w → a ≡ (call (state_of w) c).answer
  pub state : Accepted w → Left w (call (state_of w) c).state left
  -- a refusal by a row from 3 to 9 leaves every word
  pub kept : Accepted w → (n : ℕ) → refusal (state_of w) c ≡ some n → left ≡ w
  -- number 10 of a step sets the ended mark, and every other word is as it was
  pub ten :
      Accepted w → (now : ℕ) (e : EventIn) → c ≡ sim_network_stack now e → a ≡ refused 10 0
      → (i : ℕ) → (i ≡ 16 → ⊥) → get_or left i 0 ≡ get_or w i 0
