-- What a choice and a network step write: their answer as words, in the place that the caller gives for it. Assumes nothing.
use Rattle.std.specs.Prelude.{ℕ, ◌≡◌, Bool, List, [], ◌∷◌, eqb, length, if◌then◌else◌}
use Rattle.std.proofs.Math.Option.{Option, none, some}
use Rattle.rules.specs.Basics.{Side, client, server, rank}
use Rattle.rules.specs.State.{Event}
use Rattle.rules.specs.Choice.{Answer, done, event, nothing_left, step_made, refused}
use Rattle.rules.specs.Arguments.{Call}
use Rattle.simulator.specs.Outcome.{Outcome}
use Rattle.calls.specs.Told.{number_in}

-- a flag: 1 for yes, 0 for no
abbrev pub flag_word : Bool → ℕ
flag_word b = if b then 1 else 0

-- a side: 1 for client, 0 for server
abbrev pub side_word : Side → ℕ
side_word client = 1
side_word server = 0

-- an event: "kind 0 to 9 as ranked by `event_to_usize`, moment, integration delay, side, padding flag, bypass, replace, machine"
abbrev pub event_words : Event → List ℕ
event_words e =
    rank e.kind ∷ e.moment ∷ e.delay ∷ side_word e.side ∷ flag_word e.padding ∷ flag_word e.bypass ∷ flag_word e.replace ∷ e.machine ∷ []

-- the eight words where there is no event
abbrev pub no_event : List ℕ
no_event = 0 ∷ 0 ∷ 0 ∷ 0 ∷ 0 ∷ 0 ∷ 0 ∷ 0 ∷ []

-- the answer of a choice, ten words: 1 where an event was chosen, the rounds, the event. The last two are no answer of a choice.
abbrev pub choice_words : Answer → List ℕ
choice_words (event e k) = 1 ∷ k ∷ event_words e
choice_words (nothing_left k) = 0 ∷ k ∷ no_event
choice_words (refused n k) = 0 ∷ k ∷ no_event
choice_words done = 0 ∷ 0 ∷ no_event
choice_words (step_made a f) = 0 ∷ 0 ∷ no_event

-- when the packet count falls, two words: 1 and the moment, or two zeros where there is none
abbrev pub falls_words : Option ℕ → List ℕ
falls_words none = 0 ∷ 0 ∷ []
falls_words (some m) = 1 ∷ m ∷ []

-- the answer of a step, three words: 1 for yes, 0 for no, then when the packet count falls; three zeros for a refusal. The last three are no answer of a step.
abbrev pub step_words : Answer → List ℕ
step_words (step_made a f) = flag_word a ∷ falls_words f
step_words (refused n k) = 0 ∷ 0 ∷ 0 ∷ []
step_words done = 0 ∷ 0 ∷ 0 ∷ []
step_words (event e k) = 0 ∷ 0 ∷ 0 ∷ []
step_words (nothing_left k) = 0 ∷ 0 ∷ 0 ∷ []

-- a place of the words' own length holds them; one of another length is as it was
abbrev pub out_left : List ℕ → List ℕ → List ℕ
out_left words out = if eqb (length out) (length words) then words else out

-- the call c on the words w, with a place for the answer: it keeps the promise of every call, n is the number of its answer, and what it answers
-- stands in the place
pub record Answered (w : List ℕ) (c : Call) (words : Answer → List ℕ) (out : List ℕ) (n : ℕ) (left outAfter : List ℕ) : Type 0 where
  pub answer : Answer
  pub outcome : Outcome w c answer left
  pub number : n ≡ number_in answer
  pub written : outAfter ≡ out_left (words answer) out
