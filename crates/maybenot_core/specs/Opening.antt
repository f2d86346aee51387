-- What the exported opening promises: the promise of opening, and its answer as a number. Assumes nothing.
use Rattle.std.specs.Prelude.{ℕ, ◌≡◌, List, if◌then◌else◌}
use Rattle.std.proofs.Math.Option.{Option, none, some}
use Rattle.rules.specs.State.{Fixed}
use Rattle.rules.specs.Choice.{Answer}
use Rattle.rules.specs.Opening.{Opening}
use Rattle.simulator.specs.Openings.{Opens}
use Rattle.calls.specs.Told.{is_set, number_in}

-- a rate is absent where its flag is 0
abbrev pub rate_for : ℕ → ℕ → Option ℕ
rate_for given rate = if is_set given then some rate else none

abbrev pub side_opening : ℕ → ℕ → ℕ → Fixed
side_opening action reporting machines = record { action_delay = action; reporting_delay = reporting; machines = machines }

abbrev pub opening_for : ℕ → Option ℕ → Option ℕ → ℕ → Fixed → Fixed → Opening
opening_for delay network_rate queue_rate window c s =
    record { settings = record { network_delay = delay; network_rate = network_rate; queue_rate = queue_rate; window = window }; client = c; server = s }

-- opening the words w: it keeps the promise of opening, and n is the number of its answer
pub record OpenTold (w : List ℕ) (o : Opening) (n : ℕ) (left : List ℕ) : Type 0 where
  pub answer : Answer
  pub outcome : Opens w o answer left
  pub number : n ≡ number_in answer
