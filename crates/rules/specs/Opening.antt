-- Opening a state: its refusals 1 and 4, and what it leaves. R is read off the number of lent words.
use Rattle.std.specs.Prelude.{◌*◌, ◌+◌, ◌-◌, ◌/◌, suc, zero, ℕ, Bool, ◌&&◌, ◌||◌, false, not, List, [], ◌∷◌, eqb, leb, ltb, replicate}
use Rattle.std.proofs.Math.Option.{Option, none, some}
use Rattle.rules.specs.State.{Fixed, Settings, SideState, State}
use Rattle.rules.specs.Limits.{duration_limit, machine_limit, rate_limit, record_limit}
use Rattle.rules.specs.Refusals.{first_of}

-- what opening is given
pub record Opening : Type 0 where
  pub settings : Settings
  pub client : Fixed
  pub server : Fixed

-- "exactly 256 + 4R words": R, where there is one
abbrev pub records_in : ℕ → ℕ
records_in words = (words - 256) / 4

-- 1: "length isn't 256 + 4R", "R from 1 to 65,535"
abbrev pub wrong_length : ℕ → Bool
wrong_length words = not (eqb words (256 + 4 * records_in words) && ltb 0 (records_in words) && leb (records_in words) record_limit)

-- 4: "opening value outside limits"
abbrev pub rate_outside : Option ℕ → Bool
rate_outside none = false
rate_outside (some p) = eqb p 0 || ltb rate_limit p

abbrev pub fixed_outside : Fixed → Bool
fixed_outside f = ltb duration_limit f.action_delay || ltb duration_limit f.reporting_delay || ltb machine_limit f.machines

unfoldable pub outside : Opening → Bool
outside o =
    ltb duration_limit o.settings.network_delay
    || ltb duration_limit o.settings.window
    || rate_outside o.settings.network_rate
    || rate_outside o.settings.queue_rate
    || fixed_outside o.client
    || fixed_outside o.server

-- opening refuses with 1 or 4 only; "Opening ignores old words."
unfoldable pub open_refusal : ℕ → Opening → Option ℕ
open_refusal words o = first_of ((1, wrong_length words) ∷ (4, outside o) ∷ [])

-- "Opening leaves every record free, sums and round total 0, no block, no action, no timer, flags and ended mark unset."
abbrev pub open_side : Fixed → SideState
open_side f =
    record {
      fixed = f;
      sum = 0;
      block_end = none;
      block_bypassable = false;
      queues = record { base = []; blocking = []; bypassable = []; internal = [] };
      stamps = [];
      timers = replicate machine_limit none;
      actions = replicate machine_limit none;
    }

-- n numbers from a on
abbrev pub up_from : ℕ → ℕ → List ℕ
up_from a zero = []
up_from a (suc n) = a ∷ up_from (suc a) n

-- the records are chained upward from 1
unfoldable pub opened : Opening → ℕ → State
opened o words =
    record {
      settings = o.settings;
      client = open_side o.client;
      server = open_side o.server;
      aggregates = [];
      free = up_from 1 (records_in words);
      ended = false;
      rounds = 0;
      room = records_in words;
    }
