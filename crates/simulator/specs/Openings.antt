-- The promise of opening: what it is given as the rules have it, its numbers 1 and 4, and every word that it leaves. Assumes nothing.
use Rattle.std.specs.Prelude.{ℕ, ◌≡◌, List, Option, Some, None, length}
use Rattle.std.proofs.Math.Option.{Option as MathOption, none, some}
use Rattle.rules.specs.State.{Fixed}
use Rattle.rules.specs.Choice.{Answer, done, refused}
use Rattle.rules.specs.Opening.{Opening, open_refusal}
use Rattle.layout.specs.Opened.{opened_words}
use Rattle.simulator.specs.declared.open.SideOpening.{SideOpening}
use Rattle.simulator.specs.declared.open.Opening.{Opening as OpeningIn}

-- ---- what is handed in

abbrev pub rate_of : Option ℕ → MathOption ℕ
rate_of None = none
rate_of (Some p) = some p

abbrev pub fixed_of : SideOpening → Fixed
fixed_of s = record { action_delay = s.action_delay.0; reporting_delay = s.reporting_delay.0; machines = s.machines }

abbrev pub opening_of : OpeningIn → Opening
opening_of o =
    record {
      settings = record { network_delay = o.network_delay.0; network_rate = rate_of o.network_rate; queue_rate = rate_of o.queue_rate; window = o.window.0 };
      client = fixed_of o.client;
      server = fixed_of o.server;
    }

-- ---- the promise

-- opening the words w: its answer, and the words left. "Opening ignores old words."
pub record Opens (w : List ℕ) (o : Opening) (a : Answer) (left : List ℕ) : Type 0 where
  -- 1: "length isn't 256 + 4R"; 4: "opening value outside limits"; the words are untouched
  pub refuses : (n : ℕ) → open_refusal (length w) o ≡ some n → (a ≡ refused n 0) × (left ≡ w)
  -- else every word is that of a definition
  pub opens : open_refusal (length w) o ≡ none → (a ≡ done) × (left ≡ opened_words o (length w))
