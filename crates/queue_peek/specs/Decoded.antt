-- The code's delays and block ends as the rules' own. Assumes nothing.
use Rattle.std.specs.Prelude.{ℕ, Option, Some, None}
use Rattle.std.proofs.Math.Option.{Option as RulesOption, none, some, map}
use Rattle.moment.specs.declared.Length.{Length}
use Rattle.rules.specs.Basics.{Side, after, absent, earlier, Delay as RulesDelay}
use Rattle.rules.specs.ChoiceDelays.{Block, Delays as RulesDelays}
use Rattle.event.specs.HandedIn.{side_of}
use Rattle.queue_peek.specs.declared.five.Delays.{Delays}
use Rattle.queue_peek.specs.declared.blocks.BlockEnd.{BlockEnd}

-- a delay; none is absent
unfoldable pub delay_of : Option Length → RulesDelay
delay_of None = absent
delay_of (Some l) = after l.0

-- `Delays`
unfoldable pub delays_of : Delays → RulesDelays
delays_of d = record { s = delay_of d.s; i = delay_of d.i; b = delay_of d.b; n = delay_of d.n; q = delay_of d.q }

-- `BlockEnd`, and the next one to end, if there is one
abbrev pub block_from : BlockEnd → Block
block_from k = record { side = side_of k.client; end = k.end.0 }

unfoldable pub blocked_of : Option BlockEnd → RulesOption Block
blocked_of None = none
blocked_of (Some k) = some (block_from k)

-- the block of a side that ends at this moment, if it ends
abbrev pub block_of : Side → RulesOption ℕ → RulesOption Block
block_of z end = map (λ (t : ℕ). record { side = z; end = t }) end

-- ---- the five delays, filled one by one

-- none reckoned yet
abbrev pub no_delays : RulesDelays
no_delays = record { s = absent; i = absent; b = absent; n = absent; q = absent }

-- one of them given anew
abbrev pub with_s : RulesDelays → RulesDelay → RulesDelays
with_s d x = record { s = x; i = d.i; b = d.b; n = d.n; q = d.q }

abbrev pub with_i : RulesDelays → RulesDelay → RulesDelays
with_i d x = record { s = d.s; i = x; b = d.b; n = d.n; q = d.q }

abbrev pub with_b : RulesDelays → RulesDelay → RulesDelays
with_b d x = record { s = d.s; i = d.i; b = x; n = d.n; q = d.q }

abbrev pub with_n : RulesDelays → RulesDelay → RulesDelays
with_n d x = record { s = d.s; i = d.i; b = d.b; n = x; q = d.q }

abbrev pub with_q : RulesDelays → RulesDelay → RulesDelays
with_q d x = record { s = d.s; i = d.i; b = d.b; n = d.n; q = x }

-- "min(s, i, b, n)"
abbrev pub least_of : RulesDelays → RulesDelay
least_of d = earlier (earlier (earlier d.s d.i) d.b) d.n
