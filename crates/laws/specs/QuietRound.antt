-- What a round takes up, and how it ends, tell whether the state is quiet.
use Rattle.std.specs.Prelude.{ℕ}
use Rattle.rules.specs.State.{State}
use Rattle.rules.specs.ChoiceRound.{Candidate, an_aggregate, a_block, an_event, a_timer, an_action, none_left, RoundOutcome, next, taken, nothing, passed}
use Rattle.laws.specs.Quiet.{Quiet}

-- ---- what a round takes up shows whether the state is quiet

abbrev pub Shows : State → ℕ → Candidate → Type 0
Shows s now (an_aggregate a) = Unit
Shows s now (a_block k) = Quiet s now → ⊥
Shows s now (an_event h) = Quiet s now → ⊥
Shows s now (a_timer z t) = Quiet s now → ⊥
Shows s now (an_action z a) = Quiet s now → ⊥
Shows s now none_left = Quiet s now

-- ---- the round: it keeps whether the state is quiet; it ends with nothing only if it is, and with an event only if it is not

abbrev pub Sees : State → ℕ → RoundOutcome → Type 0
Sees s now (next t) = (Quiet t now → Quiet s now) × (Quiet s now → Quiet t now)
Sees s now (taken e t) = Quiet s now → ⊥
Sees s now (nothing t) = Quiet s now
Sees s now (passed t) = Unit
