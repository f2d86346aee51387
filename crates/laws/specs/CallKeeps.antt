-- The one law of a call that demand 3 rests on: what any call on an accepted state keeps.
use Rattle.std.specs.Prelude.{ℕ, ◌+◌, ◌≤◌, ◌≡◌, false, if◌then◌else◌}
use Rattle.rules.specs.CallLists.{allowance_of, carried, is_refused, lacks_room, nothing_to_take, rounds_of, says_nothing}
use Rattle.rules.specs.Arguments.{Call, pick_next}
use Rattle.rules.specs.State.{State, rounds_left, total}
use Rattle.rules.specs.Calls.{call}
use Rattle.laws.specs.Accepted.{Accepted}

-- the call c on the state s
pub record Keeps (s : State) (c : Call) : Type 0 where
  -- it leaves an accepted state
  pub accepted : Accepted (call s c).state
  -- its answer carries its own rounds, and the round total rises by them
  pub carries : carried (call s c).answer ≡ rounds_of s c
  pub counts : total (call s c).state ≡ total s + rounds_of s c
  -- its rounds, with A + 3B + T + 4S after it, are at most that before it and what the call is allowed; a refused call is allowed nothing
  pub bound : rounds_of s c + rounds_left (call s c).state ≤ rounds_left s + (if is_refused (call s c).answer then 0 else allowance_of c)
  -- a choice does not lack room, and if it is not refused it says "nothing left" exactly when there is nothing to take
  pub room : (now : ℕ) → c ≡ pick_next now → lacks_room s now ≡ false
  pub nothing : (now : ℕ) → c ≡ pick_next now → is_refused (call s c).answer ≡ false → says_nothing (call s c).answer ≡ nothing_to_take s now
