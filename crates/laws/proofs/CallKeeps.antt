-- The one law of a call that demand 3 rests on: what any call on an accepted state keeps.
use Rattle.std.specs.Prelude.{◌≡◌, false}
use Rattle.std.proofs.Math.Path.{subst⁻¹}
use Rattle.std.proofs.Common.{arith}
use Rattle.rules.specs.CallLists.{carried, is_refused, nothing_to_take, rounds_of, says_nothing}
use Rattle.rules.specs.Arguments.{Call}
use Rattle.rules.specs.State.{State}
use Rattle.rules.specs.Calls.{call}
use Rattle.laws.specs.Accepted.{Accepted}
use Rattle.laws.specs.CallRuns.{CallRan}
use Rattle.laws.proofs.CallRuns.{call_runs}
use Rattle.laws.proofs.AcceptedKept.{call_accepted}
use Rattle.laws.proofs.Rounds.{call_carries, choice_has_room}
use Rattle.laws.proofs.NothingLeft.{pick_next_exactly}
use Rattle.laws.specs.CallKeeps.{Keeps}

-- A call that a later request adds joins the list by a case of this law, so by a clause in each of the laws that it cites and that go call by
-- call: `work_carries`, `work_runs`, `work_leaves` and `work_same`. What is said of lists (simulator/proofs/Demand3) stays as it is.
pub call_keeps : (s : State) (c : Call) → Accepted s → Keeps s c
call_keeps s c h =
    let r : CallRan s c (call s c) = call_runs s c in
    let k : carried (call s c).answer ≡ rounds_of s c = call_carries s c in
    record {
      accepted = call_accepted s c h;
      carries = k;
      counts = omega (arith, r.total);
      bound = omega (arith, r.left);
      room = λ now e. choice_has_room s now h.room;
      nothing = λ now e. subst⁻¹ (λ (d : Call). is_refused (call s d).answer ≡ false → says_nothing (call s d).answer ≡ nothing_to_take s now) e (pick_next_exactly s now);
    }
