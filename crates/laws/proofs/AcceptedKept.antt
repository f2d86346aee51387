-- Every call leaves an accepted state.
use Rattle.std.proofs.Common.{◌∙◌, arith}
use Rattle.std.proofs.Math.Path.{subst⁻¹}
use Rattle.rules.specs.Arguments.{Call}
use Rattle.rules.specs.State.{State}
use Rattle.rules.specs.Calls.{call}
use Rattle.laws.specs.Accepted.{Accepted, SettingsOk, only}
use Rattle.laws.specs.CallRuns.{CallRan}
use Rattle.laws.proofs.CallRuns.{call_runs}
use Rattle.laws.specs.Records.{Same, same_number}
use Rattle.laws.proofs.RecordsCalls.{call_same}
use Rattle.laws.specs.SoundCalls.{call_sound}

-- so any list of calls does (Demand)
pub call_accepted : (s : State) (c : Call) → Accepted s → Accepted (call s c).state
call_accepted s c h =
    let r : CallRan s c (call s c) = call_runs s c in
    let m : Same s (call s c).state = call_same s c h in
    record {
      sound = call_sound s c h;
      settings = subst⁻¹ SettingsOk r.fixed h.settings;
      room = r.kept h.room;
      some_room = omega (arith, r.same, h.some_room);
      size = omega (arith, r.same, h.size);
      total = r.limit h.total;
      whole = omega (arith, same_number s (call s c).state m, r.same, h.whole);
      once = λ i a b. m (only i) ∙ h.once i a (omega (arith, r.same));
    }
