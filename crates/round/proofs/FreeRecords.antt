-- What queueing and giving back leave, as a change of the state; the free records of a side given anew. Assumes nothing.
use Prim.Native.Nat.{ℕ, ◌≤◌}
use mathlib.Core.Path.{◌≡◌, refl, ap, subst, ◌∙◌}
use mathlib.Core.List.{List}
use native.Mathlib.Omega.{arith}
use lib.ListN.{length}
use Rattle.rules.specs.State.{Event, State, with_side, SideState}
use Rattle.rules.specs.Basics.{Side, client, server}
use Rattle.rules.specs.Queueing.{push_event}
use Rattle.layout.specs.Layout.{state_of}
use Rattle.queue.specs.Changes.{Beside, Leaves}
use Rattle.queue.specs.Pushes.{MayPush}
use Rattle.event.specs.Values.{event_value}
use Rattle.event.specs.declared.SimEvent.{SimEvent}
use Rattle.layout.proofs.Spares.{spare_head, spare_chains}
use Rattle.queue.proofs.Sizes.{free_length}
use Rattle.round.specs.Changes.{SpareKept, Becomes}
use Rattle.round.specs.Cases.{Shows}
use Rattle.round.proofs.HeaderWords.{becomes_then}

-- ---- what queueing and giving back leave

pub beside_spare : (w left : List ℕ) → Beside w left → SpareKept w left
beside_spare w left b i s = b i (spare_head i s).1 (spare_chains i s)

pub leaves_becomes : (w left : List ℕ) (s : State) → Leaves w left s → Becomes w left s
leaves_becomes w left s l = record { shaped = l.shaped; state = l.state; size = l.size; spare = beside_spare w left l.beside }

-- one side given anew leaves the free records
pub free_side : (s : State) (z : Side) (x : SideState) → (with_side s z x).free ≡ s.free
free_side s client x = refl
free_side s server x = refl

-- ---- an event queued after a change

module _ (w w₁ : List ℕ) (t : State) (e : Event) (r : SimEvent) (c : Becomes w w₁ t) (shows : Shows r e) where
  pub event_may : 1 ≤ length t.free → MayPush w₁ r
  event_may l = record { shaped = c.shaped; free = omega (arith, free_length w₁, ap (λ (s : State). length s.free) c.state); canonical = shows.canonical }

  pub event_pushed : (w₂ : List ℕ) → Leaves w₁ w₂ (push_event (state_of w₁) (event_value r)) → Becomes w w₂ (push_event t e)
  event_pushed w₂ l =
      becomes_then w w₁ w₂ _ _ c
      (subst (Becomes w₁ w₂) (ap (λ (s : State). push_event s (event_value r)) c.state ∙ ap (push_event t) shows.is) (leaves_becomes w₁ w₂ _ l))
