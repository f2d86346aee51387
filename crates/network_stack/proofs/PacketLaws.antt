-- Laws of the packets that a step queues. Assumes nothing.
use Prim.Native.Nat.{ℕ, zero, suc, ◌≤◌}
use mathlib.Core.Path.{◌≡◌, refl, ap, ◌∙◌}
use mathlib.Core.Bool.{Bool, true, false}
use native.Mathlib.Omega.{arith}
use Rattle.std.specs.Prelude.{if◌then◌else◌}
use Rattle.rules.specs.Basics.{Side, TunnelRecv, PaddingRecv, NormalRecv, rank}
use Rattle.rules.specs.State.{Event}
use Rattle.rules.specs.NetworkStep.{packet}
use Rattle.event.specs.HandedIn.{side_of}
use Rattle.event.specs.declared.SimEvent.{SimEvent}
use Rattle.event.specs.Values.{kind_at, event_value}
use Rattle.queue.specs.Pushes.{Canonical}
use Rattle.network_stack.specs.Packets.{Packet, receipt_kind, receipt_no}

-- a kind to 9 and no machine
canonical : (r : SimEvent) → r.kind.0 ≤ 9 → r.machine ≡ 0 → Canonical r
canonical r k m = record { kind = k; machine = omega arith; none = λ q. m }

-- ---- receipt

receipt_small : (b : Bool) → receipt_no b ≤ 9
receipt_small true = omega arith
receipt_small false = omega arith

receipt_kind_lem : (b : Bool) → kind_at (receipt_no b) ≡ (if b then PaddingRecv else NormalRecv)
receipt_kind_lem true = refl
receipt_kind_lem false = refl

pub receipt_packet : (e : SimEvent) (k : ℕ) → k ≡ receipt_no e.padding
    → Packet (record { kind = record { 0 = k }; moment = e.moment; delay = e.delay; client = e.client; padding = e.padding; bypass = false; replace = false; machine = 0 }) (receipt_kind e)
unfolding receipt_kind
receipt_packet e k ek =
    record {
      canonical = canonical _ (omega (arith, receipt_small e.padding)) refl;
      is = ap (λ x. packet x e.moment.0 e.delay.0 (side_of e.client) e.padding false false) (ap kind_at ek ∙ receipt_kind_lem e.padding);
    }

-- ---- a packet read back from the rules' event: only 3 is the number of `TunnelRecv`

recv_number : (n : ℕ) → rank (kind_at n) ≡ 3 → n ≡ 3
recv_number zero e = absurd (omega arith)
recv_number (suc zero) e = absurd (omega arith)
recv_number (suc (suc zero)) e = absurd (omega arith)
recv_number (suc (suc (suc zero))) e = refl
recv_number (suc (suc (suc (suc zero)))) e = absurd (omega arith)
recv_number (suc (suc (suc (suc (suc zero))))) e = absurd (omega arith)
recv_number (suc (suc (suc (suc (suc (suc zero)))))) e = absurd (omega arith)
recv_number (suc (suc (suc (suc (suc (suc (suc zero))))))) e = absurd (omega arith)
recv_number (suc (suc (suc (suc (suc (suc (suc (suc zero)))))))) e = absurd (omega arith)
recv_number (suc (suc (suc (suc (suc (suc (suc (suc (suc zero))))))))) e = absurd (omega arith)
recv_number (suc (suc (suc (suc (suc (suc (suc (suc (suc (suc n)))))))))) e = absurd (omega arith)

pub recv_canonical : (r : SimEvent) (t d : ℕ) (z : Side) (p : Bool) → event_value r ≡ packet TunnelRecv t d z p false false → Canonical r
recv_canonical r t d z p e =
    canonical r (omega (arith, recv_number r.kind.0 (ap (λ (x : Event). rank x.kind) e))) (ap (λ (x : Event). x.machine) e)
