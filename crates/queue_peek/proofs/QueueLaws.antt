-- What the queues offer: a head's delay, a packet that is held back, and the heads behind the blocks. Assumes nothing.
use Prim.Native.Nat.{ℕ, ◌+◌, ◌≤◌, max}
use mathlib.Core.Path.{◌≡◌, refl, sym, ap, ◌∙◌}
use mathlib.Core.Bool.{Bool, true, false, not, ◌&&◌, ◌||◌}
use mathlib.Core.Option.{some, map}
use native.Mathlib.Omega.{arith}
use lib.Dec.{eqb, ltb, leb}
use Rattle.std.specs.Ordering.{is_lt, is_le, nat_cmp, ord_max}
use Rattle.moment.specs.declared.Moment.{Moment}
use Rattle.moment.proofs.Order.{lt_is, le_is, max_is}
use Rattle.std.proofs.lemmas.Grind.{common_steps}
use Rattle.std.specs.Prelude.{Option, Some, None}
use Rattle.rules.specs.Limits.{moment_limit}
use Rattle.rules.specs.ChoiceHeads.{is_base, waiting_first, not_before}
use Rattle.event.specs.Values.{event_value}
use Rattle.queue.specs.declared.peek.Head.{Head}
use Rattle.queue.specs.declared.header.Queue.{Queue}
use Rattle.queue.specs.declared.header.Queue.TheVariants.{Base, Blocking, Bypassable, Internal}
use Rattle.queue.specs.Queues.{queue_of}
use Rattle.queue.specs.Heads.{head_from, found_of, HeadOk, Stands}
use Rattle.queue.proofs.HeadsOrder.{stands_at}
use Rattle.queue_peek.specs.Promises.{Lifted}

-- ---- waiting or passing

le_or : (a b : ℕ) → leb a b ≡ (ltb a b || (eqb a b && true))
le_or a b = grind (arith, common_steps)

lt_or : (a b : ℕ) → ltb a b ≡ (ltb a b || (eqb a b && false))
lt_or a b = grind (arith, common_steps)

not_base : (q : Queue) → (q ≡ Base → ⊥) → not (is_base (queue_of q)) ≡ true
not_base Base d = absurd (d refl)
not_base Blocking d = refl
not_base Bypassable d = refl
not_base Internal d = refl

module _ (w p : Head) (r : Bool) where
  pub waiting_base : p.queue ≡ Base → r ≡ is_lt (nat_cmp w.moment.0 p.moment.0) → r ≡ waiting_first (head_from w) (head_from p)
  unfolding head_from
  waiting_base e er =
      er ∙ lt_is w.moment.0 p.moment.0 ∙ lt_or w.moment.0 p.moment.0
      ∙ ap (λ q. ltb w.moment.0 p.moment.0 || (eqb w.moment.0 p.moment.0 && not (is_base (queue_of q)))) (sym e)

  pub waiting_other : (p.queue ≡ Base → ⊥) → r ≡ is_le (nat_cmp w.moment.0 p.moment.0) → r ≡ waiting_first (head_from w) (head_from p)
  unfolding head_from
  waiting_other d er =
      er ∙ le_is w.moment.0 p.moment.0 ∙ le_or w.moment.0 p.moment.0
      ∙ ap (λ b. ltb w.moment.0 p.moment.0 || (eqb w.moment.0 p.moment.0 && b)) (sym (not_base p.queue d))

-- ---- moved to the block's end

module _ (f : Option Head) (end : ℕ) where
  pub lifted_none : f ≡ None → Lifted end f None
  unfolding found_of Stands
  lifted_none e = record { is = ap (λ (x : Option Head). map (not_before end) (found_of x)) (sym e); stands = λ h rs b l s. tt }

  lifted : (w : Head) (m : Moment) → f ≡ Some w → m.0 ≡ max w.moment.0 end → Lifted end f (Some (record { queue = w.queue; place = w.place; event = w.event; moment = m }))
  unfolding found_of head_from Stands
  lifted w m e em =
      record {
        is = ap (λ i. some (record { chain = queue_of w.queue; place = w.place; event = event_value w.event; moment = i })) em ∙ ap (λ (x : Option Head). map (not_before end) (found_of x)) (sym e);
        stands =
            λ h rs b l s.
            let ok : HeadOk h rs b w = stands_at h rs b f w e s in
            record { some = ok.some; first = ok.first; within = ok.within; event = ok.event; side = ok.side; kind = ok.kind; raw = ok.raw; moment = bound w.moment.0 m.0 ok.moment em l };
      }
    where
      bound : (x y : ℕ) → x ≤ moment_limit + moment_limit → y ≡ max x end → end ≤ moment_limit → y ≤ moment_limit + moment_limit
      bound x y a q l = omega arith

pub lifted_head : (f : Option Head) (end : Moment) (w : Head) (m : Moment) → f ≡ Some w → m ≡ ord_max (λ (x y : Moment). nat_cmp x.0 y.0) w.moment end → Lifted end.0 f (Some (record { queue = w.queue; place = w.place; event = w.event; moment = m }))
lifted_head f end w m e em = lifted f end.0 w m e (max_is m w.moment end em)
