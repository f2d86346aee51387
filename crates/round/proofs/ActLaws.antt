-- What each case of a round asks follows from the candidate and its sums; what it leaves is the rules' `act`. Assumes nothing.
use Prim.Native.Nat.{ℕ, ◌+◌, ◌≤◌, ◌<◌, ◌^◌}
use mathlib.Core.Path.{◌≡◌, refl, sym, ap, subst}
use mathlib.Core.List.{List}
use mathlib.Core.Option.{Option as MathOption, some}
use native.Mathlib.Omega.{arith}
use lib.ListN.{length, take}
use Rattle.std.specs.Prelude.{Option, Some, None, Ok}
use Rattle.moment.specs.declared.Length.{Length}
use Rattle.rules.specs.State.{Event, in_record}
use Rattle.rules.specs.Queueing.{push_event}
use Rattle.rules.specs.ChoiceRound.{Candidate as RulesCandidate, act, take_aggregate, timer_cleared, timer_event, do_action, end_block}
use Rattle.laws.specs.Accepted.{Accepted as HeldAccepted}
use Rattle.laws.specs.Fits.{fits_all}
use Rattle.laws.specs.Found.{Found, found}
use Rattle.laws.specs.RecordsTaken.{records_taken}
use Rattle.laws.proofs.RecordsTaken.{round_takes_free}
use Rattle.event.specs.Answers.{chosen_as}
use Rattle.event.specs.HandedIn.{aggregate_in}
use Rattle.event.specs.declared.AggregateDelay.{AggregateDelay}
use Rattle.event.specs.declared.SimEvent.{SimEvent}
use Rattle.event.specs.declared.answer.Chosen.{Chosen}
use Rattle.layout.specs.Layout.{state_of}
use Rattle.layout.specs.Shape.{Shaped}
use Rattle.queue.specs.Changes.{head_in}
use Rattle.queue.specs.Heads.{head_from}
use Rattle.queue.specs.declared.peek.Head.{Head}
use Rattle.queue_peek.specs.Decoded.{block_from}
use Rattle.queue_peek.specs.declared.blocks.BlockEnd.{BlockEnd}
use Rattle.candidate.specs.Candidates.{candidate_of, Stands, Reckoned, due_slot, planned_slot, action_value}
use Rattle.candidate.specs.declared.Candidate.{Candidate}
use Rattle.candidate.specs.declared.Candidate.TheVariants.{Aggregate, Block, Event as AnEvent, Timer, Action as AnAction}
use Rattle.candidate.specs.declared.Due.{Due}
use Rattle.candidate.specs.declared.Planned.{Planned}
use Rattle.layout.proofs.Shapes.{accepted_shaped}
use Rattle.layout.proofs.Theorems.{holds_accepted}
use Rattle.round.specs.Changes.{Becomes, HasFree}
use Rattle.round.specs.Cases.{AggregateDue, BlockDue, EventDue, EventTaken, ActionDue, Passed}
use Rattle.round.specs.Rounds.{MayRound, MayAct}
use Rattle.round.proofs.Lifted.{LiftedAs, candidate_lifted}

pub round_shaped : (w : List ℕ) (k : ℕ) → MayRound w k → Shaped w
round_shaped w k may = accepted_shaped w may.accepted

pub rounds_fit : (w : List ℕ) (k : ℕ) → MayRound w k → k + 1 < 2 ^ 64
rounds_fit w k may = omega (arith, may.finished, (holds_accepted w may.accepted).total)

-- ---- what is known of the candidate

module _ (w : List ℕ) (now k : ℕ) (c : Candidate) (may : MayAct w now k c) where
  held : HeldAccepted (state_of w)
  held = holds_accepted w may.round.accepted

  there : Found (state_of w) (candidate_of (take 256 w) c)
  there = subst (Found (state_of w)) (sym may.is) (found (state_of w) now)

  lifted : LiftedAs (state_of w) (candidate_of (take 256 w) c)
  lifted = subst (LiftedAs (state_of w)) (sym may.is) (candidate_lifted (state_of w) now held.sound)

  enough_free : records_taken (state_of w) now (candidate_of (take 256 w) c) ≤ length (state_of w).free
  enough_free = subst (λ (x : RulesCandidate). records_taken (state_of w) now x ≤ length (state_of w).free) (sym may.is) (round_takes_free (state_of w) now held)

  act_shaped : Shaped w
  act_shaped = round_shaped w k may.round

-- as the case is told: the candidate given anew
as_told : (w : List ℕ) (now k : ℕ) (c x : Candidate) → c ≡ x → MayAct w now k c → MayAct w now k x
as_told w now k c x e may = subst (MayAct w now k) e may

passed_as : (w left : List ℕ) (now k : ℕ) (c x : Candidate) (r : Option Chosen) → c ≡ x → Passed w left k (act (state_of w) now (candidate_of (take 256 w) x)) (Ok r) → Passed w left k (act (state_of w) now (candidate_of (take 256 w) c)) (Ok r)
passed_as w left now k c x r e p = subst (λ (y : Candidate). Passed w left k (act (state_of w) now (candidate_of (take 256 w) y)) (Ok r)) (sym e) p

module _ (w : List ℕ) (now k : ℕ) (c : Candidate) (may : MayAct w now k c) where
  pub act_rounds : k + 1 < 2 ^ 64
  act_rounds = rounds_fit w k may.round

  -- ---- 1. an aggregate

  module _ (a : AggregateDelay) (e : c ≡ Aggregate a) where
    pub aggregate_due : AggregateDue w a
    unfolding candidate_of
    aggregate_due =
        let m : MayAct w now k (Aggregate a) = as_told w now k c (Aggregate a) e may in
        record { shaped = act_shaped w now k (Aggregate a) m; first = there w now k (Aggregate a) m; sum = (fits_all _ m.sums).0 }

    pub aggregate_acted : (left : List ℕ) → Becomes w left (take_aggregate (state_of w) (in_record (head_in w 11) (aggregate_in a))) → Passed w left k (act (state_of w) now (candidate_of (take 256 w) c)) (Ok None)
    unfolding candidate_of
    aggregate_acted left b = passed_as w left now k c (Aggregate a) None e (record { answer = refl; words = b })

  -- ---- 2. a block

  module _ (b : BlockEnd) (by : Option Length) (e : c ≡ Block b by) where
    pub block_due : BlockDue w now b by
    unfolding candidate_of Reckoned
    block_due =
        let m : MayAct w now k (Block b by) = as_told w now k c (Block b by) e may in
        record { accepted = may.round.accepted; set = there w now k (Block b by) m; sum = (fits_all _ m.sums).0; reckoned = m.reckoned }

    pub block_acted : (left : List ℕ) (r : Option Chosen) → Passed w left k (end_block (state_of w) now (block_from b)) (Ok r) → Passed w left k (act (state_of w) now (candidate_of (take 256 w) c)) (Ok r)
    unfolding candidate_of
    block_acted left r p = passed_as w left now k c (Block b by) r e p

  -- ---- 3. an event

  module _ (h : Head) (e : c ≡ AnEvent h) where
    pub event_due : EventDue w h
    unfolding candidate_of Stands head_from
    event_due =
        let m : MayAct w now k (AnEvent h) = as_told w now k c (AnEvent h) e may in
        record { shaped = act_shaped w now k (AnEvent h) m; head = m.stands; lifted = lifted w now k (AnEvent h) m }

    pub event_acted : (left : List ℕ) (r : SimEvent) → EventTaken w left now h r → Passed w left k (act (state_of w) now (candidate_of (take 256 w) c)) (Ok (Some (record { event = Some r; rounds = k + 1 })))
    unfolding candidate_of
    event_acted left r t = passed_as w left now k c (AnEvent h) _ e (record { answer = ap (λ (x : MathOption Event). some (chosen_as x (k + 1))) t.event; words = t.words })

  -- ---- 4. a timer

  module _ (d : Due) (e : c ≡ Timer d) where
    pub timer_due : HasFree w 1
    unfolding candidate_of Stands
    timer_due =
        let m : MayAct w now k (Timer d) = as_told w now k c (Timer d) e may in
        record { shaped = act_shaped w now k (Timer d) m; free = enough_free w now k (Timer d) m }

    pub timer_acted : (left : List ℕ) → Becomes w left (push_event (timer_cleared (state_of w) (due_slot d)) (timer_event (due_slot d) d.moment.0)) → Passed w left k (act (state_of w) now (candidate_of (take 256 w) c)) (Ok None)
    unfolding candidate_of
    timer_acted left b = passed_as w left now k c (Timer d) None e (record { answer = refl; words = b })

  -- ---- 5. an action

  module _ (p : Planned) (e : c ≡ AnAction p) where
    pub action_due : ActionDue w p
    unfolding candidate_of Stands
    action_due =
        let m : MayAct w now k (AnAction p) = as_told w now k c (AnAction p) e may in
        record { room = record { shaped = act_shaped w now k (AnAction p) m; free = enough_free w now k (AnAction p) m }; sums = m.sums }

    pub action_acted : (left : List ℕ) → Becomes w left (do_action (state_of w) (planned_slot p) (action_value p.action)) → Passed w left k (act (state_of w) now (candidate_of (take 256 w) c)) (Ok None)
    unfolding candidate_of
    action_acted left b = passed_as w left now k c (AnAction p) None e (record { answer = refl; words = b })
