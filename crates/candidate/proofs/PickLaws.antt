-- What a round takes up, case by case. Assumes nothing.
use Prim.Native.Nat.{ℕ, zero, suc, ◌+◌, ◌^◌, ◌<◌}
use mathlib.Core.Path.{◌≡◌, refl, sym, ap, subst, ◌∙◌}
use mathlib.Core.Bool.{Bool, true, false}
use mathlib.Core.List.{List, head?, map}
use mathlib.Core.Option.{Option as RulesOption, none, some}
use native.Mathlib.Omega.{arith}
use lib.Dec.{ltb}
use Rattle.std.specs.Prelude.{if◌then◌else◌, Option, Some, None}
use Rattle.std.specs.Option.{option_map}
use Rattle.rules.specs.State.{SideState, State, side}
use Rattle.rules.specs.ChoiceHeads.{Head as RulesHead, waiting_head}
use Rattle.rules.specs.ChoiceDelays.{next_block, first_block, Block, action_moments}
use Rattle.rules.specs.ChoiceRound.{Slot, or_none, an_aggregate, a_block, an_event, a_timer, due_timer, due_action, timer_slot, action_slot, action_from, end_moment, held_up_length, Candidate as RulesCandidate}
use Rattle.moment.specs.declared.Length.{Length}
use Rattle.moment.specs.declared.Moment.{Moment}
use Rattle.event.specs.declared.AggregateDelay.{AggregateDelay}
use Rattle.event.specs.HandedIn.{side_of, aggregate_in}
use Rattle.queue_event.specs.Tag.{side_field, is_client}
use Rattle.queue_event.specs.Chain.{rec_at, nodes, Rec}
use Rattle.queue_event.specs.Values.{read_aggregate}
use Rattle.queue_event.specs.Walks.{FirstOf}
use Rattle.queue_event.specs.declared.read.Record.{Record}
use Rattle.layout.specs.Records.{head_of, count_of, chain_at}
use Rattle.layout.specs.Layout.{side_at, aggregate_from, held_aggregate, state_from}
use Rattle.queue.specs.declared.peek.Head.{Head}
use Rattle.queue.specs.Heads.{found_of, side_held, PeekedBoth}
use Rattle.queue_peek.specs.declared.blocks.BlockEnd.{BlockEnd}
use Rattle.queue_peek.specs.Decoded.{delay_of, block_from, blocked_of}
use Rattle.delay.specs.Tests.{delayed_of}
use Rattle.queue_event.proofs.Laws.{nodes_next}
use Rattle.layout.proofs.Banks.{chains_at}
use Rattle.queue.proofs.HeadsOrder.{stands_on_at}
use Rattle.candidate.specs.declared.Due.{Due}
use Rattle.candidate.specs.declared.Candidate.TheVariants.{Aggregate as AnAggregate, Block as ABlock, Event as AnEvent, Timer as ATimer}
use Rattle.candidate.specs.declared.Candidate.{Candidate}
use Rattle.candidate.specs.Candidates.{due_slot, candidate_of, next_of, Stands, Reckoned, NextStands, NextReckoned}
use Rattle.candidate.specs.Promises.{due_of, DueWhen, DueIn, Picked, TakenUp, Ahead}

-- the same of an equal candidate
pub moved : (h rs : List ℕ) (r : Option Candidate) (c d : RulesCandidate) → Picked h rs r c → c ≡ d → Picked h rs r d
moved h rs r c d p e = record { is = p.is ∙ e; stands = p.stands }

-- ---- the first aggregate

side_read : (n : ℕ) → side_of (is_client n) ≡ side_at n
side_read zero = refl
side_read (suc n) = refl

aggregate_read : (x : Rec) → aggregate_in (read_aggregate x) ≡ aggregate_from x
unfolding aggregate_from
aggregate_read x = λ d. record { moment = x.moment; length = x.size; side = side_read (side_field x.tag) d }

module _ (h rs : List ℕ) where
  aggregates_are : head? (map held_aggregate (chain_at h rs 11)) ≡ head? (state_from h rs).aggregates
  unfolding state_from
  aggregates_are = ap (λ l. head? (map held_aggregate l)) (sym (chains_at h rs 11 (omega arith)))

  aggregate_none : count_of h 11 ≡ 0 → Picked h rs None (or_none an_aggregate (head? (state_from h rs).aggregates))
  unfolding next_of NextStands nodes
  aggregate_none z =
      record { is = ap (or_none an_aggregate) (sym (ap (λ i. head? (map held_aggregate (nodes rs i (head_of h 11)))) z) ∙ aggregates_are); stands = tt }

  -- the first record, p of the words rs'
  aggregate_some : (rs' : List ℕ) (p : ℕ) (a : AggregateDelay) → 0 < count_of h 11 → p ≡ head_of h 11 → rs' ≡ rs → a ≡ read_aggregate (rec_at rs' p)
      → Picked h rs (Some (AnAggregate a)) (or_none an_aggregate (head? (state_from h rs).aggregates))
  unfolding next_of NextStands candidate_of Stands
  aggregate_some rs' p a more ep er ea =
      record {
        is =
            ap (λ v. an_aggregate (record { place = head_of h 11; value = v })) (ap aggregate_in (ea ∙ (λ d. read_aggregate (rec_at (er d) (ep d)))) ∙ aggregate_read (rec_at rs (head_of h 11)))
            ∙ ap (or_none an_aggregate) (sym (ap (λ l. head? (map held_aggregate l)) (nodes_next rs (count_of h 11) (head_of h 11) more)) ∙ aggregates_are);
        stands = more;
      }

  pub aggregate_as : (o : Option Record) (q : Option Candidate) → FirstOf rs (count_of h 11) (head_of h 11) o → q ≡ option_map (λ x. AnAggregate (read_aggregate (rec_at x.records.now x.at))) o
      → Picked h rs q (or_none an_aggregate (head? (state_from h rs).aggregates))
  aggregate_as None q z e = subst (λ x. Picked h rs x (or_none an_aggregate (head? (state_from h rs).aggregates))) (sym e) (aggregate_none z)
  aggregate_as (Some x) q f e = subst (λ x. Picked h rs x (or_none an_aggregate (head? (state_from h rs).aggregates))) (sym e) (aggregate_some x.records.now x.at _ f.0 f.1 f.2 refl)

-- ---- the next block to end

Ends : State → RulesOption Block → Type 0
Ends s none = Unit {0}
Ends s (some k) = (side s k.side).block_end ≡ some k.end

next_ends : (s : State) → Ends s (next_block s)
unfolding Ends
next_ends s = go s.client.block_end s.server.block_end refl refl
  where
    go : (c r : RulesOption ℕ) → s.client.block_end ≡ c → s.server.block_end ≡ r → Ends s (first_block c r)
    go none none ec er = tt
    go (some c) none ec er = ec
    go none (some r) ec er = er
    go (some c) (some r) ec er = choose (ltb c r)
      where
        choose : (b : Bool) → Ends s (if b then some (record { side = side_of true; end = c }) else some (record { side = side_of false; end = r }))
        choose true = ec
        choose false = er

module _ (h rs : List ℕ) (t : ℕ) (k : Option BlockEnd) (ek : blocked_of k ≡ next_block (state_from h rs)) where
  pub block_none : k ≡ None → TakenUp h rs t None (or_none a_block (next_block (state_from h rs)))
  unfolding next_of NextStands NextReckoned blocked_of
  block_none e = record { picked = record { is = ap (or_none a_block) (ap blocked_of (sym e) ∙ ek); stands = tt }; reckoned = tt }

  pub block_some : (z : BlockEnd) (end : ℕ) (by : Option Length) → k ≡ Some z → end ≡ end_moment t (block_from z)
      → delayed_of by ≡ held_up_length (side_held h rs z.client) end (waiting_head false (side_held h rs z.client))
      → TakenUp h rs t (Some (ABlock z by)) (or_none a_block (next_block (state_from h rs)))
  unfolding next_of NextStands NextReckoned candidate_of Stands Reckoned blocked_of Ends
  block_some z end by e ee eb =
      let q = ap blocked_of (sym e) ∙ ek in
      record {
        picked = record { is = ap (or_none a_block) q; stands = subst (Ends (state_from h rs)) (sym q) (next_ends (state_from h rs)) };
        reckoned = eb ∙ ap (λ i. held_up_length (side_held h rs z.client) i (waiting_head false (side_held h rs z.client))) ee;
      }

-- ---- what the queues offer

module _ (f : Option Head) where
  event_none : f ≡ None → (h rs : List ℕ) (o : RulesOption RulesHead) → PeekedBoth h rs f o → Picked h rs None (or_none an_event o)
  unfolding next_of NextStands found_of
  event_none e h rs o p = record { is = ap (or_none an_event) (ap found_of (sym e) ∙ p.is); stands = tt }

  event_some : (x : Head) → f ≡ Some x → (h rs : List ℕ) (o : RulesOption RulesHead) → PeekedBoth h rs f o → Picked h rs (Some (AnEvent x)) (or_none an_event o)
  unfolding next_of NextStands candidate_of Stands found_of
  event_some x e h rs o p = record { is = ap (or_none an_event) (ap found_of (sym e) ∙ p.is); stands = stands_on_at h rs f x e p.stands }

  pub event_as : (q : Option Candidate) → q ≡ option_map (λ x. AnEvent x) f → (h rs : List ℕ) (o : RulesOption RulesHead) → PeekedBoth h rs f o → Picked h rs q (or_none an_event o)
  event_as q eq h rs o p = subst (λ x. Picked h rs x (or_none an_event o)) (sym eq) (go f refl)
    where
      go : (x : Option Head) → f ≡ x → Picked h rs (option_map (λ y. AnEvent y) x) (or_none an_event o)
      go None e = event_none e h rs o p
      go (Some x) e = event_some x e h rs o p

-- ---- the timer and the action that are due

pub ahead_fits : (t : ℕ) (i : Option Length) (l : Length) → Ahead t (delay_of i) → i ≡ Some l → t + l.0 < 2 ^ 64
unfolding Ahead delay_of
ahead_fits t i l a e = let b : Ahead t (delay_of (Some l)) = subst (λ (x : Option Length). Ahead t (delay_of x)) e a in omega arith

module _ (h rs : List ℕ) (t : ℕ) (i : Option Length) where
  pub timer_absent : i ≡ None → Picked h rs None (due_timer (state_from h rs) t (delay_of i))
  unfolding next_of NextStands delay_of
  timer_absent e = record { is = ap (λ (x : Option Length). due_timer (state_from h rs) t (delay_of x)) (sym e); stands = tt }

  pub action_absent : i ≡ None → Picked h rs None (due_action (state_from h rs) t (delay_of i))
  unfolding next_of NextStands delay_of
  action_absent e = record { is = ap (λ (x : Option Length). due_action (state_from h rs) t (delay_of x)) (sym e); stands = tt }

  module _ (l : Length) (u : Moment) (f : Option Due) (e : i ≡ Some l) (eu : u.0 ≡ t + l.0) where
    module _ (p : DueIn (λ (x : SideState). x.timers) (state_from h rs) u.0 f) where
      timer_is : or_none (λ (z : Slot). a_timer z u.0) (due_of f) ≡ due_timer (state_from h rs) t (delay_of i)
      unfolding delay_of
      timer_is =
          ap (or_none (λ (z : Slot). a_timer z u.0)) p.is
          ∙ ap (λ n. or_none (λ (z : Slot). a_timer z n) (timer_slot (state_from h rs) n)) eu
          ∙ ap (λ (x : Option Length). due_timer (state_from h rs) t (delay_of x)) (sym e)

      pub timer_some : (d : Due) → f ≡ Some d → Picked h rs (Some (ATimer d)) (due_timer (state_from h rs) t (delay_of i))
      unfolding next_of NextStands candidate_of Stands due_of DueWhen
      timer_some d x =
          record {
            is = ap (a_timer (due_slot d)) (subst (DueWhen u.0) x p.when) ∙ ap (λ (y : Option Due). or_none (λ (z : Slot). a_timer z u.0) (due_of y)) (sym x) ∙ timer_is;
            stands = tt;
          }

      pub timer_none : f ≡ None → Picked h rs None (due_timer (state_from h rs) t (delay_of i))
      unfolding next_of NextStands due_of
      timer_none x = record { is = ap (λ (y : Option Due). or_none (λ (z : Slot). a_timer z u.0) (due_of y)) (sym x) ∙ timer_is; stands = tt }

    module _ (p : DueIn action_moments (state_from h rs) u.0 f) where
      action_is : or_none (action_from (state_from h rs)) (due_of f) ≡ due_action (state_from h rs) t (delay_of i)
      unfolding delay_of
      action_is =
          ap (or_none (action_from (state_from h rs))) (p.is ∙ ap (action_slot (state_from h rs)) eu)
          ∙ ap (λ (x : Option Length). due_action (state_from h rs) t (delay_of x)) (sym e)

      pub action_some : (r : Option Candidate) (d : Due) → f ≡ Some d → Picked h rs r (action_from (state_from h rs) (due_slot d)) → Picked h rs r (due_action (state_from h rs) t (delay_of i))
      unfolding due_of
      action_some r d x q = moved h rs r _ _ q (ap (λ (y : Option Due). or_none (action_from (state_from h rs)) (due_of y)) (sym x) ∙ action_is)

      pub action_none : f ≡ None → Picked h rs None (due_action (state_from h rs) t (delay_of i))
      unfolding next_of NextStands due_of
      action_none x = record { is = ap (λ (y : Option Due). or_none (action_from (state_from h rs)) (due_of y)) (sym x) ∙ action_is; stands = tt }
