-- The head of a chain of the words is the head of the rules' chain. Assumes nothing.
use Prim.Native.Nat.{ℕ, zero, suc, ◌+◌, ◌*◌, ◌%◌, ◌^◌, ◌<◌, ◌≤◌}
use mathlib.Core.Path.{◌≡◌, refl, sym, ap, subst, ◌∙◌}
use mathlib.Core.Bool.{Bool, true, false}
use mathlib.Core.List.{List, map}
use mathlib.Core.Option.{some as some_of}
use native.Mathlib.Omega.{arith}
use Rattle.moment.specs.declared.Moment.{Moment}
use Rattle.rules.specs.Basics.{Side, client, server}
use Rattle.rules.specs.State.{Event, queue}
use Rattle.rules.specs.Limits.{moment_limit}
use Rattle.rules.specs.ChoiceHeads.{head_as}
use Rattle.event.specs.declared.SimEvent.{SimEvent}
use Rattle.event.specs.HandedIn.{side_of}
use Rattle.queue_event.specs.Words.{In}
use Rattle.queue_event.specs.Chain.{Rec, rec_at, nodes}
use Rattle.queue_event.specs.Values.{read_event}
use Rattle.queue_event.specs.Tag.{flag as flag_of, flag, kind_field, padding_field, bypass_field, replace_field, machine_field}
use Rattle.layout.specs.Records.{head_of, count_of, machines_for, LinkOk}
use Rattle.layout.specs.Accepted.{Good}
use Rattle.layout.specs.Layout.{chains, event_from, held_event}
use Rattle.event.specs.Values.{kind_at, event_value}
use Rattle.layout.specs.Changes.{side_no, chain_no}
use Rattle.queue_event.proofs.Laws.{nodes_next}
use Rattle.layout.proofs.Banks.{chains_at}
use Rattle.layout.proofs.TwoChains.{queue_built}
use Rattle.layout.proofs.Walk.{ok_chain, chain_link}
use Rattle.std.specs.Prelude.{Some, None}
use Rattle.queue.specs.declared.header.Queue.{Queue}
use Rattle.queue.specs.declared.header.Queue.TheVariants.{Base, Blocking, Bypassable, Internal}
use Rattle.queue.specs.Queues.{queue_no, queue_of}
use Rattle.queue.specs.Heads.{head_from, found_of, side_held, number_of, Stands, Peeked}

-- ---- an event as it is read

pub flag_same : (n : ℕ) → flag_of n ≡ flag n
flag_same zero = refl
flag_same (suc n) = refl

pub event_same : (b : Bool) (x : Rec) → event_value (read_event b x) ≡ event_from (side_of b) x
unfolding event_from
event_same b x =
    λ d.
    record {
      kind = kind_at (kind_field x.tag);
      moment = x.moment;
      delay = x.size;
      side = side_of b;
      padding = flag_same (padding_field x.tag) d;
      bypass = flag_same (bypass_field x.tag) d;
      replace = flag_same (replace_field x.tag) d;
      machine = machine_field x.tag;
    }

-- ---- the number of a chain

pub chain_number : (q : Queue) (z : Side) → chain_no z (queue_of q) ≡ queue_no q + 5 * side_no z
chain_number Base client = refl
chain_number Base server = refl
chain_number Blocking client = refl
chain_number Blocking server = refl
chain_number Bypassable client = refl
chain_number Bypassable server = refl
chain_number Internal client = refl
chain_number Internal server = refl

pub queue_range : (q : Queue) → (1 ≤ queue_no q) × (queue_no q ≤ 4)
queue_range Base = (omega arith, omega arith)
queue_range Blocking = (omega arith, omega arith)
queue_range Bypassable = (omega arith, omega arith)
queue_range Internal = (omega arith, omega arith)

side_small : (b : Bool) → side_no (side_of b) ≤ 1
side_small true = omega arith
side_small false = omega arith

-- ---- the head of an accepted chain: its record, its contents, and its place in the order
pub head_link : (h rs : List ℕ) (k : ℕ) → Good h rs → k < 12 → 0 < count_of h k → LinkOk rs k (machines_for h k) 0 0 (head_of h k)
head_link h rs k g l p = chain_link rs k (machines_for h k) (count_of h k) 0 0 (head_of h k) p (ok_chain h rs k (g.chains k l))

-- k is the number of the chain of the side's queue q
module _ (h rs : List ℕ) (q : Queue) (b : Bool) (k : ℕ) (ek : k ≡ number_of q b) where
  range : (1 ≤ queue_no q) × (queue_no q ≤ 4)
  range = queue_range q

  small : k ≤ 9
  small = omega (arith, side_small b, range.1)

  place : k % 5 ≡ queue_no q
  place = go (side_no (side_of b)) (side_small b) ek
    where
      go : (s : ℕ) → s ≤ 1 → k ≡ queue_no q + 5 * s → k % 5 ≡ queue_no q
      go s l e = omega (arith, range.0, range.1)

  queue_is : queue (side_held h rs b).queues (queue_of q) ≡ map (held_event (side_of b)) (nodes rs (count_of h k) (head_of h k))
  queue_is =
      queue_built h rs (side_of b) (queue_of q)
      ∙ ap (λ i. map (held_event (side_of b)) (chains h rs i)) (chain_number q (side_of b) ∙ sym ek)
      ∙ ap (map (held_event (side_of b))) (chains_at h rs k (omega (arith, small)))

  -- an empty chain
  pub none_there : (plus : ℕ) → count_of h k ≡ 0 → Peeked h rs b None (head_as (queue_of q) plus (queue (side_held h rs b).queues (queue_of q)))
  unfolding found_of Stands head_as nodes
  none_there plus e =
      record {
        is = sym (ap (head_as (queue_of q) plus) (queue_is ∙ ap (λ i. map (held_event (side_of b)) (nodes rs i (head_of h k))) e));
        stands = tt;
      }

  -- the record p of the words rs', which is its first
  module _ (g : Good h rs) (some : 0 < count_of h k) (rs' : List ℕ) (p : ℕ) (ep : p ≡ head_of h k) (er : rs' ≡ rs) where
    link : LinkOk rs k (machines_for h k) 0 0 (head_of h k)
    link = head_link h rs k g (omega (arith, small)) some

    -- its event's moment
    pub head_moment : (e : SimEvent) → e ≡ read_event b (rec_at rs' p) → e.moment.0 ≤ moment_limit
    unfolding rec_at
    head_moment e ee = rw (ee, ep, er) (link.holds.event (omega (arith, place, range.0)) (omega (arith, small))).moments

    -- the sum fits a word
    pub head_plus : (e : SimEvent) (plus : ℕ) → e ≡ read_event b (rec_at rs' p) → plus ≤ moment_limit → e.moment.0 + plus < 2 ^ 64
    head_plus e plus ee l = omega (arith, head_moment e ee)

    head_kind : (e : SimEvent) → e ≡ read_event b (rec_at rs' p) → e.kind.0 ≤ 9
    unfolding rec_at
    head_kind e ee = rw (ee, ep, er) (link.holds.shape.event (omega (arith, place, range.0)) (omega (arith, small))).kind.kinds

    -- the head, with the length added to its moment
    pub first_there :
        (e : SimEvent) (t : Moment) (plus : ℕ) → e ≡ read_event b (rec_at rs' p) → t.0 ≡ e.moment.0 + plus → plus ≤ moment_limit
        → Peeked h rs b (Some (record { queue = q; place = p; event = e; moment = t })) (head_as (queue_of q) plus (queue (side_held h rs b).queues (queue_of q)))
    unfolding found_of head_from Stands head_as rec_at
    first_there e t plus ee et lp =
        record {
          is = same ∙ sym (ap (head_as (queue_of q) plus) (queue_is ∙ ap (map (held_event (side_of b))) (nodes_next rs (count_of h k) (head_of h k) some)));
          stands =
              record {
                some = subst (λ i. 0 < count_of h i) ek some;
                first = ep ∙ ap (head_of h) ek;
                within = subst (In rs) (sym ep) link.within;
                event = ee ∙ ap (λ (r : List ℕ). read_event b (rec_at r p)) er;
                side = ap (λ (x : SimEvent). x.client) ee;
                kind = head_kind e ee;
                raw = head_moment e ee;
                moment = omega (arith, head_moment e ee);
              };
        }
      where
        told : event_value e ≡ event_from (side_of b) (rec_at rs (head_of h k))
        told = ap event_value ee ∙ event_same b (rec_at rs' p) ∙ (λ d. event_from (side_of b) (rec_at (er d) (ep d)))

        same :
            found_of (Some (record { queue = q; place = p; event = e; moment = t }))
            ≡ some_of (record { chain = queue_of q; place = head_of h k; event = event_from (side_of b) (rec_at rs (head_of h k)); moment = (event_from (side_of b) (rec_at rs (head_of h k))).moment + plus })
        same = λ d. some_of (record { chain = queue_of q; place = ep d; event = told d; moment = (et ∙ ap (λ (x : Event). x.moment + plus) told) d })
