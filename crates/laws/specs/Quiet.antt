-- Quiet: no event is queued, no side is blocked, no action or timer is at or after now. Where all five delays are absent, the state is quiet.
use Rattle.std.specs.Prelude.{ℕ, ◌+◌, ◌≡◌, refl, Bool, true, false, not, ◌&&◌, List, [], ◌∷◌, ltb, length}
use Rattle.std.proofs.Common.{ap₂, sym, ap, ◌∙◌, true≢false, arith, lt-ltb, ltb-true, eq-eqb, eqb-true}
use Rattle.std.proofs.lemmas.Bool.{false≢true}
use Rattle.std.proofs.Math.Option.{Option, none, some, map, some-ne-none}
use Rattle.rules.specs.Basics.{Delay, absent, earlier, delay_to, Side, client, server, is_tunnel_sent, is_some}
use Rattle.rules.specs.State.{Event, Held, Chain, base, blocking, bypassable, internal, SideState, State, queued, side}
use Rattle.rules.specs.ChoiceHeads.{Head, head_as, first_by, by_moment, by_delay, side_head, queue_head, held_back, peek_from, peek_queue, head_delay}
use Rattle.rules.specs.ChoiceDelays.{Block, first_block, next_block, action_moments, offered, action_delay, timer_delay, block_delay, aggregate_delay}
use Rattle.rules.specs.CallLists.{all_before, no_block, no_event, no_slot, nothing_to_take}
use Rattle.laws.specs.Branches.{by_if, by_test, both}
use Rattle.laws.specs.Absent.{after_absent, earlier_absent, Early, absent_early}

-- of one side
pub record QuietSide (x : SideState) (now : ℕ) : Type 0 where
  pub no_events : queued x ≡ 0
  pub no_blocks : x.block_end ≡ none
  pub no_timers : Early now x.timers
  pub no_actions : Early now (action_moments x)

-- of both sides
pub record Quiet (s : State) (now : ℕ) : Type 0 where
  pub client : QuietSide s.client now
  pub server : QuietSide s.server now

-- of the side named
pub quiet_side : {s : State} {now : ℕ} → Quiet s now → (z : Side) → QuietSide (side s z) now
quiet_side h client = h.client
quiet_side h server = h.server

-- ---- no event queued and no head

first_none : (lt : Head → Head → Bool) (a b : Option Head) → first_by lt a b ≡ none → (a ≡ none) × (b ≡ none)
unfolding first_by
first_none lt none b h = (refl, h)
first_none lt (some a) none h = absurd (some-ne-none a h)
first_none lt (some a) (some b) h =
    absurd (by_if (λ (o : Option Head). o ≡ none → ⊥) (lt b a) (some-ne-none b) (some-ne-none a) h)

head_none : (c : Chain) (p : ℕ) (l : List (Held Event)) → head_as c p l ≡ none → length l ≡ 0
unfolding head_as
head_none c p [] h = refl
head_none c p (e ∷ l) h = absurd (some-ne-none _ h)

none_empty : (x : SideState) → side_head x ≡ none → queued x ≡ 0
unfolding side_head
none_empty x h =
    let b = first_none _ _ _ h in
    let i = first_none _ _ _ b.1 in
    let y = first_none _ _ _ i.0 in
    omega (arith, head_none _ _ _ b.0, head_none _ _ _ i.1, head_none _ _ _ y.0, head_none _ _ _ y.1)

empty_none : (x : SideState) → queued x ≡ 0 → side_head x ≡ none
unfolding side_head first_by head_as
empty_none x = go x.queues.base x.queues.blocking x.queues.bypassable x.queues.internal
  where
    go :
        (b w y i : List (Held Event)) → length b + length w + length y + length i ≡ 0
        → first_by by_moment (head_as base x.sum b) (first_by by_moment (first_by by_moment (head_as bypassable 0 y) (head_as blocking 0 w)) (head_as internal 0 i)) ≡ none
    go (e ∷ b) w y i h = absurd (omega arith)
    go [] (e ∷ w) y i h = absurd (omega arith)
    go [] [] (e ∷ y) i h = absurd (omega arith)
    go [] [] [] (e ∷ i) h = absurd (omega arith)
    go [] [] [] [] h = refl

-- a quiet state offers no head
pub quiet_offers : (s : State) (now : ℕ) → Quiet s now → offered s now ≡ none
unfolding offered peek_queue queue_head first_by
quiet_offers s now q = rw (empty_none s.client q.client.no_events, empty_none s.server q.server.no_events)

-- ---- all five absent: quiet

held_by_none : (x : SideState) (e : Event) → x.block_end ≡ none → held_back x e ≡ false
held_by_none x e h = rw h (go (is_tunnel_sent e.kind))
  where
    go : (b : Bool) → (b && false && not (e.bypass && x.block_bypassable)) ≡ false
    go true = refl
    go false = refl

-- with nothing else to come and no block, the queues offer their head
offers_head : (s : State) (now : ℕ) → ((z : Side) → (side s z).block_end ≡ none) → (o : Option Head) → peek_from s now absent o ≡ none → o ≡ none
offers_head s now free none h = refl
offers_head s now free (some g) h =
    absurd
    (by_test
    (λ (o : Option Head). o ≡ none → ⊥)
    (held_back (side s g.event.side) g.event)
    (λ e. absurd (true≢false (sym e ∙ held_by_none (side s g.event.side) g.event (free g.event.side))))
    (λ e. some-ne-none g)
    h)

delay_none : {A : Type 0} (now : ℕ) (f : A → ℕ) (o : Option A) → delay_to now (map f o) ≡ absent → o ≡ none
delay_none now f none h = refl
delay_none now f (some a) h = absurd (after_absent _ h)

blocks_none : (c r : Option ℕ) → first_block c r ≡ none → (c ≡ none) × (r ≡ none)
blocks_none none none h = (refl, refl)
blocks_none (some c) none h = absurd (some-ne-none _ h)
blocks_none none (some r) h = absurd (some-ne-none _ h)
blocks_none (some c) (some r) h =
    absurd (by_if (λ (o : Option Block). o ≡ none → ⊥) (ltb c r) (some-ne-none _) (some-ne-none _) h)

all_absent : (a b c d : Delay) → a ≡ absent → b ≡ absent → c ≡ absent → d ≡ absent → earlier (earlier (earlier a b) c) d ≡ absent
all_absent a b c d ha hb hc hd = rw (ha, hb, hc, hd)

no_heads :
    (s : State) (now : ℕ) → action_delay s now ≡ absent → timer_delay s now ≡ absent → block_delay s now ≡ absent → aggregate_delay s now ≡ absent
    → ((z : Side) → (side s z).block_end ≡ none) → offered s now ≡ none → (side_head s.client ≡ none) × (side_head s.server ≡ none)
unfolding offered peek_queue queue_head
no_heads s now hs hi hb hn free ho =
    first_none
    (by_delay now)
    (side_head s.client)
    (side_head s.server)
    (offers_head s now free (queue_head s now) (sym (ap (λ (d : Delay). peek_from s now d (queue_head s now)) (all_absent _ _ _ _ hs hi hb hn)) ∙ ho))

-- where all five delays are absent the state is quiet
pub absent_quiet :
    (s : State) (now : ℕ) → action_delay s now ≡ absent → timer_delay s now ≡ absent → block_delay s now ≡ absent → aggregate_delay s now ≡ absent
    → head_delay now (offered s now) ≡ absent → Quiet s now
absent_quiet s now hs hi hb hn hq =
    let a = earlier_absent _ _ hs in
    let t = earlier_absent _ _ hi in
    let k = blocks_none s.client.block_end s.server.block_end (delay_none now (λ (b : Block). b.end) (next_block s) hb) in
    let o = no_heads s now hs hi hb hn (free k) (delay_none now (λ (h : Head). h.moment) (offered s now) hq) in
    record {
      client = record {
        no_events = none_empty s.client o.0;
        no_blocks = k.0;
        no_timers = absent_early now s.client.timers t.0;
        no_actions = absent_early now (action_moments s.client) a.0;
      };
      server = record {
        no_events = none_empty s.server o.1;
        no_blocks = k.1;
        no_timers = absent_early now s.server.timers t.1;
        no_actions = absent_early now (action_moments s.server) a.1;
      };
    }
  where
    free : (s.client.block_end ≡ none) × (s.server.block_end ≡ none) → (z : Side) → (side s z).block_end ≡ none
    free k client = k.0
    free k server = k.1

-- ---- quiet, as the test of document 01

early_before : (now : ℕ) (l : List (Option ℕ)) → Early now l → all_before now l ≡ true
early_before now [] h = refl
early_before now (none ∷ l) h = early_before now l h
early_before now (some t ∷ l) h = ap₂ (◌&&◌) (lt-ltb t now h.0) (early_before now l h.1)

before_early : (now : ℕ) (l : List (Option ℕ)) → all_before now l ≡ true → Early now l
before_early now [] h = tt
before_early now (none ∷ l) h = before_early now l h
before_early now (some t ∷ l) h =
    let g : (ltb t now ≡ true) × (all_before now l ≡ true) = both (ltb t now) (all_before now l) h in
    (ltb-true t now g.0, before_early now l g.1)

none_unset : (o : Option ℕ) → not (is_some o) ≡ true → o ≡ none
none_unset none h = refl
none_unset (some t) h = absurd (false≢true h)

-- a quiet state passes the test of document 01
pub quiet_test : (s : State) (now : ℕ) → Quiet s now → nothing_to_take s now ≡ true
quiet_test s now q =
    ap₂ (◌&&◌)
    (ap₂ (◌&&◌)
    (ap₂ (◌&&◌)
    (eq-eqb (queued s.client + queued s.server) 0 (omega (arith, q.client.no_events, q.server.no_events)))
    (ap₂ (◌&&◌) (ap (λ (o : Option ℕ). not (is_some o)) q.client.no_blocks) (ap (λ (o : Option ℕ). not (is_some o)) q.server.no_blocks)))
    (slots s.client q.client))
    (slots s.server q.server)
  where
    slots : (x : SideState) → QuietSide x now → no_slot now x ≡ true
    slots x h = ap₂ (◌&&◌) (early_before now (action_moments x) h.no_actions) (early_before now x.timers h.no_timers)

-- and a state that passes it is quiet
pub test_quiet : (s : State) (now : ℕ) → nothing_to_take s now ≡ true → Quiet s now
test_quiet s now h =
    let a = both (no_event s && no_block s && no_slot now s.client) (no_slot now s.server) h in
    let b = both (no_event s && no_block s) (no_slot now s.client) a.0 in
    let c = both (no_event s) (no_block s) b.0 in
    let d = both (not (is_some s.client.block_end)) (not (is_some s.server.block_end)) c.1 in
    let e : queued s.client + queued s.server ≡ 0 = eqb-true (queued s.client + queued s.server) 0 c.0 in
    record {
      client = quiet s.client (omega arith) d.0 b.1;
      server = quiet s.server (omega arith) d.1 a.1;
    }
  where
    quiet : (x : SideState) → queued x ≡ 0 → not (is_some x.block_end) ≡ true → no_slot now x ≡ true → QuietSide x now
    quiet x n k g =
        let p = both (all_before now (action_moments x)) (all_before now x.timers) g in
        record {
          no_events = n;
          no_blocks = none_unset x.block_end k;
          no_timers = before_early now x.timers p.1;
          no_actions = before_early now (action_moments x) p.0;
        }
