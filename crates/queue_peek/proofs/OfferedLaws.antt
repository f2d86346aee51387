-- The heads behind the blocks, and what the queues offer a round. Assumes nothing.
use Prim.Native.Nat.{ℕ, ◌-◌, ◌≤◌}
use mathlib.Core.Path.{◌≡◌, refl, sym, ap, ap₂, subst, ◌∙◌}
use mathlib.Core.Bool.{Bool, true, false}
use mathlib.Core.List.{List}
use mathlib.Core.Option.{Option as RulesOption, none, get_or, map}
use Rattle.moment.specs.declared.Moment.{Moment}
use Rattle.moment.specs.declared.Length.{Length}
use Rattle.std.specs.Prelude.{if◌then◌else◌, Option, Some, None, unwrap_or}
use Rattle.std.specs.Bool.{then_some}
use Rattle.std.specs.Option.{MatchOption}
use Rattle.std.proofs.lemmas.Option.{none-some, same_Some}
use Rattle.rules.specs.Basics.{after, ◌≤ᵈ◌}
use Rattle.rules.specs.Limits.{moment_limit}
use Rattle.rules.specs.ChoiceHeads.{head_delay, held_back, waiting_first, not_before, waiting_head, passing_head, earliest_of_side, earliest_blocked, first_by, peek_from, peek_queue, queue_head, Head as RulesHead}
use Rattle.layout.specs.Accepted.{Good}
use Rattle.layout.specs.Layout.{state_from}
use Rattle.queue.specs.declared.peek.Head.{Head}
use Rattle.event.specs.Values.{event_value}
use Rattle.queue.specs.Views.{moment_no}
use Rattle.queue.specs.Heads.{head_from, found_of, side_held, StandsOn, Peeked, PeekedBoth, first_in}
use Rattle.queue.proofs.HeadsOrder.{peeked_by, stands_on, stands_on_at}
use Rattle.queue_peek.specs.Decoded.{delay_of}
use Rattle.queue_peek.specs.Promises.{Lifted}
use Rattle.queue_peek.proofs.BlockLaws.{end_small}

-- ---- a side

lifted_peeked : (h rs : List ℕ) (b : Bool) (end : ℕ) (f r : Option Head) (o : RulesOption RulesHead) → end ≤ moment_limit → Peeked h rs b f o → Lifted end f r → Peeked h rs b r (map (not_before end) o)
lifted_peeked h rs b end f r o l p m = record { is = m.is ∙ ap (map (not_before end)) p.is; stands = m.stands h rs b l p.stands }

module _ (h rs : List ℕ) (b : Bool) (g : Good h rs) (t : Moment) (l : t.0 ≤ moment_limit) (o : Option Moment) (eo : moment_no o ≡ (side_held h rs b).block_end) (e : Moment) (ee : e ≡ unwrap_or o t) where
  end_is : e.0 ≡ get_or (side_held h rs b).block_end t.0
  end_is = ap (λ (x : Moment). x.0) ee ∙ go o ∙ ap (λ x. get_or x t.0) eo
    where
      go : (x : Option Moment) → (unwrap_or x t).0 ≡ get_or (moment_no x) t.0
      go None = refl
      go (Some m) = refl

  small : e.0 ≤ moment_limit
  small = subst (λ i. i ≤ moment_limit) (sym end_is) (end_small h rs b t.0 g.limits l)

  pub side_earliest :
      (flag : Bool) (p w m r : Option Head) → flag ≡ (side_held h rs b).block_bypassable → Peeked h rs b p (passing_head flag (side_held h rs b)) → Peeked h rs b w (waiting_head flag (side_held h rs b))
      → Lifted e.0 w m → r ≡ first_in (λ x y. waiting_first (head_from x) (head_from y)) p m → Peeked h rs b r (earliest_of_side t.0 (side_held h rs b))
  unfolding earliest_of_side
  side_earliest flag p w m r ef pp pw lm c =
      record {
        is = got.is ∙ ap₂ (λ y i. first_by waiting_first (passing_head y (side_held h rs b)) (map (not_before i) (waiting_head y (side_held h rs b)))) ef end_is;
        stands = got.stands;
      }
    where
      got : Peeked h rs b r (first_by waiting_first (passing_head flag (side_held h rs b)) (map (not_before e.0) (waiting_head flag (side_held h rs b))))
      got = peeked_by h rs b p m r _ _ pp (lifted_peeked h rs b e.0 w m _ small pw lm) waiting_first (λ x y. waiting_first (head_from x) (head_from y)) (λ x y kx ky. refl) c

-- ---- both sides

module _ (h rs : List ℕ) (t : ℕ) (c s : Option Head) (pc : Peeked h rs true c (earliest_of_side t (side_held h rs true))) (ps : Peeked h rs false s (earliest_of_side t (side_held h rs false)))
    (x y : Option Length) (r : Bool) (ex : delay_of x ≡ head_delay t (found_of c)) (ey : delay_of y ≡ head_delay t (found_of s)) (er : r ≡ (delay_of x ≤ᵈ delay_of y)) where
  smaller : (if r then found_of c else found_of s) ≡ earliest_blocked (state_from h rs) t
  unfolding earliest_blocked
  smaller =
      (λ d. if (er ∙ ap₂ ◌≤ᵈ◌ (ex ∙ ap (head_delay t) pc.is) (ey ∙ ap (head_delay t) ps.is)) d then pc.is d else ps.is d)

  pub earliest_client : r ≡ true → PeekedBoth h rs c (earliest_blocked (state_from h rs) t)
  earliest_client e = record { is = sym (ap (λ z. if z then found_of c else found_of s) e) ∙ smaller; stands = stands_on h rs true c pc.stands }

  pub earliest_server : r ≡ false → PeekedBoth h rs s (earliest_blocked (state_from h rs) t)
  earliest_server e = record { is = sym (ap (λ z. if z then found_of c else found_of s) e) ∙ smaller; stands = stands_on h rs false s ps.stands }

-- ---- what a filter keeps, where its closure computes a test

module _ {T : Type 0} {Gives : T → Bool → Type 0} (test : T → Bool) (o kept : Option T) (e : MatchOption o (kept ≡ None) (λ x. (b : Bool) × Gives x b × (kept ≡ then_some b x))) (says : (x : T) (b : Bool) → Gives x b → b ≡ test x) where
  pub kept_some : (y : T) → kept ≡ Some y → (o ≡ Some y) × (true ≡ test y)
  kept_some y k = go o e
    where
      held : (x : T) (b : Bool) → kept ≡ then_some b x → b ≡ test x → (Some x ≡ Some y) × (true ≡ test y)
      held x true n t = let q : Some x ≡ Some y = sym n ∙ k in (q, t ∙ ap test (same_Some x y q))
      held x false n t = absurd (none-some y (sym n ∙ k))

      go : (o : Option T) → MatchOption o (kept ≡ None) (λ x. (b : Bool) × Gives x b × (kept ≡ then_some b x)) → (o ≡ Some y) × (true ≡ test y)
      go None n = absurd (none-some y (sym n ∙ k))
      go (Some x) (b, g, n) = held x b n (says x b g)

  pub kept_none : {P : Type 0} → kept ≡ None → (o ≡ None → P) → ((x : T) → o ≡ Some x → false ≡ test x → P) → P
  kept_none {P} k absent refused = go o e refl
    where
      held : (x : T) (b : Bool) → kept ≡ then_some b x → b ≡ test x → o ≡ Some x → P
      held x true n t q = absurd (none-some x (sym k ∙ n))
      held x false n t q = refused x q t

      go : (p : Option T) → MatchOption p (kept ≡ None) (λ x. (b : Bool) × Gives x b × (kept ≡ then_some b x)) → o ≡ p → P
      go None n q = absent q
      go (Some x) (b, g, n) q = held x b n (says x b g) q

-- ---- what the queues offer

-- not later than the least
abbrev pub in_time : ℕ → Option Length → Head → Bool
in_time t least x = after (x.moment.0 - t) ≤ᵈ delay_of least

pub in_time_is : (t : ℕ) (least : Option Length) (x : Head) (l : Length) (r : Bool) → l.0 ≡ x.moment.0 - t → r ≡ (delay_of (Some l) ≤ᵈ delay_of least) → r ≡ in_time t least x
unfolding delay_of
in_time_is t least x l r el er = er ∙ ap (λ i. after i ≤ᵈ delay_of least) el

module _ (h rs : List ℕ) (t : ℕ) (least : Option Length) (f : Option Head) (p : PeekedBoth h rs f (queue_head (state_from h rs) t)) where
  pub offered_none : f ≡ None → PeekedBoth h rs None (peek_queue (state_from h rs) t (delay_of least))
  unfolding found_of StandsOn peek_queue
  offered_none e = record { is = ap (peek_from (state_from h rs) t (delay_of least)) (ap found_of (sym e) ∙ p.is); stands = tt }

  module _ (x : Head) (ex : f ≡ Some x) where
    pub offered_kind : x.event.kind.0 ≤ 9
    offered_kind = (stands_on_at h rs f x ex p.stands).kind

    chosen : (r k : Bool) → r ≡ in_time t least x → k ≡ held_back (side_held h rs x.event.client) (event_value x.event)
        → (if r then if k then earliest_blocked (state_from h rs) t else found_of (Some x) else none) ≡ peek_queue (state_from h rs) t (delay_of least)
    unfolding found_of head_from peek_queue
    chosen r k er ek =
        (λ d. if er d then if ek d then earliest_blocked (state_from h rs) t else found_of (Some x) else none)
        ∙ ap (peek_from (state_from h rs) t (delay_of least)) (ap found_of (sym ex) ∙ p.is)

    -- later than the other four
    pub offered_late : false ≡ in_time t least x → PeekedBoth h rs None (peek_queue (state_from h rs) t (delay_of least))
    unfolding found_of StandsOn
    offered_late e = record { is = chosen false _ e refl; stands = tt }

    module _ (e : true ≡ in_time t least x) (k : Bool) (ek : k ≡ held_back (side_held h rs x.event.client) (event_value x.event)) where
      pub offered_behind : (q : Option Head) → k ≡ true → PeekedBoth h rs q (earliest_blocked (state_from h rs) t) → PeekedBoth h rs q (peek_queue (state_from h rs) t (delay_of least))
      offered_behind q ke pq = record { is = pq.is ∙ sym (ap (λ z. if z then earliest_blocked (state_from h rs) t else found_of (Some x)) ke) ∙ chosen true k e ek; stands = pq.stands }

      pub offered_head : k ≡ false → PeekedBoth h rs (Some x) (peek_queue (state_from h rs) t (delay_of least))
      offered_head ke = record { is = sym (ap (λ z. if z then earliest_blocked (state_from h rs) t else found_of (Some x)) ke) ∙ chosen true k e ek; stands = subst (StandsOn h rs) ex p.stands }
