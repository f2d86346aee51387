-- The five delays, filled one by one. Assumes nothing.
use Prim.Native.Nat.{ℕ, ◌-◌, ◌<◌}
use mathlib.Core.Path.{◌≡◌, refl, sym, ap, subst, ◌∙◌}
use mathlib.Core.List.{List, head?, map}
use mathlib.Core.Option as RulesOption
use native.Mathlib.Omega.{arith}
use Rattle.std.specs.Prelude.{Option, Some, None}
use Rattle.moment.specs.declared.Length.{Length}
use Rattle.rules.specs.Basics.{after, delay_to, earlier}
use Rattle.rules.specs.State.{Aggregate, Held}
use Rattle.rules.specs.ChoiceHeads.{head_delay, peek_queue}
use Rattle.rules.specs.ChoiceDelays.{action_delay, timer_delay, block_delay, aggregate_delay, Block, next_block, offered, delays, Delays as RulesDelays}
use Rattle.queue_event.specs.Words.{word}
use Rattle.queue_event.specs.Chain.{rec_at, nodes}
use Rattle.layout.specs.Records.{head_of, count_of, chain_at}
use Rattle.layout.specs.Layout.{aggregate_from, held_aggregate, state_from}
use Rattle.queue.specs.declared.peek.Head.{Head}
use Rattle.queue.specs.Heads.{found_of, PeekedBoth}
use Rattle.queue_event.proofs.Laws.{nodes_next}
use Rattle.layout.proofs.Banks.{chains_at}
use Rattle.queue_peek.specs.declared.five.Delays.{Delays}
use Rattle.queue_peek.specs.declared.blocks.BlockEnd.{BlockEnd}
use Rattle.queue_peek.specs.Decoded.{delay_of, delays_of, blocked_of, no_delays, with_s, with_i, with_b, with_n, with_q, least_of}

pub none_filled : delays_of (record { s = None; i = None; b = None; n = None; q = None; found = None }) ≡ no_delays
unfolding delays_of delay_of
none_filled = refl

pub least_four :
    (d : Delays) (x y z : Option Length) → delay_of x ≡ earlier (delay_of d.s) (delay_of d.i) → delay_of y ≡ earlier (delay_of x) (delay_of d.b)
    → delay_of z ≡ earlier (delay_of y) (delay_of d.n) → delay_of z ≡ least_of (delays_of d)
unfolding delays_of
least_four d x y z ex ey ez = ez ∙ ap (λ i. earlier i (delay_of d.n)) (ey ∙ ap (λ i. earlier i (delay_of d.b)) ex)

module _ (h : List ℕ) (d : Delays) (t : ℕ) where
  -- ---- s, i and b

  module _ (rs : List ℕ) where
    pub s_filled : (z : Option Length) → delay_of z ≡ action_delay (state_from h rs) t → delays_of (record { s = z; i = d.i; b = d.b; n = d.n; q = d.q; found = d.found }) ≡ with_s (delays_of d) (action_delay (state_from h rs) t)
    unfolding delays_of
    s_filled z e = ap (with_s (delays_of d)) e

    pub i_filled : (z : Option Length) → delay_of z ≡ timer_delay (state_from h rs) t → delays_of (record { s = d.s; i = z; b = d.b; n = d.n; q = d.q; found = d.found }) ≡ with_i (delays_of d) (timer_delay (state_from h rs) t)
    unfolding delays_of
    i_filled z e = ap (with_i (delays_of d)) e

    module _ (k : Option BlockEnd) (ek : blocked_of k ≡ next_block (state_from h rs)) where
      b_is : delay_to t (RulesOption.map (λ (b : Block). b.end) (blocked_of k)) ≡ block_delay (state_from h rs) t
      b_is = ap (λ o. delay_to t (RulesOption.map (λ (b : Block). b.end) o)) ek

      pub b_absent : k ≡ None → delays_of (record { s = d.s; i = d.i; b = None; n = d.n; q = d.q; found = d.found }) ≡ with_b (delays_of d) (block_delay (state_from h rs) t)
      unfolding delays_of delay_of blocked_of
      b_absent e = ap (with_b (delays_of d)) (ap (λ (x : Option BlockEnd). delay_to t (RulesOption.map (λ (b : Block). b.end) (blocked_of x))) (sym e) ∙ b_is)

      pub b_filled :
          (z : BlockEnd) (l : Length) → k ≡ Some z → l.0 ≡ z.end.0 - t
          → delays_of (record { s = d.s; i = d.i; b = Some l; n = d.n; q = d.q; found = d.found }) ≡ with_b (delays_of d) (block_delay (state_from h rs) t)
      unfolding delays_of delay_of blocked_of
      b_filled z l e el = ap (with_b (delays_of d)) (ap after el ∙ ap (λ (x : Option BlockEnd). delay_to t (RulesOption.map (λ (b : Block). b.end) (blocked_of x))) (sym e) ∙ b_is)

  -- ---- n

  module _ (rs : List ℕ) where
    n_is : delay_to t (RulesOption.map (λ (a : Held Aggregate). a.value.moment) (head? (map held_aggregate (chain_at h rs 11)))) ≡ aggregate_delay (state_from h rs) t
    unfolding state_from
    n_is = ap (λ l. delay_to t (RulesOption.map (λ (a : Held Aggregate). a.value.moment) (head? (map held_aggregate l)))) (sym (chains_at h rs 11 (omega arith)))

    pub n_absent : count_of h 11 ≡ 0 → delays_of (record { s = d.s; i = d.i; b = d.b; n = None; q = d.q; found = d.found }) ≡ with_n (delays_of d) (aggregate_delay (state_from h rs) t)
    unfolding delays_of delay_of nodes
    n_absent z = ap (with_n (delays_of d)) (sym (ap (λ i. delay_to t (RulesOption.map (λ (a : Held Aggregate). a.value.moment) (head? (map held_aggregate (nodes rs i (head_of h 11)))))) z) ∙ n_is)

    -- the first record, p of the words rs'
    pub n_filled :
        (rs' : List ℕ) (p w : ℕ) (l : Length) → 0 < count_of h 11 → p ≡ head_of h 11 → rs' ≡ rs → w ≡ word rs' p 1 → l.0 ≡ w - t
        → delays_of (record { s = d.s; i = d.i; b = d.b; n = Some l; q = d.q; found = d.found }) ≡ with_n (delays_of d) (aggregate_delay (state_from h rs) t)
    unfolding delays_of delay_of rec_at aggregate_from
    n_filled rs' p w l some ep er ew el =
        ap (with_n (delays_of d))
        (ap after (el ∙ (λ e. (ew ∙ (λ k. word (er k) (ep k) 1)) e - t))
        ∙ sym (ap (λ l. delay_to t (RulesOption.map (λ (a : Held Aggregate). a.value.moment) (head? (map held_aggregate l)))) (nodes_next rs (count_of h 11) (head_of h 11) some))
        ∙ n_is)

  -- ---- q, and the head

  pub q_filled :
      (rs : List ℕ) (least : Option Length) (f : Option Head) (z : Option Length) → delay_of least ≡ least_of (delays_of d) → PeekedBoth h rs f (peek_queue (state_from h rs) t (delay_of least)) → delay_of z ≡ head_delay t (found_of f)
      → (delays_of (record { s = d.s; i = d.i; b = d.b; n = d.n; q = z; found = f }) ≡ with_q (delays_of d) (head_delay t (peek_queue (state_from h rs) t (least_of (delays_of d)))))
      × PeekedBoth h rs f (peek_queue (state_from h rs) t (least_of (delays_of d)))
  unfolding delays_of
  q_filled rs least f z el pf ez =
      let p = subst (λ x. PeekedBoth h rs f (peek_queue (state_from h rs) t x)) el pf in
      (ap (with_q (delays_of d)) (ez ∙ ap (head_delay t) p.is), p)

-- ---- all five

pub all_filled :
    (h rs : List ℕ) (t : ℕ) (d₀ d₁ d₂ d₃ d₄ d₅ : Delays) → delays_of d₀ ≡ no_delays
    → delays_of d₁ ≡ with_s (delays_of d₀) (action_delay (state_from h rs) t) → delays_of d₂ ≡ with_i (delays_of d₁) (timer_delay (state_from h rs) t)
    → delays_of d₃ ≡ with_b (delays_of d₂) (block_delay (state_from h rs) t) → delays_of d₄ ≡ with_n (delays_of d₃) (aggregate_delay (state_from h rs) t)
    → (delays_of d₅ ≡ with_q (delays_of d₄) (head_delay t (peek_queue (state_from h rs) t (least_of (delays_of d₄))))) × PeekedBoth h rs d₅.found (peek_queue (state_from h rs) t (least_of (delays_of d₄)))
    → (delays_of d₅ ≡ delays (state_from h rs) t) × PeekedBoth h rs d₅.found (offered (state_from h rs) t)
unfolding delays offered
all_filled h rs t d₀ d₁ d₂ d₃ d₄ d₅ e₀ e₁ e₂ e₃ e₄ e₅ = (
  e₅.0 ∙ ap (λ (x : RulesDelays). with_q x (head_delay t (peek_queue (state_from h rs) t (least_of x)))) four,
  subst (λ (x : RulesDelays). PeekedBoth h rs d₅.found (peek_queue (state_from h rs) t (least_of x))) four e₅.1,
)
  where
    four : delays_of d₄ ≡ with_n (with_b (with_i (with_s no_delays (action_delay (state_from h rs) t)) (timer_delay (state_from h rs) t)) (block_delay (state_from h rs) t)) (aggregate_delay (state_from h rs) t)
    four =
        e₄ ∙ ap (λ (x : RulesDelays). with_n x (aggregate_delay (state_from h rs) t))
        (e₃ ∙ ap (λ (x : RulesDelays). with_b x (block_delay (state_from h rs) t))
        (e₂ ∙ ap (λ (x : RulesDelays). with_i x (timer_delay (state_from h rs) t))
        (e₁ ∙ ap (λ (x : RulesDelays). with_s x (action_delay (state_from h rs) t)) e₀)))
