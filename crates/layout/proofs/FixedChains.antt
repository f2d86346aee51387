-- Two states that are one fix the chains of both: heads, counts, and every word of the records in use. Assumes nothing.
use Prim.Native.Nat.{ℕ, zero, suc, ◌<◌}
use mathlib.Core.List.{List, map}
use mathlib.Core.Logic.{◌⊎◌, inl, inr}
use mathlib.Core.Path.{◌≡◌, refl, sym, ap, subst, ◌∙◌}
use native.Mathlib.Omega.{arith}
use lib.Dec.{lit<}
use lib.ListN.{get_or}
use Rattle.queue_event.specs.Chain.{Node, nodes, Chain as LinkedFrom, rec_at}
use Rattle.queue_event.specs.Words.{word, next_of, moment_of, length_of, tag_of}
use Rattle.rules.specs.Basics.{client, server}
use Rattle.layout.specs.Accepted.{Good}
use Rattle.layout.specs.Layout.{held_event, held_stamp, held_aggregate, place_of, bank, chains, state_from}
use Rattle.layout.specs.Records.{head_of, count_of, chain_count}
use Rattle.layout.specs.Places.{Has}
use Rattle.layout.proofs.FixedValues.{less_one_lem, unless_zero_lem, flag_same, map_same, event_node, stamp_node, aggregate_node}

abbrev pub SameWords : List ℕ → List ℕ → ℕ → Type 0
SameWords rs rs' q = (i : ℕ) → i < 4 → word rs q i ≡ word rs' q i

four : (P : ℕ → Type 0) → P 0 → P 1 → P 2 → P 3 → (i : ℕ) → i < 4 → P i
four P a b c d zero l = a
four P a b c d (suc zero) l = b
four P a b c d (suc (suc zero)) l = c
four P a b c d (suc (suc (suc zero))) l = d
four P a b c d (suc (suc (suc (suc n)))) l = absurd (omega arith)

module _ (rs rs' : List ℕ) (k : ℕ) where
  -- a chain in use: its count, its head, and every word of its records
  pub walk_same :
      (n n' a a' : ℕ) → LinkedFrom rs k n a → LinkedFrom rs' k n' a' → nodes rs n a ≡ nodes rs' n' a'
      → (n ≡ n') × ((a ≡ a') × ((r : ℕ) → Has r (map place_of (nodes rs n a)) → SameWords rs rs' r))
  unfolding LinkedFrom nodes rec_at Has
  walk_same zero zero a a' c c' e = (refl, (c ∙ sym c', λ r y. absurd y))
  walk_same zero (suc n') a a' c c' e = absurd (let z : ◌≡◌ {A = ℕ} 0 1 = cc in omega arith)
  walk_same (suc n) zero a a' c c' e = absurd (let z : ◌≡◌ {A = ℕ} 0 1 = cc in omega arith)
  walk_same (suc n) (suc n') a a' c c' e =
      let x : ◌≡◌ {A = Node} (record { at = a; rec = record { moment = moment_of rs a; size = length_of rs a; tag = tag_of rs a } }) (record { at = a'; rec = record { moment = moment_of rs' a'; size = length_of rs' a'; tag = tag_of rs' a' } }) = cc in
      let t : nodes rs n (next_of rs a) ≡ nodes rs' n' (next_of rs' a') = cc in
      let ih = walk_same n n' (next_of rs a) (next_of rs' a') c.2 c'.2 t in
      let p : a ≡ a' = ap (λ q. q.at) x in (
        ap suc ih.0,
        (
          p,
          λ r y. go r (four (λ i. word rs a i ≡ word rs' a i)
              (ih.1.0 ∙ ap (λ q. word rs' q 0) (sym p))
              (ap (λ q. q.rec.moment) x ∙ ap (λ q. word rs' q 1) (sym p))
              (ap (λ q. q.rec.size) x ∙ ap (λ q. word rs' q 2) (sym p))
              (ap (λ q. q.rec.tag) x ∙ ap (λ q. word rs' q 3) (sym p))) (ih.1.1 r) y,
        ),
      )
    where
      go : (r : ℕ) → SameWords rs rs' a → (Has r (map place_of (nodes rs n (next_of rs a))) → SameWords rs rs' r) → (a ≡ r) ⊎ Has r (map place_of (nodes rs n (next_of rs a))) → SameWords rs rs' r
      go r here ih (inl q) = subst (SameWords rs rs') q here
      go r here ih (inr y) = ih y

  -- the free chain, by its places: its count, its head, and the next of each of its records
  pub free_same :
      (n n' a a' : ℕ) → LinkedFrom rs k n a → LinkedFrom rs' k n' a' → map place_of (nodes rs n a) ≡ map place_of (nodes rs' n' a')
      → (n ≡ n') × ((a ≡ a') × ((r : ℕ) → Has r (map place_of (nodes rs n a)) → next_of rs r ≡ next_of rs' r))
  unfolding LinkedFrom nodes Has
  free_same zero zero a a' c c' e = (refl, (c ∙ sym c', λ r y. absurd y))
  free_same zero (suc n') a a' c c' e = absurd (let z : ◌≡◌ {A = ℕ} 0 1 = cc in omega arith)
  free_same (suc n) zero a a' c c' e = absurd (let z : ◌≡◌ {A = ℕ} 0 1 = cc in omega arith)
  free_same (suc n) (suc n') a a' c c' e =
      let ih = free_same n n' (next_of rs a) (next_of rs' a') c.2 c'.2 (cc) in
      let p : a ≡ a' = cc in
      (ap suc ih.0, (p, λ r y. go r (ih.1.0 ∙ ap (λ q. next_of rs' q) (sym p)) (ih.1.1 r) y))
    where
      go : (r : ℕ) → next_of rs a ≡ next_of rs' a → (Has r (map place_of (nodes rs n (next_of rs a))) → next_of rs r ≡ next_of rs' r) → (a ≡ r) ⊎ Has r (map place_of (nodes rs n (next_of rs a))) → next_of rs r ≡ next_of rs' r
      go r here ih (inl q) = subst (λ x. next_of rs x ≡ next_of rs' x) q here
      go r here ih (inr y) = ih y

-- a fact of each number below n
abbrev pub Each : ℕ → (ℕ → Type 0) → Type 0
Each zero P = Unit {0}
Each (suc n) P = P 0 × Each n (λ (i : ℕ). P (suc i))

pub each_at : (n : ℕ) (P : ℕ → Type 0) → Each n P → (i : ℕ) → i < n → P i
each_at zero P e i l = absurd (omega arith)
each_at (suc n) P e zero l = e.0
each_at (suc n) P e (suc i) l = each_at n (λ j. P (suc j)) e.1 i (omega arith)

-- ---- the header and the chains

module _ (h rs h' rs' : List ℕ) (g : Good h rs) (g' : Good h' rs') (same : state_from h rs ≡ state_from h' rs') where
  pub low_same : (i : ℕ) → i < 18 → get_or h i 0 ≡ get_or h' i 0
  unfolding state_from bank
  low_same =
      each_at 18 (λ i. get_or h i 0 ≡ get_or h' i 0) (
        (ap (λ s. s.settings.network_delay) same),
        (
          (unless_zero_lem _ _ (ap (λ s. s.settings.network_rate) same)),
          (
            (unless_zero_lem _ _ (ap (λ s. s.settings.queue_rate) same)),
            (
              (ap (λ s. s.settings.window) same),
              (
                (ap (λ s. s.client.fixed.action_delay) same),
                (
                  (ap (λ s. s.server.fixed.action_delay) same),
                  (
                    (ap (λ s. s.client.fixed.reporting_delay) same),
                    (
                      (ap (λ s. s.server.fixed.reporting_delay) same),
                      (
                        (ap (λ s. s.client.fixed.machines) same),
                        (
                          (ap (λ s. s.server.fixed.machines) same),
                          (
                            (ap (λ s. s.client.sum) same),
                            (
                              (ap (λ s. s.server.sum) same),
                              (
                                (less_one_lem _ _ (ap (λ s. s.client.block_end) same)),
                                (
                                  (less_one_lem _ _ (ap (λ s. s.server.block_end) same)),
                                  (
                                    (flag_same _ _ (omega (arith, g.limits 14 (lit< tt))) (omega (arith, g'.limits 14 (lit< tt))) (ap (λ s. s.client.block_bypassable) same)),
                                    (
                                      (flag_same _ _ (omega (arith, g.limits 15 (lit< tt))) (omega (arith, g'.limits 15 (lit< tt))) (ap (λ s. s.server.block_bypassable) same)),
                                      (
                                        (flag_same _ _ (omega (arith, g.limits 16 (lit< tt))) (omega (arith, g'.limits 16 (lit< tt))) (ap (λ s. s.ended) same)),
                                        (
                                          (ap (λ s. s.rounds) same),
                                          tt,
                                        ),
                                      ),
                                    ),
                                  ),
                                ),
                              ),
                            ),
                          ),
                        ),
                      ),
                    ),
                  ),
                ),
              ),
            ),
          ),
        ),
      )

  nodes_same : (k : ℕ) → k < chain_count → 0 < k → nodes rs (count_of h k) (head_of h k) ≡ nodes rs' (count_of h' k) (head_of h' k)
  unfolding state_from chains
  nodes_same =
      each_at chain_count (λ k. 0 < k → nodes rs (count_of h k) (head_of h k) ≡ nodes rs' (count_of h' k) (head_of h' k)) (
        (λ l. absurd (omega arith)),
        (
          (λ _. map_same (held_event client) 1 _ _ (event_node 1 _ _ client (lit< tt) (lit< tt)) _ _ (g.chains 1 (lit< tt)).fit (g'.chains 1 (lit< tt)).fit (ap (λ s. s.client.queues.base) same)),
          (
            (λ _. map_same (held_event client) 2 _ _ (event_node 2 _ _ client (lit< tt) (lit< tt)) _ _ (g.chains 2 (lit< tt)).fit (g'.chains 2 (lit< tt)).fit (ap (λ s. s.client.queues.blocking) same)),
            (
              (λ _. map_same (held_event client) 3 _ _ (event_node 3 _ _ client (lit< tt) (lit< tt)) _ _ (g.chains 3 (lit< tt)).fit (g'.chains 3 (lit< tt)).fit (ap (λ s. s.client.queues.bypassable) same)),
              (
                (λ _. map_same (held_event client) 4 _ _ (event_node 4 _ _ client (lit< tt) (lit< tt)) _ _ (g.chains 4 (lit< tt)).fit (g'.chains 4 (lit< tt)).fit (ap (λ s. s.client.queues.internal) same)),
                (
                  (λ _. map_same held_stamp 5 _ _ (stamp_node 5 _ _ refl (lit< tt)) _ _ (g.chains 5 (lit< tt)).fit (g'.chains 5 (lit< tt)).fit (ap (λ s. s.client.stamps) same)),
                  (
                    (λ _. map_same (held_event server) 6 _ _ (event_node 6 _ _ server (lit< tt) (lit< tt)) _ _ (g.chains 6 (lit< tt)).fit (g'.chains 6 (lit< tt)).fit (ap (λ s. s.server.queues.base) same)),
                    (
                      (λ _. map_same (held_event server) 7 _ _ (event_node 7 _ _ server (lit< tt) (lit< tt)) _ _ (g.chains 7 (lit< tt)).fit (g'.chains 7 (lit< tt)).fit (ap (λ s. s.server.queues.blocking) same)),
                      (
                        (λ _. map_same (held_event server) 8 _ _ (event_node 8 _ _ server (lit< tt) (lit< tt)) _ _ (g.chains 8 (lit< tt)).fit (g'.chains 8 (lit< tt)).fit (ap (λ s. s.server.queues.bypassable) same)),
                        (
                          (λ _. map_same (held_event server) 9 _ _ (event_node 9 _ _ server (lit< tt) (lit< tt)) _ _ (g.chains 9 (lit< tt)).fit (g'.chains 9 (lit< tt)).fit (ap (λ s. s.server.queues.internal) same)),
                          (
                            (λ _. map_same held_stamp 10 _ _ (stamp_node 10 _ _ refl (lit< tt)) _ _ (g.chains 10 (lit< tt)).fit (g'.chains 10 (lit< tt)).fit (ap (λ s. s.server.stamps) same)),
                            (
                              (λ _. map_same held_aggregate 11 _ _ (aggregate_node _ _) _ _ (g.chains 11 (lit< tt)).fit (g'.chains 11 (lit< tt)).fit (ap (λ s. s.aggregates) same)),
                              tt,
                            ),
                          ),
                        ),
                      ),
                    ),
                  ),
                ),
              ),
            ),
          ),
        ),
      )

  -- a chain in use: its count, its head, and every word of its records
  pub chain_fixed : (k : ℕ) → k < chain_count → 0 < k → (count_of h k ≡ count_of h' k) × ((head_of h k ≡ head_of h' k) × ((r : ℕ) → Has r (map place_of (nodes rs (count_of h k) (head_of h k))) → SameWords rs rs' r))
  chain_fixed k l p = walk_same rs rs' k _ _ _ _ (g.chains k l).links (g'.chains k l).links (nodes_same k l p)

  pub free_fixed :
      (count_of h 0 ≡ count_of h' 0) × ((head_of h 0 ≡ head_of h' 0) × ((r : ℕ) → Has r (map place_of (nodes rs (count_of h 0) (head_of h 0))) → next_of rs r ≡ next_of rs' r))
  unfolding state_from chains
  free_fixed = free_same rs rs' 0 _ _ _ _ (g.chains 0 (lit< tt)).links (g'.chains 0 (lit< tt)).links (ap (λ s. s.free) same)

  pub links_same : (k : ℕ) → k < chain_count → (count_of h k ≡ count_of h' k) × (head_of h k ≡ head_of h' k)
  links_same zero l = (free_fixed.0, free_fixed.1.0)
  links_same (suc k) l = let c = chain_fixed (suc k) l (omega arith) in (c.0, c.1.0)
