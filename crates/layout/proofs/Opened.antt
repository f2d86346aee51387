-- What opening leaves is accepted, and holds the state that the rules open. Assumes nothing.
use Prim.Native.Nat.{ℕ, zero, suc, ◌+◌, ◌*◌, ◌≤◌, ◌<◌, ◌/◌}
use mathlib.Core.Path.{◌≡◌, refl, sym, ap, ap₂, ◌∙◌}
use mathlib.Core.Bool.{Bool, true, false, ◌&&◌}
use mathlib.Core.List.{List, [], ◌∷◌, map}
use mathlib.Core.Option.{Option, none, some}
use native.Mathlib.Omega.{arith}
use lib.Dec.{eqb, ltb, leb, lit<}
use lib.ListN.{length, get_or}
use borrow.Author.Tests.{not-false, eqb-true, ltb-true, ltb-false, ne_eqb}
use Rattle.std.specs.Prelude.{if◌then◌else◌}
use Rattle.rules.specs.Limits.{record_limit}
use Rattle.rules.specs.State.{State}
use Rattle.rules.specs.Opening.{Opening, open_side, records_in, open_refusal, opened, outside, up_from, wrong_length}
use Rattle.laws.specs.Branches.{both}
use Rattle.laws.specs.CallRuns.{AllFalse, none_met}
use Rattle.laws.specs.Accepted.{RateOk, SettingsOk, Accepted as AcceptedState}
use Rattle.laws.proofs.Opened.{opened_accepted}
use Rattle.queue_event.specs.Words.{next_of, In}
use Rattle.queue_event.specs.Chain.{Node, nodes, Chain as LinkedFrom}
use Rattle.layout.specs.Header.{Limited, SlotsOk, slots_room, reserved, limits}
use Rattle.layout.specs.Records.{chain_count, head_of, count_of, machines_for, chain_at, ChainOk, Fit, Ordered, counts_to}
use Rattle.layout.specs.Accepted.{Good, Accepted}
use Rattle.layout.specs.Layout.{unless_zero, action_from, place_of, bank, chains, build, state_from, state_of}
use Rattle.layout.specs.Opened.{rate_word, head_word, opened_words}
use Rattle.layout.proofs.ActionWords.{empty_canonical}
use Rattle.layout.proofs.Banks.{by_points, chains_at, chains_past}
use Rattle.layout.proofs.Order.{free_order}
use Rattle.layout.proofs.TwoKept.{free_linked}
use Rattle.layout.proofs.FixedChains.{each_at}
use Rattle.layout.proofs.Tables.{open_head, open_rest, length_table, opened_length, opened_head, opened_rest, head_at, head_zero, next_at, next_end, tag_at}
use Rattle.layout.proofs.Counts.{reserve_state}

-- ---- the free chain

module _ (o : Opening) (n : ℕ) where
  record_in : (q : ℕ) → 1 ≤ q → q ≤ records_in n → In (open_rest o n) q
  record_in q a b = record { one = a; fits = rw (length_table (4 * records_in n)) (omega arith) }

  -- the m records from a on, up to the last
  linked_up : (m a : ℕ) → 1 ≤ a → 0 < m → a + m ≡ suc (records_in n) → LinkedFrom (open_rest o n) 0 m a
  unfolding LinkedFrom
  linked_up zero a p q e = absurd (omega arith)
  linked_up (suc zero) a p q e =
      let z : a ≡ records_in n = omega arith in
      (record_in a p (omega arith), rw (tag_at o n a p (omega arith)), ap (next_of (open_rest o n)) z ∙ next_end o n)
  linked_up (suc (suc m)) a p q e =
      (record_in a p (omega arith), rw (tag_at o n a p (omega arith)), rw (next_at o n a p (omega arith)) (linked_up (suc m) (suc a) (omega arith) (omega arith) (omega arith)))

  places_up : (m a : ℕ) → 1 ≤ a → a + m ≡ suc (records_in n) → map place_of (nodes (open_rest o n) m a) ≡ up_from a m
  unfolding nodes
  places_up zero a p e = refl
  places_up (suc zero) a p e = refl
  places_up (suc (suc m)) a p e =
      ap (λ l. a ∷ l) (ap (λ q. map place_of (nodes (open_rest o n) (suc m) q)) (next_at o n a p (omega arith)) ∙ places_up (suc m) (suc a) (omega arith) (omega arith))

  -- ---- heads and counts

  count_free : count_of (open_head o n) 0 ≡ records_in n
  count_free = head_at o n 25 (lit< tt)

  head_free : head_of (open_head o n) 0 ≡ 1
  head_free = head_at o n 24 (lit< tt)

  count_used : (k : ℕ) → 0 < k → k < chain_count → count_of (open_head o n) k ≡ 0
  count_used k a b = head_zero o n (25 + 2 * k) (omega arith) (omega arith)

  head_used : (k : ℕ) → 0 < k → k < chain_count → head_of (open_head o n) k ≡ 0
  head_used k a b = head_zero o n (24 + 2 * k) (omega arith) (omega arith)

  sum_counts : counts_to (open_head o n) chain_count ≡ records_in n
  unfolding counts_to
  sum_counts =
      omega (
        arith,
        count_free,
        count_used 1 (lit< tt) (lit< tt),
        count_used 2 (lit< tt) (lit< tt),
        count_used 3 (lit< tt) (lit< tt),
        count_used 4 (lit< tt) (lit< tt),
        count_used 5 (lit< tt) (lit< tt),
        count_used 6 (lit< tt) (lit< tt),
        count_used 7 (lit< tt) (lit< tt),
        count_used 8 (lit< tt) (lit< tt),
        count_used 9 (lit< tt) (lit< tt),
        count_used 10 (lit< tt) (lit< tt),
        count_used 11 (lit< tt) (lit< tt),
      )

  room_is : length (open_rest o n) / 4 ≡ records_in n
  room_is = rw (length_table (4 * records_in n)) (omega arith)

  -- ---- the slots

  slots_open : SlotsOk (open_head o n)
  slots_open j l =
      let t : get_or (open_head o n) (64 + j) 0 ≡ 0 = head_zero o n (64 + j) (omega arith) (omega arith) in
      let a : get_or (open_head o n) (96 + 3 * j) 0 ≡ 0 = head_zero o n (96 + 3 * j) (omega arith) (omega arith) in
      let m : get_or (open_head o n) (97 + 3 * j) 0 ≡ 0 = head_zero o n (97 + 3 * j) (omega arith) (omega arith) in
      let d : get_or (open_head o n) (98 + 3 * j) 0 ≡ 0 = head_zero o n (98 + 3 * j) (omega arith) (omega arith) in
      record {
        timer = omega arith;
        action = rw (a, m, d) (record { shape = empty_canonical; moments = omega arith; durations = omega arith });
        no_timers = λ e. t;
        no_actions = λ e. a;
      }

  slots_none : (m : ℕ) → m ≤ 32 → slots_room (open_head o n) m ≡ 0
  unfolding slots_room
  slots_none zero l = refl
  slots_none (suc j) l = rw (slots_none j (omega arith), head_zero o n (64 + j) (omega arith) (omega arith), head_zero o n (96 + 3 * j) (omega arith) (omega arith))

  nothing_reserved : reserved (open_head o n) ≡ 0
  unfolding reserved
  nothing_reserved = rw (head_at o n 12 (lit< tt), head_at o n 13 (lit< tt), slots_none 32 (omega arith))

  -- ---- the state

  abbrev Low : ℕ → ℕ
  Low i = if ltb i 24 then head_word o (records_in n) i else 0

  abbrev Chains : ℕ → List Node
  Chains k = if eqb k 0 then nodes (open_rest o n) (records_in n) 1 else []

  low_is : bank 0 24 (open_head o n) ≡ Low
  unfolding bank
  low_is = by_points _ _ (λ i. go i (ltb i 24) refl)
    where
      go : (i : ℕ) (t : Bool) → ltb i 24 ≡ t → (if t then get_or (open_head o n) (0 + i) 0 else 0) ≡ (if t then head_word o (records_in n) i else 0)
      go i true e = let z : 0 + i ≡ i = omega arith in rw z (head_at o n i (omega (arith, ltb-true i 24 e)))
      go i false e = refl

  zero_bank : (b m : ℕ) → 26 ≤ b → b + m ≤ 256 → bank b m (open_head o n) ≡ (λ (i : ℕ). 0)
  unfolding bank
  zero_bank b m p q = by_points _ _ (λ i. go i (ltb i m) refl)
    where
      go : (i : ℕ) (t : Bool) → ltb i m ≡ t → (if t then get_or (open_head o n) (b + i) 0 else 0) ≡ 0
      go i true e = head_zero o n (b + i) (omega arith) (omega (arith, ltb-true i m e))
      go i false e = refl

  none_else : (k : ℕ) → Chains (suc k) ≡ []
  none_else k = rw (ne_eqb (suc k) 0 (λ e. omega arith))

  chains_are : chains (open_head o n) (open_rest o n) ≡ Chains
  unfolding nodes
  chains_are = by_points _ _ (λ k. go k (ltb k chain_count) refl)
    where
      go : (k : ℕ) (t : Bool) → ltb k chain_count ≡ t → chains (open_head o n) (open_rest o n) k ≡ Chains k
      go zero t e = chains_at (open_head o n) (open_rest o n) 0 (lit< tt) ∙ ap₂ (nodes (open_rest o n)) count_free head_free
      go (suc k) true e =
          let l = ltb-true (suc k) chain_count e in
          chains_at (open_head o n) (open_rest o n) (suc k) l ∙ ap (λ c. nodes (open_rest o n) c (head_of (open_head o n) (suc k))) (count_used (suc k) (omega arith) l) ∙ sym (none_else k)
      go (suc k) false e = chains_past (open_head o n) (open_rest o n) (suc k) (ltb-false (suc k) chain_count e) ∙ sym (none_else k)

  -- with the rates as they are read back
  abbrev reread : Option ℕ → Option ℕ → Opening
  reread p q = record { settings = record { network_delay = o.settings.network_delay; network_rate = p; queue_rate = q; window = o.settings.window }; client = o.client; server = o.server }

  state_built : state_from (open_head o n) (open_rest o n) ≡ opened (reread (unless_zero (rate_word o.settings.network_rate)) (unless_zero (rate_word o.settings.queue_rate))) n
  unfolding state_from opened action_from
  state_built =
      (λ d. build (low_is d) (zero_bank 64 32 (omega arith) (omega arith) d) (zero_bank 96 96 (omega arith) (omega arith) d) (chains_are d) (room_is d))
      ∙ (λ d. with_places (places_up (records_in n) 1 (omega arith) (omega arith) d))
    where
      with_places : List ℕ → State
      with_places l = record { settings = record { network_delay = o.settings.network_delay; network_rate = unless_zero (rate_word o.settings.network_rate); queue_rate = unless_zero (rate_word o.settings.queue_rate); window = o.settings.window }; client = open_side o.client; server = open_side o.server; aggregates = []; free = l; ended = false; rounds = 0; room = records_in n }

rate_back : (x : Option ℕ) → RateOk x → unless_zero (rate_word x) ≡ x
rate_back none r = refl
rate_back (some zero) r = absurd (omega (arith, r.0))
rate_back (some (suc p)) r = refl

module _ (o : Opening) (n : ℕ) (fine : open_refusal n o ≡ none) where
  state : AcceptedState (opened o n)
  state = opened_accepted o n fine

  length_is : n ≡ 256 + 4 * records_in n
  unfolding open_refusal
  length_is =
      let t : AllFalse ((1, wrong_length n) ∷ (4, outside o) ∷ []) = none_met ((1, wrong_length n) ∷ (4, outside o) ∷ []) fine in
      let l = both (eqb n (256 + 4 * records_in n) && ltb 0 (records_in n)) (leb (records_in n) record_limit) (not-false (eqb n (256 + 4 * records_in n) && ltb 0 (records_in n) && leb (records_in n) record_limit) t.0) in
      eqb-true n (256 + 4 * records_in n) (both (eqb n (256 + 4 * records_in n)) (ltb 0 (records_in n)) l.0).0

  some_records : 1 ≤ records_in n
  unfolding opened
  some_records = state.some_room

  few_records : records_in n ≤ record_limit
  unfolding opened
  few_records = state.size

  settings_ok : SettingsOk o.settings
  unfolding opened
  settings_ok = state.settings

  rate_limit_lem : (x : Option ℕ) → RateOk x → rate_word x ≤ 4_294_967_295
  rate_limit_lem none r = omega arith
  rate_limit_lem (some p) r = r.1

  limits_open : Limited (open_head o n)
  unfolding opened
  limits_open i l = rw (head_at o n i (omega arith)) (each_at 18 (λ j. head_word o (records_in n) j ≤ get_or limits j 0) (
    settings_ok.network,
    (
      rate_limit_lem o.settings.network_rate settings_ok.network_rate_fits,
      (
        rate_limit_lem o.settings.queue_rate settings_ok.queue_rate_fits,
        (
          settings_ok.window,
          (
            state.sound.client.action,
            (
              state.sound.server.action,
              (
                state.sound.client.reporting,
                (
                  state.sound.server.reporting,
                  (
                    state.sound.client.machines,
                    (
                      state.sound.server.machines,
                      (omega arith, (omega arith, (omega arith, (omega arith, (omega arith, (omega arith, (omega arith, (omega arith, tt)))))))),
                    ),
                  ),
                ),
              ),
            ),
          ),
        ),
      ),
    ),
  ) i l)

  chain_open : (k : ℕ) → k < chain_count → ChainOk (open_head o n) (open_rest o n) k
  unfolding nodes Fit Ordered LinkedFrom
  chain_open zero l =
      record {
        count = omega (arith, count_free o n, room_is o n);
        links = rw (count_free o n, head_free o n) (linked_up o n (records_in n) 1 (omega arith) some_records (omega arith));
        fit = free_linked (open_rest o n) (machines_for (open_head o n) 0) (count_of (open_head o n) 0) (head_of (open_head o n) 0) (rw (count_free o n, head_free o n) (linked_up o n (records_in n) 1 (omega arith) some_records (omega arith)));
        order = free_order 0 0 (chain_at (open_head o n) (open_rest o n) 0);
      }
  chain_open (suc k) l =
      let e = count_used o n (suc k) (omega arith) l in
      record { count = omega arith; links = rw e (head_used o n (suc k) (omega arith) l); fit = rw e tt; order = rw e tt }

  open_good : Good (open_head o n) (open_rest o n)
  open_good =
      record {
        limits = limits_open;
        slots = slots_open o n;
        chains = chain_open;
        counts = sum_counts o n ∙ sym (room_is o n);
        reserve = reserve_state _ _ (sum_counts o n ∙ sym (room_is o n)) (omega (arith, room_is o n, count_free o n, nothing_reserved o n));
      }

  pub opened_words_lem : Accepted (opened_words o n)
  opened_words_lem =
      record {
        size = rw (opened_length o n) (record { least = omega (arith, some_records); most = omega (arith, few_records); whole = omega arith });
        good = rw (opened_head o n, opened_rest o n) open_good;
      }

  pub opened_state : state_of (opened_words o n) ≡ opened o n
  unfolding opened
  opened_state =
      ap₂ state_from (opened_head o n) (opened_rest o n) ∙ state_built o n
      ∙ (λ d. opened (reread o n (rate_back o.settings.network_rate settings_ok.network_rate_fits d) (rate_back o.settings.queue_rate settings_ok.queue_rate_fits d)) n)
