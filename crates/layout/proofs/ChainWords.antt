-- The head and the count of a chain given anew: what the header holds after it, and the sum of the counts. Assumes nothing.
use Prim.Native.Nat.{ℕ, zero, suc, ◌+◌, ◌*◌, ◌≤◌, ◌<◌, ◌/◌}
use mathlib.Core.Path.{◌≡◌, refl, ap₂, ◌∙◌}
use mathlib.Core.List.{List}
use mathlib.Core.Logic.{◌⊎◌, inl, inr}
use native.Mathlib.Omega.{arith}
use native.Mathlib.Decide.{ℕ_discrete}
use lib.ListN.{length, set, get_or, length-set}
use lib.Seq.{get_or-set_same, get_or-set_other}
use Rattle.layout.specs.Changes.{put_chain}
use Rattle.layout.specs.Header.{Limited, SlotsOk, slots_room, reserved}
use Rattle.layout.specs.Records.{chain_count, head_of, count_of, machines_for, counts_to}
use Rattle.layout.specs.Layout.{bank}
use Rattle.layout.proofs.Banks.{bank_out}

module _ (h : List ℕ) (k a n : ℕ) where
  pub length_chain : length (put_chain h k a n) ≡ length h
  unfolding put_chain
  length_chain = simp length-set

  pub head_same : length h ≡ 256 → k < chain_count → head_of (put_chain h k a n) k ≡ a
  unfolding put_chain
  head_same w l = get_or-set_other (set h (24 + 2 * k) a) (25 + 2 * k) (24 + 2 * k) n 0 (λ e. omega arith) ∙ get_or-set_same h (24 + 2 * k) a 0 (omega arith)

  pub count_same : length h ≡ 256 → k < chain_count → count_of (put_chain h k a n) k ≡ n
  unfolding put_chain
  count_same w l = get_or-set_same (set h (24 + 2 * k) a) (25 + 2 * k) n 0 (simp length-set (omega arith))

  pub head_other : (j : ℕ) → (j ≡ k → ⊥) → head_of (put_chain h k a n) j ≡ head_of h j
  unfolding put_chain
  head_other j d = get_or-set_other (set h (24 + 2 * k) a) (25 + 2 * k) (24 + 2 * j) n 0 (λ e. omega arith) ∙ get_or-set_other h (24 + 2 * k) (24 + 2 * j) a 0 (λ e. d (omega arith))

  pub count_other : (j : ℕ) → (j ≡ k → ⊥) → count_of (put_chain h k a n) j ≡ count_of h j
  unfolding put_chain
  count_other j d = get_or-set_other (set h (24 + 2 * k) a) (25 + 2 * k) (25 + 2 * j) n 0 (λ e. d (omega arith)) ∙ get_or-set_other h (24 + 2 * k) (25 + 2 * j) a 0 (λ e. omega arith)

  pub bank_chain : (b m : ℕ) → k < chain_count → (b + m ≤ 24) ⊎ (48 ≤ b) → bank b m (put_chain h k a n) ≡ bank b m h
  unfolding put_chain
  bank_chain b m l (inl o) = bank_out b m (set h (24 + 2 * k) a) (25 + 2 * k) n (inr (omega arith)) ∙ bank_out b m h (24 + 2 * k) a (inr (omega arith))
  bank_chain b m l (inr o) = bank_out b m (set h (24 + 2 * k) a) (25 + 2 * k) n (inl (omega arith)) ∙ bank_out b m h (24 + 2 * k) a (inl (omega arith))

-- ---- the counts

module _ (h : List ℕ) (k a n : ℕ) (wide : length h ≡ 256) (small : k < chain_count) where
  sum_below : (m : ℕ) → m ≤ k → counts_to (put_chain h k a n) m ≡ counts_to h m
  unfolding counts_to
  sum_below zero l = refl
  sum_below (suc m) l = ap₂ ◌+◌ (sum_below m (omega arith)) (count_other h k a n m (λ e. omega arith))

  pub sum_above : (m : ℕ) → k < m → counts_to (put_chain h k a n) m + count_of h k ≡ counts_to h m + n
  unfolding counts_to
  sum_above zero l = absurd (omega arith)
  sum_above (suc m) l = go (ℕ_discrete m k) (sum_above m)
    where
      go : Dec (m ≡ k) → (k < m → counts_to (put_chain h k a n) m + count_of h k ≡ counts_to h m + n) → counts_to (put_chain h k a n) (suc m) + count_of h k ≡ counts_to h (suc m) + n
      go (yes e) ih = rw e (omega (arith, sum_below k (omega arith), count_same h k a n wide small))
      go (no d) ih = omega (arith, ih (omega arith), count_other h k a n m d)

pub count_le : (h : List ℕ) (j n : ℕ) → j < n → count_of h j ≤ counts_to h n
unfolding counts_to
count_le h j zero l = absurd (omega arith)
count_le h j (suc n) l = go (ℕ_discrete j n) (count_le h j n)
  where
    go : Dec (j ≡ n) → (j < n → count_of h j ≤ counts_to h n) → count_of h j ≤ counts_to h (suc n)
    go (yes e) ih = rw e (omega arith)
    go (no d) ih = omega (arith, ih (omega arith))

-- ---- the other words of the header

-- h' has the words of h, but for heads and counts
abbrev pub Beside : List ℕ → List ℕ → Type 0
Beside h h' = (i : ℕ) → (i < 24) ⊎ (48 ≤ i) → get_or h' i 0 ≡ get_or h i 0

pub beside_chain : (h : List ℕ) (k a n : ℕ) → k < chain_count → Beside h (put_chain h k a n)
unfolding put_chain
beside_chain h k a n l i (inl o) = get_or-set_other (set h (24 + 2 * k) a) (25 + 2 * k) i n 0 (λ e. omega arith) ∙ get_or-set_other h (24 + 2 * k) i a 0 (λ e. omega arith)
beside_chain h k a n l i (inr o) = get_or-set_other (set h (24 + 2 * k) a) (25 + 2 * k) i n 0 (λ e. omega arith) ∙ get_or-set_other h (24 + 2 * k) i a 0 (λ e. omega arith)

-- ---- what limits and slots look at

-- settings, sums, blocks, flags, ended mark and round total; timers and actions
abbrev pub Copied : ℕ → Type 0
Copied i = (i < 18) ⊎ ((64 ≤ i) × (i < 192))

pub beside_copied : (h h' : List ℕ) → Beside h h' → (i : ℕ) → Copied i → get_or h' i 0 ≡ get_or h i 0
beside_copied h h' b i (inl l) = b i (inl (omega arith))
beside_copied h h' b i (inr l) = b i (inr (omega (arith, l.0)))

module _ (h h' : List ℕ) (same : (i : ℕ) → Copied i → get_or h' i 0 ≡ get_or h i 0) where
  pub limits_copied : Limited h → Limited h'
  limits_copied g i l = rw (same i (inl l)) (g i l)

  pub slots_copied : SlotsOk h → SlotsOk h'
  slots_copied g j l =
      let s : get_or h' (8 + j / 16) 0 ≡ get_or h (8 + j / 16) 0 = same (8 + j / 16) (inl (omega arith)) in
      let t : get_or h' (64 + j) 0 ≡ get_or h (64 + j) 0 = same (64 + j) (inr (omega arith, omega arith)) in
      let a : get_or h' (96 + 3 * j) 0 ≡ get_or h (96 + 3 * j) 0 = same (96 + 3 * j) (inr (omega arith, omega arith)) in
      let m : get_or h' (97 + 3 * j) 0 ≡ get_or h (97 + 3 * j) 0 = same (97 + 3 * j) (inr (omega arith, omega arith)) in
      let d : get_or h' (98 + 3 * j) 0 ≡ get_or h (98 + 3 * j) 0 = same (98 + 3 * j) (inr (omega arith, omega arith)) in
      record {
        timer = rw t (g j l).timer;
        action = rw (a, m, d) (g j l).action;
        no_timers = rw (s, t) (g j l).no_timers;
        no_actions = rw (s, a) (g j l).no_actions;
      }

  pub machines_copied : (k : ℕ) → k < chain_count → machines_for h' k ≡ machines_for h k
  machines_copied k l = same (8 + k / 6) (inl (omega arith))

  room_copied : (n : ℕ) → n ≤ 32 → slots_room h' n ≡ slots_room h n
  unfolding slots_room
  room_copied zero l = refl
  room_copied (suc j) l =
      rw (room_copied j (omega arith), same (64 + j) (inr (omega arith, omega arith)), same (96 + 3 * j) (inr (omega arith, omega arith)))

  pub reserve_copied : reserved h' ≡ reserved h
  unfolding reserved
  reserve_copied = rw (same 12 (inl (omega arith)), same 13 (inl (omega arith)), room_copied 32 (omega arith))
