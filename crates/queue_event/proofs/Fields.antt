-- Laws of the tag: what is encoded is read back, and a tag of an event is fixed by its fields. Assumes nothing.
use Prim.Native.Nat.{ℕ, zero, suc, ◌+◌, ◌*◌, ◌/◌, ◌%◌, ◌<◌}
use native.Mathlib.Omega.{arith}
use mathlib.Core.Path.{◌≡◌, refl, ap, ◌∙◌}
use mathlib.Core.Bool.{Bool, true, false}
use Rattle.queue_event.specs.Tag.{mark_of, kind_field, padding_field, bypass_field, replace_field, side_field, machine_field}
use Rattle.queue_event.specs.Tag.{bit, flag, event_tag, aggregate_tag, stamp_tag}

-- ---- flags

pub flag_bit : (b : Bool) → flag (bit b) ≡ b
flag_bit true = refl
flag_bit false = refl

pub bit_flag : (n : ℕ) → n < 2 → bit (flag n) ≡ n
bit_flag zero l = refl
bit_flag (suc zero) l = refl
bit_flag (suc (suc n)) l = absurd (omega arith)

pub small_bit : (b : Bool) → bit b < 2
small_bit true = omega arith
small_bit false = omega arith

-- ---- a field of a number, by what stands below and above it

field_16 : (lo d y t : ℕ) → lo < 16 → d < 16 → t ≡ lo + 16 * (d + 16 * y) → t / 16 % 16 ≡ d
field_16 lo d y t a b e = ap (λ x. x % 16) q ∙ r
  where
    q : t / 16 ≡ d + 16 * y
    q = omega arith

    r : (d + 16 * y) % 16 ≡ d
    r = omega arith

field_256 : (lo d y t : ℕ) → lo < 256 → d < 2 → t ≡ lo + 256 * (d + 2 * y) → t / 256 % 2 ≡ d
field_256 lo d y t a b e = ap (λ x. x % 2) q ∙ r
  where
    q : t / 256 ≡ d + 2 * y
    q = omega arith

    r : (d + 2 * y) % 2 ≡ d
    r = omega arith

field_512 : (lo d y t : ℕ) → lo < 512 → d < 2 → t ≡ lo + 512 * (d + 2 * y) → t / 512 % 2 ≡ d
field_512 lo d y t a b e = ap (λ x. x % 2) q ∙ r
  where
    q : t / 512 ≡ d + 2 * y
    q = omega arith

    r : (d + 2 * y) % 2 ≡ d
    r = omega arith

field_1024 : (lo d y t : ℕ) → lo < 1024 → d < 2 → t ≡ lo + 1024 * (d + 2 * y) → t / 1024 % 2 ≡ d
field_1024 lo d y t a b e = ap (λ x. x % 2) q ∙ r
  where
    q : t / 1024 ≡ d + 2 * y
    q = omega arith

    r : (d + 2 * y) % 2 ≡ d
    r = omega arith

field_2048 : (lo d y t : ℕ) → lo < 2048 → d < 2 → t ≡ lo + 2048 * (d + 2 * y) → t / 2048 % 2 ≡ d
field_2048 lo d y t a b e = ap (λ x. x % 2) q ∙ r
  where
    q : t / 2048 ≡ d + 2 * y
    q = omega arith

    r : (d + 2 * y) % 2 ≡ d
    r = omega arith

field_4096 : (lo d y t : ℕ) → lo < 4096 → d < 16 → t ≡ lo + 4096 * (d + 16 * y) → t / 4096 % 16 ≡ d
field_4096 lo d y t a b e = ap (λ x. x % 16) q ∙ r
  where
    q : t / 4096 ≡ d + 16 * y
    q = omega arith

    r : (d + 16 * y) % 16 ≡ d
    r = omega arith

-- ---- the fields of a tag, by numbers

module _ (c k p b r m : ℕ) (lc : c < 16) (lk : k < 16) (lp : p < 2) (lb : b < 2) (lr : r < 2) (lm : m < 16) (t : ℕ) (e : t ≡ c + 16 * k + 256 * p + 512 * b + 1024 * r + 4096 * m) where
  mark_of_lem : mark_of t ≡ c
  mark_of_lem = omega arith

  kind_of_lem : kind_field t ≡ k
  kind_of_lem = field_16 c k (p + 2 * b + 4 * r + 16 * m) t lc lk (omega arith)

  padding_of_lem : padding_field t ≡ p
  padding_of_lem = field_256 (c + 16 * k) p (b + 2 * r + 8 * m) t (omega arith) lp (omega arith)

  bypass_of : bypass_field t ≡ b
  bypass_of = field_512 (c + 16 * k + 256 * p) b (r + 4 * m) t (omega arith) lb (omega arith)

  replace_of : replace_field t ≡ r
  replace_of = field_1024 (c + 16 * k + 256 * p + 512 * b) r (2 * m) t (omega arith) lr (omega arith)

  side_of_lem : side_field t ≡ 0
  side_of_lem = field_2048 (c + 16 * k + 256 * p + 512 * b + 1024 * r) 0 m t (omega arith) (omega arith) (omega arith)

  machine_of_lem : machine_field t ≡ m
  machine_of_lem = field_4096 (c + 16 * k + 256 * p + 512 * b + 1024 * r) m 0 t (omega arith) lm (omega arith)

  small_of : t < 65536
  small_of = omega arith

-- ---- an event's tag, read back

module _ (chain kind : ℕ) (padding bypass replace : Bool) (machine : ℕ) (lc : chain < 16) (lk : kind < 16) (lm : machine < 16) where
  pub event_mark : mark_of (event_tag chain kind padding bypass replace machine) ≡ chain
  unfolding event_tag
  event_mark = mark_of_lem chain kind (bit padding) (bit bypass) (bit replace) machine lc lk (small_bit padding) (small_bit bypass) (small_bit replace) lm _ refl

  pub event_kind : kind_field (event_tag chain kind padding bypass replace machine) ≡ kind
  unfolding event_tag
  event_kind = kind_of_lem chain kind (bit padding) (bit bypass) (bit replace) machine lc lk (small_bit padding) (small_bit bypass) (small_bit replace) lm _ refl

  pub event_padding : flag (padding_field (event_tag chain kind padding bypass replace machine)) ≡ padding
  unfolding event_tag
  event_padding = ap flag (padding_of_lem chain kind (bit padding) (bit bypass) (bit replace) machine lc lk (small_bit padding) (small_bit bypass) (small_bit replace) lm _ refl) ∙ flag_bit padding

  pub event_bypass : flag (bypass_field (event_tag chain kind padding bypass replace machine)) ≡ bypass
  unfolding event_tag
  event_bypass = ap flag (bypass_of chain kind (bit padding) (bit bypass) (bit replace) machine lc lk (small_bit padding) (small_bit bypass) (small_bit replace) lm _ refl) ∙ flag_bit bypass

  pub event_replace : flag (replace_field (event_tag chain kind padding bypass replace machine)) ≡ replace
  unfolding event_tag
  event_replace = ap flag (replace_of chain kind (bit padding) (bit bypass) (bit replace) machine lc lk (small_bit padding) (small_bit bypass) (small_bit replace) lm _ refl) ∙ flag_bit replace

  pub event_side : side_field (event_tag chain kind padding bypass replace machine) ≡ 0
  unfolding event_tag
  event_side = side_of_lem chain kind (bit padding) (bit bypass) (bit replace) machine lc lk (small_bit padding) (small_bit bypass) (small_bit replace) lm _ refl

  pub event_machine : machine_field (event_tag chain kind padding bypass replace machine) ≡ machine
  unfolding event_tag
  event_machine = machine_of_lem chain kind (bit padding) (bit bypass) (bit replace) machine lc lk (small_bit padding) (small_bit bypass) (small_bit replace) lm _ refl

  pub event_small : event_tag chain kind padding bypass replace machine < 65536
  unfolding event_tag
  event_small = small_of chain kind (bit padding) (bit bypass) (bit replace) machine lc lk (small_bit padding) (small_bit bypass) (small_bit replace) lm _ refl

-- ---- and the other way: a tag below 65,536 whose side field is 0 is fixed by its fields

module _ (t : ℕ) where
  low : t ≡ mark_of t + 16 * (t / 16)
  low = omega arith

  top : t < 65536 → t / 4096 ≡ machine_field t
  top l = omega arith

-- the same over plain numbers: each is a field and what stands above it
summed : (t a b c d e g q₁ q₂ q₃ q₄ q₅ : ℕ) → t ≡ a + 16 * q₁ → q₁ ≡ b + 16 * q₂ → q₂ ≡ c + 2 * q₃ → q₃ ≡ d + 2 * q₄ → q₄ ≡ e + 2 * q₅ → q₅ ≡ 0 + 2 * g → t ≡ a + 16 * b + 256 * c + 512 * d + 1024 * e + 4096 * g
summed t a b c d e g q₁ q₂ q₃ q₄ q₅ h₁ h₂ h₃ h₄ h₅ h₆ = omega arith

-- ---- tags of aggregates and stamps

pub aggregate_client : (b : Bool) → b ≡ true → 11 ≡ aggregate_tag b
unfolding aggregate_tag
aggregate_client b e = rw e

pub aggregate_server : (b : Bool) → b ≡ false → 2059 ≡ aggregate_tag b
unfolding aggregate_tag
aggregate_server b e = rw e

pub aggregate_mark : (client : Bool) → mark_of (aggregate_tag client) ≡ 11
unfolding aggregate_tag
aggregate_mark true = refl
aggregate_mark false = refl

pub stamp_mark : (chain : ℕ) → chain < 16 → mark_of (stamp_tag chain) ≡ chain
unfolding stamp_tag
stamp_mark chain l = omega arith
