-- A slot stays in order by a store to it: a timer's word, and an action's three. Nothing cites these two today; docs/PORT.md names them. Assumes nothing.
use Prim.Native.Nat.{ℕ, suc, ◌+◌, ◌*◌, ◌≤◌, ◌<◌, ◌%◌, ◌/◌}
use mathlib.Core.Path.{◌≡◌, ◌∙◌}
use mathlib.Core.List.{List}
use native.Mathlib.Omega.{arith}
use lib.ListN.{length, get_or, set, length-set}
use lib.Seq.{get_or-set_other, get_or-set_same}
use Rattle.rules.specs.Limits.{moment_limit}
use Rattle.layout.specs.Changes.{put_timer, put_action}
use Rattle.layout.specs.Header.{ActionOk, SlotOk, machines_of, timer_of, action_of, action_moment, action_duration}

far : (h : List ℕ) (i v j : ℕ) → (j ≡ i → ⊥) → get_or (set h i v) j 0 ≡ get_or h j 0
far h i v j n = get_or-set_other h i j v 0 n

module _ (j v : ℕ) (small : j < 32) (h : List ℕ) (wide : length h ≡ 256) where
  timer_now : timer_of (put_timer j v h) j ≡ v
  timer_now = get_or-set_same h (64 + j) v 0 (omega arith)

  pub timer_slot_lem : v ≤ suc moment_limit → j % 16 < machines_of h (j / 16) → SlotOk h j → SlotOk (put_timer j v h) j
  timer_slot_lem a b ok =
      record {
        timer = rw timer_now a;
        action = rw (far h (64 + j) v (96 + 3 * j) (omega arith), far h (64 + j) v (97 + 3 * j) (omega arith), far h (64 + j) v (98 + 3 * j) (omega arith)) ok.action;
        no_timers = rw (far h (64 + j) v (8 + j / 16) (omega arith)) (omega arith);
        no_actions = rw (far h (64 + j) v (8 + j / 16) (omega arith)) (omega arith);
      }

abbrev first : ℕ → ℕ → List ℕ → List ℕ
first j a w = set w (96 + 3 * j) a

abbrev both : ℕ → ℕ → ℕ → List ℕ → List ℕ
both j a m w = set (first j a w) (97 + 3 * j) m

module _ (j a m d : ℕ) (small : j < 32) (h : List ℕ) (wide : length h ≡ 256) where
  kept : (i : ℕ) → (i ≡ 96 + 3 * j → ⊥) → (i ≡ 97 + 3 * j → ⊥) → (i ≡ 98 + 3 * j → ⊥) → get_or (put_action j a m d h) i 0 ≡ get_or h i 0
  kept i x y z = far (both j a m h) (98 + 3 * j) d i z ∙ far (first j a h) (97 + 3 * j) m i y ∙ far h (96 + 3 * j) a i x

  action_now : action_of (put_action j a m d h) j ≡ a
  action_now =
      far (both j a m h) (98 + 3 * j) d (96 + 3 * j) (omega arith)
      ∙ far (first j a h) (97 + 3 * j) m (96 + 3 * j) (omega arith)
      ∙ get_or-set_same h (96 + 3 * j) a 0 (omega arith)

  moment_now : action_moment (put_action j a m d h) j ≡ m
  moment_now = far (both j a m h) (98 + 3 * j) d (97 + 3 * j) (omega arith) ∙ get_or-set_same (first j a h) (97 + 3 * j) m 0 (simp length-set (omega arith))

  duration_now : action_duration (put_action j a m d h) j ≡ d
  duration_now = get_or-set_same (both j a m h) (98 + 3 * j) d 0 (simp length-set (omega arith))

  pub action_slot_lem : ActionOk a m d → j % 16 < machines_of h (j / 16) → SlotOk h j → SlotOk (put_action j a m d h) j
  action_slot_lem fine b ok =
      record {
        timer = rw (kept (64 + j) (omega arith) (omega arith) (omega arith)) ok.timer;
        action = rw (action_now, moment_now, duration_now) fine;
        no_timers = rw (kept (8 + j / 16) (omega arith) (omega arith) (omega arith)) (omega arith);
        no_actions = rw (kept (8 + j / 16) (omega arith) (omega arith) (omega arith)) (omega arith);
      }
