-- The three words of an action, and of an empty slot: canonical, and read back. Assumes nothing.
use Prim.Native.Nat.{ℕ, ◌+◌, ◌*◌, ◌%◌, ◌≤◌}
use mathlib.Core.Path.{◌≡◌, refl}
use mathlib.Core.Bool.{Bool, true, false}
use mathlib.Core.Option.{none, some}
use native.Mathlib.Omega.{arith}
use Rattle.rules.specs.State.{ActionKind, SendPadding, BlockOutgoing}
use Rattle.queue_event.specs.Tag.{bit}
use Rattle.layout.specs.Header.{ActionShape}
use Rattle.layout.specs.Layout.{action_from}

-- "kind 1 for `SendPadding` and 2 for `BlockOutgoing`"
abbrev pub action_no : ActionKind → ℕ
action_no SendPadding = 1
action_no BlockOutgoing = 2

-- "kind + 4 bypass + 8 replace"
unfoldable pub action_word : ActionKind → Bool → Bool → ℕ
action_word k bypass replace = action_no k + 4 * bit bypass + 8 * bit replace

pub action_back : (k : ActionKind) (b r : Bool) (t d : ℕ) → action_from (action_word k b r) t d ≡ some (record { kind = k; moment = t; duration = d; bypass = b; replace = r })
unfolding action_from action_word
action_back SendPadding true true t d = refl
action_back SendPadding true false t d = refl
action_back SendPadding false true t d = refl
action_back SendPadding false false t d = refl
action_back BlockOutgoing true true t d = refl
action_back BlockOutgoing true false t d = refl
action_back BlockOutgoing false true t d = refl
action_back BlockOutgoing false false t d = refl

padding_shape : (n t d : ℕ) → n ≤ 15 → n % 4 ≡ 1 → d ≡ 0 → ActionShape n t d
padding_shape n t d l e z = record { flags = l; kind = λ x. omega arith; padding = λ x. z; empty = λ x. absurd (omega arith) }

block_shape : (n t d : ℕ) → n ≤ 15 → n % 4 ≡ 2 → ActionShape n t d
block_shape n t d l e = record { flags = l; kind = λ x. omega arith; padding = λ x. absurd (omega arith); empty = λ x. absurd (omega arith) }

-- only `BlockOutgoing` has a duration
pub padding_canonical : (b r : Bool) (t : ℕ) → ActionShape (action_word SendPadding b r) t 0
unfolding action_word
padding_canonical true true t = padding_shape 13 t 0 (omega arith) refl refl
padding_canonical true false t = padding_shape 5 t 0 (omega arith) refl refl
padding_canonical false true t = padding_shape 9 t 0 (omega arith) refl refl
padding_canonical false false t = padding_shape 1 t 0 (omega arith) refl refl

pub block_canonical : (b r : Bool) (t d : ℕ) → ActionShape (action_word BlockOutgoing b r) t d
unfolding action_word
block_canonical true true t d = block_shape 14 t d (omega arith) refl
block_canonical true false t d = block_shape 6 t d (omega arith) refl
block_canonical false true t d = block_shape 10 t d (omega arith) refl
block_canonical false false t d = block_shape 2 t d (omega arith) refl

-- "An empty slot is three zero words."
pub empty_canonical : ActionShape 0 0 0
empty_canonical = record { flags = omega arith; kind = λ x. omega arith; padding = λ x. refl; empty = λ x. (refl, refl) }

pub empty_back : action_from 0 0 0 ≡ none
unfolding action_from
empty_back = refl
