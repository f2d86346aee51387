-- The packet that waits stands in blocking or bypassable. Assumes nothing.
use Prim.Native.Nat.{ℕ}
use mathlib.Core.Path.{◌≡◌, refl, ap, subst}
use mathlib.Core.Bool.{Bool, true, false}
use mathlib.Core.List.{List, [], ◌∷◌}
use mathlib.Core.Logic.{◌⊎◌, inl, inr}
use mathlib.Core.Option.{Option, none, some}
use native.Mathlib.Omega.{arith}
use Rattle.std.specs.Prelude.{if◌then◌else◌}
use Rattle.rules.specs.State.{Chain, Event, Held, SideState, base, blocking, bypassable, internal}
use Rattle.rules.specs.ChoiceHeads.{Head, by_moment, first_by, head_as, waiting_head}
use Rattle.queue.specs.declared.peek.Head.{Head as HeadFound}
use Rattle.queue.specs.declared.header.Queue.{Queue}
use Rattle.queue.specs.declared.header.Queue.TheVariants.{Base, Blocking, Bypassable, Internal}
use Rattle.queue.specs.Queues.{queue_of}
use Rattle.queue.specs.Heads.{head_from}
use Rattle.delay.specs.Tests.{Packets}

unfoldable Waits : Option Head → Type 0
Waits none = Unit {0}
Waits (some h) = (h.chain ≡ blocking) ⊎ (h.chain ≡ bypassable)

blocking_waits : (l : List (Held Event)) → Waits (head_as blocking 0 l)
unfolding Waits head_as
blocking_waits [] = tt
blocking_waits (x ∷ l) = inl refl

bypassable_waits : (l : List (Held Event)) → Waits (head_as bypassable 0 l)
unfolding Waits head_as
bypassable_waits [] = tt
bypassable_waits (x ∷ l) = inr refl

first_waits : (lt : Head → Head → Bool) (a b : Option Head) → Waits a → Waits b → Waits (first_by lt a b)
unfolding Waits first_by
first_waits lt none b p q = q
first_waits lt (some a) none p q = p
first_waits lt (some a) (some b) p q = go (lt b a)
  where
    go : (t : Bool) → Waits (if t then some b else some a)
    go true = q
    go false = p

waiting_waits : (t : Bool) (x : SideState) → Waits (waiting_head t x)
unfolding waiting_head
waiting_waits true x = blocking_waits x.queues.blocking
waiting_waits false x = first_waits by_moment _ _ (bypassable_waits x.queues.bypassable) (blocking_waits x.queues.blocking)

abbrev place_of : Chain → ℕ
place_of base = 0
place_of blocking = 1
place_of bypassable = 2
place_of internal = 3

queue_waits : (q : Queue) → (queue_of q ≡ blocking) ⊎ (queue_of q ≡ bypassable) → Packets q
queue_waits Base (inl e) = absurd (let z : ◌≡◌ {A = ℕ} 0 1 = ap place_of e in omega arith)
queue_waits Base (inr e) = absurd (let z : ◌≡◌ {A = ℕ} 0 2 = ap place_of e in omega arith)
queue_waits Blocking e = inl refl
queue_waits Bypassable e = inr refl
queue_waits Internal (inl e) = absurd (let z : ◌≡◌ {A = ℕ} 3 1 = ap place_of e in omega arith)
queue_waits Internal (inr e) = absurd (let z : ◌≡◌ {A = ℕ} 3 2 = ap place_of e in omega arith)

chain_waits : (h : HeadFound) → Waits (some (head_from h)) → Packets h.queue
unfolding Waits head_from
chain_waits h w = queue_waits h.queue w

pub waits_in : (t : Bool) (x : SideState) (h : HeadFound) → waiting_head t x ≡ some (head_from h) → Packets h.queue
waits_in t x h e = chain_waits h (subst Waits e (waiting_waits t x))
