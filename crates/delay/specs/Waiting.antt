-- What waits at a side, queue by queue, and the tail of a burst with its margin handed in. Assumes nothing.
use Rattle.std.specs.Prelude.{ℕ, ◌-◌, max, Bool, leb, ltb, length, if◌then◌else◌}
use mathlib.Core.List.{List, [], ◌∷◌, tail}
use Rattle.rules.specs.State.{Event, Held, SideState, queue}
use Rattle.rules.specs.Aggregates.{any_within, waiting}
use Rattle.queue.specs.declared.header.Queue.{Queue}
use Rattle.queue.specs.Queues.{queue_of}

-- what a queue of a side holds, and that but for its head
unfoldable pub held_in : SideState → Queue → List (Held Event)
held_in x q = queue x.queues (queue_of q)

unfoldable pub behind_in : SideState → Queue → List (Held Event)
behind_in x q = tail (held_in x q)

-- the rules' any_within, shut
unfoldable pub any_in : ℕ → ℕ → List (Held Event) → Bool
any_in width u l = any_within width u l

-- the rules' tail_of and burst_tail, with the margin handed in
unfoldable pub tail_over : ℕ → ℕ → ℕ → List (Held Event) → ℕ
tail_over width u t [] = t
tail_over width u t (e ∷ l) = tail_over width u (if leb (e.value.moment - u) width then max t e.value.moment else t) l

unfoldable pub burst_tail_over : ℕ → SideState → ℕ → ℕ
burst_tail_over width x u = if ltb 2 (length (waiting x)) then tail_over width u u (waiting x) else u
