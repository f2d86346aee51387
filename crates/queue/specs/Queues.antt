-- The queues of a side as the rules have them. Assumes nothing.
use Rattle.std.specs.Prelude.{ℕ}
use Rattle.rules.specs.State.{Chain, base, blocking, bypassable, internal}
use Rattle.queue.specs.declared.header.Queue.{Queue}
use Rattle.queue.specs.declared.header.Queue.TheVariants.{Base, Blocking, Bypassable, Internal}

-- docs/LAYOUT.md, "Chains": the event chains of a side, as the client's are numbered
abbrev pub queue_no : Queue → ℕ
queue_no Base = 1
queue_no Blocking = 2
queue_no Bypassable = 3
queue_no Internal = 4

-- `Queue`
abbrev pub queue_of : Queue → Chain
queue_of Base = base
queue_of Blocking = blocking
queue_of Bypassable = bypassable
queue_of Internal = internal
