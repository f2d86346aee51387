-- Document 02, M-100: a state in its packed form. What stands in a chain, and its order, stays; the records get new numbers.
use Rattle.std.specs.Prelude.{ℕ, suc, ◌+◌, ◌-◌, List, [], ◌∷◌, length}
use Rattle.rules.specs.State.{Held, in_record, Queues, SideState, State, queued, side_used, used}
use Rattle.rules.specs.Opening.{up_from}

-- "records numbered upward from 1": a chain in the records from p on
abbrev pub numbered : {A : Type 0} → ℕ → List (Held A) → List (Held A)
numbered p [] = []
numbered p (x ∷ l) = in_record p x.value ∷ numbered (suc p) l

-- "chains in a fixed order": base, blocking, bypassable, internal, then stamps, each from the record after those of the chains before it
abbrev pub packed_queues : ℕ → Queues → Queues
packed_queues p q =
    record {
      base = numbered p q.base;
      blocking = numbered (p + length q.base) q.blocking;
      bypassable = numbered (p + length q.base + length q.blocking) q.bypassable;
      internal = numbered (p + length q.base + length q.blocking + length q.bypassable) q.internal;
    }

-- a side, in the records from p on
abbrev pub packed_side : ℕ → SideState → SideState
packed_side p x =
    record {
      fixed = x.fixed;
      sum = x.sum;
      block_end = x.block_end;
      block_bypassable = x.block_bypassable;
      queues = packed_queues p x.queues;
      stamps = numbered (p + queued x) x.stamps;
      timers = x.timers;
      actions = x.actions;
    }

-- the client's chains, the server's, the aggregates; "free records [..] chained upward" after them. All else stays
unfoldable pub packed : State → State
packed s =
    record {
      settings = s.settings;
      client = packed_side 1 s.client;
      server = packed_side (1 + side_used s.client) s.server;
      aggregates = numbered (1 + side_used s.client + side_used s.server) s.aggregates;
      free = up_from (1 + used s) (s.room - used s);
      ended = s.ended;
      rounds = s.rounds;
      room = s.room;
    }
