-- The heads of a side, from the heads of its chains. Assumes nothing.
use Prim.Native.Nat.{ℕ, ◌+◌, ◌≤◌}
use mathlib.Core.Path.{◌≡◌, refl}
use mathlib.Core.Bool.{Bool, true, false}
use mathlib.Core.List.{List}
use Rattle.std.specs.Prelude.{Option}
use native.Mathlib.Omega.{arith}
use lib.ListN.{get_or}
use Rattle.rules.specs.Basics.{Side, client, server}
use Rattle.rules.specs.State.{side}
use Rattle.rules.specs.Limits.{moment_limit}
use Rattle.rules.specs.ChoiceHeads.{first_by, by_moment, bypassable_head, blocking_head, internal_head, base_head, waiting_head, passing_head}
use Rattle.event.specs.HandedIn.{side_of}
use Rattle.layout.specs.Accepted.{Good}
use Rattle.layout.specs.Layout.{bank, state_from}
use Rattle.layout.specs.Changes.{side_no}
use Rattle.queue.specs.declared.peek.Head.{Head}
use Rattle.queue.specs.Heads.{side_held, Peeked, first_in, head_before, raw_before}
use Rattle.queue.proofs.HeadsOrder.{peeked_sooner, peeked_raw}

-- ---- words of a side

pub sum_held : (h rs : List ℕ) (z : Side) → (side (state_from h rs) z).sum ≡ get_or h (10 + side_no z) 0
unfolding state_from bank
sum_held h rs client = refl
sum_held h rs server = refl

pub sum_small : (h rs : List ℕ) (b : Bool) (sum : ℕ) → Good h rs → sum ≡ get_or h (10 + side_no (side_of b)) 0 → sum ≤ moment_limit
sum_small h rs b sum g e = rw e (go b)
  where
    go : (c : Bool) → get_or h (10 + side_no (side_of c)) 0 ≤ moment_limit
    go true = g.limits 10 (omega arith)
    go false = g.limits 11 (omega arith)

-- ---- a side

module _ (h rs : List ℕ) (b : Bool) where
  -- behind a block, by its flag
  module _ (flag : Bool) where
    pub waiting_flagged : (r : Option Head) → flag ≡ true → Peeked h rs b r (blocking_head (side_held h rs b)) → Peeked h rs b r (waiting_head flag (side_held h rs b))
    unfolding waiting_head
    waiting_flagged r e p = rw e p

    pub waiting_plain :
        (f g r : Option Head) → flag ≡ false → Peeked h rs b f (bypassable_head (side_held h rs b)) → Peeked h rs b g (blocking_head (side_held h rs b)) → r ≡ first_in head_before f g
        → Peeked h rs b r (waiting_head flag (side_held h rs b))
    unfolding waiting_head
    waiting_plain f g r e pf pg er = rw e (peeked_sooner h rs b f g r _ _ pf pg er)

    module _ (s i f : Option Head) (ps : Peeked h rs b s (base_head (side_held h rs b))) (pi : Peeked h rs b i (internal_head (side_held h rs b))) (ef : f ≡ first_in head_before s i) where
      passing_peeked : Peeked h rs b f (first_by by_moment (base_head (side_held h rs b)) (internal_head (side_held h rs b)))
      passing_peeked = peeked_sooner h rs b s i f _ _ ps pi ef

      pub passing_flagged :
          (p r : Option Head) → flag ≡ true → Peeked h rs b p (bypassable_head (side_held h rs b)) → r ≡ first_in raw_before f p → Peeked h rs b r (passing_head flag (side_held h rs b))
      unfolding passing_head
      passing_flagged p r e pp er = rw e (peeked_raw h rs b f p r _ _ passing_peeked pp er)

      pub passing_plain : flag ≡ false → Peeked h rs b f (passing_head flag (side_held h rs b))
      unfolding passing_head
      passing_plain e = rw e passing_peeked
