-- Laws of the three tests, one for each return. Assumes nothing.
use Prim.Native.Nat.{ℕ, ◌-◌}
use mathlib.Core.Path.{◌≡◌, sym, ap, ◌∙◌}
use mathlib.Core.Bool.{Bool, true, false, not}
use mathlib.Core.Option.{none, some}
use lib.Dec.{eqb}
use Rattle.std.specs.Prelude.{Option, Some, None}
use Rattle.rules.specs.State.{SideState}
use Rattle.rules.specs.Aggregates.{any_within, waiting, within, base_moment}
use Rattle.moment.specs.declared.Length.{Length}
use Rattle.moment.specs.declared.Moment.{Moment}
use Rattle.queue.specs.declared.header.Queue.{Queue}
use Rattle.queue.specs.Views.{moment_no}
use Rattle.delay.specs.declared.Margins.{Margins}
use Rattle.delay.specs.Waiting.{burst_tail_over}
use Rattle.delay.specs.Tests.{without, Packets, expire_over, replace_over, delayed_over, sums_over, TestedAs, AskedAs}
use Rattle.delay.proofs.Packets.{without_base}

-- ---- agg_delay_on_blocking_expire

module _ (m : Margins) (sum : ℕ) (x : SideState) (end u t : ℕ) (et : t ≡ burst_tail_over m.buffer.0 x u) where
  module _ (l : Bool) (el : l ≡ eqb end t) where
    pub expire_level : l ≡ true → none ≡ expire_over m sum x end u
    unfolding expire_over
    expire_level e = rw (sym et, sym el, e)

    module _ (d : l ≡ false) (o : Option Moment) (b : Bool) (eo : moment_no o ≡ base_moment sum x.queues.base) (eb : b ≡ within m.base.0 u (moment_no o)) where
      near_is : within m.base.0 u (base_moment sum x.queues.base) ≡ b
      near_is = ap (within m.base.0 u) (sym eo) ∙ sym eb

      pub expire_near : b ≡ true → none ≡ expire_over m sum x end u
      unfolding expire_over
      expire_near e = rw (sym et, sym el, d, near_is, e)

      pub expire_by : (r : ℕ) → b ≡ false → r ≡ end - t → some r ≡ expire_over m sum x end u
      unfolding expire_over
      expire_by r e er = rw (sym et, sym el, d, near_is, e, er)

-- ---- agg_delay_on_padding_bypass_replace

module _ (m : Margins) (sum : ℕ) (x : SideState) (q : Queue) (now u : ℕ) (a : Bool) (ea : a ≡ any_within m.adjacent.0 u (waiting (without x q))) where
  pub replace_adjacent : a ≡ true → TestedAs (record { by = None; base = None }) (replace_over m sum (without x q) now u) (sums_over m sum (without x q) u)
  unfolding replace_over sums_over
  replace_adjacent e = record { found = rw (sym ea ∙ e); formed = rw (sym ea ∙ e) }

  module _ (w : Packets q) (e : a ≡ false) (o : Option Moment) (b : Bool) (eo : moment_no o ≡ base_moment sum x.queues.base) (eb : b ≡ within m.base.0 u (moment_no o)) where
    base_is : base_moment sum (without x q).queues.base ≡ moment_no o
    base_is = ap (base_moment sum) (without_base x q w) ∙ sym eo

    pub replace_near : b ≡ true → TestedAs (record { by = None; base = o }) (replace_over m sum (without x q) now u) (sums_over m sum (without x q) u)
    unfolding replace_over sums_over
    replace_near t = record { found = rw (sym ea ∙ e, base_is, sym eb ∙ t); formed = rw (sym ea ∙ e, base_is) }

    pub replace_by_lem : (r : Length) → b ≡ false → r.0 ≡ now - u → TestedAs (record { by = Some r; base = o }) (replace_over m sum (without x q) now u) (sums_over m sum (without x q) u)
    unfolding replace_over sums_over
    replace_by_lem r t er = record { found = rw (sym ea ∙ e, base_is, sym eb ∙ t, er); formed = rw (sym ea ∙ e, base_is) }

-- ---- should_delayed_packet_prop_agg_delay

module _ (m : Margins) (sum : ℕ) (x : SideState) (u : ℕ) (a : Bool) (ea : a ≡ any_within m.adjacent.0 u (waiting x)) where
  pub delayed_adjacent : a ≡ true → AskedAs (record { yes = false; base = None }) (delayed_over m sum x u) (sums_over m sum x u)
  unfolding delayed_over sums_over
  delayed_adjacent e = record { found = rw (sym ea ∙ e); formed = rw (sym ea ∙ e) }

  module _ (e : a ≡ false) (o : Option Moment) (b : Bool) (eo : moment_no o ≡ base_moment sum x.queues.base) (eb : b ≡ within m.base.0 u (moment_no o)) where
    pub delayed_yes : AskedAs (record { yes = not b; base = o }) (delayed_over m sum x u) (sums_over m sum x u)
    unfolding delayed_over sums_over
    delayed_yes = record { found = rw (sym ea ∙ e, sym eo, sym eb); formed = rw (sym ea ∙ e, sym eo) }
