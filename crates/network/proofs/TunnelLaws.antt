-- Laws of a step of `TunnelSent`: its plan as the code makes it, and the rules' step by that plan. Assumes nothing.
use Prim.Native.Nat.{ℕ, ◌+◌, ◌<◌}
use mathlib.Core.Path.{◌≡◌, refl, sym, ap, ap₂, ◌∙◌}
use mathlib.Core.Bool.{Bool, true, false, ◌&&◌, not}
use mathlib.Core.List.{List, [], ◌∷◌, ◌++◌}
use mathlib.Core.Option.{none, some}
use native.Mathlib.Omega.{arith}
use lib.Dec.{leb, ltb, lit<}
use lib.ListN.{length, get_or, length-append}
use borrow.Author.Tests.{lt-ltb}
use Rattle.std.specs.Prelude.{if◌then◌else◌, Option, None}
use Rattle.std.specs.Bool.{then_some}
use Rattle.rules.specs.Basics.{Side, client, server, other, TunnelRecv}
use Rattle.rules.specs.State.{Event, SideState, State, side}
use Rattle.rules.specs.Limits.{moment_limit}
use Rattle.rules.specs.Aggregates.{aggregates_of, on_delayed, test_sums, some_sum}
use Rattle.rules.specs.ChoiceRound.{fits}
use Rattle.rules.specs.NetworkStep.{stamps_kept, extra_over, packet, rate_of, reported, stamp, step_tunnel}
use Rattle.moment.specs.declared.Length.{Length}
use Rattle.moment.specs.declared.Span.{Span}
use Rattle.moment.specs.declared.Sum.{Sum}
use Rattle.event.specs.declared.SimEvent.{SimEvent}
use Rattle.event.specs.HandedIn.{side_of}
use Rattle.layout.specs.Layout.{bank, state_from, unless_zero}
use Rattle.event.specs.Values.{event_value}
use Rattle.queue.specs.Heads.{side_held}
use Rattle.queue.specs.Views.{moment_no, state_in, side_at}
use Rattle.queue.specs.declared.view.SideView.{SideView}
use Rattle.queue.specs.declared.view.View.{View}
use Rattle.delay.specs.declared.Margins.{Margins}
use Rattle.delay.specs.declared.Asked.{Asked}
use Rattle.delay.specs.declared.Tested.{Tested}
use Rattle.delay.specs.Tests.{delayed_of, usual_margins, delayed_over, sums_over, TestedAs, AskedAs}
use Rattle.layout.proofs.Banks.{bank_at}
use Rattle.delay.proofs.Rules.{delayed_usual, sums_usual}
use Rattle.network.specs.declared.window.Filled.{Filled}
use Rattle.network.specs.declared.tunnel.Link.{Link}
use Rattle.network.specs.declared.tunnel.Tunnel.{Tunnel}
use Rattle.network.specs.Due.{moments}
use Rattle.network.specs.Stamps.{limit_of, RatedAs, FilledAs, evicted_count}
use Rattle.network.specs.Plans.{sent_of, LinkAs, tested_by, tested_sums, tunnel_of, extra_at, received_as, tunnel_with, tunnel_plan, tunnel_sums, tunnel_step}
use Rattle.network.proofs.DueLaws.{and_one, fits_then, fits_else}

-- ---- the rules' step by its plan

stamped_long : (s : State) (z : Side) (now : ℕ) → length (side (stamp s z now) z).stamps ≡ length (stamps_kept s.settings.window now (side s z).stamps) + 1
unfolding stamp
stamped_long s client now = length-append (stamps_kept s.settings.window now s.client.stamps) _
stamped_long s server now = length-append (stamps_kept s.settings.window now s.server.stamps) _

pub tunnel_step_lem : (s : State) (now : ℕ) (e : Event) → step_tunnel s now e ≡ tunnel_step s now e (tunnel_plan s now e)
unfolding step_tunnel tunnel_plan tested_by tested_sums
tunnel_step_lem s now e = ap (λ c. tunnel_step s now e (tunnel_with s now e c)) (stamped_long s e.side now)

pub tunnel_sums_lem : (s : State) (now : ℕ) (e : Event) → fits (tunnel_sums s.settings.network_delay e.side now (tunnel_plan s now e)) ≡ fits (step_tunnel s now e).sums
tunnel_sums_lem s now e = ap (λ r. fits r.sums) (sym (tunnel_step_lem s now e))

-- ---- link_of

other_side : (c : Bool) → side_of (not c) ≡ other (side_of c)
other_side true = refl
other_side false = refl

-- a word from 0 to 23 of the header
word_at : (h : List ℕ) (i : ℕ) → i < 24 → get_or h (0 + i) 0 ≡ bank 0 24 h i
word_at h i l = sym (bank_at 0 24 h i l)

-- v is the client's side of the view w
module _ (w : View) (c : Bool) (v : SideView) (ew : v.view ≡ w) (ec : v.client ≡ true) where
  pub link_as : (d n r : Span) (sum : Sum) (rate : Option ℕ) → d.length.0 ≡ (state_in w).settings.network_delay → ((rs : List ℕ) → n.length.0 ≡ (state_from w.words.header.now rs).settings.window)
      → RatedAs rate (rate_of (unless_zero (get_or w.words.header.now 1 0)) (unless_zero (get_or w.words.header.now 2 0))) → sum.length.0 ≡ (side_at v).sum
      → ((rs : List ℕ) → r.length.0 ≡ (side_held w.words.header.now rs (not c)).fixed.reporting_delay)
      → LinkAs (record { delay = d; window = n; rate = rate; sum = sum; reporting = r }) (state_in w) (side_of c)
  unfolding state_from
  link_as d n r sum rate ed en q es er = record {
    delay = ed;
    window = en w.records.now;
    rate = q.is ∙ ap₂ (λ a b. rate_of (unless_zero a) (unless_zero b)) (word_at w.words.header.now 1 (lit< tt)) (word_at w.words.header.now 2 (lit< tt));
    sum = rw (ew, ec) at es;
    reporting = er w.records.now ∙ ap (λ z. (side (state_in w) z).fixed.reporting_delay) (other_side c);
    above = q.above;
  }

-- ---- test

module _ (x : SideState) (sum u : ℕ) (extra : Length) where
  pub test_none : extra.0 ≡ 0 → TestedAs (record { by = None; base = None }) (tested_by x sum u extra.0) (tested_sums x sum u extra.0)
  unfolding tested_by tested_sums
  test_none e = record {
    found = sym (ap (λ n. tested_by x sum u n) e);
    formed = sym (ap (λ n. tested_sums x sum u n) e);
  }

  module _ (d : extra.0 ≡ 0 → ⊥) (m : Margins) (em : m ≡ usual_margins) (a : Asked) (ea : AskedAs a (delayed_over m sum x u) (sums_over m sum x u)) where
    above_zero : ltb 0 extra.0 ≡ true
    above_zero = lt-ltb 0 extra.0 (omega arith)

    asked_by : delayed_of (then_some a.yes extra) ≡ tested_by x sum u extra.0
    unfolding tested_by
    asked_by =
        by_yes a.yes
        ∙ ap (λ b. if b then some extra.0 else none) (ea.found ∙ ap (λ v. delayed_over v sum x u) em ∙ delayed_usual x sum u)
        ∙ sym (ap (λ b. if b && on_delayed x sum u then some extra.0 else none) above_zero)
      where
        by_yes : (t : Bool) → delayed_of (then_some t extra) ≡ (if t then some extra.0 else none)
        by_yes true = refl
        by_yes false = refl

    asked_sums : some_sum (moment_no a.base) ≡ tested_sums x sum u extra.0
    unfolding tested_sums
    asked_sums = ea.formed ∙ ap (λ v. sums_over v sum x u) em ∙ sums_usual x sum u ∙ sym (ap (λ b. if b then test_sums x sum u else []) above_zero)

    pub tested : (by : Option Length) → by ≡ then_some a.yes extra → TestedAs (record { by = by; base = a.base }) (tested_by x sum u extra.0) (tested_sums x sum u extra.0)
    tested by e = record { found = ap delayed_of e ∙ asked_by; formed = asked_sums }

-- ---- arrival

-- ---- plan

module _ (l : Link) (s : State) (e : SimEvent) (now : ℕ) (f : Filled) (k : LinkAs l s (side_of e.client)) (ef : FilledAs f l.window.length.0 now (limit_of l.rate) (side s (side_of e.client)).stamps) where
  extra_is : f.extra.0 ≡ extra_at s (length (stamps_kept s.settings.window now (side s (side_of e.client)).stamps) + 1)
  extra_is = ef.extra ∙ (λ i. extra_over (k.window i) (length (stamps_kept (k.window i) now (side s (side_of e.client)).stamps) + 1) (k.rate i))

  pub planned : (t : Tested) (v : SimEvent) (n : ℕ) → TestedAs t (tested_by (side s (side_of e.client)) l.sum.length.0 e.moment.0 f.extra.0) (tested_sums (side s (side_of e.client)) l.sum.length.0 e.moment.0 f.extra.0)
      → n ≡ f.extra.0 + l.delay.length.0
      → event_value v ≡ packet TunnelRecv (reported (sent_of e) now n l.reporting.length.0) l.reporting.length.0 (other (side_of e.client)) e.padding false false
      → tunnel_of (record { stale = f.stale; tested = t; received = v }) ≡ tunnel_plan s now (sent_of e)
  unfolding tunnel_plan
  planned t v n et en ev = λ i. record { stale = stale_is i; by = by_is i; formed = formed_is i; received = received_is i }
    where
      x : SideState
      x = side s (side_of e.client)

      stale_is : f.stale ≡ evicted_count s.settings.window now x.stamps
      stale_is = ef.stale ∙ ap (λ w. evicted_count w now x.stamps) k.window

      by_is : delayed_of t.by ≡ tested_by x s.client.sum e.moment.0 (extra_at s (length (stamps_kept s.settings.window now x.stamps) + 1))
      by_is = et.found ∙ ap₂ (λ a b. tested_by x a e.moment.0 b) k.sum extra_is

      formed_is : some_sum (moment_no t.base) ≡ tested_sums x s.client.sum e.moment.0 (extra_at s (length (stamps_kept s.settings.window now x.stamps) + 1))
      formed_is = et.formed ∙ ap₂ (λ a b. tested_sums x a e.moment.0 b) k.sum extra_is

      network_is : n ≡ extra_at s (length (stamps_kept s.settings.window now x.stamps) + 1) + s.settings.network_delay
      network_is = en ∙ ap₂ ◌+◌ extra_is k.delay

      received_is : event_value v ≡ received_as s now (sent_of e) (extra_at s (length (stamps_kept s.settings.window now x.stamps) + 1))
      received_is = ev ∙ ap₂ (λ a b. packet TunnelRecv (reported (sent_of e) now a b) b (other (side_of e.client)) e.padding false false) network_is k.reporting

-- ---- fit

module _ (t : Tunnel) (d now : ℕ) (z : Side) (v : Bool) (ev : v ≡ fits (some_sum (moment_no t.tested.base) ++ moments (aggregates_of d z now (delayed_of t.tested.by)))) where
  pub fit_last : (c : Bool) → c ≡ leb t.received.moment.0 moment_limit → v ≡ true → c ≡ fits (tunnel_sums d z now (tunnel_of t))
  unfolding fits
  fit_last c ec p = fits_then (some_sum (moment_no t.tested.base) ++ moments (aggregates_of d z now (delayed_of t.tested.by))) (t.received.moment.0 ∷ []) v ev c (ec ∙ and_one (leb t.received.moment.0 moment_limit)) p

  pub fit_first : v ≡ false → v ≡ fits (tunnel_sums d z now (tunnel_of t))
  fit_first p = fits_else _ (t.received.moment.0 ∷ []) v ev p
