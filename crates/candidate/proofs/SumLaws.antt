-- The sums of a round held to the limit. Assumes nothing.
use Prim.Native.Nat.{ℕ, suc, ◌+◌, ◌^◌, ◌<◌, ◌≤◌}
use mathlib.Core.Path.{◌≡◌, refl, sym, ap, ap₂, ◌∙◌}
use mathlib.Core.Bool.{Bool, true, false, not, ◌&&◌}
use mathlib.Core.List.{List, [], ◌∷◌}
use mathlib.Core.Option.{none}
use native.Mathlib.Omega.{arith}
use lib.Dec.{leb, ltb}
use lib.ListN.{get_or}
use borrow.Author.Tests.{not-true, le-leb, lt-leb, leb-false}
use Rattle.std.specs.Prelude.{if◌then◌else◌, Option, Some, None}
use Rattle.rules.specs.Limits.{moment_limit}
use Rattle.rules.specs.Aggregates.{base_moment, on_expire, aggregates_of, some_sum}
use Rattle.rules.specs.ChoiceHeads.{waiting_head}
use Rattle.rules.specs.ChoiceRound.{fits, always_sums, candidate_sums, raised_sum, end_moment, held_up_length, a_block}
use Rattle.event.specs.declared.AggregateDelay.{AggregateDelay}
use Rattle.event.specs.HandedIn.{side_of, aggregate_in}
use Rattle.layout.specs.Header.{Limited}
use Rattle.layout.specs.Changes.{side_no}
use Rattle.layout.specs.Layout.{bank, state_from}
use Rattle.queue.specs.declared.peek.Head.{Head}
use Rattle.queue.specs.Heads.{found_of, head_from, side_held, Peeked}
use Rattle.queue_peek.specs.declared.blocks.BlockEnd.{BlockEnd}
use Rattle.queue_peek.specs.Decoded.{block_from}
use Rattle.delay.specs.declared.Margins.{Margins}
use Rattle.moment.specs.declared.Length.{Length}
use Rattle.moment.proofs.Order.{lt_is}
use Rattle.std.specs.Ordering.{is_lt, nat_cmp}
use Rattle.delay.specs.Tests.{delayed_of, usual_margins, expire_over}
use Rattle.network.specs.Due.{moments}
use Rattle.queue.proofs.HeadsSides.{sum_held}
use Rattle.queue.proofs.ViewLaws.{reporting_held, reporting_within}
use Rattle.delay.proofs.Rules.{expire_usual}
use Rattle.network.proofs.DueLaws.{fits_append}
use Rattle.candidate.specs.Candidates.{held_up_at}

and_one : (t : Bool) → t ≡ t && true
and_one true = refl
and_one false = refl

-- ---- the sums of every round

-- n is below the limit, and what is asked then is y
module _ (n : ℕ) (v y : Bool) where
  pub below_then : (r : Bool) → n < moment_limit → v ≡ r → r ≡ y → v ≡ (leb (n + 1) moment_limit && y)
  below_then r l e ey = e ∙ ey ∙ ap (λ b. b && y) (sym (le-leb (n + 1) moment_limit (omega arith)))

  -- it is not
  pub below_else : moment_limit ≤ n → v ≡ ltb n moment_limit → v ≡ (leb (n + 1) moment_limit && y)
  below_else l e = e ∙ lt-leb (suc n) moment_limit (omega arith) ∙ ap (λ b. b && y) (sym (lt-leb (n + 1) moment_limit (omega arith)))

module _ (h rs : List ℕ) where
  abbrev pub base_within : Bool → Bool
  base_within b = fits (some_sum (base_moment (side_held h rs b).sum (side_held h rs b).queues.base))

  -- the round total, and the client's base head
  abbrev pub first_within : Bool
  first_within = leb (get_or h 17 0 + 1) moment_limit && base_within true

  and_right : (a b c : Bool) → ((a && b) && c) ≡ (a && (b && c))
  and_right true b c = refl
  and_right false b c = refl

  pub always_all : (first_within && base_within false) ≡ fits (always_sums (state_from h rs))
  unfolding always_sums fits state_from bank
  always_all =
      and_right (leb (get_or h 17 0 + 1) moment_limit) (base_within true) (base_within false)
      ∙ sym (ap (λ x. leb (get_or h 17 0 + 1) moment_limit && x) (fits_append (some_sum (base_moment (side_held h rs true).sum (side_held h rs true).queues.base)) (some_sum (base_moment (side_held h rs false).sum (side_held h rs false).queues.base))))

-- ---- the test at a block's end

abbrev pub before_end : ℕ → Head → Bool
before_end end w = ltb w.moment.0 end

pub before_end_is : (end : ℕ) (w : Head) (r : Bool) → r ≡ is_lt (nat_cmp w.moment.0 end) → r ≡ before_end end w
before_end_is end w r e = e ∙ lt_is w.moment.0 end

module _ (h rs : List ℕ) (b : Bool) (end : ℕ) (f : Option Head) (p : Peeked h rs b f (waiting_head false (side_held h rs b))) where
  pub held_none : f ≡ None → none ≡ held_up_length (side_held h rs b) end (waiting_head false (side_held h rs b))
  unfolding found_of
  held_none e = ap (held_up_length (side_held h rs b) end) (ap found_of (sym e) ∙ p.is)

  module _ (w : Head) (e : f ≡ Some w) where
    held_is : (r : Bool) → r ≡ before_end end w → (if r then on_expire (side_held h rs b) end w.moment.0 else none) ≡ held_up_length (side_held h rs b) end (waiting_head false (side_held h rs b))
    unfolding found_of head_from
    held_is r er =
        ap (λ (x : Bool). if x then on_expire (side_held h rs b) end w.moment.0 else none) er
        ∙ ap (held_up_length (side_held h rs b) end) (ap found_of (sym e) ∙ p.is)

    pub held_late : false ≡ before_end end w → none ≡ held_up_length (side_held h rs b) end (waiting_head false (side_held h rs b))
    held_late t = held_is false t

    pub held_by : true ≡ before_end end w → (sum : ℕ) (m : Margins) (d : Option Length) → sum ≡ (side_held h rs b).sum → m ≡ usual_margins
        → delayed_of d ≡ expire_over m sum (side_held h rs b) end w.moment.0 → delayed_of d ≡ held_up_length (side_held h rs b) end (waiting_head false (side_held h rs b))
    held_by t sum m d es em ed =
        ed ∙ ap₂ (λ (x : Margins) (n : ℕ). expire_over x n (side_held h rs b) end w.moment.0) em es
        ∙ expire_usual (side_held h rs b) end w.moment.0
        ∙ held_is true t

-- ---- an aggregate on top of its sum

module _ (h : List ℕ) (a : AggregateDelay) (x : Bool) (ex : x ≡ leb a.length.0 moment_limit) where
  pub raised_long : not x ≡ true → (rs : List ℕ) → false ≡ fits (raised_sum (state_from h rs) (aggregate_in a) ∷ [])
  unfolding fits
  raised_long f rs =
      let l : moment_limit < a.length.0 = leb-false a.length.0 moment_limit (sym ex ∙ not-true x f) in
      sym (ap (λ (y : Bool). y && true) (lt-leb (raised_sum (state_from h rs) (aggregate_in a)) moment_limit (omega arith)))

pub raised_sum_lem : (h : List ℕ) (a : AggregateDelay) (s n : ℕ) (r : Bool) → s ≡ get_or h (10 + side_no (side_of a.client)) 0 → n ≡ s + a.length.0 → r ≡ leb n moment_limit
    → (rs : List ℕ) → r ≡ fits (raised_sum (state_from h rs) (aggregate_in a) ∷ [])
unfolding fits
raised_sum_lem h a s n r es en er rs =
    er ∙ ap (λ i. leb i moment_limit) (en ∙ ap (λ i. i + a.length.0) (es ∙ sym (sum_held h rs (side_of a.client)))) ∙ and_one (leb (raised_sum (state_from h rs) (aggregate_in a)) moment_limit)

-- ---- a block's end

-- when the aggregates of the block's end are due
abbrev due_at : List ℕ → List ℕ → ℕ → BlockEnd → List ℕ
due_at h rs t k =
    moments (aggregates_of (state_from h rs).settings.network_delay (side_of k.client) (end_moment t (block_from k)) (held_up_at (state_from h rs) t (block_from k)))

module _ (h : List ℕ) (t : ℕ) (k : BlockEnd) (end : ℕ) (ee : end ≡ end_moment t (block_from k)) where
  pub end_within : t ≤ moment_limit → k.end.0 ≤ moment_limit → end ≤ moment_limit
  end_within l e = omega arith

  pub end_fits : (w : ℕ) → ((rs : List ℕ) → w ≡ (side_held h rs k.client).fixed.reporting_delay) → Limited h → t ≤ moment_limit → k.end.0 ≤ moment_limit → end + w < 2 ^ 64
  end_fits w ew g l e = omega (arith, end_within l e, reporting_within h k.client w g (ew [] ∙ reporting_held h [] k.client))

  module _ (w : ℕ) (ew : (rs : List ℕ) → w ≡ (side_held h rs k.client).fixed.reporting_delay) where
    module _ (n : ℕ) (x : Bool) (en : n ≡ end + w) (ex : x ≡ leb n moment_limit) (by : Option Length) where
      sent : (rs : List ℕ) → leb (end_moment t (block_from k) + (side_held h rs k.client).fixed.reporting_delay) moment_limit ≡ x
      sent rs = sym (ex ∙ ap (λ i. leb i moment_limit) (en ∙ ap₂ ◌+◌ ee (ew rs)))

      pub block_late : x ≡ false → (rs : List ℕ) → delayed_of by ≡ held_up_at (state_from h rs) t (block_from k) → x ≡ fits (candidate_sums (state_from h rs) t (a_block (block_from k)))
      unfolding fits
      block_late f rs eb = f ∙ sym (ap (λ (b : Bool). b && fits (due_at h rs t k)) (sent rs ∙ f))

      pub block_due : (r : Bool) (d : ℕ) → x ≡ true → ((rs : List ℕ) → d ≡ (state_from h rs).settings.network_delay) → r ≡ fits (moments (aggregates_of d (side_of k.client) end (delayed_of by)))
          → (rs : List ℕ) → delayed_of by ≡ held_up_at (state_from h rs) t (block_from k) → r ≡ fits (candidate_sums (state_from h rs) t (a_block (block_from k)))
      unfolding fits
      block_due r d f ed er rs eb =
          er ∙ (λ i. fits (moments (aggregates_of (ed rs i) (side_of k.client) (ee i) (eb i))))
          ∙ sym (ap (λ (b : Bool). b && fits (due_at h rs t k)) (sent rs ∙ f))
