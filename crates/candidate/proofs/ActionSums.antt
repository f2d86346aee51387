-- The sums of an action, and of each case. Assumes nothing.
use Prim.Native.Nat.{ℕ, zero, suc, ◌+◌, ◌*◌, ◌^◌, ◌<◌, ◌≤◌}
use mathlib.Core.Path.{◌≡◌, refl, sym, ap, subst, subst⁻¹, ◌∙◌}
use mathlib.Core.Bool.{Bool, true, false, not, ◌&&◌}
use mathlib.Core.List.{List, [], ◌∷◌}
use mathlib.Core.Option as RulesOption
use mathlib.Core.Option.{Option as RulesOption, none, some}
use native.Mathlib.Omega.{arith}
use lib.Dec.{leb}
use lib.ListN.{get_or}
use borrow.Author.Tests.{eq-eqb, ne_eqb, not-true, not-false}
use Rattle.std.specs.Prelude.{Option}
use Rattle.rules.specs.State.{Action, ActionKind, SendPadding, BlockOutgoing}
use Rattle.rules.specs.Limits.{moment_limit, duration_limit}
use Rattle.rules.specs.ChoiceRound.{fits, candidate_sums, raised_sum, action_sums, a_block}
use Rattle.event.specs.declared.ScheduledAction.{ScheduledAction}
use Rattle.event.specs.declared.AggregateDelay.{AggregateDelay}
use Rattle.event.specs.HandedIn.{side_of, aggregate_in}
use Rattle.layout.specs.Header.{Limited, SlotsOk}
use Rattle.layout.specs.Changes.{side_no}
use Rattle.layout.specs.Layout.{action_kind_at, action_from, bank, state_from}
use Rattle.queue.specs.declared.peek.Head.{Head}
use Rattle.queue.specs.Heads.{side_held}
use Rattle.queue_peek.specs.declared.blocks.BlockEnd.{BlockEnd}
use Rattle.queue_peek.specs.Decoded.{block_from}
use Rattle.moment.specs.declared.Length.{Length}
use Rattle.delay.specs.Tests.{delayed_of}
use Rattle.layout.proofs.Banks.{bank_at}
use Rattle.queue.proofs.ViewLaws.{action_within, reporting_within, action_held, reporting_held}
use Rattle.queue.proofs.SlotLaws.{side_few, planned_in, planned_in_lem}
use Rattle.queue_peek.proofs.BlockLaws.{end_small}
use Rattle.candidate.specs.declared.Due.{Due}
use Rattle.candidate.specs.declared.Planned.{Planned}
use Rattle.candidate.specs.declared.Candidate.{Candidate}
use Rattle.candidate.specs.declared.Candidate.TheVariants.{Aggregate as AnAggregate, Block as ABlock, Event as AnEvent, Timer as ATimer, Action as AnAction}
use Rattle.candidate.specs.Candidates.{action_value, candidate_of, held_up_at, Stands, Reckoned}
use Rattle.candidate.proofs.AheadLaws.{moment_small}

-- ---- both delays

pub delays_small : (h rs : List ℕ) (b : Bool) → Limited h → (side_held h rs b).fixed.action_delay + (side_held h rs b).fixed.reporting_delay < 2 ^ 64
delays_small h rs b l = omega (arith, action_within h b _ l (action_held h rs b), reporting_within h b _ l (reporting_held h rs b))

-- ---- an action

and_one : (t : Bool) → t ≡ true && (t && true)
and_one true = refl
and_one false = refl

kind_padding : (n : ℕ) → n ≡ 1 → action_kind_at n ≡ SendPadding
kind_padding n e = rw (eq-eqb n 1 e)

kind_block : (n : ℕ) → (n ≡ 1 → ⊥) → action_kind_at n ≡ BlockOutgoing
kind_block n d = rw (ne_eqb n 1 d)

module _ (h : List ℕ) (b : Bool) (a : ScheduledAction) where
  pub padding_fits : a.kind.0 ≡ 1 → (rs : List ℕ) → true ≡ fits (action_sums (action_kind_at a.kind.0) (side_held h rs b) (action_value a))
  unfolding fits
  padding_fits e rs = sym (ap (λ (k : ActionKind). fits (action_sums k (side_held h rs b) (action_value a))) (kind_padding a.kind.0 e))

  module _ (ne : a.kind.0 ≡ 1 → ⊥) (m : ℕ) (x : Bool) (em : m ≡ a.moment.0 + a.duration.0) (ex : x ≡ leb m moment_limit) where
    block_is : (rs : List ℕ) → fits (action_sums (action_kind_at a.kind.0) (side_held h rs b) (action_value a))
        ≡ x && (leb (a.moment.0 + ((side_held h rs b).fixed.action_delay + (side_held h rs b).fixed.reporting_delay)) moment_limit && true)
    unfolding fits
    block_is rs =
        ap (λ (k : ActionKind). fits (action_sums k (side_held h rs b) (action_value a))) (kind_block a.kind.0 ne)
        ∙ ap (λ (y : Bool). y && (leb (a.moment.0 + ((side_held h rs b).fixed.action_delay + (side_held h rs b).fixed.reporting_delay)) moment_limit && true)) (sym (ex ∙ ap (λ i. leb i moment_limit) em))

    pub action_long : not x ≡ true → (rs : List ℕ) → false ≡ fits (action_sums (action_kind_at a.kind.0) (side_held h rs b) (action_value a))
    action_long f rs = sym (block_is rs ∙ rw (not-true x f))

    pub action_sums_lem : (n u : ℕ) (r : Bool) → not x ≡ false → ((ws : List ℕ) → n ≡ (side_held h ws b).fixed.action_delay + (side_held h ws b).fixed.reporting_delay)
        → u ≡ a.moment.0 + n → r ≡ leb u moment_limit → (rs : List ℕ) → r ≡ fits (action_sums (action_kind_at a.kind.0) (side_held h rs b) (action_value a))
    action_sums_lem n u r f en eu er rs =
        er ∙ ap (λ i. leb i moment_limit) (eu ∙ ap (λ i. a.moment.0 + i) (en rs))
        ∙ and_one (leb (a.moment.0 + ((side_held h rs b).fixed.action_delay + (side_held h rs b).fixed.reporting_delay)) moment_limit)
        ∙ sym (block_is rs ∙ rw (not-false x f))

-- ---- what stands in the words

Within : RulesOption Action → Type 0
Within none = Unit {0}
Within (some a) = (a.moment ≤ moment_limit) × (a.duration ≤ duration_limit)

from_within : (w m d : ℕ) → m ≤ moment_limit → d ≤ duration_limit → Within (action_from w m d)
unfolding Within action_from
from_within zero m d lm ld = tt
from_within (suc w) m d lm ld = (lm, ld)

module _ (h : List ℕ) (g : SlotsOk h) (b : Bool) (i : ℕ) (l : i < 16) where
  duration_small : bank 96 96 h (2 + 3 * (16 * side_no (side_of b) + i)) ≤ duration_limit
  duration_small =
      let e : bank 96 96 h (2 + 3 * (16 * side_no (side_of b) + i)) ≡ get_or h (98 + 3 * (16 * side_no (side_of b) + i)) 0
      = bank_at 96 96 h (2 + 3 * (16 * side_no (side_of b) + i)) (omega (arith, side_few b)) ∙ ap (λ k. get_or h k 0) (omega arith) in
      subst (λ k. k ≤ duration_limit) (sym e) (g (16 * side_no (side_of b) + i) (omega (arith, side_few b))).action.durations

  planned_within : Within (planned_in h b i)
  unfolding planned_in
  planned_within = from_within _ _ _ (moment_small h g b i l) duration_small

module _ (h rs : List ℕ) (c : Candidate) (g : SlotsOk h) (s : Stands h rs c) where
  planned_held : (p : Planned) → c ≡ AnAction p → Within (some (action_value p.action))
  unfolding Stands
  planned_held p e =
      let q : Stands h rs (AnAction p) = subst (Stands h rs) e s in
      subst Within (sym (planned_in_lem h rs p.slot.client p.slot.machine p.slot.known) ∙ q.0) (planned_within h g p.slot.client p.slot.machine p.slot.known)

  pub stands_moment : (p : Planned) → c ≡ AnAction p → p.action.moment.0 ≤ moment_limit
  unfolding Within
  stands_moment p e = (planned_held p e).0

  pub stands_duration : (p : Planned) → c ≡ AnAction p → p.action.duration.0 ≤ duration_limit
  unfolding Within
  stands_duration p e = (planned_held p e).1

pub stands_end : (h rs : List ℕ) (c : Candidate) (t : ℕ) (k : BlockEnd) (by : Option Length) → c ≡ ABlock k by → Limited h → t ≤ moment_limit → Stands h rs c → k.end.0 ≤ moment_limit
unfolding Stands
stands_end h rs c t k by e g l s = subst (λ o. RulesOption.get_or o t ≤ moment_limit) (subst (Stands h rs) e s) (end_small h rs k.client t g l)

-- ---- the cases

module _ (h : List ℕ) (t : ℕ) (c : Candidate) where
  -- the sums of the candidate
  abbrev Sums : Candidate → Bool → List ℕ → Type 0
  Sums x r rs = r ≡ fits (candidate_sums (state_from h rs) t (candidate_of h x))

  told : (x : Candidate) → c ≡ x → (r : Bool) → ((rs : List ℕ) → Reckoned h rs t x → Sums x r rs) → (rs : List ℕ) → Reckoned h rs t c → Sums c r rs
  told x e r f = subst⁻¹ (λ (y : Candidate). (rs : List ℕ) → Reckoned h rs t y → Sums y r rs) e f

  module _ (r : Bool) where
    pub case_aggregate : (a : AggregateDelay) → c ≡ AnAggregate a → ((ws : List ℕ) → r ≡ fits (raised_sum (state_from h ws) (aggregate_in a) ∷ [])) → (rs : List ℕ) → Reckoned h rs t c → Sums c r rs
    unfolding candidate_of
    case_aggregate a e f = told (AnAggregate a) e r (λ rs q. f rs)

    pub case_block : (k : BlockEnd) (by : Option Length) → c ≡ ABlock k by
        → ((ws : List ℕ) → delayed_of by ≡ held_up_at (state_from h ws) t (block_from k) → r ≡ fits (candidate_sums (state_from h ws) t (a_block (block_from k)))) → (rs : List ℕ) → Reckoned h rs t c → Sums c r rs
    unfolding candidate_of Reckoned
    case_block k by e f = told (ABlock k by) e r f

    pub case_action : (p : Planned) → c ≡ AnAction p → ((ws : List ℕ) → r ≡ fits (action_sums (action_value p.action).kind (side_held h ws p.slot.client) (action_value p.action))) → (rs : List ℕ) → Reckoned h rs t c → Sums c r rs
    unfolding candidate_of
    case_action p e f = told (AnAction p) e r (λ rs q. f rs)

  pub case_event : (x : Head) → c ≡ AnEvent x → (rs : List ℕ) → Reckoned h rs t c → Sums c true rs
  unfolding candidate_of fits
  case_event x e = told (AnEvent x) e true (λ rs q. refl)

  pub case_timer : (d : Due) → c ≡ ATimer d → (rs : List ℕ) → Reckoned h rs t c → Sums c true rs
  unfolding candidate_of fits
  case_timer d e = told (ATimer d) e true (λ rs q. refl)
