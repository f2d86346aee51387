-- The order of heads, and the first of two findings. Assumes nothing.
use Prim.Native.Nat.{ℕ, ◌≤◌}
use mathlib.Core.Path.{◌≡◌, refl, sym, ap, ap₂, subst, ◌∙◌}
use mathlib.Core.Bool.{Bool, true, false}
use mathlib.Core.Logic.{◌⊎◌, inl, inr}
use mathlib.Core.List.{List}
use mathlib.Core.Option.{Option as RulesOption, some}
use native.Mathlib.Omega.{arith}
use Rattle.std.specs.Prelude.{if◌then◌else◌, Option, Some, None}
use Rattle.rules.specs.Basics.{before, rank}
use Rattle.rules.specs.ChoiceHeads.{first_by, by_moment, by_raw_moment, Head as RulesHead}
use Rattle.event.specs.Values.{kind_at}
use Rattle.layout.proofs.Order.{rank_kind}
use Rattle.queue.specs.declared.peek.Head.{Head}
use Rattle.queue.specs.Heads.{head_from, found_of, HeadOk, Stands, StandsOn, Known, Peeked, Chosen, first_in, head_before, raw_before}

-- ---- (moment, rank)

module _ (a b : Head) (ka : a.event.kind.0 ≤ 9) (kb : b.event.kind.0 ≤ 9) where
  ranked : (x y : ℕ) → before x a.event.kind.0 y b.event.kind.0 ≡ before x (rank (kind_at a.event.kind.0)) y (rank (kind_at b.event.kind.0))
  ranked x y = ap₂ (λ i j. before x i y j) (sym (rank_kind a.event.kind.0 (omega arith))) (sym (rank_kind b.event.kind.0 (omega arith)))

  -- docs/PORT.md names it
  pub by_moment_lem :
      (r : Bool) (x y : ℕ) → x ≡ a.event.kind.0 → y ≡ b.event.kind.0 → r ≡ before a.moment.0 x b.moment.0 y → r ≡ by_moment (head_from a) (head_from b)
  unfolding head_from
  by_moment_lem r x y ex ey e = e ∙ (λ d. before a.moment.0 (ex d) b.moment.0 (ey d)) ∙ ranked a.moment.0 b.moment.0

  head_agrees : head_before a b ≡ by_moment (head_from a) (head_from b)
  head_agrees = by_moment_lem (head_before a b) a.event.kind.0 b.event.kind.0 refl refl refl

  raw_agrees : raw_before a b ≡ by_raw_moment (head_from a) (head_from b)
  unfolding head_from
  raw_agrees = ranked a.event.moment.0 b.event.moment.0

-- ---- the first of two heads is the rules'

module _ (lt : RulesHead → RulesHead → Bool) (test : Head → Head → Bool) (agrees : (x y : Head) → x.event.kind.0 ≤ 9 → y.event.kind.0 ≤ 9 → test x y ≡ lt (head_from x) (head_from y)) where
  pub heads_chosen : (a b r : Option Head) → Known a → Known b → r ≡ first_in test a b → Chosen lt a b r
  unfolding found_of first_by Known
  heads_chosen None b r ka kb e = record { is = ap found_of e; one = inr e }
  heads_chosen (Some x) None r ka kb e = record { is = ap found_of e; one = inl e }
  heads_chosen (Some x) (Some y) r ka kb e = go (test y x) refl
    where
      go : (t : Bool) → test y x ≡ t → Chosen lt (Some x) (Some y) r
      go true p = let second : r ≡ Some y = e ∙ ap (λ t. if t then Some y else Some x) p in record {
        is = ap found_of second ∙ sym (ap (λ t. if t then some (head_from y) else some (head_from x)) (sym (agrees y x kb ka) ∙ p));
        one = inr second;
      }
      go false p = let first : r ≡ Some x = e ∙ ap (λ t. if t then Some y else Some x) p in record {
        is = ap found_of first ∙ sym (ap (λ t. if t then some (head_from y) else some (head_from x)) (sym (agrees y x kb ka) ∙ p));
        one = inl first;
      }

-- ---- what was found stays found

module _ (h rs : List ℕ) where
  stands_known : (b : Bool) (f : Option Head) → Stands h rs b f → Known f
  unfolding Stands Known
  stands_known b None s = tt
  stands_known b (Some x) s = s.kind

  pub peeked_known : (b : Bool) (f : Option Head) (o : RulesOption RulesHead) → Peeked h rs b f o → Known f
  peeked_known b f o p = stands_known b f p.stands

  pub peeked_first :
      (b : Bool) (lt : RulesHead → RulesHead → Bool) (f g r : Option Head) (o p : RulesOption RulesHead) → Peeked h rs b f o → Peeked h rs b g p → Chosen lt f g r
      → Peeked h rs b r (first_by lt o p)
  peeked_first b lt f g r o p pf pg c = record { is = c.is ∙ ap₂ (first_by lt) pf.is pg.is; stands = go c.one }
    where
      go : (r ≡ f) ⊎ (r ≡ g) → Stands h rs b r
      go (inl e) = subst (Stands h rs b) (sym e) pf.stands
      go (inr e) = subst (Stands h rs b) (sym e) pg.stands

  -- the same of what the code chooses
  module _ (b : Bool) (f g r : Option Head) (o p : RulesOption RulesHead) (pf : Peeked h rs b f o) (pg : Peeked h rs b g p) where
    pub peeked_by :
        (lt : RulesHead → RulesHead → Bool) (test : Head → Head → Bool) → ((x y : Head) → x.event.kind.0 ≤ 9 → y.event.kind.0 ≤ 9 → test x y ≡ lt (head_from x) (head_from y))
        → r ≡ first_in test f g → Peeked h rs b r (first_by lt o p)
    peeked_by lt test agrees e = peeked_first b lt f g r o p pf pg (heads_chosen lt test agrees f g r (peeked_known b f o pf) (peeked_known b g p pg) e)

    pub peeked_sooner : r ≡ first_in head_before f g → Peeked h rs b r (first_by by_moment o p)
    peeked_sooner e = peeked_by by_moment head_before (λ x y. head_agrees x y) e

    pub peeked_raw : r ≡ first_in raw_before f g → Peeked h rs b r (first_by by_raw_moment o p)
    peeked_raw e = peeked_by by_raw_moment raw_before (λ x y. raw_agrees x y) e

  pub stands_on : (b : Bool) (f : Option Head) → Stands h rs b f → StandsOn h rs f
  unfolding Stands StandsOn
  stands_on b None s = tt
  stands_on b (Some x) s = subst (λ (z : Bool). HeadOk h rs z x) (sym s.side) s

  -- the head found, where there is one
  pub stands_at : (b : Bool) (f : Option Head) (x : Head) → f ≡ Some x → Stands h rs b f → HeadOk h rs b x
  unfolding Stands
  stands_at b f x e s = subst (Stands h rs b) e s

  pub stands_on_at : (f : Option Head) (x : Head) → f ≡ Some x → StandsOn h rs f → HeadOk h rs x.event.client x
  unfolding StandsOn
  stands_on_at f x e s = subst (StandsOn h rs) e s
