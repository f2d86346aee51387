-- The ends of both sides' blocks, and the next one. Assumes nothing.
use Prim.Native.Nat.{ℕ, zero, suc, ◌+◌, ◌-◌, ◌≤◌}
use mathlib.Core.Path.{◌≡◌, refl, sym, ap, ap₂, ◌∙◌}
use mathlib.Core.Bool.{Bool, true, false}
use mathlib.Core.List.{List}
use mathlib.Core.Option as RulesOption
use mathlib.Core.Option.{Option as RulesOption, none, some}
use native.Mathlib.Omega.{arith}
use lib.ListN.{get_or}
use Rattle.std.specs.Prelude.{if◌then◌else◌, Option, Some, None}
use Rattle.std.specs.Ordering.{is_lt, nat_cmp}
use Rattle.std.specs.Option.{option_or}
use Rattle.moment.proofs.Order.{lt_is}
use Rattle.moment.specs.declared.Moment.{Moment}
use Rattle.rules.specs.Basics.{Side, client, server}
use Rattle.rules.specs.State.{State}
use Rattle.rules.specs.Limits.{moment_limit}
use Rattle.rules.specs.ChoiceDelays.{Block, first_block, next_block}
use Rattle.event.specs.HandedIn.{side_of}
use Rattle.layout.specs.Header.{Limited}
use Rattle.layout.specs.Layout.{less_one}
use Rattle.layout.specs.Changes.{side_no}
use Rattle.queue.specs.Heads.{side_held}
use Rattle.queue.specs.Views.{moment_no}
use Rattle.queue.proofs.ViewLaws.{block_held}
use Rattle.queue_peek.specs.declared.blocks.BlockEnd.{BlockEnd}
use Rattle.queue_peek.specs.Decoded.{blocked_of, block_of}

-- within the limit, as every moment of the state
pub end_small : (h rs : List ℕ) (b : Bool) (t : ℕ) → Limited h → t ≤ moment_limit → RulesOption.get_or (side_held h rs b).block_end t ≤ moment_limit
end_small h rs b t g l = rw (block_held h rs b) (go (get_or h (12 + side_no (side_of b)) 0) (small b))
  where
    small : (c : Bool) → get_or h (12 + side_no (side_of c)) 0 ≤ suc moment_limit
    small true = g 12 (omega arith)
    small false = g 13 (omega arith)

    go : (n : ℕ) → n ≤ suc moment_limit → RulesOption.get_or (less_one n) t ≤ moment_limit
    go zero k = l
    go (suc n) k = omega arith

-- a word that holds a moment; docs/PORT.md names it
pub less_one_lem : (n : ℕ) → (n ≡ 0 → ⊥) → some (n - 1) ≡ less_one n
less_one_lem zero d = absurd (d refl)
less_one_lem (suc n) d = let x : suc n - 1 ≡ n = omega arith in ap some x

-- ---- the block of a side

module _ (client : Bool) (m : Option Moment) (o : RulesOption ℕ) (e : moment_no m ≡ o) where
  pub side_none : m ≡ None → blocked_of None ≡ block_of (side_of client) o
  unfolding blocked_of
  side_none z = ap (block_of (side_of client)) (ap moment_no (sym z) ∙ e)

  pub side_some : (t : Moment) → m ≡ Some t → blocked_of (Some (record { client = client; end = t })) ≡ block_of (side_of client) o
  unfolding blocked_of
  side_some t z = ap (block_of (side_of client)) (ap moment_no (sym z) ∙ e)

-- ---- the next to end

-- when it ends
abbrev when : RulesOption Block → RulesOption ℕ
when = RulesOption.map (λ (b : Block). b.end)

when_is : (z : Side) (o : RulesOption ℕ) → when (block_of z o) ≡ o
when_is z none = refl
when_is z (some t) = refl

right : (o : RulesOption ℕ) → block_of server o ≡ first_block none o
right none = refl
right (some t) = refl

left : (o : RulesOption ℕ) → block_of client o ≡ first_block o none
left none = refl
left (some t) = refl

module _ (s : State) (c r : Option BlockEnd) (ec : blocked_of c ≡ block_of client s.client.block_end) (er : blocked_of r ≡ block_of server s.server.block_end) where
  ends : first_block (when (blocked_of c)) (when (blocked_of r)) ≡ next_block s
  ends = ap₂ first_block (ap when ec ∙ when_is client s.client.block_end) (ap when er ∙ when_is server s.server.block_end)

  its_own : (z : Side) (k : RulesOption Block) (o : RulesOption ℕ) → k ≡ block_of z o → k ≡ block_of z (when k)
  its_own z k o e = e ∙ ap (block_of z) (sym (ap when e ∙ when_is z o))

  -- the server's alone, or none
  pub next_right : (k : Option BlockEnd) → k ≡ option_or c r → c ≡ None → blocked_of k ≡ next_block s
  unfolding blocked_of
  next_right k ek z =
      ap blocked_of (ek ∙ ap (λ x. option_or x r) z) ∙ its_own server (blocked_of r) _ er ∙ right (when (blocked_of r))
      ∙ ap (λ (x : Option BlockEnd). first_block (when (blocked_of x)) (when (blocked_of r))) (sym z) ∙ ends

  -- the client's alone
  pub next_left : (k : Option BlockEnd) → k ≡ option_or c r → (x : BlockEnd) → c ≡ Some x → r ≡ None → blocked_of k ≡ next_block s
  unfolding blocked_of
  next_left k ek x e z =
      ap blocked_of (ek ∙ ap (λ y. option_or y r) e ∙ sym e) ∙ its_own client (blocked_of c) _ ec ∙ left (when (blocked_of c))
      ∙ ap (λ (y : Option BlockEnd). first_block (when (blocked_of c)) (when (blocked_of y))) (sym z) ∙ ends

  module _ (x y : BlockEnd) (zc : c ≡ Some x) (zr : r ≡ Some y) (b : Bool) (eb : b ≡ is_lt (nat_cmp x.end.0 y.end.0)) where
    both : (if b then blocked_of c else blocked_of r) ≡ next_block s
    unfolding blocked_of
    both =
        (λ i. if (eb ∙ lt_is x.end.0 y.end.0) i then (its_own client (blocked_of c) _ ec ∙ ap (λ (k : Option BlockEnd). block_of client (when (blocked_of k))) zc) i else (its_own server (blocked_of r) _ er ∙ ap (λ (k : Option BlockEnd). block_of server (when (blocked_of k))) zr) i)
        ∙ ap₂ (λ (k l : Option BlockEnd). first_block (when (blocked_of k)) (when (blocked_of l))) (sym zc) (sym zr)
        ∙ ends

    pub next_client : b ≡ true → blocked_of c ≡ next_block s
    next_client t = sym (ap (λ i. if i then blocked_of c else blocked_of r) t) ∙ both

    -- equal ends mean the server
    pub next_server : b ≡ false → blocked_of r ≡ next_block s
    next_server t = sym (ap (λ i. if i then blocked_of c else blocked_of r) t) ∙ both
