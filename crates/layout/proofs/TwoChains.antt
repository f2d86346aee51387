-- THE law of a change of chains: chains j and k are given anew, every other chain and every other word of the header is as it was. What state the words
-- then hold. Assumes nothing.
use Prim.Native.Nat.{ℕ, ◌<◌, ◌+◌, ◌≤◌, ◌/◌}
use mathlib.Core.Path.{◌≡◌, refl, sym, ap₂, subst, ◌∙◌}
use mathlib.Core.Bool.{Bool, true, false}
use mathlib.Core.List.{List, map}
use mathlib.Core.Logic.{◌⊎◌}
use native.Mathlib.Omega.{arith}
use native.Mathlib.Decide.{ℕ_discrete}
use lib.Dec.{ltb}
use lib.ListN.{length}
use borrow.Author.Tests.{ltb-true, ltb-false}
use Rattle.rules.specs.Basics.{Side, client, server}
use Rattle.rules.specs.State.{Chain, base, blocking, bypassable, internal, State, side, with_side, queue, with_stamps, with_free}
use Rattle.queue_event.specs.Chain.{Node, nodes}
use Rattle.layout.specs.Changes.{put_chain, put_two, TwoChains, chain_no, stamps_no, with_chain}
use Rattle.layout.specs.Records.{chain_count, head_of, count_of}
use Rattle.layout.specs.Layout.{bank, chains, held_event, held_stamp, place_of, build, state_from}
use Rattle.layout.proofs.Banks.{upd, by_points, upd_same, upd_other, chains_at, chains_past}
use Rattle.layout.proofs.ChainWords.{length_chain, head_same, count_same, head_other, count_other, bank_chain}

-- ---- the heads and counts

module _ (h : List ℕ) (j a n k b m : ℕ) (wide : length h ≡ 256) (sj : j < chain_count) (sk : k < chain_count) (differ : k ≡ j → ⊥) where
  wide₁ : length (put_chain h j a n) ≡ 256
  wide₁ = length_chain h j a n ∙ wide

  pub count_one : count_of (put_two h j a n k b m) j ≡ n
  count_one = count_other (put_chain h j a n) k b m j (λ e. differ (sym e)) ∙ count_same h j a n wide sj

  pub head_one : head_of (put_two h j a n k b m) j ≡ a
  head_one = head_other (put_chain h j a n) k b m j (λ e. differ (sym e)) ∙ head_same h j a n wide sj

  pub count_two : count_of (put_two h j a n k b m) k ≡ m
  count_two = count_same (put_chain h j a n) k b m wide₁ sk

  pub head_two : head_of (put_two h j a n k b m) k ≡ b
  head_two = head_same (put_chain h j a n) k b m wide₁ sk

  module _ (i : ℕ) (dk : i ≡ k → ⊥) (dj : i ≡ j → ⊥) where
    pub count_else : count_of (put_two h j a n k b m) i ≡ count_of h i
    count_else = count_other (put_chain h j a n) k b m i dk ∙ count_other h j a n i dj

    pub head_else : head_of (put_two h j a n k b m) i ≡ head_of h i
    head_else = head_other (put_chain h j a n) k b m i dk ∙ head_other h j a n i dj

  -- ---- the chains

  module _ (rs rs' : List ℕ) (y x : List Node) (one : nodes rs' n a ≡ y) (other : nodes rs' m b ≡ x)
      (others : (i : ℕ) → i < chain_count → (i ≡ k → ⊥) → (i ≡ j → ⊥) → nodes rs' (count_of h i) (head_of h i) ≡ nodes rs (count_of h i) (head_of h i)) where
    at_one : chains (put_two h j a n k b m) rs' j ≡ upd (upd (chains h rs) j y) k x j
    at_one =
        chains_at (put_two h j a n k b m) rs' j sj ∙ ap₂ (nodes rs') count_one head_one ∙ one
        ∙ sym (upd_same (chains h rs) j y) ∙ sym (upd_other (upd (chains h rs) j y) k x j (λ e. differ (sym e)))

    at_two : chains (put_two h j a n k b m) rs' k ≡ upd (upd (chains h rs) j y) k x k
    at_two = chains_at (put_two h j a n k b m) rs' k sk ∙ ap₂ (nodes rs') count_two head_two ∙ other ∙ sym (upd_same (upd (chains h rs) j y) k x)

    at_else : (i : ℕ) (s : Bool) → ltb i chain_count ≡ s → (i ≡ k → ⊥) → (i ≡ j → ⊥) → chains (put_two h j a n k b m) rs' i ≡ chains h rs i
    at_else i true e dk dj =
        let l = ltb-true i chain_count e in
        chains_at (put_two h j a n k b m) rs' i l ∙ ap₂ (nodes rs') (count_else i dk dj) (head_else i dk dj) ∙ others i l dk dj ∙ sym (chains_at h rs i l)
    at_else i false e dk dj = let l = ltb-false i chain_count e in chains_past (put_two h j a n k b m) rs' i l ∙ sym (chains_past h rs i l)

    pub held_two : chains (put_two h j a n k b m) rs' ≡ upd (upd (chains h rs) j y) k x
    held_two = by_points _ _ (λ i. go i (ℕ_discrete i k) (ℕ_discrete i j))
      where
        go : (i : ℕ) → Dec (i ≡ k) → Dec (i ≡ j) → chains (put_two h j a n k b m) rs' i ≡ upd (upd (chains h rs) j y) k x i
        go i (yes q) d = subst (λ i. chains (put_two h j a n k b m) rs' i ≡ upd (upd (chains h rs) j y) k x i) (sym q) at_two
        go i (no dk) (yes q) = subst (λ i. chains (put_two h j a n k b m) rs' i ≡ upd (upd (chains h rs) j y) k x i) (sym q) at_one
        go i (no dk) (no dj) = at_else i (ltb i chain_count) refl dk dj ∙ sym (upd_other (chains h rs) j y i dj) ∙ sym (upd_other (upd (chains h rs) j y) k x i dk)

-- the same with the free chain as the one
pub two_chains :
    (h rs rs' : List ℕ) (k a n b m : ℕ) (x y : List Node) → length h ≡ 256 → k < chain_count → (k ≡ 0 → ⊥) → nodes rs' m b ≡ x → nodes rs' n a ≡ y
    → ((i : ℕ) → i < chain_count → (i ≡ k → ⊥) → (i ≡ 0 → ⊥) → nodes rs' (count_of h i) (head_of h i) ≡ nodes rs (count_of h i) (head_of h i))
    → chains (put_two h 0 a n k b m) rs' ≡ upd (upd (chains h rs) 0 y) k x
two_chains h rs rs' k a n b m x y wide small nz new free others = held_two h 0 a n k b m wide (omega arith) small nz rs rs' y x free new others

module _ (h rs rs' : List ℕ) (j a n k b m : ℕ) (y x : List Node) (t : TwoChains h rs rs' j a n k b m y x) where
  kept : (c w : ℕ) → (c + w ≤ 24) ⊎ (48 ≤ c) → bank c w (put_two h j a n k b m) ≡ bank c w h
  kept c w o = bank_chain (put_chain h j a n) k b m c w t.other_small o ∙ bank_chain h j a n c w t.one_small o

-- ---- the state, where a record goes from the free chain to chain k, or from chain k to the free chain

abbrev built : List ℕ → List ℕ → (ℕ → List Node) → State
built h rs c = build (bank 0 24 h) (bank 64 32 h) (bank 96 96 h) c (length rs / 4)

pub chain_built :
    (f t a : ℕ → ℕ) (C : ℕ → List Node) (r : ℕ) (z : Side) (c : Chain) (x y : List Node)
    → build f t a (upd (upd C 0 y) (chain_no z c) x) r ≡ with_chain (build f t a C r) z c (map (held_event z) x) (map place_of y)
chain_built f t a C r client base x y = refl
chain_built f t a C r client blocking x y = refl
chain_built f t a C r client bypassable x y = refl
chain_built f t a C r client internal x y = refl
chain_built f t a C r server base x y = refl
chain_built f t a C r server blocking x y = refl
chain_built f t a C r server bypassable x y = refl
chain_built f t a C r server internal x y = refl

stamps_built : (h rs : List ℕ) (z : Side) (x y : List Node) → built h rs (upd (upd (chains h rs) 0 y) (stamps_no z) x) ≡ with_free (with_side (state_from h rs) z (with_stamps (side (state_from h rs) z) (map held_stamp x))) (map place_of y)
unfolding state_from
stamps_built h rs client x y = refl
stamps_built h rs server x y = refl

pub queue_built : (h rs : List ℕ) (z : Side) (c : Chain) → queue (side (state_from h rs) z).queues c ≡ map (held_event z) (chains h rs (chain_no z c))
unfolding state_from
queue_built h rs client base = refl
queue_built h rs client blocking = refl
queue_built h rs client bypassable = refl
queue_built h rs client internal = refl
queue_built h rs server base = refl
queue_built h rs server blocking = refl
queue_built h rs server bypassable = refl
queue_built h rs server internal = refl
