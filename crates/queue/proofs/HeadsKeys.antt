-- The keys of heads: a chain's key, the choice between two, and the head that a key names. Assumes nothing.
use Prim.Native.Nat.{ℕ, ◌+◌, ◌-◌, ◌^◌, ◌<◌, ◌≤◌}
use mathlib.Core.Path.{◌≡◌, refl, sym, ap, ap₂, subst, ◌∙◌}
use mathlib.Core.Bool.{Bool, true, false}
use mathlib.Core.List.{List}
use mathlib.Core.Option.{Option as RulesOption, none, some}
use native.Mathlib.Omega.{arith}
use Rattle.moment.specs.declared.Moment.{Moment}
use Rattle.std.specs.Prelude.{if◌then◌else◌, Option, Some, None}
use Rattle.rules.specs.Basics.{before, rank}
use Rattle.rules.specs.State.{SideState, queue}
use Rattle.rules.specs.Limits.{moment_limit}
use Rattle.rules.specs.ChoiceHeads.{head_as, first_by, by_moment, by_delay, side_head, queue_head, Head as RulesHead}
use Rattle.event.specs.HandedIn.{side_of}
use Rattle.queue_event.specs.Words.{word}
use Rattle.queue_event.specs.Chain.{rec_at}
use Rattle.queue_event.specs.Values.{read_event}
use Rattle.queue_event.specs.Tag.{kind_field}
use Rattle.layout.specs.Records.{head_of, count_of}
use Rattle.layout.specs.Accepted.{Good}
use Rattle.layout.specs.Layout.{state_from}
use Rattle.layout.proofs.Order.{rank_kind}
use Rattle.queue.specs.declared.header.Queue.{Queue}
use Rattle.queue.specs.declared.header.Queue.TheVariants.{Base, Blocking, Bypassable, Internal}
use Rattle.queue.specs.declared.peek.Head.{Head}
use Rattle.queue.specs.declared.peek.Key.{Key}
use Rattle.queue.specs.Queues.{queue_of}
use Rattle.queue.specs.Heads.{found_of, head_from, side_held, number_of, Stands, Peeked, PeekedBoth, added_to, chain_head, key_head, Tells, KeyOf, FirstKey, SecondSooner, first_in, key_before}
use Rattle.event.specs.declared.SimEvent.{SimEvent}
use Rattle.queue.proofs.HeadsChains.{none_there, head_moment, head_plus, first_there}
use Rattle.queue.proofs.HeadsOrder.{stands_on}
use Rattle.queue.proofs.HeadsSides.{sum_held, sum_small}

-- ---- what is added to a queue's moments

pub added_base : (x : SideState) (q : Queue) (sum : ℕ) → q ≡ Base → sum ≡ x.sum → sum ≡ added_to q x
added_base x q sum eq e = e ∙ ap (λ i. added_to i x) (sym eq)

pub added_small : (h rs : List ℕ) (b : Bool) (q : Queue) → Good h rs → added_to q (side_held h rs b) ≤ moment_limit
added_small h rs b Base g = sum_small h rs b (side_held h rs b).sum g (sum_held h rs (side_of b))
added_small h rs b Blocking g = omega arith
added_small h rs b Bypassable g = omega arith
added_small h rs b Internal g = omega arith

-- ---- the head and the key of a queue

-- docs/PORT.md names it
pub chain_head_lem : (q : Queue) (x : SideState) → head_as (queue_of q) (added_to q x) (queue x.queues (queue_of q)) ≡ chain_head q x
chain_head_lem q x = refl

-- k is the number of the chain of the side's queue q
module _ (h rs : List ℕ) (q : Queue) (b : Bool) (k : ℕ) (ek : k ≡ number_of q b) where
  -- an empty chain
  pub head_none : count_of h k ≡ 0 → Peeked h rs b None (chain_head q (side_held h rs b))
  head_none e = none_there h rs q b k ek (added_to q (side_held h rs b)) e

  pub key_none : count_of h k ≡ 0 → KeyOf (side_held h rs b) None (chain_head q (side_held h rs b))
  unfolding found_of Tells
  key_none e = record { is = empty; tells = subst (Tells None) empty tt }
    where
      empty : none ≡ chain_head q (side_held h rs b)
      empty = (head_none e).is

  -- its first record, the record p of the words rs'
  module _ (g : Good h rs) (some : 0 < count_of h k) (rs' : List ℕ) (p : ℕ) (eh : p ≡ head_of h k) (er : rs' ≡ rs) (plus : ℕ) (ep : plus ≡ added_to q (side_held h rs b)) where
    small : plus ≤ moment_limit
    small = rw ep (added_small h rs b q g)

    -- the sum fits a word
    pub head_fits : (e : SimEvent) → e ≡ read_event b (rec_at rs' p) → e.moment.0 + plus < 2 ^ 64
    head_fits e ee = head_plus h rs q b k ek g some rs' p eh er e plus ee small

    pub head_some :
        (e : SimEvent) (t : Moment) → e ≡ read_event b (rec_at rs' p) → t.0 ≡ e.moment.0 + plus
        → Peeked h rs b (Some (record { queue = q; place = p; event = e; moment = t })) (chain_head q (side_held h rs b))
    head_some e t ee et = rw (← ep) (first_there h rs q b k ek g some rs' p eh er e t plus ee et small)

    pub key_plus : (i : ℕ) → i ≡ word rs' p 1 → i + plus < 2 ^ 64
    unfolding rec_at
    key_plus i ei = omega (arith, small, head_moment h rs q b k ek g some rs' p eh er (read_event b (rec_at rs' p)) refl)

    -- its head's moment, with what is added, and its rank
    pub key_some :
        (i w v c : ℕ) (t : Moment) → i ≡ word rs' p 1 → t.0 ≡ i + plus → w ≡ word rs' p 3 → v ≡ kind_field w → c ≡ v
        → KeyOf (side_held h rs b) (Some (record { queue = q; moment = t; rank = c })) (chain_head q (side_held h rs b))
    unfolding found_of head_from Stands Tells rec_at
    key_some i w v c t ei et ew ev ec = record { is = refl; tells = subst (Tells (Some (record { queue = q; moment = t; rank = c }))) there.is (refl, ranked) }
      where
        there : Peeked h rs b (Some (record { queue = q; place = p; event = read_event b (rec_at rs' p); moment = t })) (chain_head q (side_held h rs b))
        there = head_some (read_event b (rec_at rs' p)) t refl (et ∙ ap (λ j. j + plus) ei)

        ranked : c ≡ rank (head_from (record { queue = q; place = p; event = read_event b (rec_at rs' p); moment = t })).event.kind
        ranked = ec ∙ ev ∙ ap kind_field ew ∙ sym (rank_kind (kind_field (word rs' p 3)) (omega (arith, there.stands.kind)))

-- ---- what two keys tell of their heads

-- the order of the heads is that of their keys
told_moment : (a b : Key) (y z : RulesHead) → Tells (Some a) (some y) → Tells (Some b) (some z) → before a.moment.0 a.rank b.moment.0 b.rank ≡ by_moment y z
unfolding Tells
told_moment a b y z ta tb = rw (ta.0, ta.1, tb.0, tb.1) refl

told_delay : (a b : Key) (y z : RulesHead) (t : ℕ) → Tells (Some a) (some y) → Tells (Some b) (some z) → before (a.moment.0 - t) a.rank (b.moment.0 - t) b.rank ≡ by_delay t y z
unfolding Tells
told_delay a b y z t ta tb = rw (ta.0, ta.1, tb.0, tb.1) refl

-- ---- the first of two keys of a side

first_none_of : (b : Option Key) → FirstKey None b b
unfolding first_by Tells
first_none_of b = record { is = go }
  where
    go : (x : SideState) (o p : RulesOption RulesHead) → KeyOf x None o → KeyOf x b p → KeyOf x b (first_by by_moment o p)
    go x none p ka kb = kb
    go x (some y) p ka kb = absurd ka.tells

module _ (a : Key) where
  first_only_of : FirstKey (Some a) None (Some a)
  unfolding first_by Tells
  first_only_of = record { is = go }
    where
      go : (x : SideState) (o p : RulesOption RulesHead) → KeyOf x (Some a) o → KeyOf x None p → KeyOf x (Some a) (first_by by_moment o p)
      go x none p ka kb = absurd ka.tells
      go x (some y) none ka kb = ka
      go x (some y) (some z) ka kb = absurd kb.tells

  module _ (b : Key) (r : Bool) (er : r ≡ before b.moment.0 b.rank a.moment.0 a.rank) where
    second_key_of : r ≡ true → FirstKey (Some a) (Some b) (Some b)
    unfolding first_by Tells
    second_key_of e = record { is = go }
      where
        go : (x : SideState) (o p : RulesOption RulesHead) → KeyOf x (Some a) o → KeyOf x (Some b) p → KeyOf x (Some b) (first_by by_moment o p)
        go x none p ka kb = absurd ka.tells
        go x (some y) none ka kb = absurd kb.tells
        go x (some y) (some z) ka kb = rw (sym (told_moment b a z y kb.tells ka.tells) ∙ sym er ∙ e) kb

    first_key_of : r ≡ false → FirstKey (Some a) (Some b) (Some a)
    unfolding first_by Tells
    first_key_of e = record { is = go }
      where
        go : (x : SideState) (o p : RulesOption RulesHead) → KeyOf x (Some a) o → KeyOf x (Some b) p → KeyOf x (Some a) (first_by by_moment o p)
        go x none p ka kb = absurd ka.tells
        go x (some y) none ka kb = ka
        go x (some y) (some z) ka kb = rw (sym (told_moment b a z y kb.tells ka.tells) ∙ sym er ∙ e) ka

-- the same of what the code chooses
pub keys_chosen : (a b r : Option Key) → r ≡ first_in key_before a b → FirstKey a b r
keys_chosen None b r e = rw e (first_none_of b)
keys_chosen (Some x) None r e = rw e (first_only_of x)
keys_chosen (Some x) (Some y) r e = go (key_before y x) refl
  where
    go : (t : Bool) → key_before y x ≡ t → FirstKey (Some x) (Some y) r
    go true p = rw (e ∙ ap (λ t. if t then Some y else Some x) p) (second_key_of x y true (sym p) refl)
    go false p = rw (e ∙ ap (λ t. if t then Some y else Some x) p) (first_key_of x y false (sym p) refl)

-- ---- the sooner of the keys of two sides

module _ (t : ℕ) where
  second_none_of : (a : Option Key) → SecondSooner t a None false
  unfolding first_by Tells
  second_none_of a = record { is = go }
    where
      go : (o p : RulesOption RulesHead) → Tells a o → Tells None p → o ≡ first_by (by_delay t) o p
      go none none ta tb = refl
      go (some y) none ta tb = refl
      go none (some z) ta tb = absurd tb
      go (some y) (some z) ta tb = absurd tb

  module _ (b : Key) where
    second_only_of : SecondSooner t None (Some b) true
    unfolding first_by Tells
    second_only_of = record { is = go }
      where
        go : (o p : RulesOption RulesHead) → Tells None o → Tells (Some b) p → p ≡ first_by (by_delay t) o p
        go none p ta tb = refl
        go (some y) p ta tb = absurd ta

    second_told_of :
        (a : Key) (x y : ℕ) (r : Bool) → x ≡ a.moment.0 - t → y ≡ b.moment.0 - t → r ≡ before y b.rank x a.rank → SecondSooner t (Some a) (Some b) r
    unfolding first_by Tells
    second_told_of a x y r ex ey er = record { is = go }
      where
        go : (o p : RulesOption RulesHead) → Tells (Some a) o → Tells (Some b) p → (if r then p else o) ≡ first_by (by_delay t) o p
        go none p ta tb = absurd ta
        go (some v) none ta tb = absurd tb
        go (some v) (some w) ta tb =
            ap (λ s. if s then some w else some v) (er ∙ ap₂ (λ i j. before i b.rank j a.rank) ey ex ∙ told_delay b a w v t tb ta)

-- the same of what the code holds
module _ (t : ℕ) (a b : Option Key) where
  pub second_none : b ≡ None → SecondSooner t a b false
  second_none eb = rw eb (second_none_of t a)

  module _ (y : Key) (eb : b ≡ Some y) where
    pub second_only : a ≡ None → SecondSooner t a b true
    second_only ea = rw (ea, eb) (second_only_of t y)

    pub second_told :
        (x : Key) (i j : ℕ) (r : Bool) → a ≡ Some x → i ≡ x.moment.0 - t → j ≡ y.moment.0 - t → r ≡ before j y.rank i x.rank → SecondSooner t a b r
    second_told x i j r ea ei ej er = rw (ea, eb) (second_told_of t y x i j r ei ej er)

-- ---- the key of a side, and the head that a key names

pub side_keyed :
    (x : SideState) (y k i s p o r : Option Key) → KeyOf x y (chain_head Bypassable x) → KeyOf x k (chain_head Blocking x) → p ≡ first_in key_before y k → KeyOf x i (chain_head Internal x)
    → o ≡ first_in key_before p i → KeyOf x s (chain_head Base x) → r ≡ first_in key_before s o → KeyOf x r (side_head x)
unfolding side_head
side_keyed x y k i s p o r ky kk ep ki eo ks er =
    (keys_chosen s o r er).is x _ _ ks ((keys_chosen p i o eo).is x _ _ ((keys_chosen y k p ep).is x _ _ ky kk) ki)

module _ (h rs : List ℕ) (b : Bool) where
  pub named_none : (k : Option Key) → k ≡ None → Peeked h rs b None (key_head k (side_held h rs b))
  unfolding found_of Stands
  named_none k e = record { is = sym (ap (λ i. key_head i (side_held h rs b)) e); stands = tt }

  pub keyed_peeked : (k : Option Key) (o : RulesOption RulesHead) (r : Option Head) → KeyOf (side_held h rs b) k o → Peeked h rs b r (key_head k (side_held h rs b)) → Peeked h rs b r o
  keyed_peeked k o r ko p = record { is = p.is ∙ ko.is; stands = p.stands }

-- ---- both sides

module _ (h rs : List ℕ) (t : ℕ) (c s : Option Key) (q : Bool) (kc : KeyOf (side_held h rs true) c (side_head (side_held h rs true))) (ks : KeyOf (side_held h rs false) s (side_head (side_held h rs false))) (x : SecondSooner t c s q) where
  chosen : (if q then side_head (side_held h rs false) else side_head (side_held h rs true)) ≡ queue_head (state_from h rs) t
  unfolding queue_head
  chosen = x.is _ _ kc.tells ks.tells

  both : (b : Bool) (r : Option Head) (o : RulesOption RulesHead) → Peeked h rs b r o → o ≡ queue_head (state_from h rs) t → PeekedBoth h rs r (queue_head (state_from h rs) t)
  both b r o p e = record { is = p.is ∙ e; stands = stands_on h rs b r p.stands }

  pub server_peeked : (r : Option Head) → q ≡ true → Peeked h rs false r (key_head s (side_held h rs false)) → PeekedBoth h rs r (queue_head (state_from h rs) t)
  server_peeked r e p =
      both false r (side_head (side_held h rs false)) (keyed_peeked h rs false s _ r ks p)
      (sym (ap (λ b. if b then side_head (side_held h rs false) else side_head (side_held h rs true)) e) ∙ chosen)

  pub client_peeked : (r : Option Head) → q ≡ false → Peeked h rs true r (key_head c (side_held h rs true)) → PeekedBoth h rs r (queue_head (state_from h rs) t)
  client_peeked r e p =
      both true r (side_head (side_held h rs true)) (keyed_peeked h rs true c _ r kc p)
      (sym (ap (λ b. if b then side_head (side_held h rs false) else side_head (side_held h rs true)) e) ∙ chosen)
