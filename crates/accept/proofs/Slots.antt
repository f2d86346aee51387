-- Slots that are empty and slots that are in order, some of them and all, and what they keep in reserve. Assumes nothing.
use Prim.Native.Nat.{ℕ, zero, suc, ◌+◌, ◌-◌, ◌*◌, ◌≤◌, ◌<◌, ◌/◌, ◌%◌}
use mathlib.Core.Path.{◌≡◌, refl, sym, ap, subst, ◌∙◌}
use mathlib.Core.Bool.{Bool, true, false}
use mathlib.Core.List.{List, [], ◌∷◌}
use native.Mathlib.Omega.{arith}
use native.Mathlib.Decide.{ℕ_discrete}
use lib.Bits.{bit_or, or_add_and, and_le_l, and_le_r, or_zero_l}
use lib.Dec.{eqb, ltb}
use lib.ListN.{length, get_or, take, drop}
use borrow.Author.Tests.{ltb-true, ltb-false}
use Rattle.std.specs.Prelude.{Option, Some, None}
use Rattle.std.specs.List.{fold, sum_by, range_with_len}
use Rattle.std.proofs.Common.{length-take, length-drop}
use Rattle.std.proofs.lemmas.List.{get_or-take, get_or-drop}
use Rattle.layout.specs.Header.{Limited, ActionOk, SlotEmpty, SlotOk, SlotsOk, machines_of, block_of, timer_of, action_of, action_moment, action_duration, held, slots_room, reserved}
use Rattle.layout.specs.Decides.{Decides}
use Rattle.layout.proofs.Deciding.{denied, hands, by_eqb, false_true}
use Rattle.layout.proofs.Sums.{slots_room_zero, slots_room_more}
use Rattle.accept.specs.Slots.{Zeros, EmptyIn, OkIn, RoomIn, FoundIn, FoundAll}

-- ---- one slot

-- an empty slot is in order
pub empty_ok : {h : List ℕ} {j : ℕ} → SlotEmpty h j → SlotOk h j
empty_ok {h} {j} e = record { timer = omega (arith, e.timer); action = action; no_timers = λ _. e.timer; no_actions = λ _. e.action }
  where
    action : ActionOk (action_of h j) (action_moment h j) (action_duration h j)
    action =
        record {
          shape =
              record {
                flags = omega (arith, e.action);
                kind = omega (arith, e.action);
                padding = λ _. e.duration;
                empty = λ _. (e.action, e.moment);
              };
          moments = omega (arith, e.moment);
          durations = omega (arith, e.duration);
        }

-- one that is in order, at or above its side's machine count, is empty
past_empty : (h : List ℕ) (j : ℕ) → SlotOk h j → machines_of h (j / 16) ≤ j % 16 → SlotEmpty h j
past_empty h j ok l =
    record {
      timer = ok.no_timers l;
      action = none;
      moment = (ok.action.shape.empty (omega (arith, none))).1;
      duration = ok.action.shape.padding (omega (arith, none));
    }
  where
    none : action_of h j ≡ 0
    none = ok.no_actions l

-- ---- words or-ed together

or_left : (a b : ℕ) → bit_or a b ≡ 0 → a ≡ 0
or_left a b e = omega (arith, or_add_and a b, and_le_r a b, e)

or_right : (a b : ℕ) → bit_or a b ≡ 0 → b ≡ 0
or_right a b e = omega (arith, or_add_and a b, and_le_l a b, e)

abbrev pub any_of : ℕ → List ℕ → ℕ
any_of any w = fold (λ a x. bit_or a x) any w

none_sound : (w : List ℕ) (any : ℕ) → any_of any w ≡ 0 → (any ≡ 0) × Zeros w
none_sound [] any e = (e, λ i l. absurd (omega (arith, l)))
none_sound (x ∷ w) any e = go (none_sound w (bit_or any x) e)
  where
    zeros : bit_or any x ≡ 0 → Zeros w → Zeros (x ∷ w)
    zeros o z zero l = or_right any x o
    zeros o z (suc i) l = z i (omega (arith, l))

    go : (bit_or any x ≡ 0) × Zeros w → (any ≡ 0) × Zeros (x ∷ w)
    go rest = (or_left any x rest.0, zeros rest.0 rest.1)

none_complete : (w : List ℕ) → Zeros w → any_of 0 w ≡ 0
none_complete [] z = refl
none_complete (x ∷ w) z = ap (λ any. any_of any w) (or_zero_l x ∙ z 0 (omega arith)) ∙ none_complete w (λ i l. z (suc i) (omega (arith, l)))

pub none_decides : (w : List ℕ) (any : ℕ) → any ≡ any_of 0 w → Decides (Zeros w) (eqb any 0)
none_decides w any e = by_eqb _ _ (λ z. (none_sound w 0 (sym e ∙ z)).1) (λ z. e ∙ none_complete w z)

-- ---- the words of slots that are empty

-- the words from p on, below q, are zero
abbrev ZerosIn : List ℕ → ℕ → ℕ → Type 0
ZerosIn h p q = (n : ℕ) → p ≤ n → n < q → get_or h n 0 ≡ 0

module _ (h : List ℕ) (p q : ℕ) (fits : q ≤ length h) where
  part_in : Zeros (take (q - p) (drop p h)) → ZerosIn h p q
  part_in z n lo hi =
      let same : n ≡ p + (n - p) = omega arith in
      let inside : n - p < length (take (q - p) (drop p h)) = rw (length-take, length-drop) (omega arith) in
      ap (λ x. get_or h x 0) same ∙ sym (get_or-drop p h (n - p) 0) ∙ sym (get_or-take (q - p) (drop p h) (n - p) 0 (omega arith)) ∙ z (n - p) inside

  in_part : ZerosIn h p q → Zeros (take (q - p) (drop p h))
  in_part z i l =
      let inside : i < q - p = omega (arith, rw (length-take, length-drop) at l) in
      get_or-take (q - p) (drop p h) i 0 inside ∙ get_or-drop p h i 0 ∙ z (p + i) (omega arith) (omega arith)

module _ (h : List ℕ) (a e : ℕ) where
  zeros_empty : ZerosIn h (64 + a) (64 + e) → ZerosIn h (96 + 3 * a) (96 + 3 * e) → EmptyIn h a e
  zeros_empty t w j l k =
      record {
        timer = t (64 + j) (omega arith) (omega arith);
        action = w (96 + 3 * j) (omega arith) (omega arith);
        moment = w (97 + 3 * j) (omega arith) (omega arith);
        duration = w (98 + 3 * j) (omega arith) (omega arith);
      }

  empty_timers : EmptyIn h a e → ZerosIn h (64 + a) (64 + e)
  empty_timers z i l k =
      let same : i ≡ 64 + (i - 64) = omega arith in
      ap (λ x. get_or h x 0) same ∙ (z (i - 64) (omega arith) (omega arith)).timer

  pub empty_actions : EmptyIn h a e → ZerosIn h (96 + 3 * a) (96 + 3 * e)
  empty_actions z i l k = go ((i - 96) % 3) refl
    where
      slot : SlotEmpty h ((i - 96) / 3)
      slot = z ((i - 96) / 3) (omega arith) (omega arith)

      go : (r : ℕ) → (i - 96) % 3 ≡ r → get_or h i 0 ≡ 0
      go zero q = let same : i ≡ 96 + 3 * ((i - 96) / 3) = omega (arith, q) in ap (λ x. get_or h x 0) same ∙ slot.action
      go (suc zero) q = let same : i ≡ 97 + 3 * ((i - 96) / 3) = omega (arith, q) in ap (λ x. get_or h x 0) same ∙ slot.moment
      go (suc (suc zero)) q = let same : i ≡ 98 + 3 * ((i - 96) / 3) = omega (arith, q) in ap (λ x. get_or h x 0) same ∙ slot.duration
      go (suc (suc (suc r))) q = absurd (omega (arith, q))

  module _ (wide : length h ≡ 256) (small : e ≤ 32) (r : Bool) (timers : Decides (Zeros (take (64 + e - (64 + a)) (drop (64 + a) h))) r) where
    pub timers_decide : r ≡ false → Decides (EmptyIn h a e) r
    timers_decide f =
        record { sound = λ t. false_true (sym f ∙ t); complete = λ z. timers.complete (in_part h (64 + a) (64 + e) (omega arith) (empty_timers z)) }

    pub actions_decide : (s : Bool) → Decides (Zeros (take (96 + 3 * e - (96 + 3 * a)) (drop (96 + 3 * a) h))) s → r ≡ true → Decides (EmptyIn h a e) s
    actions_decide s actions t =
        hands actions
        (λ z. zeros_empty (part_in h (64 + a) (64 + e) (omega arith) (timers.sound t)) (part_in h (96 + 3 * a) (96 + 3 * e) (omega arith) z))
        (λ z. in_part h (96 + 3 * a) (96 + 3 * e) (omega arith) (empty_actions z))

-- ---- turn by turn

pub ok_more : (h : List ℕ) (a j : ℕ) → OkIn h a j → SlotOk h j → OkIn h a (j + 1)
ok_more h a j o p k l m = go (ℕ_discrete k j)
  where
    go : Dec (k ≡ j) → SlotOk h k
    go (yes q) = subst (λ (x : ℕ). SlotOk h x) (sym q) p
    go (no q) = o k l (omega (arith, q))

-- what slot j keeps in reserve
abbrev pub kept_at : List ℕ → ℕ → ℕ
kept_at h j = held (timer_of h j) + 4 * held (action_of h j)

pub room_turn : (h : List ℕ) (a j sum : ℕ) → RoomIn h a j sum → RoomIn h a (j + 1) (sum + kept_at h j)
room_turn h a j sum p = record { is = omega (arith, p.is, slots_room_more h j); most = omega (arith, p.most) }

room_from : (h : List ℕ) (a j n sum : ℕ) → RoomIn h a j sum → RoomIn h a (j + n) (fold (λ s x. s + kept_at h x) sum (range_with_len j n))
room_from h a j zero sum p = let same : j + 0 ≡ j = omega arith in rw same p
room_from h a j (suc n) sum p =
    let same : j + suc n ≡ j + 1 + n = omega arith in
    rw same (room_from h a (j + 1) n (sum + kept_at h j) (room_turn h a j sum p))

-- of the slots from a on, below e
pub room_all : (h : List ℕ) (a e : ℕ) → a ≤ e → RoomIn h a e (sum_by (kept_at h) (range_with_len a (e - a)))
room_all h a e l =
    let same : a + (e - a) ≡ e = omega arith in
    subst (λ x. RoomIn h a x (sum_by (kept_at h) (range_with_len a (e - a)))) same (room_from h a a (e - a) 0 (record { is = omega arith; most = omega arith }))

-- ---- all slots

module _ (h : List ℕ) where
  -- those at or above a side's machine count are empty
  pub client_past : SlotsOk h → EmptyIn h (get_or h 8 0) 16
  client_past ok j l k =
      let side : j / 16 ≡ 0 = omega arith in
      let machine : j % 16 ≡ j = omega arith in
      past_empty h j (ok j (omega arith)) (rw (side, machine) l)

  pub server_past : SlotsOk h → EmptyIn h (16 + get_or h 9 0) 32
  server_past ok j l k =
      let side : j / 16 ≡ 1 = omega arith in
      let machine : 16 + j % 16 ≡ j = omega arith in
      past_empty h j (ok j (omega arith)) (rw side (omega (arith, machine, l)))

  pub slots_all : EmptyIn h (get_or h 8 0) 16 → EmptyIn h (16 + get_or h 9 0) 32 → OkIn h 0 (get_or h 8 0) → OkIn h 16 (16 + get_or h 9 0) → SlotsOk h
  slots_all ec es oc os j l = go (ltb j 16) (ltb j (get_or h 8 0)) (ltb j (16 + get_or h 9 0)) refl refl refl
    where
      go : (p q r : Bool) → ltb j 16 ≡ p → ltb j (get_or h 8 0) ≡ q → ltb j (16 + get_or h 9 0) ≡ r → SlotOk h j
      go true true r e f g = oc j (omega arith) (ltb-true j (get_or h 8 0) f)
      go true false r e f g = empty_ok (ec j (ltb-false j (get_or h 8 0) f) (ltb-true j 16 e))
      go false q true e f g = os j (ltb-false j 16 e) (ltb-true j (16 + get_or h 9 0) g)
      go false q false e f g = empty_ok (es j (ltb-false j (16 + get_or h 9 0) g) l)

  -- empty slots keep nothing in reserve
  empty_room : (a n : ℕ) → EmptyIn h a (a + n) → slots_room h (a + n) ≡ slots_room h a
  empty_room a zero z = ap (slots_room h) (omega arith)
  empty_room a (suc n) z =
      let same : a + suc n ≡ a + n + 1 = omega arith in
      let last : SlotEmpty h (a + n) = z (a + n) (omega arith) (omega arith) in
      ap (slots_room h) same ∙ omega (arith, slots_room_more h (a + n), last.timer, last.action, empty_room a n (λ j l k. z j l (omega arith)))

  past_room : (a e : ℕ) → a ≤ e → EmptyIn h a e → slots_room h e ≡ slots_room h a
  past_room a e l z =
      let same : a + (e - a) ≡ e = omega arith in
      subst (λ (x : ℕ). EmptyIn h a x → slots_room h x ≡ slots_room h a) same (empty_room a (e - a)) z

  pub reserve_all :
      Limited h → EmptyIn h (get_or h 8 0) 16 → EmptyIn h (16 + get_or h 9 0) 32
      → (b c s : ℕ) → (b ≡ 3 * held (block_of h 0) + 3 * held (block_of h 1)) × (b ≤ 6) → RoomIn h 0 (get_or h 8 0) c → RoomIn h 16 (16 + get_or h 9 0) s
      → (b + c + s ≡ reserved h) × (b + c + s ≤ 166)
  unfolding reserved
  reserve_all l ec es b c s eb rc rs = (
    omega (arith, eb.0, rc.is, rs.is, slots_room_zero h, past_room (get_or h 8 0) 16 (l 8 (omega arith)) ec, past_room (16 + get_or h 9 0) 32 (omega (arith, l 9 (omega arith))) es),
    omega (arith, eb.1, rc.most, rs.most, l 8 (omega arith), l 9 (omega arith)),
  )

-- ---- what a test found, by its answer

module _ (h : List ℕ) (a e : ℕ) (x : Option ℕ) (p : FoundIn h a e x) where
  wrong_in : x ≡ None → OkIn h a e → ⊥
  unfolding FoundIn
  wrong_in q = subst (FoundIn h a e) q p

  pub right_in : (r : ℕ) → x ≡ Some r → OkIn h a e × RoomIn h a e r
  unfolding FoundIn
  right_in r q = subst (FoundIn h a e) q p

-- ---- the test of all slots, from a on, below e: above the client's machine count, above the server's, the client's machines, the server's

module _ (h : List ℕ) (l : Limited h) (a e : ℕ) where
  pub past_client_set : (r : Bool) → a ≡ get_or h 8 0 → e ≡ 16 → Decides (EmptyIn h a e) r → r ≡ false → FoundAll h None
  unfolding FoundAll
  past_client_set r ea ee d f ok = denied d f (rw (ea, ee) (client_past h ok))

  pub past_server_set : (r : Bool) → a ≡ 16 + get_or h 9 0 → e ≡ 32 → Decides (EmptyIn h a e) r → r ≡ false → FoundAll h None
  unfolding FoundAll
  past_server_set r ea ee d f ok = denied d f (rw (ea, ee) (server_past h ok))

  module _ (x : Option ℕ) (p : FoundIn h a e x) (q : x ≡ None) where
    pub client_wrong : a ≡ 0 → e ≡ get_or h 8 0 → FoundAll h None
    unfolding FoundAll
    client_wrong ea ee ok = wrong_in h a e x p q (λ j _ k. ok j (omega (arith, k, ee, l 8 (omega arith))))

    pub server_wrong : a ≡ 16 → e ≡ 16 + get_or h 9 0 → FoundAll h None
    unfolding FoundAll
    server_wrong ea ee ok = wrong_in h a e x p q (λ j _ k. ok j (omega (arith, k, ee, l 9 (omega arith))))
