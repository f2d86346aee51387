-- The stale stamps given back one by one and then a stamp added: the rules' own `stamp`. Assumes nothing.
use Prim.Native.Nat.{ℕ, zero, suc, ◌+◌, ◌*◌, ◌-◌, ◌%◌, ◌<◌}
use mathlib.Core.Path.{◌≡◌, refl, ap, ◌∙◌, sym}
use mathlib.Core.Bool.{Bool, true, false, false≢true}
use mathlib.Core.List.{List, [], ◌∷◌, ◌++◌, tail}
use mathlib.Core.Logic.{◌⊎◌, inl, inr}
use native.Mathlib.Omega.{arith}
use lib.Dec.{ltb}
use Rattle.std.specs.Prelude.{if◌then◌else◌}
use Rattle.rules.specs.Basics.{Side, client, server}
use Rattle.rules.specs.State.{Event, Held, SideState, State, in_record, free_place, side, with_side, with_stamps, with_free}
use Rattle.rules.specs.ChoiceHeads.{Head}
use Rattle.rules.specs.ChoiceRound.{lift_event, pop_side, take_event}
use Rattle.rules.specs.NetworkStep.{stamps_kept, free_with_evicted, stamp}
use Rattle.rules.specs.Queueing.{push_event, put_event}
use Rattle.queue_event.specs.Tag.{mark_of, stamp_tag}
use Rattle.layout.specs.Layout.{state_of}
use Rattle.layout.specs.Records.{RecordShape}
use Rattle.layout.specs.Shape.{Shaped}
use Rattle.layout.specs.Changes.{side_no}
use Rattle.queue.specs.Changes.{AppendedTo, Leaves, MayTake, count_in}
use Rattle.queue.specs.Stamps.{first_place, drop_stamp, add_stamp, stale_first, stale_count, drop_stamps}
use Rattle.queue.proofs.States.{changed_leaves}
use Rattle.queue.proofs.Queueing.{appended_stamp}

-- ---- the first stamp

module _ (window now : ℕ) where
  evict_stale : (l : List (Held ℕ)) → stale_first window now l ≡ true → stamps_kept window now (tail l) ≡ stamps_kept window now l
  evict_stale [] e = refl
  evict_stale (t ∷ l) e = rw e

  evicted_stale : (l : List (Held ℕ)) (f : List ℕ) → stale_first window now l ≡ true → free_with_evicted window now (tail l) (first_place l ∷ f) ≡ free_with_evicted window now l f
  evicted_stale [] f e = absurd (false≢true e)
  evicted_stale (t ∷ l) f e = rw e

  evict_fresh : (l : List (Held ℕ)) → stale_first window now l ≡ false → l ≡ stamps_kept window now l
  evict_fresh [] e = refl
  evict_fresh (t ∷ l) e = rw e

  evicted_fresh : (l : List (Held ℕ)) (f : List ℕ) → stale_first window now l ≡ false → f ≡ free_with_evicted window now l f
  evicted_fresh [] f e = refl
  evicted_fresh (t ∷ l) f e = rw e

  count_stale : (l : List (Held ℕ)) (n : ℕ) → stale_count window now l ≡ suc n → (stale_first window now l ≡ true) × (stale_count window now (tail l) ≡ n)
  count_stale [] n e = absurd (omega arith)
  count_stale (t ∷ l) n e = go (ltb window (now - t.value)) refl e
    where
      go : (b : Bool) → ltb window (now - t.value) ≡ b → (if b then suc (stale_count window now l) else 0) ≡ suc n → (ltb window (now - t.value) ≡ true) × (stale_count window now l ≡ n)
      go true p q = (p, omega arith)
      go false p q = absurd (omega arith)

  count_fresh : (l : List (Held ℕ)) → stale_count window now l ≡ 0 → stale_first window now l ≡ false
  count_fresh [] e = refl
  count_fresh (t ∷ l) e = go (ltb window (now - t.value)) refl e
    where
      go : (b : Bool) → ltb window (now - t.value) ≡ b → (if b then suc (stale_count window now l) else 0) ≡ 0 → ltb window (now - t.value) ≡ false
      go true p q = absurd (omega arith)
      go false p q = p

-- the stamps l and the free records f of a side given anew, and one more stamp
abbrev stamped_with : State → Side → ℕ → List (Held ℕ) → List ℕ → State
stamped_with s z now l f = with_free (with_side s z (with_stamps (side s z) (l ++ (in_record (free_place f) now ∷ [])))) (tail f)

-- ---- one turn: the first stamp is stale, and goes; it is not, and the stamp is added

stale_goes : (s : State) (z : Side) (now : ℕ) → stale_first s.settings.window now (side s z).stamps ≡ true → stamp (drop_stamp s z) z now ≡ stamp s z now
unfolding stamp drop_stamp
stale_goes s client now e = λ d.
    stamped_with s client now (evict_stale s.settings.window now s.client.stamps e d) (evicted_stale s.settings.window now s.client.stamps s.free e d)
stale_goes s server now e = λ d.
    stamped_with s server now (evict_stale s.settings.window now s.server.stamps e d) (evicted_stale s.settings.window now s.server.stamps s.free e d)

fresh_stays : (s : State) (z : Side) (now : ℕ) → stale_first s.settings.window now (side s z).stamps ≡ false → add_stamp s z now ≡ stamp s z now
unfolding stamp add_stamp
fresh_stays s z now e = λ d.
    stamped_with s z now (evict_fresh s.settings.window now (side s z).stamps e d) (evicted_fresh s.settings.window now (side s z).stamps s.free e d)

-- ---- all of them

window_kept : (s : State) (z : Side) → (drop_stamp s z).settings.window ≡ s.settings.window
unfolding drop_stamp
window_kept s client = refl
window_kept s server = refl

stamps_kept_lem : (s : State) (z : Side) → (side (drop_stamp s z) z).stamps ≡ tail (side s z).stamps
unfolding drop_stamp
stamps_kept_lem s client = refl
stamps_kept_lem s server = refl

pub stale_stamps : (n : ℕ) (s : State) (z : Side) (now : ℕ) → stale_count s.settings.window now (side s z).stamps ≡ n → add_stamp (drop_stamps n s z) z now ≡ stamp s z now
stale_stamps zero s z now e = fresh_stays s z now (count_fresh s.settings.window now (side s z).stamps e)
stale_stamps (suc n) s z now e =
    let g = count_stale s.settings.window now (side s z).stamps n e in
    stale_stamps n (drop_stamp s z) z now ((λ d. stale_count (window_kept s z d) now (stamps_kept_lem s z d)) ∙ g.1) ∙ stale_goes s z now g.0

-- the stamps that they leave
pub stale_left : (n : ℕ) (s : State) (z : Side) (now : ℕ) → stale_count s.settings.window now (side s z).stamps ≡ n
    → (side (drop_stamps n s z) z).stamps ≡ stamps_kept s.settings.window now (side s z).stamps
stale_left zero s z now e = evict_fresh s.settings.window now (side s z).stamps (count_fresh s.settings.window now (side s z).stamps e)
stale_left (suc n) s z now e =
    let g = count_stale s.settings.window now (side s z).stamps n e in
    stale_left n (drop_stamp s z) z now ((λ d. stale_count (window_kept s z d) now (stamps_kept_lem s z d)) ∙ g.1)
    ∙ (λ d. stamps_kept (window_kept s z d) now (stamps_kept_lem s z d)) ∙ evict_stale s.settings.window now (side s z).stamps g.0

-- ---- a packet taken over: its record is given back and taken again, so that it keeps it

free_same : (s : State) (z : Side) (x : SideState) → with_free (with_side s z x) s.free ≡ with_side s z x
free_same s client x = refl
free_same s server x = refl

pub take_push : (s : State) (h : Head) (e : Event) → push_event (take_event s h) e ≡ put_event (lift_event s h) (in_record h.place e)
unfolding push_event take_event lift_event
take_push s h e = ap (λ (x : State). put_event x (in_record h.place e)) (free_same s h.event.side (pop_side (side s h.event.side) h.chain))

-- ---- the laws of the code that stamps: the tag of a side's stamps, and what is left

module _ (w : List ℕ) (z : Side) (t : ℕ) (s : Shaped w) (free : 0 < count_in w 0) (e : t ≡ stamp_tag (5 + 5 * side_no z)) where
  stamp_tag_lem : t ≡ 5 + 5 * side_no z
  unfolding stamp_tag
  stamp_tag_lem = e

  stamp_cases : ((t ≡ 5) ⊎ (t ≡ 10))
  stamp_cases = go z stamp_tag_lem
    where
      go : (y : Side) → t ≡ 5 + 5 * side_no y → (t ≡ 5) ⊎ (t ≡ 10)
      go client q = inl q
      go server q = inr q

  stamp_shape : (k : ℕ) → t ≡ k → k < 16 → k % 5 ≡ 0 → k < 11 → RecordShape (mark_of t) 0 t
  stamp_shape k q l m n =
      let r : mark_of t ≡ k = omega arith in
      rw r (record { chain = r; event = λ a b. absurd (omega arith); stamp = λ a b. record { spans = refl; rest = omega arith }; aggregate = λ a. absurd (omega arith) })

  pub stamp_may : MayTake w 0 t
  stamp_may = go stamp_cases
    where
      go : (t ≡ 5) ⊎ (t ≡ 10) → MayTake w 0 t
      go (inl q) = record { shaped = s; free = free; chain = omega arith; used = omega arith; canonical = stamp_shape 5 q (omega arith) refl (omega arith) }
      go (inr q) = record { shaped = s; free = free; chain = omega arith; used = omega arith; canonical = stamp_shape 10 q (omega arith) refl (omega arith) }

  pub stamp_mark : 5 + 5 * side_no z ≡ mark_of t
  stamp_mark = go stamp_cases
    where
      go : (t ≡ 5) ⊎ (t ≡ 10) → 5 + 5 * side_no z ≡ mark_of t
      go (inl q) = sym stamp_tag_lem ∙ omega arith
      go (inr q) = sym stamp_tag_lem ∙ omega arith

  pub stamp_done : (left : List ℕ) (m : ℕ) → AppendedTo w left m t → Leaves w left (add_stamp (state_of w) z m)
  stamp_done left m c = changed_leaves w left _ _ _ c (add_stamp (state_of w) z m) (appended_stamp w left m t stamp_may c z stamp_mark)
