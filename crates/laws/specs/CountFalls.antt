-- When the packet count falls (document 02, M-120): what the moment says of the stamps, and which steps tell one.
use Rattle.std.specs.Prelude.{ℕ, zero, suc, ◌+◌, ◌-◌, ◌≤◌, ◌<◌, ◌≡◌, refl, Bool, true, false, leb, if◌then◌else◌}
use Rattle.std.proofs.Common.{sym, ◌∙◌, arith, le-ltb, lt-ltb, leb-false}
use Rattle.std.proofs.Math.Path.{ap}
use mathlib.Core.List.{List, [], ◌∷◌, tail}
use Rattle.std.proofs.Math.Option.{Option, none, some, none-ne-some}
use Rattle.rules.specs.Basics.{Side, client, server, kind_of, Kind, TunnelSent, NormalSent, PaddingSent, TunnelRecv, NormalRecv, PaddingRecv, BlockingBegin, BlockingEnd, TimerBegin, TimerEnd}
use Rattle.rules.specs.State.{Event, Held, Aggregate, State, in_record, free_place, side, with_free, with_side}
use Rattle.rules.specs.Limits.{moment_limit}
use Rattle.rules.specs.ChoiceHeads.{Head, waiting_head}
use Rattle.rules.specs.ChoiceRound.{fits}
use Rattle.rules.specs.Queueing.{put_event, push_event, push_side, chain_of}
use Rattle.rules.specs.Aggregates.{add_aggregate, add_aggregates}
use Rattle.rules.specs.NetworkStep.{Stepped, stamps_kept, stamp, too_old_from, count_falls, replace_by, replacing, step_padding, step_tunnel, step_for}
use Rattle.rules.specs.Arguments.{EventIn, event_of, sim_network_stack}
use Rattle.rules.specs.Effects.{after_step}
use Rattle.rules.specs.Choice.{Called, step_made}
use Rattle.rules.specs.Refusals.{refusal}
use Rattle.rules.specs.Calls.{call, work, unless_refused}
use Rattle.laws.specs.Branches.{by_if}

different : ◌≡◌ {A = ℕ} 0 1 → ⊥
different z = omega arith

-- ---- the oldest stamp

-- it stays while its age is within the window, and goes from then on
stays : (w t : ℕ) (h : Held ℕ) (l : List (Held ℕ)) → t ≤ h.value + w → stamps_kept w t (h ∷ l) ≡ h ∷ l
stays w t h l q = ap (λ (b : Bool). if b then stamps_kept w t l else h ∷ l) (le-ltb w (t - h.value) (omega arith))

goes : (w t : ℕ) (h : Held ℕ) (l : List (Held ℕ)) → h.value + w < t → stamps_kept w t (h ∷ l) ≡ stamps_kept w t l
goes w t h l q = ap (λ (b : Bool). if b then stamps_kept w t l else h ∷ l) (lt-ltb w (t - h.value) (omega arith))

-- the moment that is told, and where none is
told_is : (w m v : ℕ) → too_old_from w v ≡ some m → m ≡ v + w + 1
told_is w m v = go (leb (v + w + 1) moment_limit)
  where
    go : (b : Bool) → (if b then some (v + w + 1) else none) ≡ some m → m ≡ v + w + 1
    go true e = cc
    go false e = absurd (none-ne-some m e)

told_none : (w v : ℕ) → too_old_from w v ≡ none → moment_limit < v + w + 1
told_none w v = go (leb (v + w + 1) moment_limit) refl
  where
    go : (b : Bool) → leb (v + w + 1) moment_limit ≡ b → (if b then some (v + w + 1) else none) ≡ none → moment_limit < v + w + 1
    go true q e = absurd (none-ne-some (v + w + 1) (sym e))
    go false q e = leb-false (v + w + 1) moment_limit q

module _ (w m : ℕ) (h : Held ℕ) (l : List (Held ℕ)) (e : count_falls w (h ∷ l) ≡ some m) where
  pub falls_is : m ≡ h.value + w + 1
  falls_is = told_is w m h.value e

  pub falls_goes : (t : ℕ) → m ≤ t → stamps_kept w t (h ∷ l) ≡ stamps_kept w t l
  falls_goes t q = goes w t h l (omega (arith, falls_is))

  pub falls_stays : (t : ℕ) → t < m → stamps_kept w t (h ∷ l) ≡ h ∷ l
  falls_stays t q = stays w t h l (omega (arith, falls_is))

pub falls_never : (w t : ℕ) (h : Held ℕ) (l : List (Held ℕ)) → count_falls w (h ∷ l) ≡ none → t ≤ moment_limit → stamps_kept w t (h ∷ l) ≡ h ∷ l
falls_never w t h l e q = stays w t h l (omega (arith, told_none w h.value e))

-- ---- the stamps that a step leaves

put_stamps : (s : State) (e : Held Event) (z : Side) → (side (put_event s e) z).stamps ≡ (side s z).stamps
unfolding put_event
put_stamps s e z = go e.value.side z
  where
    go : (y z : Side) → (side (with_side s y (push_side (side s y) (chain_of e.value) e)) z).stamps ≡ (side s z).stamps
    go client client = refl
    go client server = refl
    go server client = refl
    go server server = refl

push_stamps : (s : State) (e : Event) (z : Side) → (side (push_event s e) z).stamps ≡ (side s z).stamps
unfolding push_event
push_stamps s e z = put_stamps (with_free s (tail s.free)) (in_record (free_place s.free) e) z ∙ go z
  where
    go : (z : Side) → (side (with_free s (tail s.free)) z).stamps ≡ (side s z).stamps
    go client = refl
    go server = refl

add_stamps : (s : State) (new : List Aggregate) (z : Side) → (side (add_aggregates s new) z).stamps ≡ (side s z).stamps
unfolding add_aggregates add_aggregate
add_stamps s [] z = refl
add_stamps s (a ∷ new) z = add_stamps (add_aggregate s a) new z ∙ go z
  where
    go : (z : Side) → (side (add_aggregate s a) z).stamps ≡ (side s z).stamps
    go client = refl
    go server = refl

-- those of a packet's side are the ones that its stamp left, and the moment told is theirs
tunnel_falls : (s : State) (now : ℕ) (e : Event) → (step_tunnel s now e).falls ≡ count_falls s.settings.window (side (step_tunnel s now e).state e.side).stamps
unfolding step_tunnel
tunnel_falls s now e =
    ap (count_falls s.settings.window) (sym (push_stamps (add_aggregates (stamp s e.side now) _) _ e.side ∙ add_stamps (stamp s e.side now) _ e.side))

-- ---- other kinds

replacing_tells_none : (s : State) (now : ℕ) (e : Event) (o : Option Head) → (replacing s now e o).falls ≡ none
unfolding replace_by
replacing_tells_none s now e none = refl
replacing_tells_none s now e (some h) =
    by_if (λ (r : Stepped). r.falls ≡ none) h.event.padding refl (by_if (λ (r : Stepped). r.falls ≡ none) e.bypass refl refl)

pub padding_tells_none : (s : State) (now : ℕ) (e : Event) → (step_padding s now e).falls ≡ none
unfolding step_padding
padding_tells_none s now e =
    by_if
    (λ (r : Stepped). r.falls ≡ none)
    e.replace
    (replacing_tells_none s now e (waiting_head (side s e.side).block_bypassable (side s e.side)))
    refl

step_tells_none : (s : State) (now : ℕ) (e : Event) (k : Kind) → (k ≡ TunnelSent → ⊥) → (step_for k s now e).falls ≡ none
unfolding step_for
step_tells_none s now e TunnelSent n = absurd (n refl)
step_tells_none s now e NormalSent n = refl
step_tells_none s now e PaddingSent n = padding_tells_none s now e
step_tells_none s now e TunnelRecv n = refl
step_tells_none s now e NormalRecv n = refl
step_tells_none s now e PaddingRecv n = refl
step_tells_none s now e BlockingBegin n = refl
step_tells_none s now e BlockingEnd n = refl
step_tells_none s now e TimerBegin n = refl
step_tells_none s now e TimerEnd n = refl

-- the number of no other kind is 0
kind_zero : (n : ℕ) (k : Kind) → kind_of n ≡ some k → (n ≡ 0 → ⊥) → k ≡ TunnelSent → ⊥
kind_zero zero k e d q = d refl
kind_zero (suc n) k e d q = later n (e ∙ ap some q)
  where
    later : (n : ℕ) → kind_of (suc n) ≡ some TunnelSent → ⊥
    later zero p = different (cc)
    later (suc zero) p = different (cc)
    later (suc (suc zero)) p = different (cc)
    later (suc (suc (suc zero))) p = different (cc)
    later (suc (suc (suc (suc zero)))) p = different (cc)
    later (suc (suc (suc (suc (suc zero))))) p = different (cc)
    later (suc (suc (suc (suc (suc (suc zero)))))) p = different (cc)
    later (suc (suc (suc (suc (suc (suc (suc zero))))))) p = different (cc)
    later (suc (suc (suc (suc (suc (suc (suc (suc zero)))))))) p = different (cc)
    later (suc (suc (suc (suc (suc (suc (suc (suc (suc n))))))))) p = different (cc)

-- ---- the call

-- a step that is made answers with the moment of its work and leaves the state of its work
step_works :
    (s : State) (now : ℕ) (r : EventIn) (a : Bool) (f : Option ℕ) → (call s (sim_network_stack now r)).answer ≡ step_made a f
    → (f ≡ (after_step s now r (kind_of r.kind)).falls) × ((call s (sim_network_stack now r)).state ≡ (after_step s now r (kind_of r.kind)).state)
unfolding call work
step_works s now r a f = go (refusal s (sim_network_stack now r))
  where
    x : Stepped
    x = after_step s now r (kind_of r.kind)

    go :
        (o : Option ℕ) → (unless_refused o s (work s (sim_network_stack now r))).answer ≡ step_made a f
        → (f ≡ x.falls) × ((unless_refused o s (work s (sim_network_stack now r))).state ≡ x.state)
    go none =
        by_if (λ (d : Called). d.answer ≡ step_made a f → (f ≡ x.falls) × (d.state ≡ x.state)) (fits x.sums) (λ e. (cc, refl)) (λ e. absurd (different (cc)))
    go (some n) = λ e. absurd (different (cc))

module _ (s : State) (now : ℕ) (r : EventIn) (a : Bool) (f : Option ℕ) (e : (call s (sim_network_stack now r)).answer ≡ step_made a f) where
  pub sent_tells : r.kind ≡ 0 → f ≡ count_falls s.settings.window (side (call s (sim_network_stack now r)).state r.side).stamps
  unfolding step_for
  sent_tells k =
      let w = step_works s now r a f e in
      let x : after_step s now r (kind_of r.kind) ≡ step_tunnel s now (event_of r TunnelSent) = ap (λ n. after_step s now r (kind_of n)) k in
      w.0 ∙ ap (λ (d : Stepped). d.falls) x ∙ tunnel_falls s now (event_of r TunnelSent)
      ∙ ap (λ (t : State). count_falls s.settings.window (side t r.side).stamps) (sym (w.1 ∙ ap (λ (d : Stepped). d.state) x))

  pub others_tell_none : (r.kind ≡ 0 → ⊥) → f ≡ none
  others_tell_none d = (step_works s now r a f e).0 ∙ go (kind_of r.kind) refl
    where
      go : (o : Option Kind) → kind_of r.kind ≡ o → (after_step s now r o).falls ≡ none
      go none q = refl
      go (some k) q = step_tells_none s now (event_of r k) k (kind_zero r.kind k q d)
