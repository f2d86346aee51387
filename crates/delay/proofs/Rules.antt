-- At the usual margins the tests are the rules' own. Assumes nothing.
use Prim.Native.Nat.{ℕ, max, ◌-◌}
use mathlib.Core.Path.{◌≡◌, refl, ap}
use mathlib.Core.List.{List, [], ◌∷◌}
use mathlib.Core.Option.{none, some}
use lib.Dec.{leb, ltb, eqb}
use lib.ListN.{length}
use Rattle.std.specs.Prelude.{if◌then◌else◌}
use Rattle.rules.specs.State.{Event, Held, SideState}
use Rattle.rules.specs.Aggregates.{waiting, within, base_moment, base_window, buffer_window, tail_of, burst_tail, on_expire, on_replace, on_delayed, test_sums}
use Rattle.delay.specs.Waiting.{tail_over, burst_tail_over}
use Rattle.delay.specs.Tests.{usual_margins, expire_over, replace_over, delayed_over, sums_over}

tail_usual : (u t : ℕ) (l : List (Held Event)) → tail_over buffer_window u t l ≡ tail_of u t l
unfolding tail_over
tail_usual u t [] = refl
tail_usual u t (e ∷ l) = tail_usual u (if leb (e.value.moment - u) buffer_window then max t e.value.moment else t) l

pub burst_usual : (x : SideState) (u : ℕ) → burst_tail_over buffer_window x u ≡ burst_tail x u
unfolding burst_tail_over
burst_usual x u = ap (λ t. if ltb 2 (length (waiting x)) then t else u) (tail_usual u u (waiting x))

pub expire_usual : (x : SideState) (end u : ℕ) → expire_over usual_margins x.sum x end u ≡ on_expire x end u
unfolding expire_over on_expire
expire_usual x end u =
    ap (λ t. if eqb end t then none else if within base_window u (base_moment x.sum x.queues.base) then none else some (end - t)) (burst_usual x u)

pub replace_usual : (x : SideState) (now u : ℕ) → replace_over usual_margins x.sum x now u ≡ on_replace x now u
unfolding replace_over on_replace
replace_usual x now u = refl

pub delayed_usual : (x : SideState) (sum u : ℕ) → delayed_over usual_margins sum x u ≡ on_delayed x sum u
unfolding delayed_over on_delayed
delayed_usual x sum u = refl

pub sums_usual : (x : SideState) (sum u : ℕ) → sums_over usual_margins sum x u ≡ test_sums x sum u
unfolding sums_over
sums_usual x sum u = refl
