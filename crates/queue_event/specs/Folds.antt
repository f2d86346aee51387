-- What a chain comes to within a window of time: its latest moment, and whether any is there. t since u is t − u, or 0 if u is later. Assumes nothing.
use Rattle.std.specs.Prelude.{ℕ, ◌-◌, max, Bool, false, ◌||◌, List, [], ◌∷◌, leb}
use Rattle.queue_event.specs.Chain.{pick, Rec}

-- the later of best and m, where m is within the window since `from`; else best
unfoldable pub later : ℕ → ℕ → ℕ → ℕ → ℕ
later from window best m = pick (leb (m - from) window) (max best m) best

-- the latest moment within the window since `from`, at least best
unfoldable pub latest_of : ℕ → ℕ → ℕ → List Rec → ℕ
latest_of from window best [] = best
latest_of from window best (x ∷ l) = latest_of from window (later from window best x.moment) l

-- some moment is within the window since `from`
unfoldable pub any_within : ℕ → ℕ → List Rec → Bool
any_within from window [] = false
any_within from window (x ∷ l) = leb (x.moment - from) window || any_within from window l
