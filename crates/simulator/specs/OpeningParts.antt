-- What the parts of opening's work leave: the settings stored, the words cleared, the free records chained. Only the functions below `open` promise these;
-- the promise of opening itself is Openings. Assumes nothing.
use Rattle.std.specs.Prelude.{ℕ, ◌≤◌, ◌≡◌, List, length, get_or, set}
use Rattle.rules.specs.Opening.{Opening}
use Rattle.layout.specs.Opened.{rate_word, record_word}

-- every word is 0
abbrev pub AllZero : List ℕ → Type 0
AllZero w = (k : ℕ) → get_or w k 0 ≡ 0

-- words 0 to 9
abbrev pub put_settings : Opening → List ℕ → List ℕ
put_settings o w =
    set
    (set
    (set
    (set
    (set
    (set
    (set
    (set (set (set w 0 o.settings.network_delay) 1 (rate_word o.settings.network_rate)) 2 (rate_word o.settings.queue_rate))
    3
    o.settings.window)
    4
    o.client.action_delay)
    5
    o.server.action_delay)
    6
    o.client.reporting_delay)
    7
    o.server.reporting_delay)
    8
    o.client.machines)
    9
    o.server.machines

-- the head and the count of the free chain, after the settings
abbrev pub put_head : Opening → ℕ → List ℕ → List ℕ
put_head o r w = set (set (put_settings o w) 24 1) 25 r

-- the records below r are chained to the next, and no other word is set
abbrev pub Chained : List ℕ → ℕ → List ℕ → ℕ → Type 0
Chained rs₀ count rs r = ((1 ≤ r) × (r ≤ count)) × ((length rs ≡ length rs₀) × ((k : ℕ) → get_or rs k 0 ≡ record_word r k))
