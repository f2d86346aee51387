-- What the rules are written with: a choice between two values, a delay that may be absent, sides and kinds.
use Rattle.std.specs.Prelude.{◌-◌, ℕ, Bool, ◌&&◌, ◌||◌, false, true, [], ◌∷◌, eqb, leb, ltb, get_or, if◌then◌else◌}
use Rattle.std.proofs.Math.Option
use Rattle.std.proofs.Math.Option.{Option, none, some, map}

-- whether there is a value
abbrev pub is_some : {A : Type 0} → Option A → Bool
is_some none = false
is_some (some a) = true

-- ---- delays: nanoseconds from now. "An absent one is later than all."

pub data Delay : Type 0 where
  after : ℕ → Delay
  absent : Delay

-- not later than
infix 40 ◌≤ᵈ◌
abbrev pub ◌≤ᵈ◌ : Delay → Delay → Bool
after a ≤ᵈ after b = leb a b
after a ≤ᵈ absent = true
absent ≤ᵈ after b = false
absent ≤ᵈ absent = true

-- the lesser of two delays
abbrev pub earlier : Delay → Delay → Delay
earlier a b = if a ≤ᵈ b then a else b

-- a moment that may be missing, since now: "t since u" is t − u, or 0 if u is later
abbrev pub delay_to : ℕ → Option ℕ → Delay
delay_to now none = absent
delay_to now (some t) = after (t - now)

-- ---- order by moment, then rank: the pair (ma, ra) is strictly before (mb, rb)

abbrev pub before : ℕ → ℕ → ℕ → ℕ → Bool
before ma ra mb rb = ltb ma mb || eqb ma mb && ltb ra rb

-- ---- sides

pub data Side : Type 0 where
  client server : Side

-- the recipient of what a side sends
abbrev pub other : Side → Side
other client = server
other server = client

-- ---- kinds 0 to 9 "as ranked by `event_to_usize`"

pub data Kind : Type 0 where
  TunnelSent NormalSent PaddingSent TunnelRecv NormalRecv PaddingRecv BlockingBegin BlockingEnd TimerBegin TimerEnd : Kind

-- `event_to_usize`
abbrev pub rank : Kind → ℕ
rank TunnelSent = 0
rank NormalSent = 1
rank PaddingSent = 2
rank TunnelRecv = 3
rank NormalRecv = 4
rank PaddingRecv = 5
rank BlockingBegin = 6
rank BlockingEnd = 7
rank TimerBegin = 8
rank TimerEnd = 9

-- the kind of a number: none above 9
abbrev pub kind_of : ℕ → Option Kind
kind_of n =
    get_or
    (some TunnelSent ∷ some NormalSent ∷ some PaddingSent ∷ some TunnelRecv ∷ some NormalRecv
    ∷ some PaddingRecv ∷ some BlockingBegin ∷ some BlockingEnd ∷ some TimerBegin ∷ some TimerEnd ∷ [])
    n
    none

-- kind 0
abbrev pub is_tunnel_sent : Kind → Bool
is_tunnel_sent TunnelSent = true
is_tunnel_sent NormalSent = false
is_tunnel_sent PaddingSent = false
is_tunnel_sent TunnelRecv = false
is_tunnel_sent NormalRecv = false
is_tunnel_sent PaddingRecv = false
is_tunnel_sent BlockingBegin = false
is_tunnel_sent BlockingEnd = false
is_tunnel_sent TimerBegin = false
is_tunnel_sent TimerEnd = false

-- "Kinds 0, 1, 3, 4, 5 and 7 have no machine": 2, 6, 8 and 9 have one
abbrev pub has_machine : Kind → Bool
has_machine TunnelSent = false
has_machine NormalSent = false
has_machine PaddingSent = true
has_machine TunnelRecv = false
has_machine NormalRecv = false
has_machine PaddingRecv = false
has_machine BlockingBegin = true
has_machine BlockingEnd = false
has_machine TimerBegin = true
has_machine TimerEnd = true

-- the kind of this number has a machine; a number above 9 is no kind
unfoldable pub has_machine_no : ℕ → Bool
has_machine_no n = Option.get_or (map has_machine (kind_of n)) false
