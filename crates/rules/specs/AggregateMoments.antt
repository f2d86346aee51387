-- Document 02, M-110: when an aggregate is due, as "eight plain cases". `aggregates_of` (Aggregates) says it by one subtraction with a floor of 0; the
-- two agree (proofs/MomentCases).
use Rattle.std.specs.Prelude.{◌*◌, ◌+◌, ◌-◌, ◌<◌, ◌≤◌, ℕ, ◌≡◌}
use Rattle.rules.specs.Basics.{Side, client, server}

-- "client or server end, which side's record, and whether the multiple of the network delay exceeds the length handed in": `server_client_above` is a
-- delay at the server's end, the record for the client's sum, the multiple above the length; `rest` is a multiple that is not
pub data MomentCase : Type 0 where
  client_client_above client_client_rest client_server_above client_server_rest : MomentCase
  server_client_above server_client_rest server_server_above server_server_rest : MomentCase

-- which case it is for a delay of length len at the end z, the record of side r, and network delay d. A multiple equal to the length does not exceed it
abbrev pub InCase : MomentCase → Side → Side → ℕ → ℕ → Type 0
InCase client_client_above z r d len = (z ≡ client) × (r ≡ client) × (len < 4 * d)
InCase client_client_rest z r d len = (z ≡ client) × (r ≡ client) × (4 * d ≤ len)
InCase client_server_above z r d len = (z ≡ client) × (r ≡ server) × (len < 3 * d)
InCase client_server_rest z r d len = (z ≡ client) × (r ≡ server) × (3 * d ≤ len)
InCase server_client_above z r d len = (z ≡ server) × (r ≡ client) × (len < d)
InCase server_client_rest z r d len = (z ≡ server) × (r ≡ client) × (d ≤ len)
InCase server_server_above z r d len = (z ≡ server) × (r ≡ server) × (len < 4 * d)
InCase server_server_rest z r d len = (z ≡ server) × (r ≡ server) × (4 * d ≤ len)

-- when its record is due: at the moment given, or later by what the multiple has more than the length. Each difference is taken in a case in which
-- its second number is the smaller
abbrev pub case_moment : MomentCase → ℕ → ℕ → ℕ → ℕ
case_moment client_client_above d at len = at + (4 * d - len)
case_moment client_client_rest d at len = at
case_moment client_server_above d at len = at + (3 * d - len)
case_moment client_server_rest d at len = at
case_moment server_client_above d at len = at + (d - len)
case_moment server_client_rest d at len = at
case_moment server_server_above d at len = at + (4 * d - len)
case_moment server_server_rest d at len = at
