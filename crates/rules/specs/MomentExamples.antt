-- Document 02, M-110: each of the eight cases once, with a network delay of 20 and the moment 200 given, at the length that equals the multiple and
-- one below it. The values are the original's (runs/lists/edges.txt, "4D, 3D and D of an aggregate, D = 20"; Edges has the calls).
use Rattle.std.specs.Prelude.{ℕ, ◌≡◌, refl}
use Rattle.std.proofs.Common.{arith}
use Rattle.rules.specs.Basics.{Side, client, server}
use Rattle.rules.specs.AggregateMoments.{InCase, MomentCase, case_moment, client_client_above, client_client_rest, client_server_above, client_server_rest, server_client_above, server_client_rest, server_server_above, server_server_rest}

-- a delay of length len at the end z is in this case with the record of side r, which is due at m
abbrev Due : MomentCase → Side → Side → ℕ → ℕ → Type 0
Due c z r len m = InCase c z r 20 len × (case_moment c 20 200 len ≡ m)

pub record Examples : Type 0 where
  -- at the client's end: 80 for the client's record, 60 for the server's
  pub client_client_79 : Due client_client_above client client 79 201
  pub client_client_80 : Due client_client_rest client client 80 200
  pub client_server_59 : Due client_server_above client server 59 201
  pub client_server_60 : Due client_server_rest client server 60 200
  -- at the server's end: 20 for the client's record, 80 for the server's
  pub server_client_19 : Due server_client_above server client 19 201
  pub server_client_20 : Due server_client_rest server client 20 200
  pub server_server_79 : Due server_server_above server server 79 201
  pub server_server_80 : Due server_server_rest server server 80 200

pub examples : Examples
examples = record {
  client_client_79 = ((refl, refl, omega arith), refl);
  client_client_80 = ((refl, refl, omega arith), refl);
  client_server_59 = ((refl, refl, omega arith), refl);
  client_server_60 = ((refl, refl, omega arith), refl);
  server_client_19 = ((refl, refl, omega arith), refl);
  server_client_20 = ((refl, refl, omega arith), refl);
  server_server_79 = ((refl, refl, omega arith), refl);
  server_server_80 = ((refl, refl, omega arith), refl);
}
