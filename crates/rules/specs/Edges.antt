-- Each constant of the rules at its edge and one past it, and the plausible misreadings of document 01. The values are the original's:
-- runs/edges.py prints this file from runs/lists/edges.txt and the answers that the Rust gave.
use Rattle.std.specs.Prelude.{[], ◌∷◌, ◌≡◌, refl, false, true}
use Rattle.std.proofs.Math.Option.{none, some}
use Rattle.rules.specs.Basics.{BlockingBegin, BlockingEnd, NormalSent, TunnelRecv, TunnelSent, client, server}
use Rattle.rules.specs.CaseStates.{aggregate, flagged, handed_in, no_step, open_with, plain, ran, rules, seen, set_block, set_bypassable_block, yes_falls, yes_step}
use Rattle.rules.specs.Choice.{done, event, refused}
use Rattle.rules.specs.NetworkStep.{packet}
use Rattle.rules.specs.Arguments.{pick_next, push, sim_network_stack}

pub record Edges : Type 0 where
  -- ---- 1 ms buffer window at a block's end (delay.rs, agg_delay_on_blocking_expire)

  -- client: three packets wait, the third exactly 1 ms: inside
  pub buffer_at :
      ran (open_with 0 none 1_000_000_000)
      (set_block client 100 2_000_000 ∷ pick_next 100 ∷ push (handed_in 0 100 client) ∷ push (handed_in 0 150 client) ∷ push (handed_in 0 1_000_100 client) ∷ pick_next 100 ∷ [])
      ≡ seen (done ∷ event (plain BlockingBegin 100 client 0) 2 ∷ done ∷ done ∷ done ∷ event (plain BlockingEnd 2_000_100 client 0) 1 ∷ []) (aggregate 2_000_100 1_000_000 client ∷ aggregate 2_000_100 1_000_000 server ∷ []) [] false
  -- client: three packets wait, the third 1 ns past: not the tail
  pub buffer_past :
      ran (open_with 0 none 1_000_000_000)
      (set_block client 100 2_000_000 ∷ pick_next 100 ∷ push (handed_in 0 100 client) ∷ push (handed_in 0 150 client) ∷ push (handed_in 0 1_000_101 client) ∷ pick_next 100 ∷ [])
      ≡ seen (done ∷ event (plain BlockingBegin 100 client 0) 2 ∷ done ∷ done ∷ done ∷ event (plain BlockingEnd 2_000_100 client 0) 1 ∷ []) (aggregate 2_000_100 1_999_950 client ∷ aggregate 2_000_100 1_999_950 server ∷ []) [] false
  -- ---- three packets for the tail scan

  -- three wait: the last is the tail
  pub three_wait :
      ran (open_with 0 none 1_000_000_000)
      (set_block client 100 1000 ∷ pick_next 100 ∷ push (handed_in 0 100 client) ∷ push (handed_in 0 130 client) ∷ push (handed_in 0 160 client) ∷ pick_next 100 ∷ [])
      ≡ seen (done ∷ event (plain BlockingBegin 100 client 0) 2 ∷ done ∷ done ∷ done ∷ event (plain BlockingEnd 1100 client 0) 1 ∷ []) (aggregate 1100 940 client ∷ aggregate 1100 940 server ∷ []) [] false
  -- ---- 1 ms base window at a block's end

  -- client: the next base event after the head, exactly 1 ms: no aggregate
  pub expire_base_at :
      ran (open_with 0 none 1_000_000_000)
      (set_block client 100 1000 ∷ pick_next 100 ∷ push (handed_in 0 100 client) ∷ push (handed_in 1 1_000_100 client) ∷ pick_next 100 ∷ [])
      ≡ seen (done ∷ event (plain BlockingBegin 100 client 0) 2 ∷ done ∷ done ∷ event (plain BlockingEnd 1100 client 0) 1 ∷ []) [] [] false
  -- client: the next base event after the head, 1 ns past: two aggregates
  pub expire_base_past :
      ran (open_with 0 none 1_000_000_000)
      (set_block client 100 1000 ∷ pick_next 100 ∷ push (handed_in 0 100 client) ∷ push (handed_in 1 1_000_101 client) ∷ pick_next 100 ∷ [])
      ≡ seen (done ∷ event (plain BlockingBegin 100 client 0) 2 ∷ done ∷ done ∷ event (plain BlockingEnd 1100 client 0) 1 ∷ []) (aggregate 1100 1000 client ∷ aggregate 1100 1000 server ∷ []) [] false
  -- ---- 100 ms adjacent window and 1 ms base window of padding that replaces with bypass

  -- client: another waiting packet exactly 100 ms: no aggregate
  pub replace_adjacent_at :
      ran (open_with 0 none 1_000_000_000)
      (push (handed_in 0 100 client) ∷ push (handed_in 0 100_000_100 client) ∷ sim_network_stack 600 (flagged 2 600 client true true true) ∷ [])
      ≡ seen (done ∷ done ∷ no_step ∷ []) [] [] false
  -- client: another waiting packet 1 ns past: two aggregates of 500
  pub replace_adjacent_past :
      ran (open_with 0 none 1_000_000_000)
      (push (handed_in 0 100 client) ∷ push (handed_in 0 100_000_101 client) ∷ sim_network_stack 600 (flagged 2 600 client true true true) ∷ [])
      ≡ seen (done ∷ done ∷ no_step ∷ []) (aggregate 600 500 client ∷ aggregate 600 500 server ∷ []) [] false
  -- client: the base head exactly 1 ms: no aggregate
  pub replace_base_at :
      ran (open_with 0 none 1_000_000_000)
      (push (handed_in 0 100 client) ∷ push (handed_in 1 1_000_100 client) ∷ sim_network_stack 600 (flagged 2 600 client true true true) ∷ [])
      ≡ seen (done ∷ done ∷ no_step ∷ []) [] [] false
  -- client: the base head 1 ns past: two aggregates of 500
  pub replace_base_past :
      ran (open_with 0 none 1_000_000_000)
      (push (handed_in 0 100 client) ∷ push (handed_in 1 1_000_101 client) ∷ sim_network_stack 600 (flagged 2 600 client true true true) ∷ [])
      ≡ seen (done ∷ done ∷ no_step ∷ []) (aggregate 600 500 client ∷ aggregate 600 500 server ∷ []) [] false
  -- ---- 100 ms adjacent window and 1 ms base window of a packet above the limit

  -- client: a waiting packet exactly 100 ms: no aggregate
  pub delayed_adjacent_at :
      ran (open_with 0 (some 1) 10)
      (sim_network_stack 100 (handed_in 0 100 client) ∷ push (handed_in 0 100_000_100 client) ∷ sim_network_stack 100 (handed_in 0 100 client) ∷ [])
      ≡ seen (yes_falls 111 ∷ done ∷ yes_falls 111 ∷ []) [] (100 ∷ 100 ∷ []) false
  -- client: a waiting packet 1 ns past: two aggregates of 10
  pub delayed_adjacent_past :
      ran (open_with 0 (some 1) 10)
      (sim_network_stack 100 (handed_in 0 100 client) ∷ push (handed_in 0 100_000_101 client) ∷ sim_network_stack 100 (handed_in 0 100 client) ∷ [])
      ≡ seen (yes_falls 111 ∷ done ∷ yes_falls 111 ∷ []) (aggregate 100 10 client ∷ aggregate 100 10 server ∷ []) (100 ∷ 100 ∷ []) false
  -- client: the base head exactly 1 ms: no aggregate
  pub delayed_base_at :
      ran (open_with 0 (some 1) 10)
      (sim_network_stack 100 (handed_in 0 100 client) ∷ push (handed_in 1 1_000_100 client) ∷ sim_network_stack 100 (handed_in 0 100 client) ∷ [])
      ≡ seen (yes_falls 111 ∷ done ∷ yes_falls 111 ∷ []) [] (100 ∷ 100 ∷ []) false
  -- client: the base head 1 ns past: two aggregates of 10
  pub delayed_base_past :
      ran (open_with 0 (some 1) 10)
      (sim_network_stack 100 (handed_in 0 100 client) ∷ push (handed_in 1 1_000_101 client) ∷ sim_network_stack 100 (handed_in 0 100 client) ∷ [])
      ≡ seen (yes_falls 111 ∷ done ∷ yes_falls 111 ∷ []) (aggregate 100 10 client ∷ aggregate 100 10 server ∷ []) (100 ∷ 100 ∷ []) false
  -- a packet above the limit uses the client's sum on both sides: only c has 2000, packet of s, base + 2000 exactly 1 ms after the packet
  pub client_sum_at :
      ran (open_with 1000 (some 1) 2000)
      (sim_network_stack 10_000 (flagged 0 10_000 server true false false) ∷ sim_network_stack 10_000 (flagged 0 10_000 server true false false) ∷ pick_next 11_500 ∷ sim_network_stack 11_500 (handed_in 0 11_500 server) ∷ push (handed_in 1 1_009_500 server) ∷ sim_network_stack 11_500 (handed_in 0 11_500 server) ∷ [])
      ≡ seen (yes_falls 12_001 ∷ yes_falls 12_001 ∷ event (packet TunnelRecv 11_500 0 client true false false) 2 ∷ yes_falls 12_001 ∷ done ∷ yes_falls 12_001 ∷ []) (aggregate 11_500 4000 client ∷ aggregate 11_500 4000 server ∷ aggregate 12_000 2000 server ∷ []) [] false
  -- a packet above the limit uses the client's sum on both sides: only c has 2000, packet of s, 1 ns past
  pub client_sum_past :
      ran (open_with 1000 (some 1) 2000)
      (sim_network_stack 10_000 (flagged 0 10_000 server true false false) ∷ sim_network_stack 10_000 (flagged 0 10_000 server true false false) ∷ pick_next 11_500 ∷ sim_network_stack 11_500 (handed_in 0 11_500 server) ∷ push (handed_in 1 1_009_501 server) ∷ sim_network_stack 11_500 (handed_in 0 11_500 server) ∷ [])
      ≡ seen (yes_falls 12_001 ∷ yes_falls 12_001 ∷ event (packet TunnelRecv 11_500 0 client true false false) 2 ∷ yes_falls 12_001 ∷ done ∷ yes_falls 12_001 ∷ []) (aggregate 11_500 4000 client ∷ aggregate 11_500 4000 server ∷ aggregate 11_500 6000 client ∷ aggregate 11_500 6000 server ∷ aggregate 12_000 2000 server ∷ []) [] false
  -- ---- 4D, 3D and D of an aggregate, D = 20

  -- client's block, length 59: client 80 - 59, server 60 - 59, not below 0
  pub client_3d_below :
      ran (open_with 20 none 1_000_000_000)
      (set_block client 100 100 ∷ pick_next 100 ∷ push (handed_in 0 141 client) ∷ pick_next 100 ∷ [])
      ≡ seen (done ∷ event (plain BlockingBegin 100 client 0) 2 ∷ done ∷ event (plain BlockingEnd 200 client 0) 1 ∷ []) (aggregate 201 59 server ∷ aggregate 221 59 client ∷ []) [] false
  -- client's block, length 60: client 80 - 60, server 60 - 60, not below 0
  pub client_3d_at :
      ran (open_with 20 none 1_000_000_000)
      (set_block client 100 100 ∷ pick_next 100 ∷ push (handed_in 0 140 client) ∷ pick_next 100 ∷ [])
      ≡ seen (done ∷ event (plain BlockingBegin 100 client 0) 2 ∷ done ∷ event (plain BlockingEnd 200 client 0) 1 ∷ []) (aggregate 200 60 server ∷ aggregate 220 60 client ∷ []) [] false
  -- client's block, length 61: client 80 - 61, server 60 - 61, not below 0
  pub client_3d_past :
      ran (open_with 20 none 1_000_000_000)
      (set_block client 100 100 ∷ pick_next 100 ∷ push (handed_in 0 139 client) ∷ pick_next 100 ∷ [])
      ≡ seen (done ∷ event (plain BlockingBegin 100 client 0) 2 ∷ done ∷ event (plain BlockingEnd 200 client 0) 1 ∷ []) (aggregate 200 61 server ∷ aggregate 219 61 client ∷ []) [] false
  -- client's block, length 79: client 80 - 79, server 60 - 79, not below 0
  pub client_4d_below :
      ran (open_with 20 none 1_000_000_000)
      (set_block client 100 100 ∷ pick_next 100 ∷ push (handed_in 0 121 client) ∷ pick_next 100 ∷ [])
      ≡ seen (done ∷ event (plain BlockingBegin 100 client 0) 2 ∷ done ∷ event (plain BlockingEnd 200 client 0) 1 ∷ []) (aggregate 200 79 server ∷ aggregate 201 79 client ∷ []) [] false
  -- client's block, length 80: client 80 - 80, server 60 - 80, not below 0
  pub client_4d_at :
      ran (open_with 20 none 1_000_000_000)
      (set_block client 100 100 ∷ pick_next 100 ∷ push (handed_in 0 120 client) ∷ pick_next 100 ∷ [])
      ≡ seen (done ∷ event (plain BlockingBegin 100 client 0) 2 ∷ done ∷ event (plain BlockingEnd 200 client 0) 1 ∷ []) (aggregate 200 80 client ∷ aggregate 200 80 server ∷ []) [] false
  -- client's block, length 81: client 80 - 81, server 60 - 81, not below 0
  pub client_4d_past :
      ran (open_with 20 none 1_000_000_000)
      (set_block client 100 100 ∷ pick_next 100 ∷ push (handed_in 0 119 client) ∷ pick_next 100 ∷ [])
      ≡ seen (done ∷ event (plain BlockingBegin 100 client 0) 2 ∷ done ∷ event (plain BlockingEnd 200 client 0) 1 ∷ []) (aggregate 200 81 client ∷ aggregate 200 81 server ∷ []) [] false
  -- server's block, length 19: client 20 - 19, server 80 - 19, not below 0
  pub server_d_below :
      ran (open_with 20 none 1_000_000_000)
      (set_block server 100 100 ∷ pick_next 100 ∷ push (handed_in 0 181 server) ∷ pick_next 100 ∷ [])
      ≡ seen (done ∷ event (plain BlockingBegin 100 server 0) 2 ∷ done ∷ event (plain BlockingEnd 200 server 0) 1 ∷ []) (aggregate 201 19 client ∷ aggregate 261 19 server ∷ []) [] false
  -- server's block, length 20: client 20 - 20, server 80 - 20, not below 0
  pub server_d_at :
      ran (open_with 20 none 1_000_000_000)
      (set_block server 100 100 ∷ pick_next 100 ∷ push (handed_in 0 180 server) ∷ pick_next 100 ∷ [])
      ≡ seen (done ∷ event (plain BlockingBegin 100 server 0) 2 ∷ done ∷ event (plain BlockingEnd 200 server 0) 1 ∷ []) (aggregate 200 20 client ∷ aggregate 260 20 server ∷ []) [] false
  -- server's block, length 21: client 20 - 21, server 80 - 21, not below 0
  pub server_d_past :
      ran (open_with 20 none 1_000_000_000)
      (set_block server 100 100 ∷ pick_next 100 ∷ push (handed_in 0 179 server) ∷ pick_next 100 ∷ [])
      ≡ seen (done ∷ event (plain BlockingBegin 100 server 0) 2 ∷ done ∷ event (plain BlockingEnd 200 server 0) 1 ∷ []) (aggregate 200 21 client ∷ aggregate 259 21 server ∷ []) [] false
  -- server's block, length 79: client 20 - 79, server 80 - 79, not below 0
  pub server_4d_below :
      ran (open_with 20 none 1_000_000_000)
      (set_block server 100 100 ∷ pick_next 100 ∷ push (handed_in 0 121 server) ∷ pick_next 100 ∷ [])
      ≡ seen (done ∷ event (plain BlockingBegin 100 server 0) 2 ∷ done ∷ event (plain BlockingEnd 200 server 0) 1 ∷ []) (aggregate 200 79 client ∷ aggregate 201 79 server ∷ []) [] false
  -- server's block, length 80: client 20 - 80, server 80 - 80, not below 0
  pub server_4d_at :
      ran (open_with 20 none 1_000_000_000)
      (set_block server 100 100 ∷ pick_next 100 ∷ push (handed_in 0 120 server) ∷ pick_next 100 ∷ [])
      ≡ seen (done ∷ event (plain BlockingBegin 100 server 0) 2 ∷ done ∷ event (plain BlockingEnd 200 server 0) 1 ∷ []) (aggregate 200 80 client ∷ aggregate 200 80 server ∷ []) [] false
  -- server's block, length 81: client 20 - 81, server 80 - 81, not below 0
  pub server_4d_past :
      ran (open_with 20 none 1_000_000_000)
      (set_block server 100 100 ∷ pick_next 100 ∷ push (handed_in 0 119 server) ∷ pick_next 100 ∷ [])
      ≡ seen (done ∷ event (plain BlockingBegin 100 server 0) 2 ∷ done ∷ event (plain BlockingEnd 200 server 0) 1 ∷ []) (aggregate 200 81 client ∷ aggregate 200 81 server ∷ []) [] false
  -- ---- the tail and the end

  -- three packets, the tail equal to the end: no aggregate
  pub tail_at_end :
      ran (open_with 0 none 1_000_000_000)
      (set_block client 100 50 ∷ pick_next 100 ∷ push (handed_in 0 110 client) ∷ push (handed_in 0 120 client) ∷ push (handed_in 0 150 client) ∷ pick_next 100 ∷ [])
      ≡ seen (done ∷ event (plain BlockingBegin 100 client 0) 2 ∷ done ∷ done ∷ done ∷ event (plain BlockingEnd 150 client 0) 1 ∷ []) [] [] false
  -- ---- stamps and the packet limit

  -- rate 2, window 10: count 2 adds nothing, count 3 adds 5, count 4 adds 10
  pub rate_edge :
      ran (open_with 0 (some 2) 10)
      (sim_network_stack 100 (handed_in 0 100 client) ∷ sim_network_stack 100 (handed_in 0 100 client) ∷ sim_network_stack 100 (handed_in 0 100 client) ∷ sim_network_stack 100 (handed_in 0 100 client) ∷ [])
      ≡ seen (yes_falls 111 ∷ yes_falls 111 ∷ yes_falls 111 ∷ yes_falls 111 ∷ []) (aggregate 100 5 client ∷ aggregate 100 5 server ∷ aggregate 100 10 client ∷ aggregate 100 10 server ∷ []) (100 ∷ 100 ∷ 100 ∷ 100 ∷ []) false
  -- window div rate is 0: no extra delay and no aggregate test
  pub no_extra :
      ran (open_with 0 (some 2) 1)
      (sim_network_stack 100 (handed_in 0 100 client) ∷ sim_network_stack 100 (handed_in 0 100 client) ∷ sim_network_stack 100 (handed_in 0 100 client) ∷ [])
      ≡ seen (yes_falls 102 ∷ yes_falls 102 ∷ yes_falls 102 ∷ []) [] (100 ∷ 100 ∷ 100 ∷ []) false
  -- window div rate is 1: extra 1
  pub some_extra :
      ran (open_with 0 (some 2) 2)
      (sim_network_stack 100 (handed_in 0 100 client) ∷ sim_network_stack 100 (handed_in 0 100 client) ∷ sim_network_stack 100 (handed_in 0 100 client) ∷ [])
      ≡ seen (yes_falls 103 ∷ yes_falls 103 ∷ yes_falls 103 ∷ []) (aggregate 100 1 client ∷ aggregate 100 1 server ∷ []) (100 ∷ 100 ∷ 100 ∷ []) false
  -- window 10: an age of 9, of 10, of 11
  pub stamp_ages :
      ran (open_with 0 none 10)
      (sim_network_stack 100 (handed_in 0 100 client) ∷ sim_network_stack 109 (handed_in 0 109 client) ∷ sim_network_stack 110 (handed_in 0 110 client) ∷ sim_network_stack 111 (handed_in 0 111 client) ∷ [])
      ≡ seen (yes_falls 111 ∷ yes_falls 111 ∷ yes_falls 111 ∷ yes_falls 120 ∷ []) [] (109 ∷ 110 ∷ 111 ∷ []) false
  -- ---- when the packet count falls (document 02, M-120)

  -- window 10: that stamp plus the window plus 1; an age of 10 stays, at 111 the stamp of 100 goes
  pub falls_after_window :
      ran (open_with 0 none 10)
      (sim_network_stack 100 (handed_in 0 100 client) ∷ sim_network_stack 110 (handed_in 0 110 client) ∷ sim_network_stack 111 (handed_in 0 111 client) ∷ [])
      ≡ seen (yes_falls 111 ∷ yes_falls 111 ∷ yes_falls 121 ∷ []) [] (110 ∷ 111 ∷ []) false
  -- times that go backwards: the oldest by arrival, not the least moment
  pub falls_by_arrival :
      ran (open_with 0 none 10)
      (sim_network_stack 110 (handed_in 0 110 client) ∷ sim_network_stack 50 (handed_in 0 50 client) ∷ sim_network_stack 120 (handed_in 0 120 client) ∷ sim_network_stack 121 (handed_in 0 121 client) ∷ [])
      ≡ seen (yes_falls 121 ∷ yes_falls 121 ∷ yes_falls 121 ∷ yes_falls 131 ∷ []) [] (120 ∷ 121 ∷ []) false
  -- each side has its own stamps, and padding is stamped too
  pub falls_own_side :
      ran (open_with 0 none 10)
      (sim_network_stack 100 (handed_in 0 100 client) ∷ sim_network_stack 50 (handed_in 0 50 server) ∷ sim_network_stack 55 (flagged 0 55 server true false false) ∷ sim_network_stack 105 (flagged 0 105 client true false false) ∷ [])
      ≡ seen (yes_falls 111 ∷ yes_falls 61 ∷ yes_falls 61 ∷ yes_falls 111 ∷ []) [] (100 ∷ 105 ∷ []) false
  -- no other kind tells a moment, whether it answers yes or no
  pub falls_other_kinds :
      ran (open_with 0 none 10)
      (sim_network_stack 50 (handed_in 0 50 client) ∷ sim_network_stack 60 (handed_in 1 60 client) ∷ sim_network_stack 60 (flagged 2 60 client true false false) ∷ sim_network_stack 60 (handed_in 3 60 client) ∷ sim_network_stack 60 (handed_in 4 60 client) ∷ sim_network_stack 60 (flagged 5 60 client true false false) ∷ sim_network_stack 60 (handed_in 6 60 client) ∷ sim_network_stack 60 (handed_in 7 60 client) ∷ sim_network_stack 60 (handed_in 8 60 client) ∷ sim_network_stack 60 (handed_in 9 60 client) ∷ [])
      ≡ seen (yes_falls 61 ∷ no_step ∷ no_step ∷ yes_step ∷ no_step ∷ no_step ∷ no_step ∷ no_step ∷ no_step ∷ no_step ∷ []) [] (50 ∷ []) false
  -- window 0: the stamp is too old one nanosecond later
  pub falls_window_0 :
      ran (open_with 0 none 0)
      (sim_network_stack 0 (handed_in 0 0 client) ∷ sim_network_stack 0 (handed_in 0 0 client) ∷ sim_network_stack 1 (handed_in 0 1 client) ∷ [])
      ≡ seen (yes_falls 1 ∷ yes_falls 1 ∷ yes_falls 2 ∷ []) [] (1 ∷ []) false
  -- all stamps too old: the new one itself
  pub falls_all_gone :
      ran (open_with 0 none 10)
      (sim_network_stack 100 (handed_in 0 100 client) ∷ sim_network_stack 101 (handed_in 0 101 client) ∷ sim_network_stack 1000 (handed_in 0 1000 client) ∷ [])
      ≡ seen (yes_falls 111 ∷ yes_falls 111 ∷ yes_falls 1011 ∷ []) [] (1000 ∷ []) false
  -- the edge of 2^62 - 1: exactly
  pub falls_at_limit :
      ran (open_with 0 none 10)
      (sim_network_stack 4_611_686_018_427_387_892 (handed_in 0 0 client) ∷ [])
      ≡ seen (yes_falls 4_611_686_018_427_387_903 ∷ []) [] (4_611_686_018_427_387_892 ∷ []) false
  -- the edge of 2^62 - 1: one past is absent, the stamp stands and nothing is refused
  pub falls_past_limit :
      ran (open_with 0 none 10)
      (sim_network_stack 4_611_686_018_427_387_893 (handed_in 0 0 client) ∷ [])
      ≡ seen (yes_step ∷ []) [] (4_611_686_018_427_387_893 ∷ []) false
  -- the edge of 2^62 - 1 with the longest window, and a later stamp behind one that is past it
  pub falls_longest_window :
      ran (open_with 0 none 1_000_000_000_000)
      (sim_network_stack 4_611_685_018_427_387_902 (handed_in 0 0 server) ∷ sim_network_stack 4_611_685_018_427_387_903 (handed_in 0 0 client) ∷ sim_network_stack 5 (handed_in 0 5 client) ∷ [])
      ≡ seen (yes_falls 4_611_686_018_427_387_903 ∷ yes_step ∷ yes_step ∷ []) [] (4_611_685_018_427_387_903 ∷ 5 ∷ []) false
  -- ---- number 10: each sum at 2^62 - 1 and one past it

  -- a base head of c plus its sum: exactly 2^62 - 1
  pub sum_at_limit :
      ran (open_with 0 none 1_000_000_000)
      (set_block client 0 10 ∷ pick_next 0 ∷ push (flagged 0 1 client true false false) ∷ pick_next 4_611_686_018_427_387_803 ∷ pick_next 4_611_686_018_427_387_803 ∷ push (handed_in 1 101 client) ∷ pick_next 50 ∷ [])
      ≡ seen (done ∷ event (plain BlockingBegin 0 client 0) 2 ∷ done ∷ event (plain BlockingEnd 4_611_686_018_427_387_803 client 0) 1 ∷ event (packet TunnelSent 4_611_686_018_427_387_803 0 client true false false) 3 ∷ done ∷ event (plain NormalSent 4_611_686_018_427_387_903 client 0) 1 ∷ []) [] [] false
  -- a base head of c plus its sum: one past
  pub sum_past_limit :
      ran (open_with 0 none 1_000_000_000)
      (set_block client 0 10 ∷ pick_next 0 ∷ push (flagged 0 1 client true false false) ∷ pick_next 4_611_686_018_427_387_803 ∷ pick_next 4_611_686_018_427_387_803 ∷ push (handed_in 1 102 client) ∷ pick_next 50 ∷ [])
      ≡ seen (done ∷ event (plain BlockingBegin 0 client 0) 2 ∷ done ∷ event (plain BlockingEnd 4_611_686_018_427_387_803 client 0) 1 ∷ event (packet TunnelSent 4_611_686_018_427_387_803 0 client true false false) 3 ∷ done ∷ refused 10 0 ∷ []) [] [] false
  -- c: an action's moment plus duration: exactly 2^62 - 1
  pub duration_at_limit :
      ran (open_with 0 none 1_000_000_000)
      (set_block client 4_611_686_018_427_387_902 1 ∷ pick_next 4_611_686_018_427_387_902 ∷ pick_next 4_611_686_018_427_387_902 ∷ [])
      ≡ seen (done ∷ event (plain BlockingBegin 4_611_686_018_427_387_902 client 0) 2 ∷ event (plain BlockingEnd 4_611_686_018_427_387_903 client 0) 1 ∷ []) [] [] false
  -- c: an action's moment plus duration: one past
  pub duration_past_limit :
      ran (open_with 0 none 1_000_000_000)
      (set_block client 4_611_686_018_427_387_903 1 ∷ pick_next 4_611_686_018_427_387_903 ∷ [])
      ≡ seen (done ∷ refused 10 0 ∷ []) [] [] false
  -- ---- plausible misreadings (document 01)

  -- weighing bypassable against base by the shifted moment: see 2 above; the misreading answers the packet at 60
  pub misreading_raw_moment :
      ran (open_with 0 (some 1) 1000)
      (sim_network_stack 0 (handed_in 0 0 client) ∷ sim_network_stack 0 (handed_in 0 0 client) ∷ pick_next 0 ∷ pick_next 1000 ∷ set_bypassable_block client 0 2000 ∷ pick_next 0 ∷ push (handed_in 0 10 client) ∷ push (flagged 0 60 client false true false) ∷ push (handed_in 1 50 client) ∷ pick_next 0 ∷ [])
      ≡ seen (yes_falls 1001 ∷ yes_falls 1001 ∷ event (plain TunnelRecv 0 server 0) 3 ∷ event (plain TunnelRecv 1000 server 0) 1 ∷ done ∷ event (packet BlockingBegin 0 0 client false true false) 2 ∷ done ∷ done ∷ done ∷ event (plain NormalSent 1050 client 0) 1 ∷ []) [] (0 ∷ 0 ∷ []) true
  -- scanning for the tail with two packets waiting: the length is 1000, not 940
  pub misreading_two_packets :
      ran (open_with 0 none 1_000_000_000)
      (set_block client 100 1000 ∷ pick_next 100 ∷ push (handed_in 0 100 client) ∷ push (handed_in 0 160 client) ∷ pick_next 100 ∷ [])
      ≡ seen (done ∷ event (plain BlockingBegin 100 client 0) 2 ∷ done ∷ done ∷ event (plain BlockingEnd 1100 client 0) 1 ∷ []) (aggregate 1100 1000 client ∷ aggregate 1100 1000 server ∷ []) [] false
  -- dropping an aggregate of length 0: two records stand
  pub misreading_length_0 :
      ran (open_with 20 none 1_000_000_000)
      (set_block client 100 50 ∷ pick_next 100 ∷ push (handed_in 0 110 client) ∷ push (handed_in 0 120 client) ∷ push (handed_in 0 151 client) ∷ pick_next 100 ∷ [])
      ≡ seen (done ∷ event (plain BlockingBegin 100 client 0) 2 ∷ done ∷ done ∷ done ∷ event (plain BlockingEnd 150 client 0) 1 ∷ []) (aggregate 210 0 server ∷ aggregate 230 0 client ∷ []) [] false
  -- clearing the bypassable flag with the block: it stays
  pub misreading_flag :
      ran (open_with 0 none 1_000_000_000)
      (set_bypassable_block client 100 50 ∷ pick_next 100 ∷ pick_next 150 ∷ [])
      ≡ seen (done ∷ event (packet BlockingBegin 100 0 client false true false) 2 ∷ event (plain BlockingEnd 150 client 0) 1 ∷ []) [] [] true
  -- evicting a stamp whose age equals the window: it stays
  pub misreading_stamp_age :
      ran (open_with 0 none 10)
      (sim_network_stack 100 (handed_in 0 100 client) ∷ sim_network_stack 110 (handed_in 0 110 client) ∷ [])
      ≡ seen (yes_falls 111 ∷ yes_falls 111 ∷ []) [] (100 ∷ 110 ∷ []) false
  -- replacing a waiting packet only while blocked: no block is needed
  pub misreading_replace :
      ran (open_with 0 none 1_000_000_000)
      (push (handed_in 0 100 client) ∷ sim_network_stack 600 (flagged 2 600 client true true true) ∷ [])
      ≡ seen (done ∷ no_step ∷ []) (aggregate 600 500 client ∷ aggregate 600 500 server ∷ []) [] false

-- each holds by computation
pub edges : Edges
unfolding rules
edges = record {
  buffer_at = refl;
  buffer_past = refl;
  three_wait = refl;
  expire_base_at = refl;
  expire_base_past = refl;
  replace_adjacent_at = refl;
  replace_adjacent_past = refl;
  replace_base_at = refl;
  replace_base_past = refl;
  delayed_adjacent_at = refl;
  delayed_adjacent_past = refl;
  delayed_base_at = refl;
  delayed_base_past = refl;
  client_sum_at = refl;
  client_sum_past = refl;
  client_3d_below = refl;
  client_3d_at = refl;
  client_3d_past = refl;
  client_4d_below = refl;
  client_4d_at = refl;
  client_4d_past = refl;
  server_d_below = refl;
  server_d_at = refl;
  server_d_past = refl;
  server_4d_below = refl;
  server_4d_at = refl;
  server_4d_past = refl;
  tail_at_end = refl;
  rate_edge = refl;
  no_extra = refl;
  some_extra = refl;
  stamp_ages = refl;
  falls_after_window = refl;
  falls_by_arrival = refl;
  falls_own_side = refl;
  falls_other_kinds = refl;
  falls_window_0 = refl;
  falls_all_gone = refl;
  falls_at_limit = refl;
  falls_past_limit = refl;
  falls_longest_window = refl;
  sum_at_limit = refl;
  sum_past_limit = refl;
  duration_at_limit = refl;
  duration_past_limit = refl;
  misreading_raw_moment = refl;
  misreading_two_packets = refl;
  misreading_length_0 = refl;
  misreading_flag = refl;
  misreading_stamp_age = refl;
  misreading_replace = refl;
}
