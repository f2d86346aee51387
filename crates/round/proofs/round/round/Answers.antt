-- `round::round::round` meets its contract. Assumes nothing.
use lib.ListN.{drop}
use Rattle.round.proofs.ActLaws.{round_shaped, rounds_fit}
use Rattle.round.proofs.RoundLaws.{always_stops, count_fits, none_found, stands_seen, candidate_stops, act_may, acted_counts, acted}
use Rattle.round.proofs.round.round.Goals as goal

pub pass_limit-requires : goal.pass_limit-requires
pass_limit-requires c = search round_shaped

pub returns-then-not-always_fits : goal.returns-then-not-always_fits
returns-then-not-always_fits c = search (always_stops, c.args.time.within)

pub count_round-requires-clause-shaped : goal.count_round-requires-clause-shaped
count_round-requires-clause-shaped c = search round_shaped

pub count_round-requires-clause-total_small : goal.count_round-requires-clause-total_small
count_round-requires-clause-total_small c = search (count_fits, c.args.time.within)

pub overflow_add-result : goal.overflow_add-result
overflow_add-result c = record { fits = search rounds_fit }

pub returns-in_default : goal.returns-in_default
returns-in_default c = search (none_found, c.args.time.within)

pub candidate_fits-requires : goal.candidate_fits-requires
candidate_fits-requires c = (drop 256 c.args.block.now, search (stands_seen, c.args.time.within))

pub pass_limit-requires-then-not-candidate_fits : goal.pass_limit-requires-then-not-candidate_fits
pass_limit-requires-then-not-candidate_fits c = search round_shaped

pub returns-then-not-candidate_fits : goal.returns-then-not-candidate_fits
returns-then-not-candidate_fits c = search (candidate_stops, c.candidate_fits.ensures, c.args.time.within)

pub act-p-requires : goal.act-p-requires
act-p-requires c = search (act_may, c.candidate_fits.ensures, c.args.time.within)

pub count_round-requires-2-clause-total_small : goal.count_round-requires-2-clause-total_small
count_round-requires-2-clause-total_small c = search (acted_counts, c.candidate_fits.ensures, c.args.time.within)

pub returns : goal.returns
returns c = search (acted, c.candidate_fits.ensures, c.args.time.within)
