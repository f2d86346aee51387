-- `accept::records::counted` meets its contract. Assumes nothing.
use borrow.Author.Rules.{rules}
use borrow.Author.Tests.{tests}
use mathlib.Core.Path.{refl, ◌∙◌}
use native.Mathlib.Omega.{arith}
use Rattle.std.proofs.lemmas.Iterator.{YieldsList-from_map, YieldsList-from_range}
use Rattle.std.proofs.lemmas.Iterator.Consumers.{sum_by_from_yields_List, fits_by_from_yields_list}
use Rattle.std.proofs.Common.{◌^◌}
use Rattle.std.specs.List.{range_with_len}
use Rattle.layout.specs.Records.{count_of}
use Rattle.accept.proofs.Counted.{counts_all}
use Rattle.accept.proofs.records.counted.Goals as goal

pub sum-requires-clause-fits : goal.sum-requires-clause-fits
sum-requires-clause-fits c = fits_by_from_yields_list (count_of c.args.header.now.words.now) (range_with_len 0 12) c.map.result (2 ^ 64) (YieldsList-from_map _ (count_of c.args.header.now.words.now) (YieldsList-from_range 0 12 12 c.map.ensures.source refl) c.map.ensures.closure (λ x r q k. search (rules, tests))) (omega (arith, (counts_all c.args.header.now.words.now c.requires).1))

pub returns : goal.returns
returns c = sum_by_from_yields_List (count_of c.args.header.now.words.now) (range_with_len 0 12) c.map.result _ c.sum.ensures.ran (YieldsList-from_map _ (count_of c.args.header.now.words.now) (YieldsList-from_range 0 12 12 c.map.ensures.source refl) c.map.ensures.closure (λ x r q k. search (rules, tests))) ∙ (counts_all c.args.header.now.words.now c.requires).0
