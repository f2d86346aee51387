-- `packing::header::read_chains` meets its contract. Assumes nothing.
use borrow.Author.Rules.{rules}
use borrow.Author.Tests.{tests}
use mathlib.Core.Path.{sym, ◌∙◌}
use Rattle.packing.proofs.Headers.{none, head_at, count_at}
use Rattle.packing.proofs.header.read_chains.Goals as goal

pub returns-clause-heads : goal.returns-clause-heads
returns-clause-heads c = λ k l. let called = (c.from_fn.ensures.items.at k none l).2 in sym (head_at c.from_fn.result k) ∙ search (rules, tests, called)

pub returns-clause-counts : goal.returns-clause-counts
returns-clause-counts c = λ k l. let called = (c.from_fn.ensures.items.at k none l).2 in sym (count_at c.from_fn.result k) ∙ search (rules, tests, called)
