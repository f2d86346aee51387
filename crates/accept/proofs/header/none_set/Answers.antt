-- `accept::header::none_set` meets its contract. Assumes nothing.
use borrow.Author.Rules.{rules}
use borrow.Author.Tests.{tests}
use lib.Bits.{bit_or}
use Rattle.std.proofs.lemmas.Iterator.{YieldsList-from_slice}
use Rattle.std.proofs.lemmas.Iterator.Consumers.{fold_from_yields_List}
use Rattle.accept.proofs.Slots.{none_decides}
use Rattle.accept.proofs.header.none_set.Goals as goal

pub returns : goal.returns
returns c = none_decides _ _ (fold_from_yields_List _ (λ any x. bit_or any x) 0 _ c.fold.ensures.ran (YieldsList-from_slice c.args.words.now cc) (λ any x b q k. search (rules, tests)))
