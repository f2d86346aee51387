-- `accept::header::Header::slots_room` meets its contract. Assumes nothing.
use borrow.Author.Rules.{rules}
use borrow.Author.Tests.{tests}
use mathlib.Core.Path.{refl, sym, subst}
use native.Mathlib.Omega.{arith}
use Rattle.std.proofs.lemmas.Iterator.{YieldsList-from_map, YieldsList-from_range}
use Rattle.std.proofs.lemmas.Iterator.Consumers.{sum_by_from_yields_List, fits_by_from_yields_list}
use Rattle.accept.specs.Slots.{RoomIn}
use Rattle.accept.proofs.Slots.{kept_at, room_all}
use Rattle.accept.proofs.header.Header.slots_room.Goals as goal

pub sum-requires-clause-fits : goal.sum-requires-clause-fits
sum-requires-clause-fits c = fits_by_from_yields_list _ _ c.map.result _ (YieldsList-from_map _ (kept_at c.args.self.now.words.now) (YieldsList-from_range c.args.slots.from c.args.slots.end _ c.map.ensures.source refl) c.map.ensures.closure (λ x r q k. search (rules, tests))) (omega (arith, (room_all c.args.self.now.words.now c.args.slots.from c.args.slots.end c.args.slots.ordered).most, c.args.slots.small))

pub returns : goal.returns
returns c = subst (RoomIn c.args.self.now.words.now c.args.slots.from c.args.slots.end) (sym (sum_by_from_yields_List _ _ c.map.result _ c.sum.ensures.ran (YieldsList-from_map _ (kept_at c.args.self.now.words.now) (YieldsList-from_range c.args.slots.from c.args.slots.end _ c.map.ensures.source refl) c.map.ensures.closure (λ x r q k. search (rules, tests))))) (room_all c.args.self.now.words.now c.args.slots.from c.args.slots.end c.args.slots.ordered)
