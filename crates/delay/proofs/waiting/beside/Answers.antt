-- `delay::waiting::beside` meets its contract. Assumes nothing.
use mathlib.Core.Bool.{true}
use mathlib.Core.Logic.{inl, inr}
use Rattle.delay.proofs.Packets.{beside_first, beside_second, beside_none}
use Rattle.delay.proofs.waiting.beside.Goals.{in-Blocking, in-Bypassable}
use Rattle.delay.proofs.waiting.beside.Goals as goal

pub returns-in-Base : goal.returns-in-Base
returns-in-Base c = search beside_none

pub returns-then-any_behind : goal.returns-then-any_behind
returns-then-any_behind c = elim c.match-of.branch [
  | in-Blocking w ↦ beside_first _ _ c.match-of.other _ _ _ true (inl (w.in-Blocking.is, w.other-is)) c.any_behind.ensures c.if-any_behind.true
  | in-Bypassable w ↦ beside_first _ _ c.match-of.other _ _ _ true (inr (w.in-Bypassable.is, w.other-is)) c.any_behind.ensures c.if-any_behind.true
]

pub returns-else-any_behind : goal.returns-else-any_behind
returns-else-any_behind c = elim c.match-of.branch [
  | in-Blocking w ↦ beside_second _ _ c.match-of.other _ _ _ _ (inl (w.in-Blocking.is, w.other-is)) c.any_behind.ensures c.if-any_behind.false c.any_in.ensures
  | in-Bypassable w ↦ beside_second _ _ c.match-of.other _ _ _ _ (inr (w.in-Bypassable.is, w.other-is)) c.any_behind.ensures c.if-any_behind.false c.any_in.ensures
]
