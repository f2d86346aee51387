-- `calls::turn::bit` meets its contract. Assumes nothing.
use borrow.Author.Rules.{rules}
use Rattle.calls.proofs.Listing.{bit_shift, bit_past}
use Rattle.calls.proofs.turn.bit.Goals as goal

pub returns-then-k-lt64 : goal.returns-then-k-lt64
returns-then-k-lt64 c = bit_shift c.args.n c.args.k

pub returns-else-k-lt64 : goal.returns-else-k-lt64
returns-else-k-lt64 c = bit_past c.args.n c.args.k (search rules) c.if-k-lt64.false
