-- `packing::rows::write_records` meets its contract. Assumes nothing.
use borrow.Author.Rules.{rules}
use native.Mathlib.Omega.{arith}
use Rattle.packing.proofs.Headers.{count_at}
use Rattle.packing.proofs.Written.{all_records}
use Rattle.packing.proofs.rows.write_records.Goals as goal

pub returns : goal.returns
returns c = all_records _ _ _ _ _ _ (omega (arith, c.requires.out_len, count_at c.args.chains.now 0)) (search rules) (search rules) c.write_chains-place.ensures.value c.write_chains-place.ensures.out_after c.write_free.ensures
