-- `packing::pack` meets its contract. Assumes nothing.
use borrow.Author.Rules.{rules}
use Rattle.packing.specs.Heads.{heads_of, counts_of}
use Rattle.packing.proofs.Whole.{pack_sums, pack_rows, pack_long, pack_whole}
use Rattle.packing.proofs.pack.Goals as goal

pub start_chains-packed-requires : goal.start_chains-packed-requires
start_chains-packed-requires c =
    let parts = rw c.unwrap.ensures at c.split_first_chunk.ensures.cases in
    let heads = rw parts.0 at c.read_chains-chains.ensures.heads in
    let counts = rw parts.0 at c.read_chains-chains.ensures.counts in
    pack_sums c.args.block.now (heads_of c.read_chains-chains.result) (counts_of c.read_chains-chains.result) c.requires.accepted heads counts

pub write_records-requires-clause-rows : goal.write_records-requires-clause-rows
write_records-requires-clause-rows c =
    let parts = rw c.unwrap.ensures at c.split_first_chunk.ensures.cases in
    let heads = rw parts.0 at c.read_chains-chains.ensures.heads in
    let counts = rw parts.0 at c.read_chains-chains.ensures.counts in
    rw parts.1 (pack_rows c.args.block.now (heads_of c.read_chains-chains.result) (counts_of c.read_chains-chains.result) c.requires.accepted heads counts)

pub write_records-requires-clause-out_len : goal.write_records-requires-clause-out_len
write_records-requires-clause-out_len c =
    let parts = rw c.unwrap.ensures at c.split_first_chunk.ensures.cases in
    let heads = rw parts.0 at c.read_chains-chains.ensures.heads in
    let counts = rw parts.0 at c.read_chains-chains.ensures.counts in
    rw parts.1 (pack_long c.args.block.now (heads_of c.read_chains-chains.result) (counts_of c.read_chains-chains.result) c.requires.accepted heads counts c.write_header.new.out (search rules))

pub returns : goal.returns
returns c =
    let parts = rw c.unwrap.ensures at c.split_first_chunk.ensures.cases in
    let heads = rw parts.0 at c.read_chains-chains.ensures.heads in
    let counts = rw parts.0 at c.read_chains-chains.ensures.counts in
    pack_whole c.args.block.now (heads_of c.read_chains-chains.result) (counts_of c.read_chains-chains.result) c.requires.accepted heads counts (heads_of c.start_chains-packed.result) (counts_of c.start_chains-packed.result) c.write_header.new.out c.write_records.new.out
    c.start_chains-packed.ensures.counts (search rules) c.start_chains-packed.ensures.heads (rw parts.0 at c.write_header.ensures) (rw parts.1 at c.write_records.ensures)
