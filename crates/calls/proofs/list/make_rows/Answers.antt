-- `calls::list::make_rows` meets its contract. Assumes nothing.
use borrow.Author.Rules.{rules}
use mathlib.Core.Path.{ap, ◌∙◌}
use mathlib.Core.List.{[]}
use lib.ListN.{get_or}
use Rattle.calls.specs.Codes.{IsRow}
use Rattle.calls.proofs.Listing.{least_is, below_most, listing_none, listing_stop, listing_end, listing_ends, listing_more}
use Rattle.calls.proofs.RowLaws.{code_small, row_no, not_row}
use Rattle.calls.proofs.list.make_rows.Goals as goal
use Rattle.calls.proofs.list.make_rows.Goals.{In-Some}

-- the words that are read are those of the row
row : (c : In-Some) → IsRow c.args.rows.now c.loop-at.at c.in-Some.row.words.now
row c =
    row_no c.args.rows.now _ _ c.loop-at.at (below_most _ _ _ _ c.loop-at-test.true c.min-most.ensures)
    (c.in-Some.ensures ∙ ap (λ x. get_or x c.loop-at.at []) c.as_chunks.ensures.front)

pub loop-at-init : goal.loop-at-init
loop-at-init c = listing_none _ _ _ _ _ c.requires

pub returns-in_default : goal.returns-in_default
returns-in_default c =
    listing_stop _ _ _ _ _ _ _ _ _ c.loop-at.invariant
    (not_row c.args.rows.now _ _ c.loop-at.at (below_most _ _ _ _ c.loop-at-test.true c.min-most.ensures)
    (ap (λ x. get_or x c.loop-at.at []) c.as_chunks.ensures.front) c.in_default.ensures)
    (c.min-most.ensures ∙ least_is _ _)

pub returns-then-ends : goal.returns-then-ends
returns-then-ends c = let here = row (goal.at.returns-then-ends c).In-Some in listing_ends _ _ _ _ _ _ _ _ _ c.loop-at.invariant _ _ _ c.loop-at-test.true (code_small _ _ _ c.in-Some.row.code c.in-Some.row.coded here) (c.make_row-words.ensures _ _ here) c.store.ensures _ (c.ends.ensures _ _ here) c.if-ends.true (c.min-most.ensures ∙ least_is _ _)

pub loop-at-preserved : goal.loop-at-preserved
loop-at-preserved c = let here = row (goal.at.loop-at-preserved c).In-Some in listing_more _ _ _ _ _ _ _ _ _ c.loop-at.invariant _ _ _ c.loop-at-test.true (code_small _ _ _ c.in-Some.row.code c.in-Some.row.coded here) (c.make_row-words.ensures _ _ here) c.store.ensures _ _ (c.ends.ensures _ _ here) c.if-ends.false (c.last_after-last.ensures _ _ here) (search rules) (search rules)

pub returns : goal.returns
returns c = listing_end _ _ _ _ _ _ _ _ _ c.loop-at.invariant c.loop-at-test.false (c.min-most.ensures ∙ least_is _ _)
