-- One chain, written as records in a row: what is written and what is left make up the whole. Assumes nothing.
use Rattle.std.specs.Prelude.{ℕ, suc, ◌+◌, ◌-◌, ◌*◌, ◌≤◌, ◌≡◌, List, ◌++◌, eqb, length, take}
use Rattle.queue_event.specs.Words.{moment_of, length_of, tag_of, filled}
use Rattle.queue_event.specs.Chain.{pick, Node, recs}
use Rattle.layout.specs.Packed.{chain_words}

-- the link of record p, where n records from it on are left: 0 for the last
unfoldable pub link_of : ℕ → ℕ → ℕ
link_of n p = pick (eqb n 1) 0 (suc p)

-- record h of rest, written as record p with this link
unfoldable pub copied : List ℕ → ℕ → List ℕ → ℕ → ℕ → List ℕ
copied rest h out p next = filled out p next (moment_of rest h) (length_of rest h) (tag_of rest h)

-- of copy_chain: l is left of the chain, its first record goes to p, and its last to end - 1
pub record Copies (goal out₀ : List ℕ) (end : ℕ) (out : List ℕ) (l : List Node) (p : ℕ) : Type 0 where
  pub one : 1 ≤ p
  pub ends : p + length (recs l) ≡ end
  pub fits : 4 * end ≤ length out + 4
  pub len : length out ≡ length out₀
  pub whole : take (4 * p - 4) out ++ chain_words p (recs l) ≡ goal
