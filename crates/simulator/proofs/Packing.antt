-- The numbers of packing, test by test, and its promise. Assumes nothing.
use Prim.Native.Nat.{ℕ}
use mathlib.Core.Path.{◌≡◌, refl, ap}
use mathlib.Core.Bool.{Bool, true, false, not}
use mathlib.Core.List.{List}
use lib.ListN.{length}
use Rattle.rules.specs.Choice.{done}
use Rattle.event.specs.Answers.{refusal_for, refused_by}
use Rattle.event.specs.declared.answer.Reason.TheVariants.{WrongLength, NotAccepted}
use Rattle.event.specs.declared.answer.Refusal.{Refusal}
use Rattle.layout.specs.Decides.{Decides}
use Rattle.layout.specs.Accepted.{SizeOk, Accepted}
use Rattle.layout.specs.Packed.{packed_words}
use Rattle.layout.proofs.Deciding.{refused, passed}
use Rattle.simulator.specs.Packs.{Packs}

module _ (w v : List ℕ) (r : Bool) (d : Decides (SizeOk (length w)) r) where
  -- the first's length
  pub packs_length : not r ≡ true → (x : Refusal) → x ≡ refusal_for WrongLength → Packs w v (refused_by x) v
  packs_length e x q =
      let n = refused d e in
      record { bad_length = λ b. (ap refused_by q, refl); other_length = λ s b. absurd (n s); bad = λ s l b. absurd (n s); packs = λ a l. absurd (n a.size) }

  module _ (e : not r ≡ false) where
    -- the second's
    pub packs_other : (length v ≡ length w → ⊥) → (x : Refusal) → x ≡ refusal_for WrongLength → Packs w v (refused_by x) v
    packs_other n x q =
        record { bad_length = λ b. (ap refused_by q, refl); other_length = λ s b. (ap refused_by q, refl); bad = λ s l b. absurd (n l); packs = λ a l. absurd (n l) }

    module _ (l : length v ≡ length w) (b : Bool) (t : Decides (Accepted w) b) where
      pub packs_bad : not b ≡ true → (y : Refusal) → y ≡ refusal_for NotAccepted → Packs w v (refused_by y) v
      packs_bad q y p =
          record {
            bad_length = λ x. absurd (x (passed d e));
            other_length = λ s x. absurd (x l);
            bad = λ s l x. (ap refused_by p, refl);
            packs = λ a l. absurd (refused t q a);
          }

      pub packs_done : not b ≡ false → (left : List ℕ) → left ≡ packed_words w → Packs w v done left
      packs_done q left p =
          record {
            bad_length = λ x. absurd (x (passed d e));
            other_length = λ s x. absurd (x l);
            bad = λ s l x. absurd (x (passed t q));
            packs = λ a l. (refl, p);
          }
