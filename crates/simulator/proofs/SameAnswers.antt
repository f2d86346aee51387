-- States that hold the same answer the same, whatever list of calls is made on both: from the promises, and that decisions read values only. Assumes nothing.
use Prim.Native.Nat.{ℕ}
use mathlib.Core.Path.{◌≡◌, refl, sym, ap, ap₂, subst⁻¹, ◌∙◌}
use mathlib.Core.List.{List, [], ◌∷◌}
use native.Mathlib.Omega.{arith}
use native.Mathlib.Decide.{ℕ_discrete}
use lib.ListN.{length}
use Rattle.rules.specs.Choice.{Answer}
use Rattle.rules.specs.Arguments.{Call}
use Rattle.laws.specs.Unplaced.{unplaced_state, Alike}
use Rattle.rules.specs.Contents.{Agree}
use Rattle.laws.specs.Packed.{agree_alike, alike_agree}
use Rattle.laws.proofs.Theorems.{call_reads_only_values}
use Rattle.layout.specs.Accepted.{Accepted}
use Rattle.layout.specs.Layout.{state_of}
use Rattle.layout.specs.Packed.{packed_words}
use Rattle.layout.proofs.PackedSame.{one_room}
use Rattle.layout.proofs.Theorems.{packed_accepted, packed_exactly, packed_holds, packed_size}
use Rattle.simulator.specs.Outcome.{Outcome}
use Rattle.simulator.specs.Packs.{Packs}
use Rattle.simulator.specs.Demand.{pack, Entry, on, beside, Promised, left_by, Goes}
use Rattle.simulator.specs.Same.{Asked, of_state, packing_into, asked_by, Back, answer, answer_and_block, back_from, asked, answered}

-- ---- what was asked, read back: two lists that ask the same begin with the same call and go on the same

abbrev first_asked : Asked → List Asked → Asked
first_asked d [] = d
first_asked d (x ∷ l) = x

abbrev rest_asked : List Asked → List Asked
rest_asked [] = []
rest_asked (x ∷ l) = l

-- 1 where something is asked
abbrev any : List Asked → ℕ
any [] = 0
any (x ∷ l) = 1

-- the call, and the words of the second block; 1 for a call beside the state
abbrev call_in : Call → Asked → Call
call_in d (of_state c) = c
call_in d (packing_into v) = d

abbrev block_in : Asked → List ℕ
block_in (of_state c) = []
block_in (packing_into v) = v

abbrev beside_it : Asked → ℕ
beside_it (of_state c) = 0
beside_it (packing_into v) = 1

-- ---- one call

-- accepted words of one length, whose states differ in record numbers alone
pub record Kin (w v : List ℕ) : Type 0 where
  pub one : Accepted w
  pub other : Accepted v
  pub size : length w ≡ length v
  pub state : Alike (state_of w) (state_of v)

-- states that agree, in blocks of one length
pub agree_kin : (w v : List ℕ) → Accepted w → Accepted v → length w ≡ length v → Agree (state_of w) (state_of v) → Kin w v
agree_kin w v a b n g = record { one = a; other = b; size = n; state = agree_alike (state_of w) (state_of v) g (one_room w v n) }

-- a state and its packed form
pub packed_kin : (w : List ℕ) → Accepted w → Kin w (packed_words w)
packed_kin w a =
    let k = agree_kin (packed_words w) w (packed_accepted w a) a (packed_size w a) (packed_holds w a) in
    record { one = a; other = k.one; size = sym k.size; state = sym k.state }

-- one on the state: the same answer, and words that are so again
pub kin_call :
    (w v : List ℕ) (c : Call) (a b : Answer) (left right : List ℕ) → Kin w v → Outcome w c a left → Outcome v c b right → (a ≡ b) × Kin left right
kin_call w v c a b left right k o p =
    let l = o.state k.one in
    let r = p.state k.other in
    let h = call_reads_only_values (state_of w) (state_of v) c k.state in (
      o.answer k.one ∙ h.0 ∙ sym (p.answer k.other),
      record {
        one = l.accepted;
        other = r.accepted;
        size = l.size ∙ k.size ∙ sym r.size;
        state = ap unplaced_state l.state ∙ h.1 ∙ sym (ap unplaced_state r.state);
      },
    )

-- packing: the same answer, and the same second block
same_packing :
    (w v x : List ℕ) (a b : Answer) (left right : List ℕ) → Kin w v → Packs w x a left → Packs v x b right → (a ≡ b) × (left ≡ right)
same_packing w v x a b left right k o p = go (ℕ_discrete (length x) (length w))
  where
    one : packed_words w ≡ packed_words v
    one = (packed_exactly w v k.one k.other k.size).1 (alike_agree (state_of w) (state_of v) k.state)

    go : Dec (length x ≡ length w) → (a ≡ b) × (left ≡ right)
    go (yes e) =
        let m = o.packs k.one e in
        let n = p.packs k.other (e ∙ k.size) in
        (m.0 ∙ sym n.0, m.1 ∙ one ∙ sym n.1)
    go (no d) =
        let m = o.other_length k.one.size d in
        let n = p.other_length k.other.size (λ e. d (e ∙ sym k.size)) in
        (m.0 ∙ sym n.0, m.1 ∙ sym n.1)

same_entry :
    (w v : List ℕ) (x y : Entry) → Kin w v → Promised w x → Promised v y → asked_by x ≡ asked_by y → (back_from x ≡ back_from y) × Kin (left_by w x) (left_by v y)
same_entry w v (on x) (on y) k o p e =
    let ec : x.call ≡ y.call = ap (call_in x.call) e in
    let s = kin_call w v x.call x.answer y.answer x.left y.left k o (subst⁻¹ (λ (c : Call). Outcome v c y.answer y.left) ec p) in
    (ap answer s.0, s.1)
same_entry w v (on x) (beside (pack n u) b) k o p e = let z : ◌≡◌ {A = ℕ} 0 1 = ap beside_it e in absurd (omega (arith, z))
same_entry w v (beside (pack n t) a) (on y) k o p e = let z : ◌≡◌ {A = ℕ} 1 0 = ap beside_it e in absurd (omega (arith, z))
same_entry w v (beside (pack n t) a) (beside (pack m u) b) k o p e =
    let en : n ≡ m = ap block_in e in
    let s = same_packing w v n a b t u k o (subst⁻¹ (λ (x : List ℕ). Packs v x b u) en p) in
    (ap₂ answer_and_block s.0 s.1, k)

-- ---- the list

pub same_list : (w v : List ℕ) (l m : List Entry) → Kin w v → Goes w l → Goes v m → asked l ≡ asked m → answered l ≡ answered m
same_list w v [] [] k g h e = refl
same_list w v [] (y ∷ m) k g h e = let z : ◌≡◌ {A = ℕ} 0 1 = ap any e in absurd (omega (arith, z))
same_list w v (x ∷ l) [] k g h e = let z : ◌≡◌ {A = ℕ} 1 0 = ap any e in absurd (omega (arith, z))
same_list w v (x ∷ l) (y ∷ m) k g h e =
    let s = same_entry w v x y k g.0 h.0 (ap (first_asked (asked_by x)) e) in
    ap₂ (λ (b : Back) (n : List Back). b ∷ n) s.0 (same_list (left_by w x) (left_by v y) l m s.1 g.1 h.1 (ap rest_asked e))
