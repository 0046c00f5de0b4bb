-- Several bytes at once: those that are only counted after a refusal, those of an entry that is not whole yet, and all of an entry.
-- Assumes nothing.
use Prim.Native.Nat.{ℕ, zero, suc, ◌+◌, ◌-◌, ◌*◌, ◌≤◌, ◌<◌}
use mathlib.Core.Path.{◌≡◌, refl, sym, ap, ap₂, ◌∙◌}
use mathlib.Core.List.{List, [], ◌∷◌, ◌++◌}
use mathlib.Core.Bool.{Bool, true, false}
use native.Mathlib.Omega.{arith}
use native.Mathlib.Numerals.{add-one}
use lib.ListN.{length, get_or, set, take, drop}
use lib.Seq.{sets, sets-eq, take_at, take-suc, length-take-le, get_or-set_same, get_or-set_other}
use lib.Dec.{eqb}
use borrow.Author.Tests.{eqb-true, eqb-false}
use Rattle.entry.specs.Decode.{number_of}
use Rattle.record.specs.Write.{write_answer, write_leaves}
use Rattle.std.specs.Prelude.{Ok}
use Rattle.drom.specs.Header.{body_start}
use Rattle.feed.specs.declared.feeding.Core.{Core}
use Rattle.feed.specs.Run.{Run, run, with_pending, recorded, pending_entry, pending_at, ended, step_of, steps}
use Rattle.feed.proofs.StepLaws.{next, kept_more, kept_last, step_refused, step_first, step_kept, steps_nil, steps_cons, steps_append}
use Rattle.feed.proofs.EndLaws.{part_of, with_part, written_record}

-- ---- stores

pub sets_append : (l : List ℕ) (i : ℕ) (a b : List ℕ) → sets l i (a ++ b) ≡ sets (sets l i a) (i + length a) b
sets_append l i [] b = let e : i + 0 ≡ i = omega arith in rw e
sets_append l i (x ∷ a) b =
    let e : i + suc (length a) ≡ suc i + length a = omega arith in
    rw e (sets_append (set l i x) (suc i) a b)

pub take_sets : (p e : List ℕ) → length e ≤ length p → take (length e) (sets p 0 e) ≡ e
take_sets p e h =
    let k : 0 + length e ≤ length p = omega arith in
    rw (sets-eq e p 0 k, take_at e (drop (0 + length e) p) (length e) refl)

keep : (u v : List ℕ) (j : ℕ) → 0 < j → get_or (sets u j v) 0 0 ≡ get_or u 0 0
keep u [] j z = refl
keep u (y ∷ v) j z = keep (set u j y) v (suc j) (omega arith) ∙ get_or-set_other u j 0 y 0 (λ w. omega arith)

head_sets : (p : List ℕ) (x : ℕ) (e : List ℕ) → 0 < length p → get_or (sets p 0 (x ∷ e)) 0 0 ≡ x
head_sets p x e h = keep (set p 0 x) e 1 (omega arith) ∙ get_or-set_same p 0 x 0 h

-- ---- a run that differs in what was taken and what is pending

abbrev pub far : Core → ℕ → ℕ → Core
far c taken fill =
    record {
      announced = c.announced;
      taken = taken;
      refusal = c.refusal;
      offset = c.offset;
      register = c.register;
      fill = fill;
      count = c.count;
      written = c.written;
    }

abbrev pub placed : Run → ℕ → ℕ → List ℕ → Run
placed r taken fill pending = with_pending r (far r.core taken fill) pending

placed_same : (r : Run) (n n' k k' : ℕ) (p p' : List ℕ) → n ≡ n' → k ≡ k' → p ≡ p' → placed r n k p ≡ placed r n' k' p'
placed_same r n n' k k' p p' a b c = ap₂ (λ (x y : ℕ). placed r x y p) a b ∙ ap (placed r n' k') c

-- ---- after a refusal bytes are only counted

pub passes : (r : Run) (xs : List ℕ) → (r.core.refusal ≡ 0 → ⊥) → steps r xs ≡ placed r (r.core.taken + length xs) r.core.fill r.pending
passes r [] h = steps_nil r ∙ placed_same r _ _ _ _ _ _ (omega arith) refl refl
passes r (x ∷ xs) h =
    steps_cons r x xs ∙ ap (λ (s : Run). steps s xs) (step_refused r x h) ∙ passes (next r) xs h ∙ placed_same r _ _ _ _ _ _ (omega arith) refl refl

-- ---- bytes of an entry that is not whole yet

pub holds : (r : Run) (ys : List ℕ) (l : ℕ) → r.core.refusal ≡ 0 → 16 ≤ r.core.taken → body_start r.header ≤ r.core.taken → 0 < r.core.fill
    → l ≡ get_or r.pending 0 0 → r.core.fill + length ys < l
    → steps r ys ≡ placed r (r.core.taken + length ys) (r.core.fill + length ys) (sets r.pending r.core.fill ys)
holds r [] l h u v f e k = steps_nil r ∙ placed_same r _ _ _ _ _ _ (omega arith) (omega arith) refl
holds r (y ∷ ys) l h u v f e k =
    let p : List ℕ = set r.pending r.core.fill y in
    let d : l ≡ get_or p 0 0 = e ∙ sym (get_or-set_other r.pending r.core.fill 0 y 0 (λ w. omega arith)) in
    let s : Run = placed r (r.core.taken + 1) (r.core.fill + 1) p in
    steps_cons r y ys ∙ ap (λ (q : Run). steps q ys) (step_kept r y h u v (λ w. omega arith) ∙ kept_more (next r) y l d (omega arith))
    ∙ holds s ys l h (omega arith) (omega arith) (omega arith) d (omega arith)
    ∙ placed_same r _ _ _ _ _ _ (omega arith) (omega arith) (ap (λ (j : ℕ). sets p j ys) (add-one r.core.fill))

-- ---- a whole entry

-- between two entries
pub record Between (r : Run) : Type 0 where
  pub going : r.core.refusal ≡ 0
  pub empty : r.core.fill ≡ 0
  pub late : 16 ≤ r.core.taken
  pub past : body_start r.header ≤ r.core.taken
  pub long : length r.pending ≡ 255

-- the first bytes of an entry of length l, but not all
pub entering : (r : Run) (l : ℕ) (t : List ℕ) (m : ℕ) → Between r → l ≤ r.core.announced - r.core.taken → m < l → m ≤ length (l ∷ t)
    → steps r (take m (l ∷ t)) ≡ placed r (r.core.taken + m) m (sets r.pending 0 (take m (l ∷ t)))
entering r l t zero q a k n = steps_nil r ∙ placed_same r _ _ _ _ _ _ (omega arith) q.empty refl
entering r l t (suc m) q a k n =
    let p : List ℕ = set r.pending 0 l in
    let at : set r.pending r.core.fill l ≡ p = ap (λ (j : ℕ). set r.pending j l) q.empty in
    let d : l ≡ get_or p 0 0 = sym (get_or-set_same r.pending 0 l 0 (omega (arith, q.long))) in
    let d' : l ≡ get_or (set r.pending r.core.fill l) 0 0 = d ∙ ap (λ (v : List ℕ). get_or v 0 0) (sym at) in
    let s : Run = placed r (r.core.taken + 1) 1 p in
    let size : length (take m t) ≡ m = length-take-le m t (omega arith) in
    steps_cons r l (take m t)
    ∙ ap (λ (v : Run). steps v (take m t)) (step_first r l q.going q.late q.past q.empty (λ w. omega arith) a ∙ kept_more (next r) l l d' (omega (arith, q.empty)))
    ∙ ap (λ (v : Run). steps v (take m t)) (placed_same r _ _ _ _ _ _ refl (omega (arith, q.empty)) at)
    ∙ holds s (take m t) l q.going (omega (arith, q.late)) (omega (arith, q.past)) (omega arith) d (omega arith)
    ∙ placed_same r _ _ _ _ _ _ (omega arith) (omega arith) refl

-- the byte that makes an entry whole, at whichever place
last_byte : (r : Run) (y l : ℕ) → r.core.refusal ≡ 0 → 16 ≤ r.core.taken → body_start r.header ≤ r.core.taken → (r.core.fill ≡ 0 → y ≡ l) → 0 < l
    → l ≤ r.core.fill + 1 → l ≤ r.core.announced - (r.core.taken - r.core.fill) → l ≡ get_or (set r.pending r.core.fill y) 0 0
    → step_of r y ≡ ended (placed r (r.core.taken + 1) r.core.fill (set r.pending r.core.fill y))
last_byte r y l h u v f p k a d = go (eqb r.core.fill 0) refl
  where
    go : (t : Bool) → eqb r.core.fill 0 ≡ t → step_of r y ≡ ended (placed r (r.core.taken + 1) r.core.fill (set r.pending r.core.fill y))
    go true e =
        let z = eqb-true r.core.fill 0 e in
        let is = f z in
        step_first r y h u v z (λ w. omega arith) (omega arith) ∙ kept_last (next r) y l d k
    go false e = step_kept r y h u v (eqb-false r.core.fill 0 e) ∙ kept_last (next r) y l d k

-- all bytes of an entry e of length l
module _ (r : Run) (l : ℕ) (t : List ℕ) (q : Between r) (z : 0 < l) (b : l < 256) (a : l ≤ r.core.announced - r.core.taken) (n : l ≤ length (l ∷ t)) where
  abbrev m : ℕ
  m = l - 1

  abbrev e : List ℕ
  e = take l (l ∷ t)

  size : length e ≡ l
  size = length-take-le l (l ∷ t) n

  snoc : e ≡ take m (l ∷ t) ++ (get_or (l ∷ t) m 0 ∷ [])
  snoc = let lm : l ≡ suc m = omega arith in ap (λ (k : ℕ). take k (l ∷ t)) lm ∙ take-suc (l ∷ t) m 0 (omega arith)

  cons : e ≡ l ∷ take m t
  cons = let lm : l ≡ suc m = omega arith in ap (λ (k : ℕ). take k (l ∷ t)) lm

  -- the run as the entry is whole
  abbrev pub whole : Run
  whole = placed r (r.core.taken + l) m (sets r.pending 0 e)

  stored : set (sets r.pending 0 (take m (l ∷ t))) m (get_or (l ∷ t) m 0) ≡ sets r.pending 0 e
  stored =
      let k : 0 + length (take m (l ∷ t)) ≡ m = omega (arith, length-take-le m (l ∷ t) (omega arith)) in
      sym (ap (sets r.pending 0) snoc ∙ sets_append r.pending 0 (take m (l ∷ t)) (get_or (l ∷ t) m 0 ∷ [])
      ∙ ap (λ (j : ℕ). set (sets r.pending 0 (take m (l ∷ t))) j (get_or (l ∷ t) m 0)) k)

  front : l ≡ get_or (sets r.pending 0 e) 0 0
  front = sym (ap (λ (v : List ℕ). get_or (sets r.pending 0 v) 0 0) cons ∙ head_sets r.pending l (take m t) (omega (arith, q.long)))

  pub wholly : steps r e ≡ ended whole
  wholly =
      let s : Run = placed r (r.core.taken + m) m (sets r.pending 0 (take m (l ∷ t))) in
      let y : ℕ = get_or (l ∷ t) m 0 in
      let one : m ≡ 0 → y ≡ l = λ w. ap (λ (j : ℕ). get_or (l ∷ t) j 0) w in
      ap (steps r) snoc ∙ steps_append r (take m (l ∷ t)) (y ∷ [])
      ∙ ap (λ (v : Run). steps v (y ∷ [])) (entering r l t m q a (omega arith) (omega arith))
      ∙ steps_cons s y [] ∙ steps_nil (step_of s y)
      ∙ last_byte s y l q.going (omega (arith, q.late)) (omega (arith, q.past)) one z (omega arith) (omega arith) (front ∙ ap (λ (v : List ℕ). get_or v 0 0) (sym stored))
      ∙ ap ended (placed_same r _ _ _ _ _ _ (omega arith) refl stored)

  pub whole_entry : pending_entry whole ≡ e
  whole_entry =
      let k : m + 1 ≡ length e = omega (arith, size) in
      ap (λ (j : ℕ). take j (sets r.pending 0 e)) k ∙ take_sets r.pending e (omega (arith, q.long, size))

  pub whole_at_lem : pending_at whole.core ≡ r.core.taken
  whole_at_lem = omega arith

  -- an entry whose record was written at once to the part of the buffer behind the others
  pub at_once : (kind n : ℕ) (part : List ℕ) → kind ≡ get_or r.kinds (number_of e) 0 → r.core.written + 4 * l ≤ length r.buffer
      → part ≡ write_leaves e kind r.core.taken (part_of r.buffer r.core.written)
      → write_answer e kind r.core.taken (length (part_of r.buffer r.core.written)) ≡ Ok n
      → (n ≤ 4 * l) × (steps r e ≡ run (recorded (far r.core (r.core.taken + l) m) n) r.header (sets r.pending 0 e) r.kinds (with_part r.buffer r.core.written part))
  at_once kind n part listed room leaves answer =
      let lent : whole.core.written + 4 * l ≤ length whole.buffer = room in
      let told = written_record whole kind part (rw whole_entry listed) (rw whole_entry (omega (arith, size, lent))) (rw (whole_entry, whole_at_lem) leaves) n (rw (whole_entry, whole_at_lem) answer) in
      (rw (whole_entry, size) at told.0, wholly ∙ told.1)
