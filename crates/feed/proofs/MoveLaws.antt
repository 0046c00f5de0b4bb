-- What a byte changes and what it leaves, whatever the state: a piece moves the count of bytes by its length, and keeps the announced
-- size, the buffer's length and the kinds (`steps_move`); and bytes never look at the register, so another register stays beside them
-- (`steps_beside`).
-- Assumes nothing.
use mathlib.Core.Path.{◌≡◌, refl, ap, ◌∙◌}
use mathlib.Core.Bool.{Bool, true, false, cond}
use mathlib.Core.List.{List, [], ◌∷◌}
use Prim.Native.Nat.{ℕ, ◌+◌, ◌-◌}
use native.Mathlib.Omega.{arith}
use lib.Dec.{ltb, eqb}
use lib.ListN.{length, get_or, set}
use lib.Seq.{length-sets}
use Rattle.std.specs.Prelude.{Result, Ok, Err}
use Rattle.entry.specs.declared.parse.DromEntry.{DromEntry}
use Rattle.entry.specs.declared.refusal.Refusal.{Refusal}
use Rattle.entry.specs.Decode.{number_of, decode_of}
use Rattle.record.specs.Record.{record_of}
use Rattle.drom.specs.Header.{body_start}
use Rattle.feed.specs.Run.{Run, run, with_core, with_pending, counted, judged, pending_entry, pending_at, ended_by, ended, kept, begun, headed, step_of, steps}

-- ---- beside the register

abbrev pub with_register : Run → ℕ → Run
with_register r c =
    with_core r
    record {
      announced = r.core.announced;
      taken = r.core.taken;
      refusal = r.core.refusal;
      offset = r.core.offset;
      register = c;
      fill = r.core.fill;
      count = r.core.count;
      written = r.core.written;
    }

either : (c : ℕ) (t : Bool) (a b a' b' : Run) → a' ≡ with_register a c → b' ≡ with_register b c → cond t a' b' ≡ with_register (cond t a b) c
either c true a b a' b' p q = p
either c false a b a' b' p q = q

ended_by_beside : (r : Run) (c : ℕ) (d : Result DromEntry Refusal) → ended_by (with_register r c) d ≡ with_register (ended_by r d) c
ended_by_beside r c (Ok e) = refl
ended_by_beside r c (Err n) = refl

ended_beside : (r : Run) (c : ℕ) → ended (with_register r c) ≡ with_register (ended r) c
unfolding ended
ended_beside r c = ended_by_beside r c (decode_of (get_or r.kinds (number_of (pending_entry r)) 0) (pending_entry r))

kept_beside : (r : Run) (c b : ℕ) → kept (with_register r c) b ≡ with_register (kept r b) c
unfolding kept
kept_beside r c b = either c (ltb (r.core.fill + 1) (get_or (set r.pending r.core.fill b) 0 0)) _ _ _ _ refl (ended_beside (with_pending r r.core (set r.pending r.core.fill b)) c)

begun_beside : (r : Run) (c at b : ℕ) → begun (with_register r c) at b ≡ with_register (begun r at b) c
unfolding begun
begun_beside r c at b = either c (eqb b 0) _ _ _ _ refl (either c (ltb (r.core.announced - at) b) _ _ _ _ refl (kept_beside r c b))

headed_beside : (r : Run) (c at b : ℕ) → headed (with_register r c) at b ≡ with_register (headed r at b) c
unfolding headed judged
headed_beside r c at b = go (eqb at 15)
  where
    h : List ℕ
    h = set r.header at b

    go : (t : Bool)
        → run (cond t (judged (with_register r c).core h) (with_register r c).core) h r.pending r.kinds r.buffer
        ≡ with_register (run (cond t (judged r.core h) r.core) h r.pending r.kinds r.buffer) c
    go true = refl
    go false = refl

step_beside : (r : Run) (c b : ℕ) → step_of (with_register r c) b ≡ with_register (step_of r b) c
unfolding step_of
step_beside r c b =
    let n : Run = with_core r (counted r.core) in
    either c (eqb r.core.refusal 0) _ _ _ _
    (either c (ltb r.core.taken 16) _ _ _ _ (headed_beside n c r.core.taken b)
    (either c (ltb r.core.taken (body_start r.header)) _ _ _ _ refl
    (either c (eqb r.core.fill 0) _ _ _ _ (begun_beside n c r.core.taken b) (kept_beside n c b))))
    refl

pub steps_beside : (r : Run) (c : ℕ) (xs : List ℕ) → steps (with_register r c) xs ≡ with_register (steps r xs) c
unfolding steps
steps_beside r c [] = refl
steps_beside r c (x ∷ xs) = ap (λ (s : Run). steps s xs) (step_beside r c x) ∙ steps_beside (step_of r x) c xs

-- ---- what moves

abbrev pub Moved : Run → ℕ → Run → Type 0
Moved r n s = (s.core.taken ≡ r.core.taken + n) × (s.core.announced ≡ r.core.announced) × (length s.buffer ≡ length r.buffer) × (s.kinds ≡ r.kinds)

abbrev Kept : Run → Run → Type 0
Kept r s = (s.core.taken ≡ r.core.taken) × (s.core.announced ≡ r.core.announced) × (length s.buffer ≡ length r.buffer) × (s.kinds ≡ r.kinds)

either_kept : (r : Run) (t : Bool) (a b : Run) → Kept r a → Kept r b → Kept r (cond t a b)
either_kept r true a b p q = p
either_kept r false a b p q = q

ended_by_keeps : (r : Run) (d : Result DromEntry Refusal) → Kept r (ended_by r d)
ended_by_keeps r (Ok e) = (refl, refl, length-sets r.buffer r.core.written (record_of (pending_at r.core) (pending_entry r) e), refl)
ended_by_keeps r (Err n) = (refl, refl, refl, refl)

ended_keeps : (r : Run) → Kept r (ended r)
unfolding ended
ended_keeps r = ended_by_keeps r (decode_of (get_or r.kinds (number_of (pending_entry r)) 0) (pending_entry r))

kept_keeps : (r : Run) (b : ℕ) → Kept r (kept r b)
unfolding kept
kept_keeps r b =
    either_kept r (ltb (r.core.fill + 1) (get_or (set r.pending r.core.fill b) 0 0)) _ _ (refl, refl, refl, refl)
    (ended_keeps (with_pending r r.core (set r.pending r.core.fill b)))

begun_keeps : (r : Run) (at b : ℕ) → Kept r (begun r at b)
unfolding begun
begun_keeps r at b =
    either_kept r (eqb b 0) _ _ (refl, refl, refl, refl) (either_kept r (ltb (r.core.announced - at) b) _ _ (refl, refl, refl, refl) (kept_keeps r b))

headed_keeps : (r : Run) (at b : ℕ) → Kept r (headed r at b)
unfolding headed judged
headed_keeps r at b = go (eqb at 15)
  where
    h : List ℕ
    h = set r.header at b

    go : (t : Bool) → Kept r (run (cond t (judged r.core h) r.core) h r.pending r.kinds r.buffer)
    go true = (refl, refl, refl, refl)
    go false = (refl, refl, refl, refl)

pub step_moves : (r : Run) (b : ℕ) → Moved r 1 (step_of r b)
unfolding step_of
step_moves r b =
    let n : Run = with_core r (counted r.core) in
    either_kept n (eqb r.core.refusal 0) _ _
    (either_kept n (ltb r.core.taken 16) _ _ (headed_keeps n r.core.taken b)
    (either_kept n (ltb r.core.taken (body_start r.header)) _ _ (refl, refl, refl, refl)
    (either_kept n (eqb r.core.fill 0) _ _ (begun_keeps n r.core.taken b) (kept_keeps n b))))
    (refl, refl, refl, refl)

pub steps_move : (r : Run) (xs : List ℕ) → Moved r (length xs) (steps r xs)
unfolding steps
steps_move r [] = (omega arith, refl, refl, refl)
steps_move r (x ∷ xs) =
    let h = step_moves r x in
    let g = steps_move (step_of r x) xs in
    (omega (arith, h.0, g.0), g.1 ∙ h.1, g.2 ∙ h.2, g.3 ∙ h.3)
