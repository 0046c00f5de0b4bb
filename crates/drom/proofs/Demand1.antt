-- Demand 1, of a whole DROM: after a refusal the records before it stay, and every other byte of the record buffer is as lent (`records_stay`,
-- `others_stay`); a call refused for its list, its buffer or its header changes nothing (`nothing_written`). 16,368 bytes always suffice
-- (`records_fit_lem`), and no second report and buffer meet the promise of `read` (`read_one`).
-- Assumes nothing.
use mathlib.Core.Path.{◌≡◌, refl, sym, ap, ◌∙◌}
use mathlib.Core.Bool.{Bool, true, false, cond}
use mathlib.Core.List.{List, [], ◌∷◌, flatten}
use Prim.Native.Nat.{ℕ, zero, suc, ◌+◌, ◌-◌, ◌*◌, ◌<◌, ◌≤◌}
use native.Mathlib.Nat.{le_refl, not-suc-le-zero}
use native.Mathlib.Omega.{arith}
use borrow.Author.Tests.{eqb-true}
use lib.Dec.{eqb}
use lib.ListN.{length, get_or, take, drop, length-append, length-drop}
use lib.Seq.{take-append_seam, get_or-append-add, get_or-drop, length-take-le}
use Rattle.bits.proofs.OneAnswer.{one_answer}
use Rattle.std.specs.Prelude.{Result, Ok, Err}
use Rattle.entry.specs.declared.parse.DromEntry.{DromEntry}
use Rattle.entry.specs.declared.refusal.Refusal.{Refusal}
use Rattle.entry.specs.Adapters.{kind_in}
use Rattle.entry.specs.Decode.{number_of}
use Rattle.record.specs.Record.{record_of}
use Rattle.record.proofs.WriteLaws.{written_room}
use Rattle.drom.specs.declared.reader.Report.{Report}
use Rattle.drom.specs.Header.{body_start}
use Rattle.drom.specs.Walk.{front_of, and_then, walk_of}
use Rattle.drom.specs.Report.{refusal_of, walk_in, report_of, records_of, leaves_of}
use Rattle.drom.proofs.HeaderLaws.{sizes, opened}
use Rattle.drom.proofs.ReportLaws.{report_walked, leaves_refused}
use Rattle.drom.proofs.WalkLaws.{front_inside, walk_end, walk_on}

-- ---- how much a walk writes

module _ (kinds : ℕ → ℕ) where
  on_room : (at L : ℕ) (bs : List ℕ) → (0 < L → length (flatten (walk_of kinds (at + L) (drop L (L ∷ bs))).records) ≤ 4 * length (drop L (L ∷ bs)))
      → (d : Result DromEntry Refusal) → front_of kinds L (L ∷ bs) ≡ d
      → length (flatten (and_then at (take L (L ∷ bs)) d (walk_of kinds (at + L) (drop L (L ∷ bs)))).records) ≤ 4 * length (L ∷ bs)
  unfolding flatten
  on_room at L bs ih (Ok e) f =
      let in_front = front_inside kinds L (L ∷ bs) e f in
      let piece : List ℕ = take L (L ∷ bs) in
      let rest : List ℕ = flatten (walk_of kinds (at + L) (drop L (L ∷ bs))).records in
      omega (
        arith,
        length-append (record_of at piece e) rest,
        written_room piece (kinds (number_of piece)) at e in_front.2,
        length-take-le L (L ∷ bs) in_front.1,
        length-drop L (L ∷ bs),
        ih in_front.0,
      )
  on_room at L bs ih (Err r) f = omega arith

  walk_room_by : (n at : ℕ) (bs : List ℕ) → length bs ≤ n → length (flatten (walk_of kinds at bs).records) ≤ 4 * length bs
  unfolding flatten
  walk_room_by zero at [] h = rw (walk_end kinds at) (omega arith)
  walk_room_by zero at (L ∷ bs) h = absurd (not-suc-le-zero h)
  walk_room_by (suc n) at [] h = rw (walk_end kinds at) (omega arith)
  walk_room_by (suc n) at (L ∷ bs) h =
      rw (walk_on kinds at L bs)
      (on_room at L bs (λ p. walk_room_by n (at + L) (drop L (L ∷ bs)) (omega (arith, length-drop L (L ∷ bs)))) (front_of kinds L (L ∷ bs)) refl)

  -- the records of a body have at most four bytes for each of its own
  pub walk_room : (at : ℕ) (bs : List ℕ) → length (flatten (walk_of kinds at bs).records) ≤ 4 * length bs
  walk_room at bs = walk_room_by (length bs) at bs (le_refl _)

-- ---- the theorems

-- the records always fit into 16,368 bytes
pub records_fit_lem : (list drom : List ℕ) (room : ℕ) → length (records_of list drom room) ≤ 16368
unfolding records_of
records_fit_lem list drom room = go (eqb (refusal_of list drom room) 0) refl
  where
    go : (t : Bool) → eqb (refusal_of list drom room) 0 ≡ t → length (cond t (flatten (walk_in (kind_in list) drom).records) []) ≤ 16368
    go true e =
        let s = sizes drom (opened list drom room (eqb-true (refusal_of list drom room) 0 e)).1 in
        omega (arith, walk_room (kind_in list) (body_start drom) (drop (body_start drom) drom), length-drop (body_start drom) drom, s.from, s.most)
    go false e = omega arith

module _ (list drom buffer : List ℕ) where
  -- the records stand at the buffer's front
  pub records_stay : take (length (records_of list drom (length buffer))) (leaves_of list drom buffer) ≡ records_of list drom (length buffer)
  records_stay = take-append_seam (records_of list drom (length buffer)) (drop (length (records_of list drom (length buffer))) buffer)

  -- and behind them every byte is as lent
  pub others_stay : (i : ℕ) → length (records_of list drom (length buffer)) ≤ i → get_or (leaves_of list drom buffer) i 0 ≡ get_or buffer i 0
  others_stay i h =
      let R : List ℕ = records_of list drom (length buffer) in
      let j : ℕ = i - length R in
      let e : i ≡ length R + j = omega arith in
      ap (λ (k : ℕ). get_or (leaves_of list drom buffer) k 0) e
      ∙ get_or-append-add R (drop (length R) buffer) j 0
      ∙ get_or-drop (length R) buffer j 0
      ∙ ap (λ (k : ℕ). get_or buffer k 0) (sym e)

  -- the report counts the bytes that were written
  pub bytes_counted : refusal_of list drom (length buffer) ≡ 0 → (report_of list drom (length buffer)).bytes ≡ length (records_of list drom (length buffer))
  unfolding records_of
  bytes_counted h = rw (report_walked list drom (length buffer) h, h)

  -- refused for 1 to 5, a call writes nothing
  pub nothing_written : (refusal_of list drom (length buffer) ≡ 0 → ⊥) → leaves_of list drom buffer ≡ buffer
  nothing_written = leaves_refused list drom buffer

-- two reports and buffers that meet the promise of `read` are the same
pub read_one : (list drom before : List ℕ) {r s : Report} {after other : List ℕ}
    → (r ≡ report_of list drom (length before)) × (after ≡ leaves_of list drom before)
    → (s ≡ report_of list drom (length before)) × (other ≡ leaves_of list drom before)
    → (r ≡ s) × (after ≡ other)
read_one list drom before p q = (one_answer p.0 q.0, one_answer p.1 q.1)
