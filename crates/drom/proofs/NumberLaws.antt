-- Which numbers a report can have: "Order for a whole DROM: 5, 4, 1, 2, 3, then entry by entry 6, 7, 8, 9, 10, 11". They are 0 to 11
-- (`report_numbers_lem`), and 5 is told exactly for an odd list (`number_five`). The numbers that crates below write out are those named here
-- (`enum_numbers`).
-- Assumes nothing.
use mathlib.Core.Path.{◌≡◌, refl, ap, ◌∙◌}
use mathlib.Core.Bool.{Bool, true, false, cond, not, ◌&&◌}
use mathlib.Core.List.{List}
use mathlib.Core.Logic.{◌⊎◌, inl, inr, ⊎_elim, ◌↔◌}
use Prim.Native.Nat.{ℕ, ◌+◌, ◌%◌, ◌≤◌}
use native.Mathlib.Omega.{arith}
use borrow.Author.Tests.{eqb-true, eqb-false, eq-eqb, ne_eqb}
use lib.Dec.{ltb, eqb}
use lib.ListN.{length, drop}
use Rattle.std.specs.Prelude.{Err}
use Rattle.util.specs.declared.utf16.Utf16Error.TheVariants.{OddLength, NoRoom}
use Rattle.util.specs.Utf16.{utf16_ascii_number}
use Rattle.util.proofs.Rows.{split}
use Rattle.entry.specs.Adapters.{kind_in}
use Rattle.entry.specs.Decode.{odd_utf16}
use Rattle.entry.specs.declared.refusal.Refusal.TheVariants.{TooFew, WrongLength, ShortTbt3, SmallBuffer, OddList, ZeroLength, PastEnd}
use Rattle.entry.specs.Refusals.{refusal_number}
use Rattle.drom.specs.declared.reader.Report.{Report}
use Rattle.drom.specs.Numbers.{too_few, wrong_length, short_tbt3, small_buffer, odd_list, zero_length, past_end}
use Rattle.drom.specs.Header.{length_in, is_tbt3, body_start, room_for}
use Rattle.drom.specs.Report.{refusal_of, walk_in, report_of}
use Rattle.drom.proofs.ReportLaws.{report_walked, report_refused}
use Rattle.drom.proofs.Demand2.{walk_number}

-- the tests after 5
four : (small few wrong short : Bool) → cond small 4 (cond few 1 (cond wrong 2 (cond short 3 0))) ≤ 4
four true few wrong short = omega arith
four false true wrong short = omega arith
four false false true short = omega arith
four false false false true = omega arith
four false false false false = omega arith

module _ (list drom : List ℕ) (room : ℕ) where
  -- before the entries it is 5 for an odd list, and else 0 to 4
  refusal_odd : length list % 2 ≡ 1 → refusal_of list drom room ≡ 5
  refusal_odd h = rw (eq-eqb (length list % 2) 1 h)

  refusal_even : length list % 2 ≡ 0 → refusal_of list drom room ≤ 4
  refusal_even h =
      rw (ne_eqb (length list % 2) 1 (λ e. omega arith))
      (four (ltb room (room_for (length drom))) (ltb (length drom) 16) (not (eqb (length_in drom + 13) (length drom))) (is_tbt3 drom && ltb (length drom) 22))

  -- the number of a test before the entries, or the walk's
  told : ((report_of list drom room).number ≡ refusal_of list drom room) ⊎ ((report_of list drom room).number ≡ (walk_in (kind_in list) drom).number)
  told = go (eqb (refusal_of list drom room) 0) refl
    where
      go : (t : Bool) → eqb (refusal_of list drom room) 0 ≡ t
          → ((report_of list drom room).number ≡ refusal_of list drom room) ⊎ ((report_of list drom room).number ≡ (walk_in (kind_in list) drom).number)
      go true e = inr (ap (λ (r : Report). r.number) (report_walked list drom room (eqb-true _ 0 e)))
      go false e = inl (ap (λ (r : Report). r.number) (report_refused list drom room (eqb-false _ 0 e)))

  -- of an even list: 0 to 4, or 6 to 11
  number_even : length list % 2 ≡ 0 → ((report_of list drom room).number ≤ 4) ⊎ ((6 ≤ (report_of list drom room).number) × ((report_of list drom room).number ≤ 11))
  number_even h =
      ⊎_elim (λ tested. inl (omega (arith, tested, refusal_even h)))
      (λ walked. ⊎_elim (λ accepted. inl (omega arith)) (λ refused. inr (omega arith)) (walk_number (kind_in list) (body_start drom) (drop (body_start drom) drom))) told

  number_odd : length list % 2 ≡ 1 → (report_of list drom room).number ≡ 5
  number_odd h =
      let five = refusal_odd h in
      ap (λ (r : Report). r.number) (report_refused list drom room (λ z. omega arith)) ∙ five

  -- ---- the theorems

  -- a report has one of the numbers 0 to 11
  pub report_numbers_lem : (report_of list drom room).number ≤ 11
  report_numbers_lem =
      ⊎_elim (λ even. ⊎_elim (λ before. omega arith) (λ walked. walked.1) (number_even (omega arith))) (λ odd. omega (arith, number_odd (omega arith)))
      (split (length list % 2) 1)

  -- 5 exactly for an odd list, whatever the DROM and the buffer are
  pub number_five : (report_of list drom room).number ≡ 5 ↔ (length list % 2 ≡ 1)
  number_five = (
    λ five. ⊎_elim (λ even. absurd (⊎_elim (λ before. omega arith) (λ walked. omega arith) (number_even (omega arith)))) (λ odd. omega arith)
        (split (length list % 2) 1),
    number_odd,
  )

-- the numbers of the enums that crates util and entry answer are this crate's and crate entry's (`entry_numbers`, crate entry, proofs/FitLaws)
pub enum_numbers : (utf16_ascii_number (Err OddLength) ≡ odd_utf16) × (utf16_ascii_number (Err NoRoom) ≡ small_buffer)
    × (refusal_number TooFew ≡ too_few) × (refusal_number WrongLength ≡ wrong_length) × (refusal_number ShortTbt3 ≡ short_tbt3)
    × (refusal_number SmallBuffer ≡ small_buffer) × (refusal_number OddList ≡ odd_list) × (refusal_number ZeroLength ≡ zero_length)
    × (refusal_number PastEnd ≡ past_end)
enum_numbers = (refl, refl, refl, refl, refl, refl, refl, refl, refl)
