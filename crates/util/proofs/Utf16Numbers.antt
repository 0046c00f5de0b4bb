-- What the answer of `bytes_to_utf16_ascii` tells in document 01's numbers: 11 exactly for an odd count of bytes (`utf16_odd`), and with 0
-- the text's length (`utf16_length`).
-- Assumes nothing.
use Rattle.std.proofs.Common.{◌≡◌, ℕ, ◌/◌, ◌%◌, Bool, true, false, cond, eqb, ltb, ◌↔◌, Ok, Err, List, length, refl, arith, eq-eqb, eqb-true}
use Rattle.util.specs.Utf16.{utf16_text, utf16_answer, utf16_ascii_number, utf16_ascii_length}
use Rattle.util.specs.declared.utf16.Utf16Error.TheVariants.{OddLength, NoRoom}

module _ (bytes : List ℕ) (room : ℕ) where
  pub utf16_odd : utf16_ascii_number (utf16_answer bytes room) ≡ 11 ↔ (length bytes % 2 ≡ 1)
  unfolding utf16_answer
  utf16_odd = (go (eqb (length bytes % 2) 1) (ltb room (length bytes / 2)) refl, λ odd. rw (eq-eqb (length bytes % 2) 1 odd))
    where
      go : (odd small : Bool) → eqb (length bytes % 2) 1 ≡ odd
          → utf16_ascii_number (cond odd (Err OddLength) (cond small (Err NoRoom) (Ok (length (utf16_text bytes))))) ≡ 11 → length bytes % 2 ≡ 1
      go true small e h = eqb-true _ 1 e
      go false true e h = absurd (omega arith)
      go false false e h = absurd (omega arith)

  pub utf16_length : utf16_ascii_number (utf16_answer bytes room) ≡ 0 → utf16_ascii_length (utf16_answer bytes room) ≡ length (utf16_text bytes)
  unfolding utf16_answer
  utf16_length = go (eqb (length bytes % 2) 1) (ltb room (length bytes / 2))
    where
      go : (odd small : Bool) → utf16_ascii_number (cond odd (Err OddLength) (cond small (Err NoRoom) (Ok (length (utf16_text bytes))))) ≡ 0
          → utf16_ascii_length (cond odd (Err OddLength) (cond small (Err NoRoom) (Ok (length (utf16_text bytes))))) ≡ length (utf16_text bytes)
      go true small h = absurd (omega arith)
      go false true h = absurd (omega arith)
      go false false h = refl
