-- What an accepted header says of sizes: "4,108 bytes with length 4,095 passes the header; 4,109 never does"; and that a header's values are
-- those of the first 16 bytes.
-- Assumes nothing.
use mathlib.Core.Path.{◌≡◌, refl, sym}
use mathlib.Core.Bool.{Bool, true, false, cond, not, ◌&&◌}
use mathlib.Core.List.{List, [], ◌∷◌}
use Prim.Native.Nat.{ℕ, ◌+◌, ◌%◌, ◌≤◌, ◌<◌}
use native.Mathlib.Omega.{arith}
use borrow.Author.Tests.{ltb-false, eqb-true, le-ltb, eq-eqb, ne_eqb}
use lib.Dec.{ltb, eqb}
use lib.ListN.{length, take, drop}
use lib.Seq.{get_or-take, take-take}
use Rattle.std.specs.Prelude.{Result, Ok, Err}
use Rattle.std.specs.Result.{is_ok}
use Rattle.entry.specs.declared.refusal.Refusal.{Refusal}
use Rattle.entry.specs.Refusals.{refusal_number, answer_number}
use Rattle.entry.proofs.FitLaws.{some_number}
use Rattle.bits.specs.Bits.{byte}
use Rattle.drom.specs.Header.{uuid_in, length_in, is_tbt3, body_start, crc8_right, header_refusal}
use Rattle.drom.specs.HeaderValues.{values_in}
use Rattle.drom.specs.Report.{refusal_of}

-- an answer is well exactly where its number is 0
pub ok_number : {A : Type 0} (a : Result A Refusal) → is_ok a ≡ eqb (answer_number a) 0
ok_number (Ok x) = refl
ok_number (Err r) = sym (ne_eqb (refusal_number r) 0 (λ z. omega (arith, some_number r)))

pub record Sizes (drom : List ℕ) : Type 0 where
  pub least : 16 ≤ length drom
  pub from : 16 ≤ body_start drom
  pub inside : body_start drom ≤ length drom
  pub most : length drom ≤ 4108

pub sizes : (drom : List ℕ) → header_refusal drom ≡ 0 → Sizes drom
sizes drom = go (ltb (length drom) 16) (eqb (length_in drom + 13) (length drom)) (is_tbt3 drom) (ltb (length drom) 22) refl refl refl refl
  where
    go : (few same tbt3 short : Bool) → ltb (length drom) 16 ≡ few → eqb (length_in drom + 13) (length drom) ≡ same → is_tbt3 drom ≡ tbt3 → ltb (length drom) 22 ≡ short
        → ◌≡◌ {A = ℕ} (cond few 1 (cond (not same) 2 (cond (tbt3 && short) 3 0))) 0 → Sizes drom
    go true same tbt3 short f s t u h = absurd (omega arith)
    go false false tbt3 short f s t u h = absurd (omega arith)
    go false true true true f s t u h = absurd (omega arith)
    go false true true false f s t u h =
        let long = ltb-false (length drom) 22 u in
        let all = eqb-true (length_in drom + 13) (length drom) s in
        record { least = omega arith; from = rw t (omega arith); inside = rw t long; most = omega arith }
    go false true false short f s t u h =
        let long = ltb-false (length drom) 16 f in
        let all = eqb-true (length_in drom + 13) (length drom) s in
        record { least = long; from = rw t (omega arith); inside = rw t long; most = omega arith }

-- what a DROM that is refused by none of the tests before its entries says of the buffer, and of its header
pub opened : (list drom : List ℕ) (room : ℕ) → refusal_of list drom room ≡ 0 → (16368 ≤ room) × (header_refusal drom ≡ 0)
opened list drom room = go (eqb (length list % 2) 1) (ltb room 16368) refl
  where
    go : (odd small : Bool) → ltb room 16368 ≡ small → ◌≡◌ {A = ℕ} (cond odd 5 (cond small 4 (header_refusal drom))) 0 → (16368 ≤ room) × (header_refusal drom ≡ 0)
    go true small e h = absurd (omega arith)
    go false true e h = absurd (omega arith)
    go false false e h = (ltb-false room 16368 e, h)

-- "4,108 bytes with length 4,095 passes the header", whatever the other bytes are
pub longest_passes : (drom : List ℕ) → length drom ≡ 4108 → length_in drom ≡ 4095 → header_refusal drom ≡ 0
longest_passes drom n l =
    let long : 16 ≤ length drom = omega arith in
    let same : length_in drom + 13 ≡ length drom = omega arith in
    let whole : 22 ≤ length drom = omega arith in
    rw (le-ltb (length drom) 16 long, eq-eqb (length_in drom + 13) (length drom) same, le-ltb (length drom) 22 whole) (neither (is_tbt3 drom))
  where
    neither : (t : Bool) → ◌≡◌ {A = ℕ} (cond (t && false) 3 0) 0
    neither true = refl
    neither false = refl

-- "4,109 never does"
pub longer_never : (drom : List ℕ) → 4109 ≤ length drom → header_refusal drom ≡ 0 → ⊥
longer_never drom n h = omega (arith, (sizes drom h).most)

uuid_part : (drom : List ℕ) → take 8 (drop 1 (take 16 drom)) ≡ take 8 (drop 1 drom)
uuid_part [] = refl
uuid_part (x ∷ xs) = take-take 8 15 xs (omega arith)

module _ (drom : List ℕ) where
  at : (i : ℕ) → i < 16 → byte i (take 16 drom) ≡ byte i drom
  at i h = get_or-take 16 drom i 0 h

  -- the UUID's number is that of the first 16 bytes, whatever the version
  pub uuid_of : uuid_in (take 16 drom) ≡ uuid_in drom
  uuid_of = rw (at 1 (omega arith), at 2 (omega arith), at 3 (omega arith), at 4 (omega arith), at 5 (omega arith), at 6 (omega arith), at 7 (omega arith), at 8 (omega arith))

  -- a header's values are those of the first 16 bytes
  pub first_16 : values_in (take 16 drom) ≡ values_in drom
  unfolding crc8_right
  first_16 = rw (uuid_part drom, at 0 (omega arith), at 1 (omega arith), at 2 (omega arith), at 3 (omega arith), at 4 (omega arith), at 5 (omega arith), at 6 (omega arith), at 7 (omega arith), at 8 (omega arith), at 9 (omega arith), at 10 (omega arith), at 11 (omega arith), at 12 (omega arith), at 13 (omega arith), at 14 (omega arith), at 15 (omega arith))
