-- What a finish gives, case by case (`finish_outside`, `finish_missing`, `finish_refused`, `finish_told`); and that it tells what a whole reading tells,
-- where the header kept is the DROM's first 16 bytes and the register came over all of it (`told_walked`).
-- Assumes nothing.
use Prim.Native.Nat.{ℕ, ◌≤◌, ◌<◌}
use mathlib.Core.Path.{◌≡◌, refl, ap, ap₂, ◌∙◌}
use mathlib.Core.List.{List, flatten}
use mathlib.Core.Logic.{◌⊎◌, inl, inr}
use mathlib.Core.Bool.{Bool, true, false, ◌&&◌}
use native.Mathlib.Omega.{arith}
use lib.ListN.{length, take}
use lib.Dec.{leb, eqb}
use borrow.Author.Tests.{lt-ltb, le-ltb, le-leb, lt-leb}
use Rattle.util.specs.Crc.{start32, final32}
use Rattle.drom.specs.declared.header.HeaderValues.{HeaderValues}
use Rattle.drom.specs.Header.{crc32_in, crc32_right}
use Rattle.drom.specs.Walk.{Walked}
use Rattle.drom.specs.HeaderValues.{values_in}
use Rattle.drom.specs.Report.{refused_report, report_with, walked_report}
use Rattle.drom.proofs.HeaderLaws.{first_16}
use Rattle.feed.specs.declared.feeding.Core.{Core}
use Rattle.feed.specs.declared.feeding.State.{State}
use Rattle.feed.specs.Bounds.{in_bounds}
use Rattle.entry.specs.declared.refusal.Refusal.TheVariants.{Beyond, Missing, Outside}
use Rattle.entry.specs.Refusals.{refusal_number}
use Rattle.feed.specs.Feed.{register_after, told, finish_of, beyond, missing, outside}
use Rattle.feed.proofs.RegisterLaws.{register_whole}

-- ---- case by case

module _ (s : State) where
  pub finish_outside : in_bounds s.core s.header s.pending ≡ false → finish_of s ≡ refused_report 18
  unfolding finish_of
  finish_outside b = rw b

  pub finish_missing : in_bounds s.core s.header s.pending ≡ true → s.core.taken < s.core.announced → finish_of s ≡ refused_report 13
  unfolding finish_of
  finish_missing b h = rw (b, lt-ltb s.core.taken s.core.announced h)

  module _ (b : in_bounds s.core s.header s.pending ≡ true) (h : s.core.announced ≤ s.core.taken) where
    pub finish_refused : 1 ≤ s.core.refusal → s.core.refusal ≤ 5 → finish_of s ≡ refused_report s.core.refusal
    unfolding finish_of
    finish_refused p q = rw (b, le-ltb s.core.taken s.core.announced h, le-leb 1 s.core.refusal p, le-leb s.core.refusal 5 q)

    not_early : (n : ℕ) → (n ≡ 0) ⊎ (6 ≤ n) → (leb 1 n && leb n 5) ≡ false
    not_early n (inl z) = rw z
    not_early n (inr z) = rw (le-leb 1 n (omega arith), lt-leb n 5 z)

    pub finish_told : (s.core.refusal ≡ 0) ⊎ (6 ≤ s.core.refusal) → finish_of s ≡ told s.core s.header
    unfolding finish_of
    finish_told z = rw (b, le-ltb s.core.taken s.core.announced h, not_early s.core.refusal z)

-- ---- the report

crc32_right_of : (drom : List ℕ) (register : ℕ) → register ≡ register_after start32 0 drom → eqb (final32 register) (crc32_in (take 16 drom)) ≡ crc32_right drom
unfolding crc32_right
crc32_right_of drom register r = ap₂ eqb (ap final32 r ∙ register_whole drom) (ap (λ (h : HeaderValues). h.crc32) (first_16 drom))

pub told_walked : (c : Core) (drom : List ℕ) (w : Walked) → c.refusal ≡ w.number → c.offset ≡ w.offset → c.register ≡ register_after start32 0 drom
    → c.count ≡ length w.records → c.written ≡ length (flatten w.records) → told c (take 16 drom) ≡ walked_report drom w
told_walked c drom w n o r k b =
    ap₂ (λ (h : HeaderValues) (good : Bool). report_with h good c.refusal c.offset c.count c.written) (first_16 drom) (crc32_right_of drom c.register r)
    ∙ ap₂ (λ (x y : ℕ). report_with (values_in drom) (crc32_right drom) x y c.count c.written) n o
    ∙ ap₂ (λ (x y : ℕ). report_with (values_in drom) (crc32_right drom) w.number w.offset x y) k b

-- the numbers of feeding are those of the enum
pub feeding_numbers : (refusal_number Beyond ≡ beyond) × (refusal_number Missing ≡ missing) × (refusal_number Outside ≡ outside)
feeding_numbers = (refl, refl, refl)
