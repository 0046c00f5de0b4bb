-- A report's bytes and a state's, and a state read back from its bytes.
-- Assumes nothing.
use Prim.Native.Nat.{ℕ, zero, suc, ◌*◌, ◌/◌, ◌^◌, ◌<◌, ◌≤◌, ◌+◌}
use mathlib.Core.List.{List, [], ◌++◌, append_assoc, append-nil}
use mathlib.Core.Path.{◌≡◌, refl, sym, ap, ◌∙◌}
use native.Mathlib.Nat.{pow-succ'}
use native.Mathlib.Omega.{arith}
use lib.ListN.{length, take, drop, length-append, length-drop, take-append-drop}
use lib.Seq.{take_at, drop_at, drop-drop, length-take-le}
use Rattle.bits.specs.Front.{onto}
use Rattle.drom.specs.declared.reader.Report.{Report}
use Rattle.feed.specs.declared.feeding.Core.{Core}
use Rattle.feed.specs.declared.feeding.State.{State}
use Rattle.capi.specs.Bytes.{le, numbers_bytes, number, part}
use Rattle.capi.specs.Report.{report_size, report_numbers, report_bytes}
use Rattle.capi.specs.State.{state_size, core_bytes, state_bytes, core_in, state_in}
use Rattle.capi.proofs.ByteLaws.{numbers_length}

-- A report is 96 bytes.
pub report_length : (r : Report) → length (report_bytes r) ≡ report_size
report_length r = numbers_length (report_numbers r)

pub core_length : (c : Core) → length (core_bytes c) ≡ 53
unfolding le numbers_bytes
core_length c = refl

-- how many bytes end with each table
module _ (s : State) (h : length s.header ≡ 16) (p : length s.pending ≡ 255) where
  pub to_header : length (core_bytes s.core ++ s.header) ≡ 69
  to_header = length-append (core_bytes s.core) s.header ∙ omega (arith, core_length s.core)

  pub to_pending : length (core_bytes s.core ++ s.header ++ s.pending) ≡ 324
  to_pending = length-append (core_bytes s.core ++ s.header) s.pending ∙ omega (arith, to_header)

  pub to_kinds : length s.kinds ≡ 64 → length (state_bytes s) ≡ state_size
  to_kinds k = length-append (core_bytes s.core ++ s.header ++ s.pending) s.kinds ∙ omega (arith, to_pending)

-- Bytes that are written as they stood change nothing.
pub as_stood : (p before : List ℕ) (k : ℕ) → length p + k ≤ length before → onto p before ≡ onto (p ++ take k (drop (length p) before)) before
as_stood p before k h =
    let rest : List ℕ = drop (length p) before in
    let all : length (p ++ take k rest) ≡ length p + k = length-append p (take k rest) ∙ omega (arith, length-take-le k rest (omega (arith, length-drop (length p) before))) in
    ap (λ (l : List ℕ). p ++ l) (sym (take-append-drop k rest))
    ∙ sym (append_assoc p (take k rest) (drop k rest))
    ∙ ap (λ (l : List ℕ). (p ++ take k rest) ++ l) (drop-drop k (length p) before ∙ ap (λ (n : ℕ). drop n before) (sym all))

-- What the types say of a state: how wide its numbers and how long its tables are.
pub record Typed (s : State) : Type 0 where
  pub announced : s.core.announced < 256 ^ 8
  pub taken : s.core.taken < 256 ^ 8
  pub offset : s.core.offset < 256 ^ 8
  pub fill : s.core.fill < 256 ^ 8
  pub count : s.core.count < 256 ^ 8
  pub written : s.core.written < 256 ^ 8
  pub register : s.core.register < 256 ^ 4
  pub refusal : s.core.refusal < 256 ^ 1
  pub header : length s.header ≡ 16
  pub pending : length s.pending ≡ 255
  pub kinds : length s.kinds ≡ 64

-- A state is 388 bytes.
pub state_length : (s : State) → Typed s → length (state_bytes s) ≡ state_size
state_length s t = to_kinds s t.header t.pending t.kinds

-- The bytes of a number make that number.
pub number_le : (width n : ℕ) → n < 256 ^ width → number (le width n) ≡ n
unfolding le number
number_le zero n h = omega arith
number_le (suc width) n h =
    let small : n < 256 * 256 ^ width = rw (pow-succ' 256 width) at h in
    omega (arith, number_le width (n / 256) (omega arith))

-- ---- the fields, where they stand in a state's bytes and whatever stands behind these

module _ (s : State) (rest : List ℕ) (t : Typed s) where
  tables : s.header ++ s.pending ++ s.kinds ++ rest ≡ s.header ++ (s.pending ++ (s.kinds ++ rest))
  tables = simp append_assoc

  header_at : part 53 16 (state_bytes s ++ rest) ≡ s.header
  unfolding le numbers_bytes
  header_at = ap (take 16) tables ∙ take_at s.header (s.pending ++ (s.kinds ++ rest)) 16 t.header

  pending_at_lem : part 69 255 (state_bytes s ++ rest) ≡ s.pending
  unfolding le numbers_bytes
  pending_at_lem =
      ap (λ (l : List ℕ). take 255 (drop 16 l)) tables
      ∙ ap (take 255) (drop_at s.header (s.pending ++ (s.kinds ++ rest)) 16 t.header)
      ∙ take_at s.pending (s.kinds ++ rest) 255 t.pending

  kinds_at : part 324 64 (state_bytes s ++ rest) ≡ s.kinds
  unfolding le numbers_bytes
  kinds_at =
      ap (λ (l : List ℕ). take 64 (drop 271 l)) (append_assoc (s.header ++ s.pending) s.kinds rest)
      ∙ ap (take 64) (drop_at (s.header ++ s.pending) (s.kinds ++ rest) 271 (length-append s.header s.pending ∙ omega (arith, t.header, t.pending)))
      ∙ take_at s.kinds rest 64 t.kinds

  core_at : core_in (state_bytes s ++ rest) ≡ s.core
  unfolding le numbers_bytes
  core_at =
      rw (number_le 8 s.core.announced t.announced, number_le 8 s.core.taken t.taken, number_le 8 s.core.offset t.offset, number_le 8 s.core.fill t.fill, number_le 8 s.core.count t.count, number_le 8 s.core.written t.written, number_le 4 s.core.register t.register, number_le 1 s.core.refusal t.refusal)

-- What is written as a state is read back as that state, whatever stands behind it: what one feed leaves, the next one finds.
pub read_back : (s : State) (rest : List ℕ) → Typed s → state_in (state_bytes s ++ rest) ≡ s
read_back s rest t = rw (core_at s rest t, header_at s rest t, pending_at_lem s rest t, kinds_at s rest t)

-- The state in a state's bytes is that state.
pub round_trip : (s : State) → Typed s → state_in (state_bytes s) ≡ s
round_trip s t = ap state_in (sym (append-nil (state_bytes s))) ∙ read_back s [] t
