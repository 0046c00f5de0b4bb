-- What the walk's own functions tell of a walk, and leave of the buffer, and where the entry at an offset ends.
-- Only private functions' contracts cite these; no public promise rests on them.
-- Assumes nothing.
use Rattle.std.specs.Prelude.{◌≡◌, cond, Option, Some, None, Err, ℕ, ◌+◌, ◌≤◌, length, get_or}
use mathlib.Core.List.{List, flatten}
use Rattle.bits.specs.Front.{onto}
use Rattle.entry.specs.declared.refusal.Refusal.{Refusal}
use Rattle.entry.specs.Refusals.{refusal_number}
use Rattle.drom.specs.declared.walk.Stop.{Stop}
use Rattle.drom.specs.Walk.{Walked, entry_of, piece_at, front_at, is_entry}

-- a stop's number and offset, 0 at 0 if there is none
abbrev pub stop_number : Option Stop → ℕ
stop_number None = 0
stop_number (Some s) = refusal_number s.refusal

abbrev pub stop_offset : Option Stop → ℕ
stop_offset None = 0
stop_offset (Some s) = s.offset

-- the bytes of the entry at an offset, before they are decoded, by whatever kinds
pub record StandsAt (drom : List ℕ) (at : ℕ) (bytes : List ℕ) : Type 0 where
  pub is : bytes ≡ piece_at drom at
  pub size : length bytes ≡ get_or drom at 0
  pub inside : at + length bytes ≤ length drom
  pub front : (kinds : ℕ → ℕ) → front_at kinds drom at ≡ entry_of kinds bytes

-- or why there are none
abbrev pub RefusedAt : List ℕ → ℕ → Refusal → Type 0
RefusedAt drom at r = (kinds : ℕ → ℕ) → front_at kinds drom at ≡ Err r

pub record Tells (walked : Walked) (before after : List ℕ) (stop : Option Stop) (count size : ℕ) : Type 0 where
  pub number : stop_number stop ≡ walked.number
  pub offset : stop_offset stop ≡ walked.offset
  pub records : count ≡ length walked.records
  pub bytes : size ≡ length (flatten walked.records)
  pub buffer : after ≡ onto (flatten walked.records) before

-- where the entry at an offset ends, if one stands there
abbrev pub end_at : (ℕ → ℕ) → List ℕ → ℕ → Option ℕ
end_at kinds drom at = cond (is_entry (front_at kinds drom at)) (Some (at + get_or drom at 0)) None
