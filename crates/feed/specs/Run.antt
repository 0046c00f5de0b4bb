-- Document 01, "Feeding": what a reader that is fed has in hand, and what one byte does to it.
-- Assumes nothing.
use Rattle.std.specs.Prelude.{cond, Result, Ok, Err, List, [], ◌∷◌, ℕ, ◌+◌, ◌-◌, ltb, eqb, length, get_or, set, take}
use Rattle.std.proofs.lemmas.List.Edits.{sets}
use Rattle.entry.specs.declared.parse.DromEntry.{DromEntry}
use Rattle.entry.specs.declared.refusal.Refusal.{Refusal}
use Rattle.entry.specs.Refusals.{refusal_number}
use Rattle.entry.specs.Decode.{number_of, decode_of}
use Rattle.record.specs.Record.{record_of}
use Rattle.drom.specs.Numbers.{zero_length, past_end}
use Rattle.drom.specs.Header.{body_start, header_number}
use Rattle.feed.specs.declared.feeding.Core.{Core}

-- the numbers of a state, its three tables, and the record buffer that is lent
pub record Run : Type 0 where
  pub core : Core
  pub header : List ℕ
  pub pending : List ℕ
  pub kinds : List ℕ
  pub buffer : List ℕ

abbrev pub run : Core → List ℕ → List ℕ → List ℕ → List ℕ → Run
run c h p k b = record { core = c; header = h; pending = p; kinds = k; buffer = b }

abbrev pub with_core : Run → Core → Run
with_core r c = run c r.header r.pending r.kinds r.buffer

abbrev pub with_pending : Run → Core → List ℕ → Run
with_pending r c p = run c r.header p r.kinds r.buffer

-- a byte is counted
abbrev pub counted : Core → Core
counted c =
    record {
      announced = c.announced;
      taken = c.taken + 1;
      refusal = c.refusal;
      offset = c.offset;
      register = c.register;
      fill = c.fill;
      count = c.count;
      written = c.written;
    }

abbrev pub refused : Core → ℕ → ℕ → Core
refused c n at =
    record {
      announced = c.announced;
      taken = c.taken;
      refusal = n;
      offset = at;
      register = c.register;
      fill = c.fill;
      count = c.count;
      written = c.written;
    }

abbrev pub filled : Core → ℕ → Core
filled c k =
    record {
      announced = c.announced;
      taken = c.taken;
      refusal = c.refusal;
      offset = c.offset;
      register = c.register;
      fill = k;
      count = c.count;
      written = c.written;
    }

-- a record of n bytes was written
abbrev pub recorded : Core → ℕ → Core
recorded c n =
    record {
      announced = c.announced;
      taken = c.taken;
      refusal = c.refusal;
      offset = c.offset;
      register = c.register;
      fill = 0;
      count = c.count + 1;
      written = c.written + n;
    }

-- The 16 bytes of a header are in, of a DROM of the announced size: 2, then 3, or nothing is refused. Their offset is 0.
unfoldable pub judged : Core → List ℕ → Core
judged c h = refused c (header_number c.announced h) 0

-- the entry that is pending, whose last byte is at fill, and where it stands, after that byte was counted
abbrev pub pending_entry : Run → List ℕ
pending_entry r = take (r.core.fill + 1) r.pending

abbrev pub pending_at : Core → ℕ
pending_at c = c.taken - (c.fill + 1)

-- the entry is whole: its record is written behind the others, or it is refused
abbrev pub ended_by : Run → Result DromEntry Refusal → Run
ended_by r (Ok e) =
    run (recorded r.core (length (record_of (pending_at r.core) (pending_entry r) e))) r.header r.pending r.kinds
    (sets r.buffer r.core.written (record_of (pending_at r.core) (pending_entry r) e))
ended_by r (Err n) = with_core r (refused r.core (refusal_number n) (pending_at r.core))

unfoldable pub ended : Run → Run
ended r = ended_by r (decode_of (get_or r.kinds (number_of (pending_entry r)) 0) (pending_entry r))

-- a byte of an entry is kept; with its last, the entry is whole
unfoldable pub kept : Run → ℕ → Run
kept r b =
    cond (ltb (r.core.fill + 1) (get_or (set r.pending r.core.fill b) 0 0))
    (with_pending r (filled r.core (r.core.fill + 1)) (set r.pending r.core.fill b))
    (ended (with_pending r r.core (set r.pending r.core.fill b)))

-- a first byte of an entry, at an offset: 6, then 7
unfoldable pub begun : Run → ℕ → ℕ → Run
begun r at b =
    cond (eqb b 0) (with_core r (refused r.core zero_length at))
    (cond (ltb (r.core.announced - at) b) (with_core r (refused r.core past_end at)) (kept r b))

-- a byte of the header; with the 16th it is judged
unfoldable pub headed : Run → ℕ → ℕ → Run
headed r at b =
    run (cond (eqb at 15) (judged r.core (set r.header at b)) r.core) (set r.header at b) r.pending r.kinds r.buffer

-- One byte. After a refusal bytes are only counted; "the header is judged when 16 bytes are in"; between the header's 16 bytes and a
-- TBT3 body bytes are only counted, too.
unfoldable pub step_of : Run → ℕ → Run
step_of r b =
    cond (eqb r.core.refusal 0)
    (cond (ltb r.core.taken 16) (headed (with_core r (counted r.core)) r.core.taken b)
    (cond (ltb r.core.taken (body_start r.header)) (with_core r (counted r.core))
    (cond (eqb r.core.fill 0) (begun (with_core r (counted r.core)) r.core.taken b) (kept (with_core r (counted r.core)) b))))
    (with_core r (counted r.core))

-- a piece, byte by byte
unfoldable pub steps : Run → List ℕ → Run
steps r [] = r
steps r (b ∷ bs) = steps (step_of r b) bs
