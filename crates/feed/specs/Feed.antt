-- Document 01, "Feeding": what an opening, a feed and a finish answer, and the states and buffers that they leave.
-- Assumes nothing.
use Rattle.std.specs.Prelude.{Bool, cond, not, ◌&&◌, List, [], ◌∷◌, ℕ, ◌-◌, ltb, leb, eqb, length, replicate, drop}
use Rattle.util.specs.Crc.{over, byte_of32, start32, final32}
use Rattle.drom.specs.declared.reader.Report.{Report}
use Rattle.drom.specs.Numbers.{small_buffer, first_of}
use Rattle.drom.specs.Header.{crc32_in, room_for, open_tests}
use Rattle.drom.specs.HeaderValues.{values_in}
use Rattle.drom.specs.Report.{refused_report, report_with}
use Rattle.feed.specs.declared.feeding.Core.{Core}
use Rattle.feed.specs.declared.feeding.State.{State}
use Rattle.feed.specs.declared.feeding.Fed.{Fed}
use Rattle.feed.specs.Kinds.{table_of}
use Rattle.feed.specs.Run.{Run, run, steps}
use Rattle.feed.specs.Bounds.{in_bounds}

-- "Numbers given back", those of feeding
-- feed beyond the announced size
abbrev pub beyond : ℕ
beyond = 12

-- finish before all has arrived
abbrev pub missing : ℕ
missing = 13

-- feed or finish on a state outside the reader's own bounds
abbrev pub outside : ℕ
outside = 18

-- a state, of its numbers and its three tables
abbrev pub state_of : Core → List ℕ → List ℕ → List ℕ → State
state_of c header pending kinds = record { core = c; header = header; pending = pending; kinds = kinds }

-- a state as an opening makes it
abbrev pub fresh : ℕ → ℕ → List ℕ → State
fresh size refusal kinds =
    state_of (record { announced = size; taken = 0; refusal = refusal; offset = 0; register = start32; fill = 0; count = 0; written = 0 })
    (replicate 16 0) (replicate 255 0) kinds

-- "opening takes list, buffer and announced size and checks 5, 4, 1. A refused opening holds that number and an announced size of 0"
abbrev pub opened_by : ℕ → List ℕ → ℕ → State
opened_by refusal list size = cond (eqb refusal 0) (fresh size 0 (table_of list)) (fresh 0 refusal (replicate 64 0))

unfoldable pub open_of : List ℕ → ℕ → ℕ → State
open_of list size room = opened_by (first_of (open_tests list size room)) list size

-- the register of CRC32 goes on over the bytes from 13 on, where `taken` bytes are in before these
abbrev pub register_after : ℕ → ℕ → List ℕ → ℕ
register_after register taken bytes = over byte_of32 register (drop (13 - taken) bytes)

abbrev pub run_in : State → List ℕ → Run
run_in s buffer = run s.core s.header s.pending s.kinds buffer

-- the state of a run, with the register
abbrev pub state_after : Run → ℕ → State
state_after r register =
    state_of
    (record {
      announced = r.core.announced;
      taken = r.core.taken;
      refusal = r.core.refusal;
      offset = r.core.offset;
      register = register;
      fill = r.core.fill;
      count = r.core.count;
      written = r.core.written;
    })
    r.header r.pending r.kinds

-- a feed's number and state, and the buffer that it leaves
pub record Answer : Type 0 where
  pub fed : Fed
  pub buffer : List ℕ

abbrev pub answer : ℕ → State → List ℕ → Answer
answer n s buffer = record { fed = record { number = n; state = s }; buffer = buffer }

abbrev pub both : Fed → List ℕ → Answer
both f buffer = record { fed = f; buffer = buffer }

-- "A feed answers 0, 18, 4 or 12, tested as 18, 4, 12; each refusal leaves everything as it was."
abbrev pub feed_tests : State → List ℕ → ℕ → List (Bool × ℕ)
feed_tests s piece room =
    (not (in_bounds s.core s.header s.pending), outside) ∷ (ltb room (room_for s.core.announced), small_buffer) ∷ (ltb (s.core.announced - s.core.taken) (length piece), beyond) ∷ []

abbrev pub feed_by : ℕ → State → List ℕ → List ℕ → Answer
feed_by refusal s piece buffer =
    cond (eqb refusal 0)
    (answer 0 (state_after (steps (run_in s buffer) piece) (register_after s.core.register s.core.taken piece)) (steps (run_in s buffer) piece).buffer)
    (answer refusal s buffer)

unfoldable pub feed_of : State → List ℕ → List ℕ → Answer
feed_of s piece buffer = feed_by (first_of (feed_tests s piece (length buffer))) s piece buffer

-- what a state tells whose 16 header bytes were accepted: the header's values and verdicts, and what was recorded
abbrev pub told : Core → List ℕ → Report
told c h = report_with (values_in h) (eqb (final32 c.register) (crc32_in h)) c.refusal c.offset c.count c.written

-- "Finish gives 18 first, then 13 if bytes are missing, else the report"
unfoldable pub finish_of : State → Report
finish_of s =
    cond (in_bounds s.core s.header s.pending)
    (cond (ltb s.core.taken s.core.announced) (refused_report missing)
    (cond (leb 1 s.core.refusal && leb s.core.refusal 5) (refused_report s.core.refusal) (told s.core s.header)))
    (refused_report outside)
