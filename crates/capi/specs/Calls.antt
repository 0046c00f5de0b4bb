-- What each call answers, and what each lent buffer holds after it.
-- Assumes nothing.
use Rattle.std.specs.Prelude.{Bool, cond, ◌||◌, List, ℕ, ltb, length}
use Rattle.bits.specs.Front.{onto}
use Rattle.drom.specs.Report.{report_of, leaves_of}
use Rattle.feed.specs.declared.feeding.State.{State}
use Rattle.feed.specs.Feed.{Answer, open_of, feed_of, finish_of}
use Rattle.capi.specs.Report.{report_size, report_bytes}
use Rattle.capi.specs.State.{state_size, state_bytes, state_in}

-- the answer where a report, a state or a place is lent too few bytes: then nothing is read or written
abbrev pub no_room : ℕ
no_room = 255

abbrev pub no_report : List ℕ → Bool
no_report report = ltb (length report) report_size

abbrev pub no_state : List ℕ → Bool
no_state state = ltb (length state) state_size

-- ---- drom_read: a list, a DROM, and the lent records and report

abbrev pub read_answer : List ℕ → List ℕ → List ℕ → List ℕ → ℕ
read_answer list drom records report = cond (no_report report) no_room (report_of list drom (length records)).number

abbrev pub read_records : List ℕ → List ℕ → List ℕ → List ℕ → List ℕ
read_records list drom records report = cond (no_report report) records (leaves_of list drom records)

abbrev pub read_report : List ℕ → List ℕ → List ℕ → List ℕ → List ℕ
read_report list drom records report =
    cond (no_report report) report (onto (report_bytes (report_of list drom (length records))) report)

-- ---- drom_open: a list, the announced size, the records that are to be lent, and the lent state

abbrev pub open_answer : List ℕ → ℕ → List ℕ → List ℕ → ℕ
open_answer list announced records state = cond (no_state state) no_room (open_of list announced (length records)).core.refusal

abbrev pub open_state : List ℕ → ℕ → List ℕ → List ℕ → List ℕ
open_state list announced records state =
    cond (no_state state) state (onto (state_bytes (open_of list announced (length records))) state)

-- the state that the next call reads there
abbrev pub open_next : List ℕ → ℕ → List ℕ → List ℕ → State
open_next list announced records state = cond (no_state state) (state_in state) (open_of list announced (length records))

-- ---- drom_feed: the lent state, a piece, and the lent records

abbrev pub feed_in : List ℕ → List ℕ → List ℕ → Answer
feed_in state piece records = feed_of (state_in state) piece records

abbrev pub feed_answer : List ℕ → List ℕ → List ℕ → ℕ
feed_answer state piece records = cond (no_state state) no_room (feed_in state piece records).fed.number

abbrev pub feed_state : List ℕ → List ℕ → List ℕ → List ℕ
feed_state state piece records = cond (no_state state) state (onto (state_bytes (feed_in state piece records).fed.state) state)

abbrev pub feed_records : List ℕ → List ℕ → List ℕ → List ℕ
feed_records state piece records = cond (no_state state) records (feed_in state piece records).buffer

-- the state that the next call reads there
abbrev pub feed_next : List ℕ → List ℕ → List ℕ → State
feed_next state piece records = cond (no_state state) (state_in state) (feed_in state piece records).fed.state

-- ---- drom_finish: a state, and the lent report

abbrev pub finish_answer : List ℕ → List ℕ → ℕ
finish_answer state report = cond (no_state state || no_report report) no_room (finish_of (state_in state)).number

abbrev pub finish_report : List ℕ → List ℕ → List ℕ
finish_report state report =
    cond (no_state state || no_report report) report (onto (report_bytes (finish_of (state_in state))) report)

-- ---- drom_record_count and drom_record_bytes

abbrev pub count_answer : List ℕ → ℕ
count_answer state = cond (no_state state) 0 (state_in state).core.count

abbrev pub bytes_answer : List ℕ → ℕ
bytes_answer state = cond (no_state state) 0 (state_in state).core.written
