-- The lines that tell what the reader says of a DROM.
use Rattle.std.specs.Prelude.{ℕ, zero, suc, List, [], ◌∷◌, ◌++◌, drop, take, replicate, codes}
use Rattle.std.specs.Fmt.{decimal}
use Rattle.record.specs.Step.{head_in, record_size}
use Rattle.record.specs.declared.step.Head.{Head}
use Rattle.drom.specs.Report.{report_of, leaves_of}
use Rattle.drom.specs.declared.reader.Report.{Report}

-- "refusal 7 at 22 records 1", and a line end
abbrev pub verdict_line : ℕ → ℕ → ℕ → List ℕ
verdict_line number offset records =
    codes "refusal " ++ (decimal number ++ (codes " at " ++ (decimal offset ++ (codes " records " ++ (decimal records ++ (10 ∷ []))))))

-- a record's tag, offset and length, with spaces between, and a line end
abbrev pub head_line : Head → List ℕ
head_line head = decimal head.tag ++ (codes " " ++ (decimal head.offset ++ (codes " " ++ (decimal head.length ++ (10 ∷ [])))))

-- a line for each of the first n records that these bytes begin with
abbrev pub head_lines : ℕ → List ℕ → List ℕ
head_lines zero bs = []
head_lines (suc n) bs = head_line (head_in bs) ++ head_lines n (drop (record_size bs) bs)

-- the lines of a report and of the record bytes beside it
abbrev pub report_lines : Report → List ℕ → List ℕ
report_lines report bs = verdict_line report.number report.offset report.records ++ head_lines report.records bs

-- the lines of a DROM that is read with no list of adapters, into a buffer of zeros with room for the records of any DROM
abbrev pub drom_lines : List ℕ → List ℕ
drom_lines drom = report_lines (report_of [] drom 16368) (leaves_of [] drom (replicate 16368 0))

-- the same for an input of any length, of which the first 4,109 bytes are taken
abbrev pub input_lines : List ℕ → List ℕ
input_lines input = drom_lines (take 4109 input)
