-- What a reading answers and leaves, as one fact, in which the theorems say that no second answer is right, and that feeding comes to the same.
-- Assumes nothing.
use Rattle.std.specs.Prelude.{◌≡◌, List, ℕ}
use Rattle.capi.specs.Calls.{read_answer, read_records, read_report}

-- lent as records and report, and come back as records' and report'
pub record Reads (list drom records report : List ℕ) (r : ℕ) (records' report' : List ℕ) : Type 0 where
  pub answers : r ≡ read_answer list drom records report
  pub writes : records' ≡ read_records list drom records report
  pub tells : report' ≡ read_report list drom records report
