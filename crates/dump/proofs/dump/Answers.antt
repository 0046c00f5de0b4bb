-- The bytes that were read are the input's first 4,109, or all of a shorter one, and the lines are those of these bytes' report.
use Rattle.std.proofs.Common.{◌≡◌, ℕ, ◌≤◌, arith, length, take, ◌∙◌}
use Rattle.std.proofs.lemmas.List.{length-replicate}
use Rattle.dump.proofs.InputLaws.{input_told, drom_told}
use Rattle.dump.proofs.dump.Goals as goal

pub returns : goal.returns
returns g c =
    let bs = take c.in_ok-n.n c.read_full.new.buf in
    let report = c.read-report.ensures in
    let room : length c.read_full.new.buf ≡ 4109 = c.read_full.auto.buf ∙ length-replicate {A = ℕ} 4109 0 in
    let within : c.in_ok-n.n ≤ length c.read_full.new.buf = c.in_ok-n.ensures.in_bounds.0 in
    let count : c.in_ok-n.n ≡ length bs = c.in_ok-n.ensures.in_bounds.1 in
    let fits : length bs ≤ 4109 = omega arith in
    let told = drom_told c.print_report.result _ _ bs _ _ report.report report.buffer c.print_report.ensures in
    input_told c.print_report.result _ _ _ _ bs fits c.in_ok-n.ensures.bytes (λ short. c.in_ok-n.ensures.end (omega arith)) told
