-- Whoever appends the lines of the records that are left has appended the lines of all.
use Rattle.std.proofs.Common.{ℕ, ◌-◌, List}
use Rattle.std.specs.Io.KnownBytes.{Appends}
use Rattle.std.specs.declared.option.Option.{Option}
use Rattle.dump.specs.Lines.{head_lines}
use Rattle.dump.proofs.print_records.Given as goal

abbrev pub invariant-loop : goal.invariant-loop
invariant-loop g l =
    (told : Option (List ℕ)) → Appends (g.W.Write.contents l.out) told (head_lines (l.count - l.counter) l.rest)
    → Appends (g.W.Write.contents l.initial.out) told (head_lines l.count l.bytes)
