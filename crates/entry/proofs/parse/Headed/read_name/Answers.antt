-- `entry::parse::read_name` meets its contract. By the laws of names, from the search and the test of the bytes before the zero.
-- Assumes nothing.
use Rattle.std.proofs.Common.{ap, sym, ◌∙◌, length, drop, true, false}
use borrow.Author.Rules.{part_to_end}
use Rattle.entry.proofs.NameLaws.{before_take, zero_found, zero_missed, name_open, name_closed}
use Rattle.entry.proofs.parse.Headed.read_name.Goals as goal

pub slice_bounds-is_utf8-end : goal.slice_bounds-is_utf8-end
slice_bounds-is_utf8-end c =
    let bs = c.args.self.bytes.now in
    let found = zero_found _ _ (rw (part_to_end bs 2) at c.in-Some.ensures) in
    rw (part_to_end bs 2, found.0) (sym (ap length (before_take (drop 2 bs))))

pub returns-in-None : goal.returns-in-None
returns-in-None c =
    let bs = c.args.self.bytes.now in
    name_open bs (zero_missed _ (rw (part_to_end bs 2) at c.in-None.ensures))

pub returns-in-Some : goal.returns-in-Some
returns-in-Some c =
    let bs = c.args.self.bytes.now in
    name_closed bs _ (zero_found _ _ (rw (part_to_end bs 2) at c.in-Some.ensures)) true
    (sym c.if-is_utf8.true ∙ rw (part_to_end bs 2) at c.is_utf8.ensures)

pub returns-in-Some-2 : goal.returns-in-Some-2
returns-in-Some-2 c =
    let bs = c.args.self.bytes.now in
    name_closed bs _ (zero_found _ _ (rw (part_to_end bs 2) at c.in-Some.ensures)) false
    (sym c.if-is_utf8.false ∙ rw (part_to_end bs 2) at c.is_utf8.ensures)
