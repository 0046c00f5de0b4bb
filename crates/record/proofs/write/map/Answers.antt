-- `record::map` meets its contract. The bytes are those of the map.
-- Assumes nothing.
use mathlib.Core.Path.{refl}
use mathlib.Core.List.{[]}
use borrow.Author.Rules.{rules}
use native.Mathlib.Omega.{arith}
use Rattle.record.proofs.RecordLaws.{map_bytes}
use Rattle.record.proofs.Turns.{no_map}
use Rattle.record.proofs.write.map.Goals as goal

pub returns : goal.returns
returns c = rw (map_bytes c.args.m0 c.args.m1 c.args.m2 [] (search rules) (search rules), no_map [] (omega arith)) refl
