-- A chunk more: its digits stand behind those so far.
use Rattle.std.proofs.Common.{rules, ◌≡◌, ℕ, List, ◌++◌, ◌∙◌, ap, sym, append_assoc}
use Rattle.std.proofs.Output.{has_written_append}
use Rattle.std.proofs.lemmas.List.Concat.{flat_map-append}
use Rattle.std.specs.List.{flat_map}
use Rattle.std.specs.Slice.Iter.{chunks_rest}
use Rattle.lines.specs.Hex.{hex_pair}
use Rattle.lines.proofs.text.write_pairs.Goals as goal

-- the digits of a chunk, and those of what is behind it
chunk_first : (all chunk rest : List ℕ) → all ≡ chunk ++ rest → flat_map hex_pair chunk ++ flat_map hex_pair rest ≡ flat_map hex_pair all
chunk_first all chunk rest parts = sym (flat_map-append hex_pair chunk rest) ∙ ap (flat_map hex_pair) (sym parts)

pub loop-chunk-preserved : goal.loop-chunk-preserved
loop-chunk-preserved g c =
    let chunk = c.in-Some.chunk.now in
    let steps = c.in-Some.ensures.steps in
    let shown : c.in-Ok.text.now ≡ flat_map hex_pair chunk = c.in-Ok.ensures.cases.0 ∙ c.pairs.ensures in (
      search rules,
      tt,
      steps.0 ∙ c.loop-chunk.invariant.2,
      λ plain.
          let so_far = c.loop-chunk.invariant.3 plain in (
            so_far.0 ++ c.in-Ok.text.now,
            has_written_append _ _ _ _ _ _ so_far.1 (search rules),
            append_assoc so_far.0 _ _
                ∙ ap (λ (t : List ℕ). so_far.0 ++ t) (rw shown (chunk_first _ chunk (chunks_rest c.next.new.self) steps.1.0))
                ∙ so_far.2,
          ),
    )
