-- The n-th part, by std's law of `split`, or the empty list.
use Rattle.std.proofs.Common.{rules, ◌≡◌, ◌==◌, ℕ, List, Bor, Option, None, Some, refl, ap, ◌∙◌}
use Rattle.std.specs.Option.{option_map, unwrap_or}
use Rattle.std.proofs.lemmas.Iterator.Consumers.{nth_from_yields_List}
use Rattle.std.proofs.lemmas.Iterator.Splits.{YieldsList-from_slice_split}
use Rattle.lines.proofs.words.word.Goals as goal

-- the list behind the reference, or behind the one in its place
behind : (o : Option (Bor (List ℕ))) (d : Bor (List ℕ)) → (unwrap_or o d).now ≡ unwrap_or (option_map (λ x. x.now) o) d.now
behind None d = refl
behind (Some x) d = refl

behind_found : (o : Option (Bor (List ℕ))) (d r : Bor (List ℕ)) (p : Option (List ℕ)) → r ≡ unwrap_or o d → option_map (λ x. x.now) o ≡ p → r.now ≡ unwrap_or p d.now
behind_found o d r p e found = ap (λ x. x.now) e ∙ behind o d ∙ ap (λ o. unwrap_or o d.now) found

pub returns : goal.returns
returns c =
    let parts = YieldsList-from_slice_split _ (λ b. b == 32) _ c.split.ensures.rest c.split.ensures.done c.split.ensures.closure (search rules) in
    behind_found c.nth.result _ _ _ c.unwrap_or.ensures (nth_from_yields_List _ _ _ c.nth.ensures.ran parts)
