-- What drom_finish answers for any bytes that are lent as a state: 255, or one of the numbers that document 01 lists for a finish
-- (`finish_answers`). A state of zeros, declared and never opened, is told 18 by drom_finish (`zeros_finished`) and by drom_feed (`zeros_fed`).
-- Assumes nothing.
use Prim.Native.Nat.{ℕ, ◌≤◌}
use mathlib.Core.Path.{◌≡◌, refl, ap, ◌∙◌}
use mathlib.Core.List.{List}
use mathlib.Core.Logic.{◌⊎◌, inl, inr}
use mathlib.Core.Bool.{Bool, true, false, cond, ◌||◌}
use borrow.Author.Tests.{le-ltb}
use lib.ListN.{length, replicate}
use Rattle.drom.specs.declared.reader.Report.{Report}
use Rattle.feed.specs.declared.feeding.State.{State}
use Rattle.feed.specs.Feed.{Answer, feed_of, finish_of}
use Rattle.feed.proofs.AnyState.{zeros, finish_numbers, unopened, unopened_fed}
use Rattle.capi.specs.Bytes.{number}
use Rattle.capi.specs.Report.{report_size}
use Rattle.capi.specs.State.{state_size, state_in}
use Rattle.capi.specs.Calls.{no_room, no_report, no_state, finish_answer, feed_answer}

-- a finish's number, or 255
pub finish_answers : (state report : List ℕ)
    → (finish_answer state report ≤ 11) ⊎ ((finish_answer state report ≡ 13) ⊎ ((finish_answer state report ≡ 18) ⊎ (finish_answer state report ≡ 255)))
finish_answers state report = go (no_state state || no_report report)
  where
    n : ℕ
    n = (finish_of (state_in state)).number

    given : (n ≤ 11) ⊎ ((n ≡ 13) ⊎ (n ≡ 18)) → (n ≤ 11) ⊎ ((n ≡ 13) ⊎ ((n ≡ 18) ⊎ (n ≡ 255)))
    given (inl l) = inl l
    given (inr (inl e)) = inr (inl e)
    given (inr (inr e)) = inr (inr (inl e))

    go : (t : Bool) → (cond t no_room n ≤ 11) ⊎ ((cond t no_room n ≡ 13) ⊎ ((cond t no_room n ≡ 18) ⊎ (cond t no_room n ≡ 255)))
    go true = inr (inr (inr refl))
    go false = given (finish_numbers (state_in state))

-- zero bytes are a state of zeros
zeros_in : state_in (replicate state_size 0) ≡ zeros
unfolding number
zeros_in = refl

pub zeros_finished : (report : List ℕ) → report_size ≤ length report → finish_answer (replicate state_size 0) report ≡ 18
zeros_finished report h =
    rw (le-ltb (length report) report_size h) (ap (λ (s : State). (finish_of s).number) zeros_in ∙ ap (λ (r : Report). r.number) unopened)

pub zeros_fed : (piece records : List ℕ) → feed_answer (replicate state_size 0) piece records ≡ 18
zeros_fed piece records =
    ap (λ (s : State). (feed_of s piece records).fed.number) zeros_in ∙ ap (λ (a : Answer). a.fed.number) (unopened_fed piece records)
