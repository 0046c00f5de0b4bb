-- What an opening leaves, and feeds after it, fits the widths of a state's numbers: those of which the bounds speak (`left_fits`), and
-- CRC32's register (`left_register`). No feed makes a table of a state longer or shorter, whatever the state (`feed_long`).
-- Assumes nothing.
use mathlib.Core.Path.{◌≡◌, refl, ◌∙◌}
use mathlib.Core.Bool.{Bool, true, false, cond}
use mathlib.Core.List.{List, [], ◌∷◌}
use Prim.Native.Nat.{ℕ, zero, suc, ◌+◌, ◌-◌, ◌*◌, ◌/◌, ◌%◌, ◌^◌, ◌≤◌, ◌<◌}
use native.Mathlib.Omega.{arith}
use lib.Bits.{bit_xor, xor_lt}
use lib.Dec.{eqb}
use lib.ListN.{length, drop, replicate, length-set}
use lib.Seq.{get_or-drop}
use Rattle.bits.specs.Bits.{Bytes}
use Rattle.util.specs.Crc.{times, over, bit_of32, byte_of32}
use Rattle.drom.specs.Numbers.{first_of}
use Rattle.drom.specs.Header.{body_start, open_tests, header_number}
use Rattle.feed.specs.declared.feeding.Core.{Core}
use Rattle.feed.specs.declared.feeding.State.{State}
use Rattle.feed.specs.Kinds.{table_of}
use Rattle.feed.specs.Run.{Run, with_pending, step_of, steps}
use Rattle.feed.specs.Bounds.{in_bounds}
use Rattle.feed.specs.Feed.{fresh, open_of, register_after, run_in, state_after, answer, feed_tests, feed_of}
use Rattle.feed.specs.Pieces.{Left}
use Rattle.feed.specs.Pieces.Left.{opened, fed}
use Rattle.feed.proofs.StepLaws.{next, more, ended_cases, kept_cases, step_cases, steps_nil, steps_cons}
use Rattle.feed.proofs.BoundsLaws.{Unread, Within, bounds_within, within_of, body_few}
use Rattle.feed.proofs.BoundsLaws.Within.{going, opening, header, entry}
use Rattle.feed.proofs.Never.{feed_cases, left_bounds}

-- ---- the register has 32 bits

bit_small : (c : ℕ) → c < 2 ^ 32 → bit_of32 c < 2 ^ 32
unfolding bit_of32
bit_small c h = go (eqb (c % 2) 1)
  where
    go : (t : Bool) → cond t (bit_xor (c / 2) 0x82F63B78) (c / 2) < 2 ^ 32
    go true = xor_lt 32 (c / 2) 0x82F63B78 (omega arith) (omega arith)
    go false = omega arith

bits_small : (n c : ℕ) → c < 2 ^ 32 → times n bit_of32 c < 2 ^ 32
bits_small zero c h = h
bits_small (suc n) c h = bits_small n (bit_of32 c) (bit_small c h)

byte_small : (c b : ℕ) → c < 2 ^ 32 → b < 256 → byte_of32 c b < 2 ^ 32
unfolding byte_of32
byte_small c b h k = bits_small 8 (bit_xor c b) (xor_lt 32 c b h (omega arith))

over_small : (c : ℕ) (xs : List ℕ) → c < 2 ^ 32 → Bytes xs → over byte_of32 c xs < 2 ^ 32
over_small c [] h k = h
over_small c (x ∷ xs) h k = over_small (byte_of32 c x) xs (byte_small c x h (k 0)) (λ i. k (suc i))

register_small : (c n : ℕ) (xs : List ℕ) → c < 2 ^ 32 → Bytes xs → register_after c n xs < 2 ^ 32
register_small c n xs h k = over_small c (drop (13 - n) xs) h (λ i. rw get_or-drop (k (13 - n + i)))

-- ---- the numbers

-- the bounds say it of all but the register
pub record Fits (c : Core) : Type 0 where
  pub offset : c.offset ≤ c.taken
  pub fill : c.fill ≤ c.taken
  pub count : c.count ≤ c.taken
  pub written : c.written ≤ 4 * 4108

unread_fits : (c : Core) → Unread c → Fits c
unread_fits c u = record { offset = omega (arith, u.offset); fill = omega (arith, u.fill); count = omega (arith, u.count); written = omega (arith, u.written) }

bounds_fit : (c : Core) (h p : List ℕ) → in_bounds c h p ≡ true → Fits c
bounds_fit c h p e = go (within_of c h p e)
  where
    few : (16 ≤ c.taken → header_number c.announced h ≡ 0) → c.taken - body_start h ≤ 4108
    few passes = body_few c h (bounds_within c h p e) passes

    go : Within c h p → Fits c
    go (going g) =
        let f = g.fit in
        record { offset = omega (arith, g.unset); fill = omega (arith, g.kept); count = omega (arith, f.fewer); written = omega (arith, f.most, few g.passes) }
    go (opening o) = unread_fits c o.unread
    go (header a) = unread_fits c a.unread
    go (entry a) =
        let f = a.fit in
        record { offset = omega (arith, a.come); fill = omega (arith, a.come); count = omega (arith, f.fewer, a.come); written = omega (arith, f.most, a.come, few (λ _. a.passes)) }

pub left_fits : {s : State} → Left s → Fits s.core
left_fits {s} h = bounds_fit s.core s.header s.pending (left_bounds h)

opened_register : (list : List ℕ) (size room : ℕ) → (open_of list size room).core.register < 2 ^ 32
unfolding open_of
opened_register list size room = go (first_of (open_tests list size room)) (eqb (first_of (open_tests list size room)) 0)
  where
    go : (n : ℕ) (t : Bool) → (cond t (fresh size 0 (table_of list)) (fresh 0 n (replicate 64 0))).core.register < 2 ^ 32
    go n true = omega arith
    go n false = omega arith

pub left_register : {s : State} → Left s → s.core.register < 2 ^ 32
left_register (opened list size room w) = opened_register list size room
left_register (fed {s} h xs b k) =
    let small = left_register h in
    feed_cases (λ (x : State). x.core.register < 2 ^ 32) s xs b small (λ t. register_small s.core.register s.core.taken xs small k)

-- ---- the tables

-- as long as those of a run
abbrev AsLong : Run → Run → Type 0
AsLong r x =
    (length x.header ≡ length r.header) × (length x.pending ≡ length r.pending) × (length x.kinds ≡ length r.kinds)

step_long : (r : Run) (b : ℕ) → AsLong r (step_of r b)
step_long r b =
    let header = length-set r.header r.core.taken b in
    let pending = length-set r.pending r.core.fill b in
    step_cases (AsLong r) r b
    (λ y. (refl, refl, refl))
    (λ y n. (header, refl, refl))
    (λ y n. (header, refl, refl))
    (λ y n w. (refl, refl, refl))
    (λ y n. (refl, refl, refl))
    (λ y n. (refl, refl, refl))
    (λ y n.
    kept_cases (next r) b (AsLong r)
    (λ m. (refl, pending, refl))
    (λ m.
    ended_cases (with_pending (next r) (next r).core (more (next r) b)) (AsLong r)
    (λ e q. (refl, pending, refl))
    (λ k q. (refl, pending, refl))))

steps_long : (r : Run) (xs : List ℕ) → AsLong r (steps r xs)
steps_long r [] = rw steps_nil (refl, refl, refl)
steps_long r (x ∷ xs) =
    let one = step_long r x in
    let all = steps_long (step_of r x) xs in
    rw steps_cons (all.0 ∙ one.0, all.1 ∙ one.1, all.2 ∙ one.2)

pub feed_long : (s : State) (xs b : List ℕ)
    → (length (feed_of s xs b).fed.state.header ≡ length s.header)
    × (length (feed_of s xs b).fed.state.pending ≡ length s.pending)
    × (length (feed_of s xs b).fed.state.kinds ≡ length s.kinds)
unfolding feed_of
feed_long s xs b = go (first_of (feed_tests s xs (length b))) (eqb (first_of (feed_tests s xs (length b))) 0)
  where
    go : (n : ℕ) (t : Bool)
        → AsLong (run_in s b)
        (run_in (cond t (answer 0 (state_after (steps (run_in s b) xs) (register_after s.core.register s.core.taken xs)) (steps (run_in s b) xs).buffer) (answer n s b)).fed.state b)
    go n true = steps_long (run_in s b) xs
    go n false = (refl, refl, refl)
