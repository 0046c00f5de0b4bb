-- Document 01, 18: "feed or finish on a state outside the reader's own bounds, which are listed in docs/". A state is plain data, which a
-- caller can make up or forget to open. The bounds go by the refusal that a state holds; docs/PROMISES.md has them as a list, with what
-- they still let in.
-- Assumes nothing.
use Rattle.std.specs.Prelude.{Bool, false, cond, ◌&&◌, ◌||◌, List, [], ◌∷◌, ℕ, ◌-◌, ◌*◌, ltb, leb, eqb}
use Rattle.bits.specs.Bits.{byte}
use Rattle.entry.specs.Decode.{odd_utf16}
use Rattle.drom.specs.Numbers.{accepted, too_few, small_buffer, odd_list, zero_length}
use Rattle.drom.specs.Header.{body_start, header_number}
use Rattle.feed.specs.declared.feeding.Core.{Core}

-- a number is in a list
abbrev pub among : ℕ → List ℕ → Bool
among n [] = false
among n (m ∷ ms) = eqb n m || among n ms

-- the header's 16 bytes pass for the announced size
abbrev pub header_passes : Core → List ℕ → Bool
header_passes c header = eqb (header_number c.announced header) accepted

-- So many records of so many bytes can stand for entries of `past` bytes: an entry has a byte at least, and its record four bytes at
-- least and four times the entry's at most.
abbrev pub records_fit : ℕ → ℕ → ℕ → Bool
records_fit past count written = leb count past && leb (4 * count) written && leb written (4 * past)

-- What is pending is less than its first byte says, and its entry does not run past the end: so nothing is pending once all bytes are in.
abbrev pub pending_fits : Core → List ℕ → Bool
pending_fits c pending =
    eqb c.fill 0 || ltb c.fill (byte 0 pending) && leb (byte 0 pending) (c.announced - (c.taken - c.fill))

-- Nothing is refused: 16 bytes at least are announced, a header that is in passes, what is pending stands behind the header, and the
-- entries before it have the records.
unfoldable pub nothing_refused : Core → List ℕ → List ℕ → Bool
nothing_refused c header pending =
    leb 16 c.announced
    && (ltb c.taken 16 || header_passes c header)
    && eqb c.offset 0
    && leb c.fill (c.taken - body_start header)
    && pending_fits c pending
    && records_fit (c.taken - body_start header - c.fill) c.count c.written

-- nothing of the body was looked at
abbrev pub nothing_read : Core → Bool
nothing_read c = eqb c.offset 0 && eqb c.fill 0 && eqb c.count 0 && eqb c.written 0

-- "A refused opening holds that number and an announced size of 0, so no byte is taken or written"
unfoldable pub opening_refused : Core → Bool
opening_refused c = eqb c.announced 0 && nothing_read c

-- 2 or 3: "The header is judged when 16 bytes are in", and these give that number for the announced size
unfoldable pub header_refused : Core → List ℕ → Bool
header_refused c header = leb 16 c.taken && eqb (header_number c.announced header) c.refusal && nothing_read c

-- 6 to 11: the header passes, the entry stands behind it and has come as far as it is pending, and the entries before it have the records
unfoldable pub entry_refused : Core → List ℕ → Bool
entry_refused c header =
    leb c.refusal odd_utf16
    && header_passes c header
    && leb (body_start header) c.offset
    && ltb c.fill (c.taken - c.offset)
    && records_fit (c.offset - body_start header) c.count c.written

-- The bounds of a state's numbers, header bytes and pending bytes: no more bytes are taken than announced, and the rest by the refusal
-- held. Below 6 those that are no opening's are a header's; above 11 there is none.
unfoldable pub in_bounds : Core → List ℕ → List ℕ → Bool
in_bounds c header pending =
    leb c.taken c.announced
    && cond (eqb c.refusal accepted) (nothing_refused c header pending)
    (cond (among c.refusal (odd_list ∷ small_buffer ∷ too_few ∷ [])) (opening_refused c)
    (cond (ltb c.refusal zero_length) (header_refused c header) (entry_refused c header)))
